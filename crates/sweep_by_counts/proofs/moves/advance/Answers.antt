-- advance meets its contract.
use native.Mathlib.Omega.{arith}
use Rattle.sweep_by_counts.proofs.Advances.{step_room, advance_holds}
use Rattle.sweep_by_counts.proofs.moves.advance.Goals as goal

pub splice-course-requires-clause-room : goal.splice-course-requires-clause-room
splice-course-requires-clause-room c =
    let (s, cnt, t) = c.requires in
    let room = step_room c.args.guided.now.guide.sane t in
    let a = t.apart in
    omega arith

pub returns : goal.returns
returns c =
    let sane = c.args.guided.now.guide.sane in
    record { so = λ s cnt t. advance_holds sane t c.splice-course.ensures c.mark_all.ensures c.raise_all.ensures c.step_labels.ensures }
