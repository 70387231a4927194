-- bad_repeat meets its contract.
use mathlib.Core.Path.{refl, ◌∙◌}
use Rattle.lists.proofs.Marks.{marks-start, marks_hit, marks-on, marks_end}
use Rattle.file_ring_rules.proofs.Bits.{bits_none, bits_yes, bits_no, bits_more}
use Rattle.file_ring_rules.proofs.Whole.{whole_repeat}
use native.Mathlib.Omega.{arith}
use Rattle.file_ring_rules.proofs.bad_repeat.Goals as goal

pub loop-i-init : goal.loop-i-init
loop-i-init c = marks-start (bits_none 256)

pub returns-then-marks-v : goal.returns-then-marks-v
returns-then-marks-v c =
    let r = c.args.rings.now in
    let marked = bits_yes c.loop-i.marks c.neighbour_at-v.result c.if-marks-v.true in
    marks_hit c.loop-i.invariant (omega arith) c.neighbour_at-v.ensures marked ∙ whole_repeat r.starts.now r.sizes.now r.file.now r.n c.args.u _ c.size_of-e.ensures.value

pub loop-i-preserved : goal.loop-i-preserved
loop-i-preserved c = marks-on c.loop-i.invariant refl (omega arith) c.neighbour_at-v.ensures (omega arith) (bits_no c.loop-i.marks c.neighbour_at-v.result c.if-marks-v.false) (bits_more c.loop-i.marks c.neighbour_at-v.result refl)

pub returns : goal.returns
returns c =
    let r = c.args.rings.now in
    marks_end c.loop-i.invariant (omega arith) ∙ whole_repeat r.starts.now r.sizes.now r.file.now r.n c.args.u _ c.size_of-e.ensures.value
