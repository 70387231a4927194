-- label_position meets its contract.
use mathlib.Core.Path.{refl, ◌∙◌}
use Rattle.chart_placement.proofs.Marks.{position-marked, marked-still, position-first, marked_more, position_some, position_none}
use Rattle.chart_placement.proofs.label_position.Goals as goal

pub returns-in-Some-clause-value : goal.returns-in-Some-clause-value
returns-in-Some-clause-value c = λ r inv dart.
    let there = position_some c.args.marks.now c.args.v c.args.a c.in-Some.ensures in
    there.1 ∙ position-marked inv dart c.requires.low refl there.0

pub returns-in-Some-clause-marked : goal.returns-in-Some-clause-marked
returns-in-Some-clause-marked c = λ r inv dart.
    let there = position_some c.args.marks.now c.args.v c.args.a c.in-Some.ensures in
    marked-still inv dart c.requires.low refl there.0

pub returns-clause-value : goal.returns-clause-value
returns-clause-value c = λ r inv dart. position-first inv dart c.requires.low refl (position_none c.args.marks.now c.args.v c.args.a c.in_default.ensures)

pub returns-clause-marked : goal.returns-clause-marked
returns-clause-marked c = λ r inv dart. marked_more inv dart c.requires.low refl (position_none c.args.marks.now c.args.v c.args.a c.in_default.ensures) refl
