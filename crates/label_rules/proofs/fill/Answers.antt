-- fill meets its contract.
use mathlib.Core.Path.{ap, ◌∙◌}
use native.Mathlib.Omega.{arith}
use lib.ListN.{length}
use Rattle.lists.proofs.Folds.{folds_up_on, folds_up_end}
use Rattle.label_rules.specs.LabelBy.{marks_filled}
use Rattle.label_rules.proofs.Noted.{around-long}
use Rattle.label_rules.proofs.fill.Goals as goal

pub loop-u-preserved : goal.loop-u-preserved
loop-u-preserved c =
    let a = c.args in
    let (long, inv) = c.loop-u.invariant in
    (ap length c.note_around.ensures ∙ around-long a.rings.now a.labels.now c.loop-u.u c.loop-u.table ∙ long, folds_up_on inv (omega arith) c.note_around.ensures)

pub returns : goal.returns
unfolding marks_filled
returns c = folds_up_end c.loop-u.invariant.1 (omega arith)
