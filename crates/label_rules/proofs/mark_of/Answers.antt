-- mark_of meets its contract.
use Rattle.label_rules.specs.LabelBy.{label_mark}
use native.Mathlib.Omega.{arith}
use Rattle.label_rules.proofs.mark_of.Goals as goal

pub returns : goal.returns
unfolding label_mark
returns c = omega arith
