-- size_of meets its contract.
use mathlib.Core.Path.{sym, ◌∙◌}
use Rattle.rings.proofs.Rows.{size-inside, size_outside}
use native.Mathlib.Omega.{arith}
use Rattle.rings.proofs.size_of.Goals as goal

pub returns-then-u-n-clause-value : goal.returns-then-u-n-clause-value
returns-then-u-n-clause-value c = c.number_at.ensures.value ∙ sym (size-inside c.args.sizes.now _ _ c.if-u-n.true)

pub returns-else-u-n-clause-value : goal.returns-else-u-n-clause-value
returns-else-u-n-clause-value c = sym (size_outside c.args.sizes.now _ _ (omega arith))
