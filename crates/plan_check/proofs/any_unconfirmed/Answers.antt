-- any_unconfirmed meets its contract.
use mathlib.Core.Path.{sym, ◌∙◌}
use native.Mathlib.Omega.{arith}
use Rattle.lists.proofs.Folds.{some_hit, some_on, some_end}
use Rattle.plan_check.proofs.any_unconfirmed.Goals as goal

pub returns-then-has_unconfirmed : goal.returns-then-has_unconfirmed
returns-then-has_unconfirmed c = some_hit c.loop-u.invariant (omega arith) (sym c.has_unconfirmed.ensures ∙ c.if-has_unconfirmed.true)

pub loop-u-preserved : goal.loop-u-preserved
loop-u-preserved c = some_on c.loop-u.invariant (omega arith) (sym c.has_unconfirmed.ensures ∙ c.if-has_unconfirmed.false)

pub returns : goal.returns
returns c = some_end c.loop-u.invariant (omega arith)
