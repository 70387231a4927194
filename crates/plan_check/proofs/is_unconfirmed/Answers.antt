-- is_unconfirmed meets its contract.
use Rattle.plan_check.proofs.Confirming.{unconfirmed_self, unconfirmed_turned, unconfirmed_outer}
use Rattle.plan_check.proofs.is_unconfirmed.Goals as goal

pub returns-then-u-v : goal.returns-then-u-v
returns-then-u-v c = let a = c.args in unconfirmed_self a.table.now a.u a.w a.v c.if-u-v.true

pub returns-then-number_at-w : goal.returns-then-number_at-w
returns-then-number_at-w c = let a = c.args in unconfirmed_turned a.table.now a.u a.w a.v c.if-u-v.false c.number_at.ensures.value c.if-number_at-w.true

pub returns : goal.returns
returns c = let a = c.args in unconfirmed_outer a.table.now a.u a.w a.v c.if-u-v.false c.number_at.ensures.value c.if-number_at-w.false c.is_outer.ensures
