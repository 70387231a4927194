-- is_confirmed meets its contract.
use Rattle.rings.specs.Tables.{plan_of}
use Rattle.rings.proofs.Rows.{count-rows}
use Rattle.plan_check.proofs.Confirming.{shared, told_by}
use Rattle.plan_check.proofs.is_confirmed.Goals as goal

pub returns-then-fill : goal.returns-then-fill
returns-then-fill c =
    let r = c.args.rings.now in
    told_by (plan_of r) _ c.fill.ensures.value (count-rows r.starts.now r.sizes.now r.entries.now r.n) c.fill.ensures.table_after c.if-fill.true c.any_unconfirmed.ensures

pub returns-else-fill : goal.returns-else-fill
returns-else-fill c = shared (plan_of c.args.rings.now) _ c.fill.ensures.value c.if-fill.false
