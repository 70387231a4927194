-- Held::put meets its contract.
use Rattle.plan_bounds.proofs.Bounds.{fit_few}
use Rattle.file_writing.proofs.Held.put.Goals as goal

pub put_plan-requires-clause-few : goal.put_plan-requires-clause-few
put_plan-requires-clause-few c = let f = c.args.self.now.fit in fit_few f.plan f.fits

pub put_chart-requires : goal.put_chart-requires
put_chart-requires c = let f = c.args.self.now.fit in fit_few f.plan f.fits
