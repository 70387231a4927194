-- Held::length meets its contract.
use Rattle.plan_bounds.proofs.Bounds.{fit_few}
use Rattle.file_writing.proofs.Held.length.Goals as goal

pub chart_length-requires : goal.chart_length-requires
chart_length-requires c = let f = c.args.self.now.fit in fit_few f.plan f.fits
