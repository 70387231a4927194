-- chart_of meets its contract.
use Rattle.plan_bounds.proofs.Bounds.{fit_few, fit_room}
use Rattle.chart_placement.proofs.Walk.{fits_short, fits_long}
use Rattle.chart_placement.proofs.chart_of.Goals as goal

pub chart_with-requires-clause-room_x : goal.chart_with-requires-clause-room_x
chart_with-requires-clause-room_x c = let f = c.args.fit.now in fits_short f.plan.sizes.now (fit_few f.plan f.fits) c.total_of.ensures.value c.if-total_of-le126.true

pub chart_with-requires-clause-room_y : goal.chart_with-requires-clause-room_y
chart_with-requires-clause-room_y c = let f = c.args.fit.now in fits_short f.plan.sizes.now (fit_few f.plan f.fits) c.total_of.ensures.value c.if-total_of-le126.true

pub chart_with-requires-else-total_of-le126-clause-room_x : goal.chart_with-requires-else-total_of-le126-clause-room_x
chart_with-requires-else-total_of-le126-clause-room_x c = let f = c.args.fit.now in fits_long (fit_room f.plan f.fits)

pub chart_with-requires-else-total_of-le126-clause-room_y : goal.chart_with-requires-else-total_of-le126-clause-room_y
chart_with-requires-else-total_of-le126-clause-room_y c = let f = c.args.fit.now in fits_long (fit_room f.plan f.fits)
