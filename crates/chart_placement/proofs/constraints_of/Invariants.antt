-- What the loops of constraints_of keep.
use Rattle.chart_placement.proofs.Walk.{Walks}
use Rattle.chart_placement.proofs.constraints_of.Given as goal

abbrev pub invariant-loop-u : goal.invariant-loop-u
invariant-loop-u l = let t = l.fit.plan in Walks t.sizes.now t.entries.now t.n l.labels l.x l.y l.marks l.count l.u 0 l.a

abbrev pub invariant-loop-i : goal.invariant-loop-i
invariant-loop-i l = let t = l.fit.plan in Walks t.sizes.now t.entries.now t.n l.labels l.x l.y l.marks l.count l.u l.i l.a
