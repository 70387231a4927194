-- What the loops of walk_rings keep.
use Rattle.file_framing.proofs.Walks.{Walks}
use Rattle.file_framing.proofs.walk_rings.Given as goal

abbrev pub invariant-loop-i : goal.invariant-loop-i
invariant-loop-i l = Walks l.file l.n l.at l.i l.sizes
