-- What the loops of starts_of keep.
use mathlib.Core.Path.{◌≡◌}
use Prim.Native.Nat.{◌*◌, ◌≤◌}
use Rattle.lists.proofs.Loops.{Fills}
use Rattle.rings.specs.Tables.{start_of}
use Rattle.rings.proofs.starts_of.Given as goal

abbrev pub invariant-loop-u : goal.invariant-loop-u
invariant-loop-u l = (l.u ≤ 200) × (l.sum ≤ 255 * l.u) × (l.sum ≡ start_of l.sizes l.u) × Fills 200 (start_of l.sizes) l.u l.starts
