-- What the loop of words keeps.
use Prim.Native.Nat.{ℕ, ◌+◌, ◌*◌}
use Rattle.lists.proofs.Loops.{Fills}
use Rattle.arrays.specs.ArrayParts.{word_of}
use Rattle.arrays.proofs.words.Given as goal

abbrev pub invariant-loop-i : goal.invariant-loop-i
invariant-loop-i g l = Fills g.row.N (λ (t : ℕ). word_of l.a (l.from + l.step * t)) l.i l.numbers
