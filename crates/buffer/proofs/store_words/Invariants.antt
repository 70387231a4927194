-- What the loop of store_words keeps.
use mathlib.Core.Path.{◌≡◌}
use lib.ListN.{take}
use lib.Seq.{sets}
use Rattle.lists.specs.Words.{bytes}
use Rattle.buffer.proofs.store_words.Given as goal

abbrev pub invariant-loop-i : goal.invariant-loop-i
invariant-loop-i l = l.to ≡ sets l.initial.to 0 (bytes (take l.i l.numbers))
