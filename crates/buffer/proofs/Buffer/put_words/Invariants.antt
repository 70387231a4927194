-- What the loop of put_words keeps.
use mathlib.Core.Path.{◌≡◌}
use lib.ListN.{take}
use Rattle.lists.specs.Words.{bytes}
use Rattle.buffer.specs.Puts.{put}
use Rattle.buffer.proofs.Buffer.put_words.Given as goal

abbrev pub invariant-loop-x : goal.invariant-loop-x
invariant-loop-x l = l.self ≡ put l.initial.self (bytes (take l.x-index l.numbers))
