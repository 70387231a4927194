-- What the loops of copy_words keep.
use Rattle.sheet_open.proofs.Copies.{Copied}
use Rattle.sheet_open.proofs.bounded.copy_words.Given as goal

abbrev pub invariant-loop-i : goal.invariant-loop-i
invariant-loop-i l = Copied l.file l.from l.i l.fn.to l.to

abbrev pub invariant-loop-i-2 : goal.invariant-loop-i-2
invariant-loop-i-2 l = Copied l.file l.from l.i l.fn.to l.to
