-- What the loops of show_part keep.
use mathlib.Core.Path.{◌≡◌}
use Rattle.console.specs.Lines.{behind}
use Rattle.console.proofs.show_part.Given as goal

abbrev pub invariant-loop-i : goal.invariant-loop-i
invariant-loop-i l = behind l.text l.from ≡ behind l.text l.i
