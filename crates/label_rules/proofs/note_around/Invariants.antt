-- What the loop of note_around keeps.
use Prim.Native.Nat.{◌≤◌}
use mathlib.Core.Path.{◌≡◌}
use lib.ListN.{length}
use Rattle.label_rules.proofs.Noted.{Back}
use Rattle.label_rules.proofs.note_around.Given as goal

abbrev pub invariant-loop-i : goal.invariant-loop-i
invariant-loop-i l = (l.start ≤ l.i) × (l.i ≤ l.end) × (length l.table ≡ length l.initial.table) × Back l.rings.entries.now l.labels l.u l.end l.initial.table l.i l.table
