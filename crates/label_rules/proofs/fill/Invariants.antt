-- What the loop of fill keeps.
use mathlib.Core.Path.{◌≡◌}
use lib.ListN.{length}
use Rattle.lists.proofs.Folds.{FoldsUp}
use Rattle.label_rules.specs.LabelBy.{note_around}
use Rattle.label_rules.proofs.fill.Given as goal

abbrev pub invariant-loop-u : goal.invariant-loop-u
invariant-loop-u l = (length l.table ≡ length l.initial.table) × FoldsUp (note_around l.rings l.labels) 0 l.rings.n l.initial.table l.u l.table
