-- What the loop of fill keeps.
use mathlib.Core.Path.{◌≡◌}
use mathlib.Core.Bool.{true}
use lib.ListN.{length}
use Rattle.lists.proofs.Folds.{FoldsUp}
use Rattle.rings.specs.Tables.{plan_of}
use Rattle.ring_successors.proofs.Notes.{row}
use Rattle.ring_successors.proofs.fill.Given as goal

abbrev pub invariant-loop-u : goal.invariant-loop-u
invariant-loop-u l = (length l.table ≡ length l.initial.table) × FoldsUp (row (plan_of l.rings)) 0 l.m (l.initial.table, true) l.u (l.table, l.clear)
