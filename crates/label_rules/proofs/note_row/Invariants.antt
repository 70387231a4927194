-- What the loop of note_row keeps.
use Rattle.label_rules.proofs.Rows.{Noting}
use Rattle.label_rules.proofs.note_row.Given as goal

abbrev pub invariant-loop-i : goal.invariant-loop-i
invariant-loop-i l = Noting l.ring l.labels l.initial.row l.i l.row
