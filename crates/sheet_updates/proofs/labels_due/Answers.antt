-- labels_due meets its contract.
use Rattle.sheet.specs.Sheets.{held_plan}
use Rattle.sheet.proofs.Reading.{count_held}
use Rattle.sheet_updates.proofs.labels_due.Goals as goal

pub returns : goal.returns
returns c = let s = c.args.sheet.now in c.labels_due.ensures (held_plan s) (count_held s)
