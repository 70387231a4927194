-- Opening a file: the rules 4 to 7, which are judged where the rings stand in the file, and what is copied from it.
use Rattle.std.specs.Prelude.{ℕ, min, List, Bool, ◌&&◌, eqb, leb}
use Rattle.model.specs.Outcome as model
use Rattle.model.specs.Outcome.{passed, require, rule, ◌>>◌}
use Rattle.model.specs.Plan.{Plan, context_count, bad_entry, bad_repeat, unreturned, entry_count, dart_count}
use Rattle.model.specs.File as file
use Rattle.rings.specs.Tables.{start_of}
use Rattle.sheet_rules.specs.Rules.{rules_from_8}

-- 4 to 7, which are judged in the file
unfoldable pub file_rules : ℕ → Plan → model.Outcome (Unit {0})
file_rules n p = do
  rule 4 n (bad_entry p)
  rule 5 n (bad_repeat p)
  rule 6 n (unreturned p)
  require (eqb (entry_count p) (dart_count n)) 7 0

-- 4 to 7 of the plan of a sheet
unfoldable pub file_rules_of : file.Sheet → model.Outcome (Unit {0})
file_rules_of file.fresh = passed
file_rules_of (file.opened p) = file_rules (context_count p) p
file_rules_of (file.labelled p ls) = file_rules (context_count p) p
file_rules_of (file.charted p ls c) = file_rules (context_count p) p

-- 4 to 7 of a sheet that stands in a file, then 8 to 12 of the sheet that was copied
abbrev pub rules_of : file.Sheet → file.Sheet → model.Outcome (Unit {0})
rules_of s t = do
  file_rules_of s
  rules_from_8 t

-- 5 contexts or more, with as many entries as 7 asks for
unfoldable pub entries_due : List ℕ → ℕ → Bool
entries_due sizes n = leb 5 n && eqb (start_of sizes (min n 200)) (dart_count n)
