-- The engine over a list of calls: what the calls answer and the struct that they leave.
-- The contracts of open_file, offer, sweep, turn and chart say that a result tells packed_as of the model's call; by outcome_of-answers of crate sheet its answer and the sheet after it are those here, one call after the other.
use Rattle.std.specs.Prelude.{List, [], ◌∷◌}
use Rattle.model.specs.Outcome.{Outcome}
use Rattle.model.specs.File.{fresh}
use Rattle.model.specs.CallLists.{Call, call}
use Rattle.sheet.specs.declared.Sheet.{Sheet}
use Rattle.sheet.specs.Sheets.{reads, packed}
use Rattle.sheet.specs.Answers.{answer_of, after}

-- a fresh sheet, as fresh_sheet gives it
abbrev pub fresh_sheet : Sheet
fresh_sheet = packed fresh

-- the sheet after a list of calls, refused ones included
unfoldable pub sheet_after : Sheet → List Call → Sheet
sheet_after s [] = s
sheet_after s (c ∷ cs) = sheet_after (after s (call (reads s) c)) cs

-- what each call of a list answers
unfoldable pub answers_of : Sheet → List Call → List (Outcome (Unit {0}))
answers_of s [] = []
answers_of s (c ∷ cs) = answer_of (call (reads s) c) ∷ answers_of (after s (call (reads s) c)) cs
