-- Demand 2, the first sentence: a sheet written and opened is the same sheet, for every sheet that a list of calls leaves.
use Rattle.std.specs.Prelude.{ℕ, ◌≡◌, List, take}
use Rattle.model.specs.Outcome.{accepted, passed}
use Rattle.model.specs.Calls.{open_call, write_call}
use Rattle.model.specs.CallLists.{Call}
use Rattle.sheet.specs.declared.Sheet.{Sheet}
use Rattle.sheet.specs.Sheets.{reads}
use Rattle.sheet.specs.Answers.{answer_of, after}
use Rattle.guarantee.specs.Engine.{fresh_sheet, sheet_after}

-- The k bytes that write puts into a buffer open, over any sheet s, and leave the very struct that was written
pub record ThereAndBack (calls : List Call) : Type 0 where
  pub opens : (buffer written : List ℕ) (k : ℕ) → write_call (reads (sheet_after fresh_sheet calls)) buffer ≡ accepted (k, written) → answer_of (open_call (take k written)) ≡ passed
  pub the_same : (s : Sheet) (buffer written : List ℕ) (k : ℕ) → write_call (reads (sheet_after fresh_sheet calls)) buffer ≡ accepted (k, written) → after s (open_call (take k written)) ≡ sheet_after fresh_sheet calls
