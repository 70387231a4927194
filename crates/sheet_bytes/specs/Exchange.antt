-- Sheets handed over as bytes, and handed back as bytes. What a sheet's bytes are is said by sheet_of_bytes and bytes_back alone; a file is what open takes.
use Rattle.std.specs.Prelude.{◌≡◌, ℕ, List, [], ◌∷◌}
use Rattle.model.specs.Outcome.{Outcome, accepted, ◌>>=◌, mapped}
use Rattle.model.specs.File as file
use Rattle.model.specs.Calls.{open_call, write_call}
use Rattle.model.specs.CallLists.{Call, call}
use Rattle.std.specs.declared.result.Result.{Result}
use Rattle.refusal.specs.declared.Refusal.{Refusal}
use Rattle.refusal.specs.Refusals.{outcome_of}
use Rattle.sheet.specs.declared.Sheet.{Sheet}
use Rattle.sheet.specs.declared.Judged.{Judged}
use Rattle.sheet.specs.Sheets.{reads}
use Rattle.sheet.specs.Answers.{packed_as}

-- The sheet that a sheet's bytes hand over: none are a fresh sheet, all others its file
unfoldable pub sheet_of_bytes : List ℕ → Outcome file.Sheet
sheet_of_bytes [] = accepted file.fresh
sheet_of_bytes (b ∷ bs) = open_call (b ∷ bs)

-- The bytes of the sheet that a call leaves, its file, written into the buffer: how many there are, and the buffer
unfoldable pub bytes_back : Outcome file.Sheet → List ℕ → Outcome (ℕ × List ℕ)
bytes_back o buffer = o >>= λ (t : file.Sheet). write_call t buffer

-- what a result tells of what is handed over: the struct, or the refusal
unfoldable pub handed : Result Judged Refusal → Outcome Sheet
handed r = mapped (λ (j : Judged). j.sheet) (outcome_of r)

-- what a result tells of what a call leaves: the sheet that its struct holds, or the refusal
unfoldable pub given : Result Sheet Refusal → Outcome file.Sheet
given r = mapped reads (outcome_of r)

-- a call of which this is said gives what the model's call c gives
abbrev pub Makes : (Judged → Result Sheet Refusal → Type 0) → Call → Type 0
Makes gives c = (j : Judged) (r : Result Sheet Refusal) → gives j r → outcome_of r ≡ packed_as (call (reads j.sheet) c)

-- What the model's call c leaves of the sheet that bytes hand over, handed back
unfoldable pub changed_by : Call → List ℕ → List ℕ → Outcome (ℕ × List ℕ)
changed_by c sheet buffer = bytes_back (sheet_of_bytes sheet >>= λ (s : file.Sheet). call s c) buffer
