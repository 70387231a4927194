-- The steps of the code: the bytes that hand a sheet over, what results tell, and the sheet that is handed back.
use Prim.Native.Nat.{ℕ}
use mathlib.Core.Path.{◌≡◌, refl, ap, ◌∙◌}
use mathlib.Core.List.{List, [], ◌∷◌}
use native.Mathlib.Omega.{arith}
use lib.ListN.{length}
use Rattle.model.specs.Outcome.{Outcome, accepted, refused, mapped}
use Rattle.model.specs.File as file
use Rattle.model.specs.Calls.{open_call, write_call}
use Rattle.file_writing.specs.WrittenFiles.{buffer_after}
use Rattle.std.specs.Prelude.{Ok, Err}
use Rattle.std.specs.declared.result.Result.{Result}
use Rattle.refusal.specs.declared.Refusal.{Refusal}
use Rattle.refusal.specs.Refusals.{outcome_of, number_of, place_of}
use Rattle.sheet.specs.declared.Sheet.{Sheet}
use Rattle.sheet.specs.Sheets.{reads}
use Rattle.sheet.specs.Answers.{packed_as, length_of}
use Rattle.sheet.proofs.Packed.{Held, reads-packed}
use Rattle.sheet_bytes.specs.Exchange.{sheet_of_bytes, given, bytes_back}

-- ---- the bytes that hand a sheet over
-- none
pub none_in : (b : List ℕ) → length b ≡ 0 → sheet_of_bytes b ≡ accepted file.fresh
unfolding sheet_of_bytes
none_in [] e = refl
none_in (a ∷ b) e = absurd (omega arith)

-- some
pub some_in : (b : List ℕ) → (length b ≡ 0 → ⊥) → sheet_of_bytes b ≡ open_call b
unfolding sheet_of_bytes
some_in [] h = absurd (h refl)
some_in (a ∷ b) h = refl

-- ---- what is packed, where it fits into the struct
-- the struct reads as what it was
pub read-packed : (o : Outcome file.Sheet) → ((t : file.Sheet) → o ≡ accepted t → Held t) → mapped reads (packed_as o) ≡ o
unfolding packed_as
read-packed (accepted t) k = ap accepted (reads-packed t (k t refl))
read-packed (refused n at) k = refl

-- what a call tells
pub given-packed : (r : Result Sheet Refusal) (o : Outcome file.Sheet) → outcome_of r ≡ packed_as o → ((t : file.Sheet) → o ≡ accepted t → Held t) → given r ≡ o
unfolding given
given-packed r o e h = ap (mapped reads) e ∙ read-packed o h

-- ---- handed back
-- a refusal: the buffer is as it was
module _ (r : Result Sheet Refusal) (f : Refusal) (buffer : List ℕ) where
  pub off_length : r ≡ Err f → refused (number_of f) (place_of f) ≡ length_of (bytes_back (given r) buffer)
  unfolding bytes_back length_of given
  off_length e = rw e

  pub off_buffer : r ≡ Err f → buffer ≡ buffer_after (bytes_back (given r) buffer) buffer
  unfolding bytes_back buffer_after given
  off_buffer e = rw e

-- a sheet: the answer and the buffer are as write gives them
module _ (r : Result Sheet Refusal) (s : Sheet) (buffer : List ℕ) where
  pub at_length : r ≡ Ok s → length_of (write_call (reads s) buffer) ≡ length_of (bytes_back (given r) buffer)
  unfolding bytes_back given
  at_length e = rw e

  pub at_buffer : r ≡ Ok s → buffer_after (write_call (reads s) buffer) buffer ≡ buffer_after (bytes_back (given r) buffer) buffer
  unfolding bytes_back given
  at_buffer e = rw e

-- for the code, step by step
pub ruleset back = (off_length, off_buffer, at_length, at_buffer)
