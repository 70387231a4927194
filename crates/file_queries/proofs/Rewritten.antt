-- A file that is opened and written again is the very file.
use Prim.Native.Nat.{ℕ, ◌<◌}
use mathlib.Core.Path.{◌≡◌, refl, sym, ap, ◌∙◌}
use mathlib.Core.List.{List}
use Rattle.lists.proofs.Words.{Bytes}
use Rattle.model.specs.Outcome.{Outcome, accepted, refused, ◌>>=◌}
use Rattle.model.specs.File as file
use Rattle.model.specs.File.{encode}
use Rattle.model.specs.Calls.{require_plan, open_call, write_call}
use Rattle.model.proofs.Outcomes.{not-both, same-value, same-refusal, then_accepted}
use Rattle.model.proofs.FileWrite.{Fits}
use Rattle.model.proofs.FileRead.{read_fits, read-written}
use Rattle.model.proofs.RingPart.{open_accepted}
use Rattle.sheet.specs.declared.Sheet.{Sheet}
use Rattle.sheet.specs.Sheets.{reads}
use Rattle.sheet.specs.Answers.{packed_as, length_of}
use Rattle.file_writing.specs.WrittenFiles.{buffer_after}
use Rattle.file_queries.proofs.RingParts.{bytes-at}
use lib.ListN.{get_or}
use Rattle.sheet_open.specs.Opening.{file_rules_of}
use Rattle.file_queries.specs.FileQueries.{copied, copied_back}
use Rattle.sheet.proofs.Packed.{reads-packed}
use Rattle.sheet_rules.specs.Rules.{rules_from_8}
use Rattle.sheet_open.proofs.Opened.{judge-parts, sheet_held_lem}

-- the refusal of the open call
pub back_early : (b buffer : List ℕ) (k at : ℕ) → refused k at ≡ packed_as (open_call b) → refused k at ≡ copied_back b buffer
unfolding copied_back packed_as
back_early b buffer k at e = go (open_call b) e
  where
    go : (q : Outcome file.Sheet) → refused k at ≡ packed_as q → refused k at ≡ (q >>= λ (s : file.Sheet). copied b buffer)
    go (accepted s) f = not-both f
    go (refused j t) f = let (m, n) = same-refusal f in λ i. refused (m i) (n i)

-- a sheet that fits, written
write_fits : (s : file.Sheet) (b buffer : List ℕ) → Fits s → encode s ≡ b → write_call s buffer ≡ copied b buffer
unfolding write_call require_plan
write_fits file.fresh b buffer f e = absurd f
write_fits (file.opened p) b buffer f e = ap (λ (l : List ℕ). copied l buffer) e
write_fits (file.labelled p ls) b buffer f e = ap (λ (l : List ℕ). copied l buffer) e
write_fits (file.charted p ls c) b buffer f e = ap (λ (l : List ℕ). copied l buffer) e

-- what was opened is written back byte for byte
pub back_late : (b buffer : List ℕ) (t : Sheet) → Bytes b → accepted t ≡ packed_as (open_call b) → write_call (reads t) buffer ≡ copied_back b buffer
unfolding copied_back packed_as
back_late b buffer t y e = go (open_call b) refl e
  where
    go : (q : Outcome file.Sheet) → open_call b ≡ q → accepted t ≡ packed_as q → write_call (reads t) buffer ≡ (q >>= λ (s : file.Sheet). copied b buffer)
    go (accepted s) d g =
        let (is, ok) = open_accepted b s d in
        let fit = read_fits b s is in
        let kept = (then_accepted (file_rules_of s) (rules_from_8 s) tt (sym (judge-parts s) ∙ ok)).0 in
        ap (λ (r : Sheet). write_call (reads r) buffer) (same-value g) ∙ ap (λ (r : file.Sheet). write_call r buffer) (reads-packed s (sheet_held_lem s fit (sym kept))) ∙ write_fits s b buffer fit (read-written b s y is)
    go (refused k at) d g = not-both (sym g)

-- ---- for the code, step by step
module _ (b buffer : List ℕ) where
  -- a refusal of open
  module _ (k at : ℕ) (e : refused k at ≡ packed_as (open_call b)) where
    pub early_length : refused k at ≡ length_of (copied_back b buffer)
    unfolding length_of
    early_length = ap length_of (back_early b buffer k at e)

    pub early_buffer : buffer ≡ buffer_after (copied_back b buffer) buffer
    unfolding buffer_after
    early_buffer = ap (λ (o : Outcome (ℕ × List ℕ)). buffer_after o buffer) (back_early b buffer k at e)

  -- a sheet: the answer and the buffer are as write gives them
  module _ (t : Sheet) (h : (i : ℕ) → get_or b i 0 < 256) (e : accepted t ≡ packed_as (open_call b)) where
    pub late_length : length_of (write_call (reads t) buffer) ≡ length_of (copied_back b buffer)
    late_length = ap length_of (back_late b buffer t (bytes-at b h) e)

    pub late_buffer : buffer_after (write_call (reads t) buffer) buffer ≡ buffer_after (copied_back b buffer) buffer
    late_buffer = ap (λ (o : Outcome (ℕ × List ℕ)). buffer_after o buffer) (back_late b buffer t (bytes-at b h) e)

pub ruleset steps = (early_length, early_buffer, late_length, late_buffer)
