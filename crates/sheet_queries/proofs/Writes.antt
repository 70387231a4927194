-- Write: the sheet that is written is the sheet that the struct reads as, and what the writer answers is what the call gives.
use Prim.Native.Nat.{ℕ, ◌≤◌, ◌<◌}
use mathlib.Core.Path.{◌≡◌, refl, sym, ap, ◌∙◌}
use mathlib.Core.List.{List, ◌++◌}
use mathlib.Core.Bool.{true}
use mathlib.Core.Logic.{◌⊎◌, inl, inr}
use native.Mathlib.Omega.{arith}
use lib.ListN.{length, drop}
use lib.Dec.{leb}
use Rattle.lists.proofs.Spans.{length-stretch}
use Rattle.model.specs.Outcome.{Outcome, accepted, refused, mapped, require, ◌>>◌}
use Rattle.model.specs.Plan.{Plan}
use Rattle.model.specs.Chart.{Chart}
use Rattle.model.specs.File as file
use Rattle.model.specs.Calls.{require_plan, write_call}
use Rattle.rings.specs.Tables.{start_of}
use Rattle.file_writing.specs.WrittenFiles.{buffer_after, answered}
use Rattle.sheet.specs.declared.Sheet.{Sheet}
use Rattle.sheet.specs.declared.Stage.{Stage}
use Rattle.sheet.specs.declared.Stage.TheVariants.{Empty, Open, Labelled, Charted}
use Rattle.sheet.specs.Sheets.{held_count, held_plan, held_labels, held_chart, held_sheet, fits, reads, stage_read, rank}
use Rattle.sheet.specs.Answers.{length_of}
use Rattle.model.proofs.Outcomes.{bind_off}
use Rattle.sheet.proofs.Reading.{fitting_refused, fitting_missed, fitting_reached, reads-stage, plan_early, room, stage_there}

module _ (s : Sheet) where
  -- a struct that fits has room for its entries, and no more labels than these
  pub whole : fits s ≡ true → {sizes es : List ℕ} {n : ℕ} → length s.entries ≡ 1186 → sizes ≡ s.sizes → es ≡ s.entries → n ≡ s.n → start_of sizes n ≤ length es
  whole f long a b e = let r = room s f in let x : start_of _ _ ≡ start_of s.sizes s.n = λ i. start_of (a i) (e i) in let y = ap length b in omega arith

  pub labels_few : fits s ≡ true → {ls : List ℕ} → ls ≡ held_labels s → length ls ≤ 1186
  unfolding held_labels held_count
  labels_few f e = let l = length-stretch s.labels 0 (start_of s.sizes s.n) in let r = room s f in let x = ap length e in omega arith

  module _ {g : Stage} where
    -- what is written at each stage
    pub parts_open : (g ≡ Empty) ⊎ (g ≡ Open) → 1 ≤ rank g → file.opened (held_plan s) ≡ held_sheet g s
    unfolding rank held_sheet
    parts_open (inl e) h = let z = ap rank e in absurd (omega arith)
    parts_open (inr e) h = ap (λ (t : Stage). held_sheet t s) (sym e)

    pub parts_labelled : {ls : List ℕ} → ls ≡ held_labels s → g ≡ Labelled → 1 ≤ rank g → file.labelled (held_plan s) ls ≡ held_sheet g s
    unfolding held_sheet
    parts_labelled q e h = ap (file.labelled (held_plan s)) q ∙ ap (λ (t : Stage). held_sheet t s) (sym e)

    pub parts_charted : {ls : List ℕ} {c : Chart} → ls ≡ held_labels s → c ≡ held_chart s → g ≡ Charted → 1 ≤ rank g → file.charted (held_plan s) ls c ≡ held_sheet g s
    unfolding held_sheet
    parts_charted q r e h = (λ i. file.charted (held_plan s) (q i) (r i)) ∙ ap (λ (t : Stage). held_sheet t s) (sym e)

  -- 13
  pub write_early : (d : List ℕ) → rank (stage_read s) < 1 → write_call (reads s) d ≡ refused 13 0
  unfolding write_call
  write_early d h =
      let b = file.encode (reads s) in
      bind_off (require_plan (reads s)) 13 0 (λ (p : Plan). require (leb (length b) (length d)) 16 (length b) >> accepted (length b, b ++ drop (length b) d)) (plan_early s h)

  pub early_length : (d : List ℕ) → rank (stage_read s) < 1 → refused 13 0 ≡ length_of (write_call (reads s) d)
  unfolding length_of
  early_length d h = ap length_of (sym (write_early d h))

  pub buffer_kept : (d : List ℕ) → rank (stage_read s) < 1 → d ≡ buffer_after (write_call (reads s) d) d
  unfolding buffer_after
  buffer_kept d h = ap (λ (o : Outcome (ℕ × List ℕ)). buffer_after o d) (sym (write_early d h))

  -- past EMPTY the writer is given what the struct reads as
  same : 1 ≤ rank (stage_read s) → {f : Sheet} → f ≡ s → {t : file.Sheet} → (1 ≤ rank f.stage → t ≡ held_sheet f.stage f) → t ≡ reads s
  same h {f} w e =
      let stage : f.stage ≡ stage_read s = ap (λ (x : Sheet). x.stage) w ∙ sym (stage_there s h) in
      let past : 1 ≤ rank f.stage = let z = ap rank stage in omega arith in
      e past ∙ (λ i. held_sheet (stage i) (w i)) ∙ sym (reads-stage s)

  module _ (d : List ℕ) (h : 1 ≤ rank (stage_read s)) {f : Sheet} (w : f ≡ s) {t : file.Sheet} (e : 1 ≤ rank f.stage → t ≡ held_sheet f.stage f) {d' : List ℕ} {o : Outcome ℕ} (said : answered (write_call t d) d ≡ (o, d')) where
    call_in : answered (write_call (reads s) d) d ≡ (o, d')
    call_in = ap (λ (x : file.Sheet). answered (write_call x d) d) (sym (same h w e)) ∙ said

    pub length-written : o ≡ length_of (write_call (reads s) d)
    unfolding length_of
    length-written = sym (ap (λ (a : Outcome ℕ × List ℕ). a.0) call_in) ∙ go (write_call (reads s) d)
      where
        go : (c : Outcome (ℕ × List ℕ)) → mapped (λ (p : ℕ × List ℕ). p.0) c ≡ length_of c
        go (accepted (k, b)) = refl
        go (refused k at) = refl

    -- every byte of the buffer
    pub buffer_written : d' ≡ buffer_after (write_call (reads s) d) d
    buffer_written = sym (ap (λ (a : Outcome ℕ × List ℕ). a.1) call_in)

-- for what the writer is given
pub ruleset parts = (whole, parts_open, parts_labelled, parts_charted)

-- for the call itself, step by step
pub ruleset steps = (fitting_refused, fitting_missed, fitting_reached, early_length, buffer_kept, length-written, buffer_written)
