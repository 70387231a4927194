-- Files and structs, there and back: what write gives for a sheet opens as that sheet's struct, and what was opened is written as the file that it was.
use Prim.Native.Nat.{ℕ, ◌≤◌}
use mathlib.Core.Path.{◌≡◌, refl, sym, ap, ◌∙◌, subst}
use mathlib.Core.List.{List, ◌++◌}
use mathlib.Core.Bool.{Bool, true}
use native.Mathlib.Omega.{arith}
use lib.ListN.{length, take, drop}
use lib.Seq.{take-append_seam}
use lib.Dec.{leb}
use borrow.Author.Tests.{le-leb}
use Rattle.lists.proofs.Words.{Bytes}
use Rattle.model.specs.Outcome.{Outcome, accepted, passed, require, ◌>>=◌, ◌>>◌}
use Rattle.model.specs.Plan.{Plan, plan_rules}
use Rattle.model.specs.Labels.{label_rules}
use Rattle.model.specs.Chart.{Chart, chart, same_chart}
use Rattle.model.specs.File as file
use Rattle.model.specs.File.{decode, encode}
use Rattle.model.specs.Calls.{require_plan, judge, open_call, write_call}
use Rattle.model.proofs.Outcomes.{bind_at, then_at, same-value, then_accepted}
use Rattle.model.proofs.PlanRules.{sound, says-entry}
use Rattle.model.proofs.FileWrite.{PlanFits, Fits, written_read}
use Rattle.model.proofs.FileRead.{read_fits, read-written}
use Rattle.model.proofs.RingPart.{open_accepted}
use Rattle.plan_bounds.specs.Fits.{fit}
use Rattle.plan_bounds.proofs.Fits.{says-fit}
use Rattle.sheet.specs.declared.Sheet.{Sheet}
use Rattle.sheet.specs.Sheets.{reads, packed}
use Rattle.sheet.specs.Answers.{answer_of, after}
use Rattle.sheet.proofs.Packed.{Held, reads-packed}

-- ---- a sheet that fits into a file and keeps the rules fits into the struct
pub plan-held : (p : Plan) → PlanFits p → plan_rules p ≡ passed → fit p ≡ true
plan-held p f e = let t = (sound p e).total in let h = f.high in says-fit p h (omega arith) (λ u k. says-entry p u ((sound p e).inside u) ((sound p e).other u))

pub judged_held : (t : file.Sheet) → Fits t → judge t ≡ passed → Held t
unfolding judge
judged_held file.fresh f e = tt
judged_held (file.opened p) f e = plan-held p f e
judged_held (file.labelled p ls) f e =
    let (r, _) = then_accepted (plan_rules p) (label_rules p ls) tt e in
    (plan-held p f.0 r, f.1 ∙ sym (sound p r).total)
judged_held (file.charted p ls c) f e =
    let (q, _) = then_accepted (plan_rules p >> label_rules p ls) (chart p ls >>= λ (d : Chart). require (same_chart c d) 12 0) tt e in
    let (r, _) = then_accepted (plan_rules p) (label_rules p ls) tt q in
    (plan-held p f.0 r, f.1 ∙ sym (sound p r).total, record { xs_each = f.2.xs_each; ys_each = f.2.ys_each })

-- ---- write, on a sheet that has a file
pub has-plan : (t : file.Sheet) → Fits t → (p : Plan) × (require_plan t ≡ accepted p)
unfolding require_plan
has-plan file.fresh f = absurd f
has-plan (file.opened p) f = (p, refl)
has-plan (file.labelled p ls) f = (p, refl)
has-plan (file.charted p ls c) f = (p, refl)

module _ (t : file.Sheet) (f : Fits t) (d : List ℕ) where
  abbrev b : List ℕ
  b = encode t

  abbrev room : Outcome (Unit {0})
  room = require (leb (length b) (length d)) 16 (length b)

  abbrev given : Outcome (ℕ × List ℕ)
  given = accepted (length b, b ++ drop (length b) d)

  write_there : write_call t d ≡ (room >> given)
  unfolding write_call
  write_there = let (p, e) = has-plan t f in bind_at (require_plan t) p (λ (q : Plan). room >> given) e

  pub write_room : length b ≤ length d → write_call t d ≡ given
  write_room h = write_there ∙ then_at room tt given (ap (λ (v : Bool). require v 16 (length b)) (le-leb (length b) (length d) h))

  write_given : (k : ℕ) (d' : List ℕ) → write_call t d ≡ accepted (k, d') → take k d' ≡ b
  write_given k d' e =
      let (_, q) = then_accepted room given (k, d') (sym write_there ∙ e) in
      let same : ◌≡◌ {A = ℕ × List ℕ} (length b, b ++ drop (length b) d) (k, d') = same-value q in
      ap (λ (r : ℕ × List ℕ). take r.0 r.1) (sym same) ∙ take-append_seam b (drop (length b) d)

-- what was written opens
pub encode-opens : (t : file.Sheet) → Fits t → judge t ≡ passed → open_call (encode t) ≡ accepted t
unfolding open_call
encode-opens t f e = bind_at (decode (encode t)) t (λ (s : file.Sheet). judge s >> accepted s) (written_read t f) ∙ then_at (judge t) tt (accepted t) e

-- THERE AND BACK: what write gives for the struct of a sheet that keeps the rules is opened, and leaves that struct, whatever was there before
pub written-opens : (t : file.Sheet) → Fits t → judge t ≡ passed → (s : Sheet) (d d' : List ℕ) (k : ℕ) → write_call (reads (packed t)) d ≡ accepted (k, d')
    → (answer_of (open_call (take k d')) ≡ passed) × (after s (open_call (take k d')) ≡ packed t)
unfolding answer_of after
written-opens t f e s d d' k q =
    let same = write_given t f d k d' (ap (λ (u : file.Sheet). write_call u d) (sym (reads-packed t (judged_held t f e))) ∙ q) in
    let o : open_call (take k d') ≡ accepted t = ap open_call same ∙ encode-opens t f e in
    (ap answer_of o, ap (after s) o)

-- and write does give it, in every buffer that has the room
pub packed_writes : (t : file.Sheet) → Fits t → judge t ≡ passed → (d : List ℕ) → length (encode t) ≤ length d → write_call (reads (packed t)) d ≡ accepted (length (encode t), encode t ++ drop (length (encode t)) d)
packed_writes t f e d h = ap (λ (u : file.Sheet). write_call u d) (reads-packed t (judged_held t f e)) ∙ write_room t f d h

-- AND FORTH: a file of bytes that is opened is written again as it was, with its length
pub opened_writes : (b : List ℕ) (t : file.Sheet) → Bytes b → open_call b ≡ accepted t → (s : Sheet) (d : List ℕ) → length b ≤ length d → write_call (reads (after s (open_call b))) d ≡ accepted (length b, b ++ drop (length b) d)
unfolding after
opened_writes b t y e s d h =
    let (q, r) = open_accepted b t e in
    let f = read_fits b t q in
    let same = read-written b t y q in
    ap (λ (o : Outcome file.Sheet). write_call (reads (after s o)) d) e
    ∙ packed_writes t f r d (subst (λ (l : List ℕ). length l ≤ length d) (sym same) h)
    ∙ ap (λ (l : List ℕ). accepted (length l, l ++ drop (length l) d)) same
