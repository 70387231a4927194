-- Offer, step by step: 13, then 2, then 10, then accepted.
use Prim.Native.Nat.{ℕ, ◌≤◌, ◌<◌}
use mathlib.Core.Path.{◌≡◌, sym, ap, ◌∙◌}
use mathlib.Core.List.{List}
use mathlib.Core.Bool.{Bool, true}
use native.Mathlib.Omega.{arith}
use lib.ListN.{length, take}
use lib.Seq.{take_all}
use lib.Dec.{eqb}
use borrow.Author.Tests.{eq-eqb, ne_eqb}
use Rattle.model.specs.Outcome.{Outcome, accepted, refused, passed, require, ◌>>=◌, ◌>>◌}
use Rattle.model.specs.Plan.{Plan, labels_due}
use Rattle.model.specs.Labels.{label_rules}
use Rattle.model.specs.File as file
use Rattle.model.specs.Calls.{require_plan, offered, offer_call}
use Rattle.sheet.specs.declared.Sheet.{Sheet}
use Rattle.sheet.specs.Sheets.{held_plan, reads}
use Rattle.sheet.specs.Sheets.{rank, stage_read, fits}
use Rattle.model.proofs.Outcomes.{bind_at, bind_off, then_at, then_off}
use Rattle.sheet.proofs.Reading.{fitting_refused, fitting_missed, fitting_reached, packed-off, packed-at, few, plan_early, plan_there, count_held}

-- the steps on a plan
module _ (p : Plan) (ls : List ℕ) where
  offered-count : (length ls ≡ labels_due p → ⊥) → offered p ls ≡ refused 2 0
  unfolding offered
  offered-count h = then_off (require (eqb (length ls) (labels_due p)) 2 0) 2 0 (label_rules p ls >> accepted ls) (ap (λ (t : Bool). require t 2 0) (ne_eqb (length ls) (labels_due p) h))

  offered_ruled : length ls ≡ labels_due p → offered p ls ≡ (label_rules p ls >> accepted ls)
  unfolding offered
  offered_ruled h = then_at (require (eqb (length ls) (labels_due p)) 2 0) tt (label_rules p ls >> accepted ls) (ap (λ (t : Bool). require t 2 0) (eq-eqb (length ls) (labels_due p) h))

-- what comes after the plan
abbrev stored : Plan → List ℕ → Outcome file.Sheet
stored p ms = accepted (file.labelled p ms)

module _ (s : Sheet) (ls : List ℕ) where
  pub offer_early : rank (stage_read s) < 1 → offer_call (reads s) ls ≡ refused 13 0
  unfolding offer_call
  offer_early h = bind_off (require_plan (reads s)) 13 0 (λ p. offered p ls >>= stored p) (plan_early s h)

  offer_there : 1 ≤ rank (stage_read s) → offer_call (reads s) ls ≡ (offered (held_plan s) ls >>= stored (held_plan s))
  unfolding offer_call
  offer_there h = bind_at (require_plan (reads s)) (held_plan s) (λ p. offered p ls >>= stored p) (plan_there s h)

  pub offer_count : (d : ℕ) → 1 ≤ rank (stage_read s) → d ≡ labels_due (held_plan s) → (length ls ≡ d → ⊥) → offer_call (reads s) ls ≡ refused 2 0
  offer_count d h e miss = offer_there h ∙ bind_off (offered (held_plan s) ls) 2 0 (stored (held_plan s)) (offered-count (held_plan s) ls (λ q. miss (q ∙ sym e)))

  -- there is room for as many labels as are due
  offer_room : (d : ℕ) → d ≡ labels_due (held_plan s) → length ls ≡ d → fits s ≡ true → take 1186 ls ≡ ls
  offer_room d e q f = let n = few s f in let size = count_held s in take_all 1186 ls (omega arith)

  -- what the label rules say of the labels is what the call says
  module _ (d : ℕ) (h : 1 ≤ rank (stage_read s)) (e : d ≡ labels_due (held_plan s)) (q : length ls ≡ d) where
    ruled : offered (held_plan s) ls ≡ (label_rules (held_plan s) ls >> accepted ls)
    ruled = offered_ruled (held_plan s) ls (q ∙ e)

    -- as they are told of the plan that the call reads
    module _ {p : Plan} where
      pub offer_broken : (k at : ℕ) → refused k at ≡ label_rules p ls → p ≡ held_plan s → offer_call (reads s) ls ≡ refused k at
      offer_broken k at w f =
          offer_there h ∙ bind_off (offered (held_plan s) ls) k at (stored (held_plan s)) (ruled ∙ then_off (label_rules (held_plan s) ls) k at (accepted ls) (sym (w ∙ ap (λ (x : Plan). label_rules x ls) f)))

      pub offer_kept : fits s ≡ true → passed ≡ label_rules p ls → p ≡ held_plan s → offer_call (reads s) ls ≡ accepted (file.labelled (held_plan s) (take 1186 ls))
      offer_kept f w g =
          offer_there h ∙ bind_at (offered (held_plan s) ls) ls (stored (held_plan s)) (ruled ∙ then_at (label_rules (held_plan s) ls) tt (accepted ls) (sym (w ∙ ap (λ (x : Plan). label_rules x ls) g)))
          ∙ ap (λ (l : List ℕ). accepted (file.labelled (held_plan s) l)) (sym (offer_room d e q f))

-- for the call itself, step by step
pub ruleset steps = (fitting_refused, fitting_missed, fitting_reached, packed-off, packed-at, offer_early, offer_count, offer_broken, offer_kept)
