-- The call sweep on a struct, by the stage that counts: 13; else the refusal of the sweep of its plan, or the labels that this gives, stored.
use Prim.Native.Nat.{ℕ, ◌≤◌, ◌<◌}
use mathlib.Core.Path.{◌≡◌, sym, ap, ◌∙◌}
use mathlib.Core.List.{List}
use lib.ListN.{length}
use Rattle.lists.proofs.Padded.{stretch-zero_padded}
use Rattle.lists.specs.Spans.{stretch, zero_padded}
use Rattle.model.specs.Outcome.{Outcome, accepted, refused, mapped, ◌>>=◌}
use Rattle.model.specs.Plan.{Plan}
use Rattle.model.specs.Sweep.{sweep}
use Rattle.model.specs.File as file
use Rattle.model.specs.Calls.{require_plan, sweep_call}
use Rattle.model.proofs.Outcomes.{bind_at, bind_off, mapped_accepted, mapped_refused}
use Rattle.model.proofs.LabelCounts.{sweep_long}
use Rattle.sheet.specs.declared.Sheet.{Sheet}
use Rattle.sheet.specs.Sheets.{held_count, held_plan, reads, stage_read, rank}
use Rattle.sheet.proofs.Reading.{fitting_refused, fitting_missed, fitting_reached, packed-off, packed-at, plan_early, plan_there, fits_there, entries-held}

module _ (s : Sheet) where
  abbrev p : Plan
  p = held_plan s

  stored : Plan → List ℕ → Outcome file.Sheet
  stored q ms = accepted (file.labelled q ms)

  pub sweep_early : rank (stage_read s) < 1 → sweep_call (reads s) ≡ refused 13 0
  unfolding sweep_call
  sweep_early h = bind_off (require_plan (reads s)) 13 0 (λ q. sweep q >>= λ ms. accepted (file.labelled q ms)) (plan_early s h)

  module _ (h : 1 ≤ rank (stage_read s)) where
    swept_there : sweep_call (reads s) ≡ (sweep p >>= stored p)
    unfolding sweep_call stored
    swept_there = bind_at (require_plan (reads s)) p (λ q. sweep q >>= λ ms. accepted (file.labelled q ms)) (plan_there s h)

    pub sweep-refused : (k at : ℕ) → refused k at ≡ mapped (zero_padded 1186) (sweep p) → sweep_call (reads s) ≡ refused k at
    sweep-refused k at e = swept_there ∙ bind_off (sweep p) k at (stored p) (mapped_refused (zero_padded 1186) (sweep p) k at (sym e))

    -- the labels that are given stand first in their array
    pub sweep-labelled : (m : List ℕ) → accepted m ≡ mapped (zero_padded 1186) (sweep p) → sweep_call (reads s) ≡ accepted (file.labelled p (stretch m 0 (held_count s)))
    unfolding stored
    sweep-labelled m e = swept_there ∙ go (mapped_accepted (zero_padded 1186) (sweep p) m (sym e))
      where
        go : (ls : List ℕ) × (sweep p ≡ accepted ls) × (zero_padded 1186 ls ≡ m) → (sweep p >>= stored p) ≡ accepted (file.labelled p (stretch m 0 (held_count s)))
        go (ls, given, same) =
            let long : held_count s ≡ length ls = sym (entries-held s (fits_there s h)) ∙ sym (sweep_long p ls given) in
            let there : stretch m 0 (held_count s) ≡ ls = (λ i. stretch (sym same i) 0 (long i)) ∙ stretch-zero_padded 1186 ls in
            bind_at (sweep p) ls (stored p) given ∙ ap (λ (l : List ℕ). accepted (file.labelled p l)) (sym there)

-- for the call itself, step by step
pub ruleset steps = (fitting_refused, fitting_missed, fitting_reached, packed-off, packed-at, sweep_early, sweep-refused, sweep-labelled)
