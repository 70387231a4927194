-- Turn, after the stage: the labels that the turn gives, stored, or its refusal.
use Prim.Native.Nat.{ℕ, ◌≤◌, ◌<◌}
use mathlib.Core.Path.{◌≡◌, refl, sym, ap, ◌∙◌}
use mathlib.Core.List.{List}
use lib.ListN.{length, drop}
use Rattle.lists.specs.Spans.{stretch}
use Rattle.lists.proofs.Spans.{length-stretch}
use Rattle.lists.proofs.Stretches.{stretch-front}
use Rattle.model.specs.Outcome.{Outcome, accepted, refused, mapped, ◌>>=◌}
use Rattle.model.specs.Plan.{Plan, entry_count}
use Rattle.model.specs.Turn.{turn}
use Rattle.model.specs.File as file
use Rattle.model.specs.Calls.{require_labels, turn_call}
use Rattle.model.proofs.Outcomes.{not-both, same-value, bind_at, bind_off}
use Rattle.model.proofs.LabelCounts.{turn_long}
use Rattle.turn.specs.Turned.{labels_in_array, put_into}
use Rattle.sheet.specs.declared.Sheet.{Sheet}
use Rattle.sheet.specs.Sheets.{held_count, held_plan, held_labels, reads, stage_read, rank}
use Rattle.sheet.proofs.Reading.{fitting_refused, fitting_missed, fitting_reached, packed-off, packed-at, labels_early, labels_there, fits_there, entries-held}

module _ (s : Sheet) (items : List ℕ) (direction : ℕ) where
  -- the steps of the call
  abbrev stored : Plan × List ℕ → Outcome file.Sheet
  stored t = turn t.0 t.1 items direction >>= λ (ms : List ℕ). accepted (file.labelled t.0 ms)

  held-long : length (held_labels s) ≡ held_count s
  unfolding held_labels
  held-long = length-stretch s.labels 0 (held_count s)

  pub turn_early : rank (stage_read s) < 2 → turn_call (reads s) items direction ≡ refused 13 0
  unfolding turn_call
  turn_early h = bind_off (require_labels (reads s)) 13 0 stored (labels_early s h)

  module _ (h : 2 ≤ rank (stage_read s)) where
    abbrev worked : Outcome (List ℕ)
    worked = turn (held_plan s) (held_labels s) items direction

    turn_there : turn_call (reads s) items direction ≡ stored (held_plan s, held_labels s)
    unfolding turn_call
    turn_there = bind_at (require_labels (reads s)) (held_plan s, held_labels s) stored (labels_there s h)

    -- what the turn tells of a plan
    abbrev Told : Plan → Outcome (List ℕ)
    Told p = mapped (put_into s.labels) (turn p (labels_in_array p s.labels) items direction)

    module _ (q : 1 ≤ rank (stage_read s)) {p : Plan} where
      -- the turn is that of the sheet's plan and labels
      turn_held : p ≡ held_plan s → turn p (labels_in_array p s.labels) items direction ≡ worked
      unfolding held_labels
      turn_held e =
          (λ i. turn (e i) (stretch s.labels 0 (entry_count (e i))) items direction)
          ∙ ap (λ (k : ℕ). turn (held_plan s) (stretch s.labels 0 k) items direction) (entries-held s (fits_there s q))

      pub turn-refused : (k at : ℕ) → refused k at ≡ Told p → p ≡ held_plan s → turn_call (reads s) items direction ≡ refused k at
      turn-refused k at e f =
          turn_there
          ∙ bind_off worked k at (λ (ms : List ℕ). accepted (file.labelled (held_plan s) ms)) (sym (turn_held f) ∙ go (turn p (labels_in_array p s.labels) items direction) e)
        where
          go : (o : Outcome (List ℕ)) → refused k at ≡ mapped (put_into s.labels) o → o ≡ refused k at
          go (accepted ls) q = not-both q
          go (refused l there) q = sym q

      -- the labels that are given stand first in their array
      pub turn-labelled : (m : List ℕ) → accepted m ≡ Told p → p ≡ held_plan s → turn_call (reads s) items direction ≡ accepted (file.labelled (held_plan s) (stretch m 0 (held_count s)))
      turn-labelled m e f = turn_there ∙ go worked refl (e ∙ ap (mapped (put_into s.labels)) (turn_held f))
        where
          go : (o : Outcome (List ℕ)) → worked ≡ o → accepted m ≡ mapped (put_into s.labels) o → stored (held_plan s, held_labels s) ≡ accepted (file.labelled (held_plan s) (stretch m 0 (held_count s)))
          go (refused k at) w v = not-both (sym v)
          go (accepted ls) w v =
              let long : held_count s ≡ length ls = sym (turn_long (held_plan s) (held_labels s) items direction ls w ∙ held-long) in
              let there : stretch m 0 (held_count s) ≡ ls = (λ i. stretch (same-value v i) 0 (long i)) ∙ stretch-front ls (drop (length ls) s.labels) in
              bind_at worked ls (λ (ms : List ℕ). accepted (file.labelled (held_plan s) ms)) w ∙ ap (λ (l : List ℕ). accepted (file.labelled (held_plan s) l)) (sym there)

-- for the call itself, step by step
pub ruleset steps = (fitting_refused, fitting_missed, fitting_reached, packed-off, packed-at, turn_early, turn-refused, turn-labelled)
