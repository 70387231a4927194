-- The call chart on a struct, by the stage that counts: 13; else the refusal of the chart of its plan and labels, or this chart, stored.
use Prim.Native.Nat.{ℕ, ◌≤◌, ◌<◌}
use mathlib.Core.Path.{◌≡◌, sym, ap, ◌∙◌}
use mathlib.Core.List.{List}
use Rattle.model.specs.Outcome.{Outcome, accepted, refused, mapped, ◌>>=◌}
use Rattle.model.specs.Plan.{Plan}
use Rattle.model.specs.Chart.{Chart, chart}
use Rattle.model.specs.File as file
use Rattle.model.specs.Calls.{require_labels, chart_call}
use Rattle.model.proofs.Outcomes.{bind_at, bind_off, mapped_refused}
use Rattle.chart_points.specs.declared.Points.{Points}
use Rattle.chart_points.specs.Charts.{chart_of_points}
use Rattle.sheet.specs.declared.Sheet.{Sheet}
use Rattle.sheet.specs.Sheets.{held_plan, held_labels, reads, stage_read, rank, packed}
use Rattle.sheet.specs.Answers.{packed_as}
use Rattle.sheet.proofs.Reading.{fitting_refused, fitting_missed, fitting_reached, packed-off, packed-at, labels_early, labels_there}

module _ (s : Sheet) where
  -- the steps of the call
  abbrev stored : Plan × List ℕ → Outcome file.Sheet
  stored t = chart t.0 t.1 >>= λ (c : Chart). accepted (file.charted t.0 t.1 c)

  pub chart-call_early : rank (stage_read s) < 2 → chart_call (reads s) ≡ refused 13 0
  unfolding chart_call
  chart-call_early h = bind_off (require_labels (reads s)) 13 0 stored (labels_early s h)

  chart-call_there : 2 ≤ rank (stage_read s) → chart_call (reads s) ≡ stored (held_plan s, held_labels s)
  unfolding chart_call
  chart-call_there h = bind_at (require_labels (reads s)) (held_plan s, held_labels s) stored (labels_there s h)

  module _ {p : Plan} {ls : List ℕ} where
    -- 11, as it is told of what the chart is stored in
    pub chart-call-undrawn : {A : Type 0} (f : Chart → A) (k at : ℕ) → refused k at ≡ mapped f (chart p ls) → 2 ≤ rank (stage_read s) → p ≡ held_plan s → ls ≡ held_labels s → chart_call (reads s) ≡ refused k at
    chart-call-undrawn f k at q h a l =
        let same : chart p ls ≡ chart (held_plan s) (held_labels s) = λ i. chart (a i) (l i) in
        chart-call_there h
        ∙ bind_off (chart (held_plan s) (held_labels s)) k at (λ (c : Chart). accepted (file.charted (held_plan s) (held_labels s) c)) (sym same ∙ mapped_refused f (chart p ls) k at (sym q))

    -- the chart that is drawn is stored
    pub chart-call-stored : {t f : Sheet} (m : Points) → t ≡ packed (file.charted (held_plan f) (held_labels f) (chart_of_points f.n m)) → f ≡ s
        → accepted (chart_of_points f.n m) ≡ chart p ls → 2 ≤ rank (stage_read s) → p ≡ held_plan f → ls ≡ held_labels f → accepted t ≡ packed_as (chart_call (reads s))
    chart-call-stored {f = f} m put w e h a l =
        let c = chart_of_points f.n m in
        let plan : p ≡ held_plan s = a ∙ ap held_plan w in
        let labels : ls ≡ held_labels s = l ∙ ap held_labels w in
        let same : chart p ls ≡ chart (held_plan s) (held_labels s) = λ i. chart (plan i) (labels i) in
        let due : chart (held_plan s) (held_labels s) ≡ accepted c = sym (e ∙ same) in
        ap accepted (put ∙ λ i. packed (file.charted (held_plan (w i)) (held_labels (w i)) c))
        ∙ sym (packed-at (chart-call_there h ∙ bind_at (chart (held_plan s) (held_labels s)) c (λ (d : Chart). accepted (file.charted (held_plan s) (held_labels s) d)) due))

-- for the call itself, step by step
pub ruleset steps = (fitting_refused, fitting_missed, fitting_reached, packed-off, chart-call_early, chart-call-undrawn)
