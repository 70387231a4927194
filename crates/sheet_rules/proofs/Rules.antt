-- Refusals in the order in which a sheet is judged.
use Prim.Native.Nat.{ℕ, ◌≤◌, ◌<◌}
use mathlib.Core.Path.{◌≡◌, refl, sym, ap, ◌∙◌}
use mathlib.Core.List.{List}
use mathlib.Core.Bool.{Bool, true, false, cond}
use mathlib.Core.Logic.{◌⊎◌, inl, inr}
use native.Mathlib.Omega.{arith}
use borrow.Author.Tests.{ltb-true, ltb-false}
use Rattle.model.specs.Outcome.{Outcome, accepted, refused, passed, mapped, require, ◌>>=◌, ◌>>◌}
use Rattle.model.specs.Plan.{Plan, context_count}
use Rattle.model.specs.Labels.{label_rules}
use Rattle.model.specs.Chart.{Chart, chart, same_chart}
use Rattle.model.specs.File as file
use Rattle.std.specs.Prelude.{Err}
use Rattle.std.specs.declared.result.Result.{Result}
use Rattle.refusal.specs.declared.Refusal.{Refusal}
use Rattle.refusal.specs.Refusals.{number_of, place_of, outcome_of}
use Rattle.chart_points.specs.Charts.{chart_on, chart_of_points}
use Rattle.chart_points.specs.declared.Points.{Points}
use Rattle.chart_placement.specs.declared.Drawn.{Drawn}
use Rattle.chart_placement.specs.Drawing.{drawn_of}
use Rattle.chart_placement.proofs.Draw.{drawn_reads}
use Rattle.sheet.specs.declared.Sheet.{Sheet}
use Rattle.sheet.specs.declared.Stage.{Stage}
use Rattle.sheet.specs.declared.Stage.TheVariants.{Empty, Open, Labelled, Charted}
use Rattle.sheet.specs.Sheets.{held_plan, held_labels, held_chart, held_sheet, fits, reads, stage_read, rank}
use Rattle.sheet.proofs.Reading.{reads-stage, fits_there, count_held, rings-held, below}
use Rattle.sheet_rules.specs.Rules.{flat_rules, chart_rules, flat_of, rules_from_10, rules_from_8}

-- ---- 11 and 12
module _ (s : Sheet) where
  abbrev Reading : Outcome Drawn → Outcome Chart
  Reading = mapped (λ (d : Drawn). chart_on s.n d.w d.h d.xs d.ys)

  abbrev Compare : Outcome Chart → Outcome (Unit {0})
  Compare o = o >>= λ (d : Chart). require (same_chart (held_chart s) d) 12 0

  module _ {p : Plan} {ls : List ℕ} where
    -- what is drawn of a plan and labels that are the struct's reads as their chart
    drawn-held : {o : Outcome Drawn} → o ≡ mapped drawn_of (chart p ls) → p ≡ held_plan s → ls ≡ held_labels s → Reading o ≡ chart (held_plan s) (held_labels s)
    drawn-held is a l = drawn_reads p ls is (sym (ap context_count a ∙ count_held s)) ∙ λ i. chart (a i) (l i)

    -- no chart: its refusal
    pub undrawn : (r : Result Drawn Refusal) → outcome_of r ≡ mapped drawn_of (chart p ls) → (q : Refusal) → r ≡ Err q → p ≡ held_plan s → ls ≡ held_labels s
        → refused (number_of q) (place_of q) ≡ chart_rules (held_plan s) (held_labels s) (held_chart s)
    unfolding chart_rules
    undrawn r is q w a l = ap Compare (ap (λ (v : Result Drawn Refusal). Reading (outcome_of v)) (sym w) ∙ drawn-held is a l)

    -- a chart: it is compared with the one that is held
    pub compared : (d : Drawn) (k m : Points) {n : ℕ} {t : Bool} → accepted d ≡ mapped drawn_of (chart p ls) → p ≡ held_plan s → ls ≡ held_labels s → n ≡ s.n → chart_of_points s.n k ≡ held_chart s
        → (m.w ≡ d.w) × (m.h ≡ d.h) × (m.xs.now ≡ d.xs) × (m.ys.now ≡ d.ys) → t ≡ same_chart (chart_of_points n k) (chart_of_points n m) → require t 12 0 ≡ chart_rules (held_plan s) (held_labels s) (held_chart s)
    unfolding chart_rules
    compared d k m {n} is a l e mine (mw, mh, mx, my) q =
        let held_sheet : chart_of_points n k ≡ held_chart s = ap (λ (u : ℕ). chart_of_points u k) e ∙ mine in
        ap (λ (t : Bool). require t 12 0) (q ∙ λ i. same_chart (held_sheet i) (chart_on (e i) (mw i) (mh i) (mx i) (my i))) ∙ ap Compare (drawn-held is a l)

-- ---- one part of the rules before another
pub first-refused : {A : Type 0} (a : Outcome (Unit {0})) (b : Outcome A) {k at : ℕ} → refused k at ≡ a → refused k at ≡ (a >> b)
first-refused a b e = ap (λ (o : Outcome (Unit {0})). o >> b) e

pub first-passed : {A : Type 0} (a : Outcome (Unit {0})) (b : Outcome A) {x : Outcome A} → passed ≡ a → x ≡ b → x ≡ (a >> b)
first-passed a b e f = f ∙ ap (λ (o : Outcome (Unit {0})). o >> b) e

-- ---- the rules of a struct, by its stage
module _ (s : Sheet) where
  -- without labels there is nothing to judge from 10 on
  pub none-from_10 : rank s.stage < 2 → passed ≡ rules_from_10 (reads s)
  unfolding reads held_sheet rank rules_from_10
  none-from_10 h = go (fits s) s.stage h
    where
      go : (b : Bool) (g : Stage) → rank g < 2 → passed ≡ rules_from_10 (cond b (held_sheet g s) file.fresh)
      go false g h = refl
      go true Empty h = refl
      go true Open h = refl
      go true Labelled h = absurd (omega arith)
      go true Charted h = absurd (omega arith)

  module _ {g : Stage} (e : g ≡ stage_read s) where
    -- 10 to 12 by the stage that counts
    pub from_10_at : rules_from_10 (held_sheet g s) ≡ rules_from_10 (reads s)
    from_10_at = ap (λ (t : Stage). rules_from_10 (held_sheet t s)) e ∙ ap rules_from_10 (sym (reads-stage s))

    -- at EMPTY and OPEN there is nothing to judge; then what is said of the labels, and of the chart, is what the rules say
    pub bare_at : (g ≡ Empty) ⊎ (g ≡ Open) → passed ≡ rules_from_10 (reads s)
    unfolding held_sheet rules_from_10
    bare_at (inl w) = ap (λ (t : Stage). rules_from_10 (held_sheet t s)) (sym w) ∙ from_10_at
    bare_at (inr w) = ap (λ (t : Stage). rules_from_10 (held_sheet t s)) (sym w) ∙ from_10_at

    pub labelled_at : {o : Outcome (Unit {0})} → o ≡ label_rules (held_plan s) (held_labels s) → g ≡ Labelled → o ≡ rules_from_10 (reads s)
    unfolding held_sheet rules_from_10
    labelled_at q w = q ∙ ap (λ (t : Stage). rules_from_10 (held_sheet t s)) (sym w) ∙ from_10_at

    pub charted_at : {o : Outcome (Unit {0})} → o ≡ rules_from_10 (file.charted (held_plan s) (held_labels s) (held_chart s)) → g ≡ Charted → o ≡ rules_from_10 (reads s)
    unfolding held_sheet
    charted_at q w = q ∙ ap (λ (t : Stage). rules_from_10 (held_sheet t s)) (sym w) ∙ from_10_at

    -- past EMPTY the plan fits
    pub fits-at : 1 ≤ rank g → fits s ≡ true
    fits-at h = let k = ap rank e in fits_there s (omega arith)

    -- a fresh sheet keeps 8 to 12
    pub none-from_8 : rank g < 1 → passed ≡ rules_from_8 (reads s)
    unfolding rank held_sheet flat_of rules_from_10 rules_from_8
    none-from_8 h = go g h ∙ ap (λ (t : Stage). rules_from_8 (held_sheet t s)) e ∙ ap rules_from_8 (sym (reads-stage s))
      where
        go : (t : Stage) → rank t < 1 → passed ≡ rules_from_8 (held_sheet t s)
        go Empty h = refl
        go Open h = absurd (omega arith)
        go Labelled h = absurd (omega arith)
        go Charted h = absurd (omega arith)

    -- 8 and 9 of the plan that is held
    pub flat_there : 1 ≤ rank g → flat_rules s.n (held_plan s) ≡ flat_of (reads s)
    unfolding rank held_sheet flat_of
    flat_there h = ap (λ (n : ℕ). flat_rules n (held_plan s)) (sym (count_held s)) ∙ go g h ∙ ap (λ (t : Stage). flat_of (held_sheet t s)) e ∙ ap flat_of (sym (reads-stage s))
      where
        go : (t : Stage) → 1 ≤ rank t → flat_rules (context_count (held_plan s)) (held_plan s) ≡ flat_of (held_sheet t s)
        go Empty h = absurd (omega arith)
        go Open h = refl
        go Labelled h = refl
        go Charted h = refl

-- for the functions that judge one part of the rules and then another
pub ruleset parts = (first-refused, first-passed)

pub ruleset flat_parts = (first-refused, first-passed, rings-held)

pub ruleset from_8_parts = (first-refused, first-passed, none-from_8, flat_there, below, ltb-true, ltb-false)

pub ruleset from_10_parts = (none-from_10, bare_at, labelled_at, charted_at, fits-at, below, ltb-true)
