-- After every list of calls what the sheet holds is as large as it should be: so it fits the struct, and it fits a file.
use Prim.Native.Nat.{ℕ}
use mathlib.Core.Path.{◌≡◌, sym, ap, ◌∙◌, subst}
use mathlib.Core.List.{List}
use lib.ListN.{length}
use lib.Dec.{eqb}
use borrow.Author.Tests.{eqb-true}
use Rattle.model.specs.Outcome.{Outcome, accepted, passed, ◌>>=◌, require}
use Rattle.model.specs.Plan.{Plan, context_count, dart_count, plan_rules}
use Rattle.model.specs.Labels.{label_rules}
use Rattle.model.specs.Chart.{chart, slope}
use Rattle.model.specs.Sweep.{sweep}
use Rattle.model.specs.Turn.{turn}
use Rattle.model.specs.File.{Sheet, fresh, opened, labelled, charted}
use Rattle.model.specs.Calls.{require_plan, require_labels, offered, offer_call, sweep_call, turn_call, chart_call}
use Rattle.model.specs.CallLists.{Call, open_file, offer_labels, sweep-labels, turn_edges, draw_chart, call}
use Rattle.model.proofs.Outcomes.{same-value, not-both, bind_accepted, then_accepted, require-passed}
use Rattle.model.proofs.PlanRules.{sound}
use Rattle.model.proofs.Placements.{placed, chart-is}
use Rattle.model.proofs.RingPart.{open_accepted}
use Rattle.model.proofs.FileWrite.{PlanFits, LabelsFit, ChartFits, Fits}
use Rattle.model.proofs.FileRead.{read_fits}
use Rattle.model.proofs.LabelCounts.{sweep_long, turn_long}
use Rattle.sheet.proofs.Packed.{Held}
use Rattle.sheet.proofs.RoundTrips.{plan-held}
use Rattle.guarantee.proofs.Kept.{Kept, plan-kept, leaves}

-- As large as it should be: a plan that fits a file, a label for each dart, a point for each context
abbrev pub Sized : Sheet → Type 0
Sized fresh = Unit {0}
Sized (opened p) = PlanFits p
Sized (labelled p ls) = PlanFits p × LabelsFit p ls
Sized (charted p ls c) = PlanFits p × LabelsFit p ls × ChartFits p c

fits_sized : (s : Sheet) → Fits s → Sized s
fits_sized fresh f = tt
fits_sized (opened p) f = f
fits_sized (labelled p ls) f = f
fits_sized (charted p ls c) f = f

plan_sized : (s : Sheet) → Sized s → (p : Plan) → require_plan s ≡ accepted p → PlanFits p
unfolding require_plan
plan_sized fresh h p e = not-both e
plan_sized (opened q) h p e = subst PlanFits (same-value e) h
plan_sized (labelled q ls) h p e = subst PlanFits (same-value e) h.0
plan_sized (charted q ls c) h p e = subst PlanFits (same-value e) h.0

abbrev BothSized : Plan × List ℕ → Type 0
BothSized a = PlanFits a.0 × LabelsFit a.0 a.1

labels_sized : (s : Sheet) → Sized s → (a : Plan × List ℕ) → require_labels s ≡ accepted a → BothSized a
unfolding require_labels
labels_sized fresh h a e = not-both e
labels_sized (opened p) h a e = not-both e
labels_sized (labelled p ls) h a e = subst BothSized (same-value e) h
labels_sized (charted p ls c) h a e = subst BothSized (same-value e) (h.0, h.1)

-- ---- the labels of each call
offered_sized : (p : Plan) (ls ms : List ℕ) → offered p ls ≡ accepted ms → LabelsFit p ms
unfolding offered
offered_sized p ls ms e =
    let (a, r) = then_accepted (require (eqb (length ls) (dart_count (context_count p))) 2 0) _ ms e in
    let (_, q) = then_accepted (label_rules p ls) (accepted ls) ms r in
    ap length (sym (same-value q)) ∙ eqb-true (length ls) (dart_count (context_count p)) (require-passed (eqb (length ls) (dart_count (context_count p))) 2 0 a)

swept_sized : (p : Plan) (ms : List ℕ) → plan_rules p ≡ passed → sweep p ≡ accepted ms → LabelsFit p ms
swept_sized p ms k e = sweep_long p ms e ∙ (sound p k).total

-- ---- what an accepted call leaves: a sheet that fits into a file, which a fresh one does not
after-labels : {A : Type 0} (o : Outcome A) (plan : A → Plan) (f : A → Outcome (List ℕ)) (t : Sheet) → ((a : A) → o ≡ accepted a → PlanFits (plan a)) → ((a : A) (ms : List ℕ) → o ≡ accepted a → f a ≡ accepted ms → LabelsFit (plan a) ms)
    → (o >>= λ a. f a >>= λ ms. accepted (labelled (plan a) ms)) ≡ accepted t → Fits t
after-labels o plan f t plans labels e =
    let (a, e₁, r) = bind_accepted o _ t e in
    let (ms, e₂, q) = bind_accepted (f a) _ t r in
    subst Fits (same-value q) (plans a e₁, labels a ms e₁ e₂)

after-chart : (s t : Sheet) → Sized s → chart_call s ≡ accepted t → Fits t
unfolding chart_call chart
after-chart s t h e =
    let (a, e₁, r) = bind_accepted (require_labels s) _ t e in
    let (c, e₂, q) = bind_accepted (chart a.0 a.1) _ t r in
    let (k, l) = labels_sized s h a e₁ in
    let is = placed slope a.0 a.1 c (chart-is slope a.0 a.1 c e₂).keeps in
    subst Fits (same-value q) (k, l, record { xs_each = is.count_x; ys_each = is.count_y })

pub leaves_fits : (s t : Sheet) (c : Call) → Kept s → Sized s → call s c ≡ accepted t → Fits t
unfolding call offer_call sweep_call turn_call
leaves_fits s t (open_file b) k h e = read_fits b t (open_accepted b t e).0
leaves_fits s t (offer_labels ls) k h e = after-labels (require_plan s) (λ p. p) (λ p. offered p ls) t (plan_sized s h) (λ p ms a. offered_sized p ls ms) e
leaves_fits s t sweep-labels k h e = after-labels (require_plan s) (λ p. p) sweep t (plan_sized s h) (λ p ms a. swept_sized p ms (plan-kept s k p a)) e
leaves_fits s t (turn_edges items d) k h e = after-labels (require_labels s) (λ a. a.0) (λ a. turn a.0 a.1 items d) t (λ a q. (labels_sized s h a q).0) (λ a ms q f. turn_long a.0 a.1 items d ms f ∙ (labels_sized s h a q).1) e
leaves_fits s t draw_chart k h e = after-chart s t h e

-- ---- what keeps the rules and is as large as it should be fits the struct
pub held_sized : (s : Sheet) → Kept s → Sized s → Held s
held_sized fresh k h = tt
held_sized (opened p) k h = plan-held p h k
held_sized (labelled p ls) k h = (plan-held p h.0 k.0, h.1 ∙ sym (sound p k.0).total)
held_sized (charted p ls c) k h = (plan-held p h.0 k.0, h.1 ∙ sym (sound p k.0).total, record { xs_each = h.2.xs_each; ys_each = h.2.ys_each })

-- what an accepted call leaves on a good sheet is good
pub record Good (s : Sheet) : Type 0 where
  pub kept : Kept s
  pub sized : Sized s

pub fresh_good : Good fresh
fresh_good = record { kept = tt; sized = tt }

pub leaves_good : (s t : Sheet) (c : Call) → Good s → call s c ≡ accepted t → Good t
leaves_good s t c g e = record { kept = (leaves s t c g.kept e).kept; sized = fits_sized t (leaves_fits s t c g.kept g.sized e) }
