-- After every list of calls plan and labels keep their rules, and a chart that stands is their chart; it stands exactly if the last accepted call draws one.
use Prim.Native.Nat.{ℕ}
use mathlib.Core.Path.{◌≡◌, refl, sym, ap, ◌∙◌, subst}
use mathlib.Core.List.{List, [], ◌∷◌}
use mathlib.Core.Bool.{Bool, true, false, ◌&&◌}
use lib.ListN.{length}
use lib.Dec.{eqb}
use borrow.Author.Tests.{eqb-true, eq-eqb}
use Rattle.std.specs.Prelude.{Option, Some, is_some}
use Rattle.lists.specs.Tests.{same_list}
use Rattle.lists.specs.Parts.{pairs}
use Rattle.lists.proofs.Bools.{and_yes, yes_and}
use Rattle.lists.proofs.Tests.{same-eq, same_refl}
use Rattle.model.specs.Outcome.{Outcome, accepted, refused, passed, ◌>>=◌, ◌>>◌, require, taken}
use Rattle.model.specs.Plan.{Plan, context_count, dart_count, plan_rules}
use Rattle.model.specs.Labels.{label_rules}
use Rattle.model.specs.Chart.{Chart, chart, same_chart}
use Rattle.model.specs.Sweep.{sweep, sweep_from, first_state}
use Rattle.model.specs.Turn.{turn, turned_edges, quarters}
use Rattle.model.specs.File.{Sheet, fresh, opened, labelled, charted}
use Rattle.model.specs.Calls.{require_plan, require_labels, judge, offered, offer_call, sweep_call, turn_call, chart_call}
use Rattle.model.specs.CallLists.{Call, open_file, offer_labels, sweep-labels, turn_edges, draw_chart, call, run, Ledger, plan_and_labels, enter, standing}
use Rattle.model.proofs.Outcomes.{same-value, not-both, bind_at, bind_accepted, then_accepted, passed_then, require-passed}
use Rattle.model.proofs.RingPart.{open_accepted}
use Rattle.model.proofs.LabelCounts.{turn-accepted}
use Rattle.guarantee.specs.Verdicts.{newer, last_accepted, draws}
use Rattle.guarantee.proofs.Records.{opened_holds}
use Rattle.guarantee.proofs.Agreement.{entered, agrees}

-- What a sheet holds keeps its rules
abbrev pub Kept : Sheet → Type 0
Kept fresh = Unit {0}
Kept (opened p) = plan_rules p ≡ passed
Kept (labelled p ls) = (plan_rules p ≡ passed) × (label_rules p ls ≡ passed)
Kept (charted p ls c) = (plan_rules p ≡ passed) × (label_rules p ls ≡ passed) × (chart p ls ≡ accepted c)

pub plan-kept : (s : Sheet) → Kept s → (p : Plan) → require_plan s ≡ accepted p → plan_rules p ≡ passed
unfolding require_plan
plan-kept fresh h p e = not-both e
plan-kept (opened q) h p e = subst (λ (r : Plan). plan_rules r ≡ passed) (same-value e) h
plan-kept (labelled q ls) h p e = subst (λ (r : Plan). plan_rules r ≡ passed) (same-value e) h.0
plan-kept (charted q ls c) h p e = subst (λ (r : Plan). plan_rules r ≡ passed) (same-value e) h.0

abbrev BothKept : Plan × List ℕ → Type 0
BothKept a = (plan_rules a.0 ≡ passed) × (label_rules a.0 a.1 ≡ passed)

pub labels-kept : (s : Sheet) → Kept s → (a : Plan × List ℕ) → require_labels s ≡ accepted a → BothKept a
unfolding require_labels
labels-kept fresh h a e = not-both e
labels-kept (opened p) h a e = not-both e
labels-kept (labelled p ls) h a e = subst BothKept (same-value e) h
labels-kept (charted p ls c) h a e = subst BothKept (same-value e) (h.0, h.1)

-- labels that were tested and handed on
tested : (p : Plan) (ls ms : List ℕ) → (label_rules p ls >> accepted ls) ≡ accepted ms → label_rules p ms ≡ passed
tested p ls ms e = let (g, q) = then_accepted (label_rules p ls) (accepted ls) ms e in subst (λ (l : List ℕ). label_rules p l ≡ passed) (same-value q) g

offered-kept : (p : Plan) (ls ms : List ℕ) → offered p ls ≡ accepted ms → label_rules p ms ≡ passed
unfolding offered
offered-kept p ls ms e = tested p ls ms (then_accepted (require (eqb (length ls) (dart_count (context_count p))) 2 0) _ ms e).1

swept_kept : (p : Plan) (ms : List ℕ) → sweep p ≡ accepted ms → label_rules p ms ≡ passed
unfolding sweep
swept_kept p ms e = let (ls, _, r) = bind_accepted (sweep_from p (context_count p) (first_state p)) _ ms e in tested p ls ms r

turned-kept : (p : Plan) (ls items : List ℕ) (d : ℕ) (ms : List ℕ) → turn p ls items d ≡ accepted ms → label_rules p ms ≡ passed
turned-kept p ls items d ms e = tested p (turned_edges p (quarters d) (pairs items) ls) ms (turn-accepted p ls items d ms e)

same-chart : (c d : Chart) → same_chart c d ≡ true → c ≡ d
unfolding same_chart
same-chart c d e =
    let (e₁, ys) = and_yes (eqb c.w d.w && eqb c.h d.h && same_list c.xs d.xs) (same_list c.ys d.ys) e in
    let (e₂, xs) = and_yes (eqb c.w d.w && eqb c.h d.h) (same_list c.xs d.xs) e₁ in
    let (w, h) = and_yes (eqb c.w d.w) (eqb c.h d.h) e₂ in
    λ i. record { w = eqb-true c.w d.w w i; h = eqb-true c.h d.h h i; xs = same-eq c.xs d.xs xs i; ys = same-eq c.ys d.ys ys i }

-- a chart is itself
chart_itself : (c : Chart) → same_chart c c ≡ true
unfolding same_chart
chart_itself c =
    yes_and (eqb c.w c.w && eqb c.h c.h && same_list c.xs c.xs) (same_list c.ys c.ys)
    (yes_and (eqb c.w c.w && eqb c.h c.h) (same_list c.xs c.xs) (yes_and (eqb c.w c.w) (eqb c.h c.h) (eq-eqb c.w c.w refl) (eq-eqb c.h c.h refl)) (same_refl c.xs))
    (same_refl c.ys)

judged_kept : (s : Sheet) → judge s ≡ passed → Kept s
unfolding judge
judged_kept fresh j = tt
judged_kept (opened p) j = j
judged_kept (labelled p ls) j = then_accepted (plan_rules p) (label_rules p ls) tt j
judged_kept (charted p ls c) j =
    let (r, k) = then_accepted (plan_rules p >> label_rules p ls) _ tt j in
    let (a, b) = then_accepted (plan_rules p) (label_rules p ls) tt r in
    let (d, e, t) = bind_accepted (chart p ls) _ tt k in
    (a, b, e ∙ ap accepted (sym (same-chart c d (require-passed (same_chart c d) 12 0 t))))

-- and what keeps the rules passes as an opened file must
pub kept_judged : (s : Sheet) → Kept s → judge s ≡ passed
unfolding judge
kept_judged fresh h = refl
kept_judged (opened p) h = h
kept_judged (labelled p ls) h = passed_then (plan_rules p) (label_rules p ls) h.0 h.1
kept_judged (charted p ls c) h =
    let drawn = bind_at (chart p ls) c (λ (x : Chart). require (same_chart c x) 12 0) h.2 ∙ ap (λ (t : Bool). require t 12 0) (chart_itself c) in
    passed_then (plan_rules p >> label_rules p ls) (chart p ls >>= λ (x : Chart). require (same_chart c x) 12 0) (passed_then (plan_rules p) (label_rules p ls) h.0 h.1) drawn

-- ---- what an accepted call leaves: it keeps the rules, and it has a chart exactly if the call draws one
pub record After (c : Call) (t : Sheet) : Type 0 where
  pub kept : Kept t
  pub drawn : is_some (standing t) ≡ draws (Some c)

after-labels : {A : Type 0} (c : Call) (o : Outcome A) (plan : A → Plan) (f : A → Outcome (List ℕ)) (t : Sheet) → draws (Some c) ≡ false
    → ((a : A) → o ≡ accepted a → plan_rules (plan a) ≡ passed) → ((a : A) (ms : List ℕ) → f a ≡ accepted ms → label_rules (plan a) ms ≡ passed)
    → (o >>= λ a. f a >>= λ ms. accepted (labelled (plan a) ms)) ≡ accepted t → After c t
unfolding standing
after-labels c o plan f t undrawn plans labels e =
    let (a, e₁, r) = bind_accepted o _ t e in
    let (ms, e₂, q) = bind_accepted (f a) _ t r in
    subst (After c) (same-value q) (record { kept = (plans a e₁, labels a ms e₂); drawn = sym undrawn })

after-chart : (s t : Sheet) → Kept s → chart_call s ≡ accepted t → After draw_chart t
unfolding chart_call standing draws
after-chart s t h e =
    let (a, e₁, r) = bind_accepted (require_labels s) _ t e in
    let (c, e₂, q) = bind_accepted (chart a.0 a.1) _ t r in
    let (k, l) = labels-kept s h a e₁ in
    subst (After draw_chart) (same-value q) (record { kept = (k, l, e₂); drawn = refl })

pub leaves : (s t : Sheet) (c : Call) → Kept s → call s c ≡ accepted t → After c t
unfolding call offer_call sweep_call turn_call draws
leaves s t (open_file b) h e = record { kept = judged_kept t (open_accepted b t e).1; drawn = opened_holds b t e }
leaves s t (offer_labels ls) h e = after-labels (offer_labels ls) (require_plan s) (λ p. p) (λ p. offered p ls) t refl (plan-kept s h) (λ p. offered-kept p ls) e
leaves s t sweep-labels h e = after-labels sweep-labels (require_plan s) (λ p. p) sweep t refl (plan-kept s h) swept_kept e
leaves s t (turn_edges items d) h e = after-labels (turn_edges items d) (require_labels s) (λ a. a.0) (λ a. turn a.0 a.1 items d) t refl (λ a q. (labels-kept s h a q).0) (λ a. turned-kept a.0 a.1 items d) e
leaves s t draw_chart h e = after-chart s t h e

-- After a list of calls the rules are kept
pub run-kept : (cs : List Call) (s : Sheet) → Kept s → Kept (run s cs)
unfolding run taken
run-kept [] s h = h
run-kept (c ∷ cs) s h = run-kept cs (taken s (call s c)) (go (call s c) refl)
  where
    go : (o : Outcome Sheet) → call s c ≡ o → Kept (taken s o)
    go (accepted t) e = (leaves s t c h e).kept
    go (refused k at) e = h

-- and a chart stands exactly if the last accepted call draws one
pub stands_after : (cs : List Call) (s : Sheet) (last : Option Call) → Kept s → is_some (standing s) ≡ draws last → is_some (standing (run s cs)) ≡ draws (last_accepted last (plan_and_labels s) cs)
unfolding run last_accepted taken newer
stands_after [] s last h q = q
stands_after (c ∷ cs) s last h q = go (call s c) refl (stands_after cs)
  where
    go : (o : Outcome Sheet) → call s c ≡ o → ((t : Sheet) (l : Option Call) → Kept t → is_some (standing t) ≡ draws l → is_some (standing (run t cs)) ≡ draws (last_accepted l (plan_and_labels t) cs))
        → is_some (standing (run (taken s o) cs)) ≡ draws (last_accepted (newer (enter (plan_and_labels s) c) c last) (taken (plan_and_labels s) (enter (plan_and_labels s) c)) cs)
    go (accepted t) e later =
        let l = leaves s t c h e in
        later t (Some c) l.kept l.drawn
        ∙ ap (λ (o : Outcome Ledger). draws (last_accepted (newer o c last) (taken (plan_and_labels s) o) cs)) (sym (agrees s c ∙ ap entered e))
    go (refused k at) e later =
        later s last h q
        ∙ ap (λ (o : Outcome Ledger). draws (last_accepted (newer o c last) (taken (plan_and_labels s) o) cs)) (sym (agrees s c ∙ ap entered e))
