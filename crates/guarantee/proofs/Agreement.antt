-- The ledger follows the sheet: every call is answered as the ledger judges it, and the sheet's plan and labels are the ledger's.
use Prim.Native.Nat.{ℕ}
use mathlib.Core.Path.{◌≡◌, refl, sym, ap, ap₂, ◌∙◌}
use mathlib.Core.List.{List, [], ◌∷◌}
use Rattle.model.specs.Outcome.{Outcome, accepted, refused, ◌>>=◌, ◌>>◌, mapped, taken}
use Rattle.model.specs.Plan.{Plan}
use Rattle.model.specs.Chart.{Chart, chart}
use Rattle.model.specs.Sweep.{sweep}
use Rattle.model.specs.Turn.{turn}
use Rattle.model.specs.File.{Sheet, fresh, opened, labelled, charted}
use Rattle.model.specs.Calls.{require_plan, require_labels, offered, offer_call, sweep_call, turn_call, chart_call}
use Rattle.model.specs.CallLists.{Call, open_file, offer_labels, sweep-labels, turn_edges, draw_chart, call, run, Ledger, both, ledger_plan, ledger_labels, plan_and_labels, enter, ledger}
use Rattle.sheet.specs.Answers.{answer_of}
use Rattle.guarantee.specs.Verdicts.{judgements}

-- what the ledger enters for what a call leaves
abbrev pub entered : Outcome Sheet → Outcome Ledger
entered o = mapped plan_and_labels o

-- both stand at the same stage, as far as plan and labels go
plan-same : (s : Sheet) → ledger_plan (plan_and_labels s) ≡ require_plan s
unfolding ledger_plan plan_and_labels require_plan
plan-same fresh = refl
plan-same (opened p) = refl
plan-same (labelled p ls) = refl
plan-same (charted p ls c) = refl

labels-same : (s : Sheet) → ledger_labels (plan_and_labels s) ≡ require_labels s
unfolding ledger_labels plan_and_labels require_labels
labels-same fresh = refl
labels-same (opened p) = refl
labels-same (labelled p ls) = refl
labels-same (charted p ls c) = refl

-- a call that leaves new labels
relabelled : {A : Type 0} (o : Outcome A) (plan : A → Plan) (f : A → Outcome (List ℕ))
    → (o >>= λ a. f a >>= λ ms. accepted (both (plan a) ms)) ≡ entered (o >>= λ a. f a >>= λ ms. accepted (labelled (plan a) ms))
unfolding plan_and_labels
relabelled (accepted a) plan f = go (f a)
  where
    go : (r : Outcome (List ℕ)) → (r >>= λ ms. accepted (both (plan a) ms)) ≡ entered (r >>= λ ms. accepted (labelled (plan a) ms))
    go (accepted ms) = refl
    go (refused k at) = refl
relabelled (refused k at) plan f = refl

-- a call that leaves a chart
charts : (p : Plan) (ls : List ℕ) (o : Outcome Chart) → (o >> accepted (both p ls)) ≡ entered (o >>= λ c. accepted (charted p ls c))
unfolding plan_and_labels
charts p ls (accepted c) = refl
charts p ls (refused k at) = refl

recharted : (s : Sheet) → enter (plan_and_labels s) draw_chart ≡ entered (call s draw_chart)
unfolding enter call chart_call ledger_labels require_labels plan_and_labels
recharted fresh = refl
recharted (opened p) = refl
recharted (labelled p ls) = charts p ls (chart p ls)
recharted (charted p ls c) = charts p ls (chart p ls)

-- A call is accepted on the sheet exactly when it is by the ledger, with the same refusal, and leaves what the ledger enters
pub agrees : (s : Sheet) (c : Call) → enter (plan_and_labels s) c ≡ entered (call s c)
unfolding enter call offer_call sweep_call turn_call
agrees s (open_file b) = refl
agrees s (offer_labels ls) = ap (λ (o : Outcome Plan). o >>= λ p. offered p ls >>= λ ms. accepted (both p ms)) (plan-same s) ∙ relabelled (require_plan s) (λ p. p) (λ p. offered p ls)
agrees s sweep-labels = ap (λ (o : Outcome Plan). o >>= λ p. sweep p >>= λ ms. accepted (both p ms)) (plan-same s) ∙ relabelled (require_plan s) (λ p. p) sweep
agrees s (turn_edges items d) =
    ap (λ (o : Outcome (Plan × List ℕ)). o >>= λ a. turn a.0 a.1 items d >>= λ ms. accepted (both a.0 ms)) (labels-same s)
    ∙ relabelled (require_labels s) (λ a. a.0) (λ a. turn a.0 a.1 items d)
agrees s draw_chart = recharted s

taken-same : (s : Sheet) (o : Outcome Sheet) → plan_and_labels (taken s o) ≡ taken (plan_and_labels s) (entered o)
unfolding taken
taken-same s (accepted t) = refl
taken-same s (refused k at) = refl

-- After one call
pub follows : (s : Sheet) (c : Call) → plan_and_labels (taken s (call s c)) ≡ taken (plan_and_labels s) (enter (plan_and_labels s) c)
follows s c = taken-same s (call s c) ∙ ap (taken (plan_and_labels s)) (sym (agrees s c))

-- After a list of calls the sheet's plan and labels are the ledger's
pub ledger_follows : (cs : List Call) (s : Sheet) → plan_and_labels (run s cs) ≡ ledger (plan_and_labels s) cs
unfolding run ledger
ledger_follows [] s = refl
ledger_follows (c ∷ cs) s = ledger_follows cs (taken s (call s c)) ∙ ap (λ (g : Ledger). ledger g cs) (follows s c)

same-answer : (o : Outcome Sheet) → answer_of o ≡ answer_of (entered o)
unfolding answer_of
same-answer (accepted t) = refl
same-answer (refused k at) = refl

-- what is answered to each call, by the definitions
unfoldable pub answers : Sheet → List Call → List (Outcome (Unit {0}))
answers s [] = []
answers s (c ∷ cs) = answer_of (call s c) ∷ answers (taken s (call s c)) cs

-- and each was answered as the ledger judges it
pub same-answers : (cs : List Call) (s : Sheet) → answers s cs ≡ judgements (plan_and_labels s) cs
unfolding answers judgements
same-answers [] s = refl
same-answers (c ∷ cs) s =
    ap₂ (λ (a : Outcome (Unit {0})) (l : List (Outcome (Unit {0}))). a ∷ l)
    (same-answer (call s c) ∙ ap (λ (o : Outcome Ledger). answer_of o) (sym (agrees s c)))
    (same-answers cs (taken s (call s c)) ∙ ap (λ (g : Ledger). judgements g cs) (follows s c))
