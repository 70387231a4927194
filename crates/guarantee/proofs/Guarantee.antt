-- Demand 3 holds of every list of calls.
use Prim.Native.Nat.{ℕ}
use mathlib.Core.Path.{◌≡◌, refl, sym, ap, subst, ◌∙◌}
use mathlib.Core.List.{List}
use Rattle.std.specs.Prelude.{Some, None, is_some}
use Rattle.std.proofs.lemmas.Option.{none-some, same_Some}
use Rattle.model.specs.Outcome.{accepted, passed}
use Rattle.model.specs.Plan.{Plan, plan_rules}
use Rattle.model.specs.Labels.{label_rules}
use Rattle.model.specs.Chart.{Chart, slope, chart}
use Rattle.model.specs.File.{Sheet, fresh, opened, labelled, charted}
use Rattle.model.specs.CallLists.{Call, run, standing, plan_and_labels, Ledger, neither, both, ledger}
use Rattle.sheet.specs.Sheets.{packed}
use Rattle.model.proofs.PlanRules.{sound}
use Rattle.model.proofs.LabelRules.{labels_exactly}
use Rattle.model.proofs.Placements.{placed, chart-is}
use Rattle.guarantee.specs.Verdicts.{draws}
use Rattle.guarantee.specs.Guarantee.{Owed, Guarantee}
use Rattle.plan_theory.proofs.Drawing.{placement_draws}
use Rattle.guarantee.proofs.Agreement.{ledger_follows, same-answers}
use Rattle.guarantee.proofs.Kept.{Kept, run-kept, stands_after}
use Rattle.guarantee.proofs.Sized.{fresh_good}
use Rattle.guarantee.proofs.Struct.{sheet_after-reads, sheet_after-packed, answers_of_same}

-- what is owed of a chart that was drawn for a plan and labels that keep the rules
owed : (p : Plan) (ls : List ℕ) (c : Chart) → plan_rules p ≡ passed → label_rules p ls ≡ passed → chart p ls ≡ accepted c → Owed p ls c
unfolding chart
owed p ls c rules labels e =
    let least = chart-is slope p ls c e in
    record { least = least; drawn = placement_draws p (sound p rules) ls ((labels_exactly p ls).0 labels) slope c (placed slope p ls c least.keeps) }

-- the chart of a sheet that keeps the rules
stored : (s : Sheet) → Kept s → (g : Ledger) → plan_and_labels s ≡ g → (c : Chart) → standing s ≡ Some c → (p : Plan) × (ls : List ℕ) × (g ≡ both p ls) × Owed p ls c
unfolding standing plan_and_labels
stored fresh h g e c q = absurd (none-some c q)
stored (opened p) h g e c q = absurd (none-some c q)
stored (labelled p ls) h g e c q = absurd (none-some c q)
stored (charted p ls d) h g e c q = (p, ls, sym e, subst (Owed p ls) (same_Some d c q) (owed p ls d h.0 h.1 h.2))

-- DEMAND 3
pub guarantee : (calls : List Call) → Guarantee calls
unfolding plan_and_labels standing draws
guarantee calls =
    let same = sheet_after-reads calls in
    record {
      same_verdicts = answers_of_same calls fresh fresh_good ∙ same-answers calls fresh;
      same_ledger = ap plan_and_labels same ∙ ledger_follows calls fresh;
      stands_exactly = ap (λ (s : Sheet). is_some (standing s)) same ∙ stands_after calls fresh None tt refl;
      such_chart = λ c e. stored (run fresh calls) (run-kept calls fresh tt) (ledger neither calls) (ledger_follows calls fresh) c (ap standing (sym same) ∙ e);
      nothing_else = sheet_after-packed calls fresh fresh_good ∙ ap packed (sym same);
    }
