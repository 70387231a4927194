-- What the sweep answers: the refusal of its steps, that of the label rules, or its labels.
use Prim.Native.Nat.{ℕ, ◌-◌}
use mathlib.Core.Path.{◌≡◌, refl, sym, ap, ◌∙◌}
use mathlib.Core.List.{List}
use lib.ListN.{length}
use lib.Dec.{leb}
use Rattle.lists.specs.Spans.{zeros, zero_padded}
use Rattle.model.specs.Outcome.{Outcome, accepted, refused, mapped, ◌>>=◌, ◌>>◌, require}
use Rattle.model.specs.Plan.{Plan, context_count, entry_count}
use Rattle.model.specs.Labels.{label_rules}
use Rattle.model.specs.Sweep.{first_state, sweep}
use Rattle.model.proofs.LabelCounts.{first_long, from_long}
use Rattle.model.proofs.Outcomes.{bind_at, bind_off, mapped_off, mapped_accepted, mapped_refused}
use Rattle.labels.proofs.Darts.{rules_behind}
use Rattle.sweep_labelling.specs.Labelling.{swept}

module _ (p : Plan) where
  -- labels, after the rules
  tested : List ℕ → Outcome (List ℕ)
  tested ls = label_rules p ls >> accepted ls

  -- the sweep is its steps, and then the rules
  steps_then : sweep p ≡ (swept p >>= tested)
  unfolding sweep swept tested
  steps_then = refl

  -- the steps are refused: so is the sweep
  pub answer_refused : {k at : ℕ} → refused k at ≡ mapped (zero_padded 1186) (swept p) → refused k at ≡ mapped (zero_padded 1186) (sweep p)
  answer_refused {k} {at} e = sym (mapped_off (zero_padded 1186) (sweep p) k at (steps_then ∙ bind_off (swept p) k at tested (mapped_refused (zero_padded 1186) (swept p) k at (sym e))))

  -- the labels of the steps: one for each entry
  steps_long : (ls : List ℕ) → swept p ≡ accepted ls → length ls ≡ entry_count p
  unfolding swept
  steps_long ls e = from_long p (context_count p) (first_state p) (first_long p) ls e

  -- the rules on an array in which zeros stand after them are those on the labels
  rules_padded : (ls : List ℕ) → swept p ≡ accepted ls → label_rules p (zero_padded 1186 ls) ≡ label_rules p ls
  unfolding label_rules zero_padded
  rules_padded ls z = ap (λ (u : ℕ). require (leb (context_count p) u) 10 u) (rules_behind p ls (zeros (1186 - length ls)) (steps_long ls z) (context_count p))

  -- the rules first, then the labels in their array
  then_mapped : (o : Outcome (Unit {0})) (ls : List ℕ) → mapped (zero_padded 1186) (o >> accepted ls) ≡ (o >> accepted (zero_padded 1186 ls))
  then_mapped (accepted tt) ls = refl
  then_mapped (refused k at) ls = refl

  -- the steps give labels: by the rules on their array the sweep answers
  pub answer_tested : {l : List ℕ} {judged : Outcome (Unit {0})} → accepted l ≡ mapped (zero_padded 1186) (swept p) → judged ≡ label_rules p l → (judged >> accepted l) ≡ mapped (zero_padded 1186) (sweep p)
  unfolding tested
  answer_tested {l} {judged} e ten = go (mapped_accepted (zero_padded 1186) (swept p) l (sym e))
    where
      go : (ls : List ℕ) × (swept p ≡ accepted ls) × (zero_padded 1186 ls ≡ l) → (judged >> accepted l) ≡ mapped (zero_padded 1186) (sweep p)
      go (ls, z, y) =
          let kept : judged ≡ label_rules p ls = ten ∙ ap (label_rules p) (sym y) ∙ rules_padded ls z in
          ap (λ (m : List ℕ). judged >> accepted m) (sym y)
          ∙ sym (then_mapped judged ls)
          ∙ ap (λ (o : Outcome (Unit {0})). mapped (zero_padded 1186) (o >> accepted ls)) kept
          ∙ ap (mapped (zero_padded 1186)) (sym (steps_then ∙ bind_at (swept p) ls tested z))
