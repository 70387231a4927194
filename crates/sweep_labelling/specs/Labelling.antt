-- The labels that the sweep puts, into an array of 1186: before its first step, at each step and at its end.
use Rattle.std.specs.Prelude.{ℕ, ◌+◌, ◌-◌, ◌≤◌, ◌≡◌, List, [], ◌∷◌, ◌++◌, map, cond, ◌&&◌, length}
use Rattle.lists.specs.Parts.{steps}
use Rattle.lists.specs.Spans.{span, zero_padded}
use Rattle.model.specs.Outcome.{Outcome}
use Rattle.model.specs.Plan.{Plan, context_count, ring, border, entry_count}
use Rattle.model.specs.Labels.{up, right, border_label, unlabelled}
use Rattle.model.specs.Sweep.{State, label_edges, all_pairs, bare_labels, first_state, sweep_from}

-- the labels of a step that puts the list l of q in place of positions i + 1 to j − 1
unfoldable pub step_labels : Plan → List ℕ → List ℕ → ℕ → ℕ → ℕ → List ℕ → List ℕ
step_labels p f l q i j ls = label_edges p right (steps (span f i (j + 1))) (label_edges p up (all_pairs (span l 0 q) (span f (i + 1) j)) ls)

-- the labels of a finished sweep
unfoldable pub finish_labels : Plan → List ℕ → ℕ → List ℕ → List ℕ
finish_labels p f m ls = label_edges p right (steps (span f 0 m)) (label_edges p up (all_pairs (2 ∷ []) (span f 1 (m - 1))) ls)

-- the labels that the sweep begins with
unfoldable pub first_labels : Plan → List ℕ → ℕ → List ℕ
first_labels p f m = label_edges p up (all_pairs (span f 1 (m - 1)) (0 ∷ [])) (zero_padded 1186 (bare_labels p))

-- ---- the labels before the sweep
-- the label of the dart from u to v before the sweep
unfoldable pub bare_label : ℕ → ℕ → ℕ
bare_label u v = cond (border u && border v) border_label unlabelled

-- the labels of u's ring put after k labels
pub record Adds (p : Plan) (k u : ℕ) (labels r : List ℕ) : Type 0 where
  pub same : (l : List ℕ) → labels ≡ zero_padded 1186 l → length l ≡ k → k + length (ring p u) ≤ 1186 → r ≡ zero_padded 1186 (l ++ map (bare_label u) (ring p u))

-- ---- the labels of the sweep on its way
-- the array holds the labels of a state, as many as the plan has entries
pub record Labelled (p : Plan) (s : State) (ls : List ℕ) : Type 0 where
  pub same : ls ≡ zero_padded 1186 s.labels
  pub size : length s.labels ≡ entry_count p

-- ---- the whole sweep
-- the sweep before the label rules are tested
unfoldable pub swept : Plan → Outcome (List ℕ)
swept p = sweep_from p (context_count p) (first_state p)
