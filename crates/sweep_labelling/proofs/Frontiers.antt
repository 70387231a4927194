-- The labels that are put into the array are those of the model's sweep.
use Prim.Native.Nat.{ℕ, zero, suc, ◌+◌, ◌-◌, ◌≤◌, ◌<◌}
use mathlib.Core.Path.{◌≡◌, refl, sym, ap, ◌∙◌}
use mathlib.Core.List.{List, [], ◌∷◌, ◌++◌}
use native.Mathlib.Omega.{arith}
use lib.ListN.{length, take, drop, length-append, drop_of_length-le, length-take}
use lib.Seq.{slice, take-nil}
use Rattle.lists.specs.Parts.{steps}
use Rattle.lists.specs.Spans.{stretch, span, zero_padded}
use Rattle.model.specs.Plan.{Plan, north, east, south, west}
use Rattle.model.specs.Labels.{up, right}
use Rattle.model.specs.Sweep.{State, label_edges, all_pairs, top, bare_labels, first_state, listed, finish, advance}
use Rattle.model.proofs.LabelCounts.{edges_long, bare_long}
use Rattle.sweep_frontier.proofs.Holding.{stretch_part, stretch-all}
use Rattle.sweep_labelling.specs.Labelling.{first_labels, step_labels, finish_labels, Labelled}
use Rattle.sweep_labelling.proofs.Arrays.{edges_padded}

-- ---- a part of the frontier, in the array that holds it
-- a part of a list, by what is taken first or dropped first
part_drop : (a k : ℕ) (f : List ℕ) → take k (drop a f) ≡ drop a (take (a + k) f)
part_drop zero k f = let z : 0 + k ≡ k = omega arith in ap (λ (n : ℕ). take n f) (sym z)
part_drop (suc a) k [] = take-nil k ∙ sym (ap (λ (n : ℕ). drop (suc a) (take n [])) (let z : suc a + k ≡ suc (a + k) = omega arith in z))
part_drop (suc a) k (x ∷ f) = let z : suc a + k ≡ suc (a + k) = omega arith in part_drop a k f ∙ ap (λ (n : ℕ). drop (suc a) (take n (x ∷ f))) (sym z)

-- a part of the array that holds the frontier
pub span_slice : (f : List ℕ) (a e : ℕ) → a ≤ e → e ≤ length f → span (zero_padded 512 f) a e ≡ slice a e f
span_slice f a e h k = let z : a + (e - a) ≡ e = omega arith in stretch_part f a (e - a) (omega arith) ∙ part_drop a (e - a) f ∙ ap (λ (n : ℕ). drop a (take n f)) z

-- nothing lies between the ends of a short frontier
span-short : (f : List ℕ) (e : ℕ) → e ≤ 1 → span (zero_padded 512 f) 1 e ≡ slice 1 e f
unfolding stretch
span-short f e h = let z : e - 1 ≡ 0 = omega arith in ap (stretch (zero_padded 512 f) 1) z ∙ sym (drop_of_length-le (take e f) {i = 1} (let s = length-take e f in omega arith))

-- what is between the ends of the frontier
span_inner : (f : List ℕ) → span (zero_padded 512 f) 1 (length f - 1) ≡ slice 1 (length f - 1) f
span_inner f = go (length f) refl
  where
    go : (m : ℕ) → length f ≡ m → span (zero_padded 512 f) 1 (m - 1) ≡ slice 1 (m - 1) f
    go zero e = span-short f (0 - 1) (omega arith)
    go (suc zero) e = span-short f (1 - 1) (omega arith)
    go (suc (suc m)) e = span_slice f 1 (suc (suc m) - 1) (omega arith) (omega arith)

-- what is between the ends of a list
slice_middle : (a b : ℕ) (l : List ℕ) → slice 1 (length (a ∷ l ++ (b ∷ [])) - 1) (a ∷ l ++ (b ∷ [])) ≡ l
slice_middle a b l =
    let s = length-append l (b ∷ []) in
    let z : length (a ∷ l ++ (b ∷ [])) - 1 ≡ suc (length l) = omega arith in
    ap (λ (n : ℕ). slice 1 n (a ∷ l ++ (b ∷ []))) z ∙ front l
  where
    front : (l : List ℕ) → take (length l) (l ++ (b ∷ [])) ≡ l
    front [] = refl
    front (x ∷ l) = ap {B = List ℕ} (λ m. x ∷ m) (front l)

-- ---- the labels
module _ (p : Plan) where
  -- those of the first state
  pub first_labelled : {at : List ℕ} {m : ℕ} → at ≡ zero_padded 512 (first_state p).frontier → m ≡ length (first_state p).frontier → Labelled p (first_state p) (first_labels p at m)
  unfolding first_labels first_state
  first_labelled {at} {m} is long =
      let f : List ℕ = west ∷ top p ++ (east ∷ []) in
      let north-darts = all_pairs (top p) (north ∷ []) in
      record {
        same =
            (λ d. label_edges p up (all_pairs (span (is d) 1 (long d - 1)) (0 ∷ [])) (zero_padded 1186 (bare_labels p)))
            ∙ ap (λ (l : List ℕ). label_edges p up (all_pairs l (0 ∷ [])) (zero_padded 1186 (bare_labels p))) (span_inner f ∙ slice_middle west east (top p))
            ∙ edges_padded p up north-darts (bare_labels p) (bare_long p);
        size = edges_long p up north-darts (bare_labels p) ∙ bare_long p;
      }

  module _ {s : State} {ls : List ℕ} (h : Labelled p s ls) {at : List ℕ} (is : at ≡ zero_padded 512 s.frontier) where
    -- those after a step, whose list stands in the front of an array
    pub step_labelled : (l : List ℕ) (q i j : ℕ) → i + 2 ≤ j → j < length s.frontier → span l 0 q ≡ listed p s.frontier i j → Labelled p (advance p s i j) (step_labels p at l q i j ls)
    unfolding step_labels advance
    step_labelled l q i j two inside list =
        let f = s.frontier in
        let one : i + 1 ≡ suc i = omega arith in
        let after : j + 1 ≡ suc j = omega arith in
        let ups = all_pairs (listed p f i j) (slice (suc i) j f) in
        let along = steps (slice i (suc j) f) in
        record {
          same =
              (λ d. label_edges p right (steps (span (is d) i (after d))) (label_edges p up (all_pairs (list d) (span (is d) (one d) j)) (h.same d)))
              ∙ (λ d. label_edges p right (steps (span_slice f i (suc j) (omega arith) (omega arith) d)) (label_edges p up (all_pairs (listed p f i j) (span_slice f (suc i) j (omega arith) (omega arith) d)) (zero_padded 1186 s.labels)))
              ∙ ap (label_edges p right along) (edges_padded p up ups s.labels h.size)
              ∙ edges_padded p right along (label_edges p up ups s.labels) (edges_long p up ups s.labels ∙ h.size);
          size = edges_long p right along (label_edges p up ups s.labels) ∙ edges_long p up ups s.labels ∙ h.size;
        }

    -- those of the finished sweep
    pub finish_labelled : {m : ℕ} → m ≡ length s.frontier → finish_labels p at m ls ≡ zero_padded 1186 (finish p s)
    unfolding finish_labels finish
    finish_labelled {m} long =
        let f = s.frontier in
        let whole : length f - 0 ≡ length f = omega arith in
        let south-darts = all_pairs (south ∷ []) (slice 1 (length f - 1) f) in
        (λ d. label_edges p right (steps (span (is d) 0 (long d))) (label_edges p up (all_pairs (2 ∷ []) (span (is d) 1 (long d - 1))) (h.same d)))
        ∙ (λ d. label_edges p right (steps ((ap (stretch (zero_padded 512 f) 0) whole ∙ stretch-all f) d)) (label_edges p up (all_pairs (2 ∷ []) (span_inner f d)) (zero_padded 1186 s.labels)))
        ∙ ap (label_edges p right (steps f)) (edges_padded p up south-darts s.labels h.size)
        ∙ edges_padded p right (steps f) (label_edges p up south-darts s.labels) (edges_long p up south-darts s.labels ∙ h.size)
