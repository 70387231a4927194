-- Where the labels of a ring stand in a flat array, and what the model says of them there.
use Prim.Native.Nat.{ℕ, zero, suc, ◌+◌, ◌≤◌, ◌<◌}
use mathlib.Core.Path.{◌≡◌, refl, sym, ap, ◌∙◌}
use mathlib.Core.List.{List, map}
use mathlib.Core.Bool.{Bool, true, false}
use native.Mathlib.Omega.{arith}
use lib.ListN.{length, get_or, take, drop, length-append, length-take, get_or-eq_default}
use lib.Seq.{get_or-take, get_or-drop}
use lib.Dec.{ltb}
use borrow.Author.Tests.{ltb-true, ltb-false}
use Rattle.lists.specs.Ranges.{from}
use Rattle.lists.specs.Parts.{flatten, index_of}
use Rattle.lists.specs.Spans.{stretch}
use Rattle.lists.proofs.Ranges.{get_or-map-from}
use Rattle.lists.proofs.Spans.{length-stretch}
use Rattle.model.specs.Plan.{Plan, entries, ring, adjacent}
use Rattle.model.specs.Labels.{unlabelled, start, labels_around, label_of}
use Rattle.rings.specs.Tables.{start_of, starts_of, size_of, rows, table}
use Rattle.rings.proofs.Rows.{start_first, start-more, size_outside, entries-rows, ring-size, member_index}

-- ---- the lists before the u-th, joined, are as long as the sum of their sizes
module _ (sizes : List ℕ) (f : ℕ → List ℕ) (long : (w : ℕ) → length (f w) ≡ get_or sizes w 0) where
  joined_length : (a k u : ℕ) → u ≤ k → start_of sizes a + length (flatten (take u (map f (from a k)))) ≡ start_of sizes (a + u)
  joined_length a k zero h = let z : a + 0 ≡ a = omega arith in rw z (omega arith)
  joined_length a zero (suc u) h = absurd (omega arith)
  joined_length a (suc k) (suc u) h =
      let r = joined_length (suc a) k u (omega arith) in
      let m = start-more sizes a in
      let l = long a in
      let c = length-append (f a) (flatten (take u (map f (from (suc a) k)))) in
      let z : start_of sizes (suc a + u) ≡ start_of sizes (a + suc u) = ap (start_of sizes) (omega arith) in
      omega arith

module _ (starts sizes es : List ℕ) (n : ℕ) (same : starts ≡ starts_of sizes) (small : n ≤ 200) where
  -- the plan that these starts give
  abbrev Rows : Plan
  Rows = rows starts sizes es n

  -- where u's labels begin
  start-rows : (u : ℕ) → u ≤ n → start Rows u ≡ start_of sizes u
  unfolding start rows
  start-rows u h =
      let r = joined_length sizes (λ (w : ℕ). stretch es (get_or starts w 0) (get_or sizes w 0)) (λ w. length-stretch es (get_or starts w 0) (get_or sizes w 0)) 0 n u h in
      let z = start_first sizes in
      let e : start_of sizes (0 + u) ≡ start_of sizes u = ap (start_of sizes) (omega arith) in
      omega arith

  pub start-bounded_table : (u : ℕ) → u < n → get_or starts u 0 ≡ start Rows u
  unfolding starts_of
  start-bounded_table u h =
      ap (λ (l : List ℕ). get_or l u 0) same ∙ get_or-map-from (start_of sizes) 0 200 u 0 (omega arith) ∙ ap (start_of sizes) (omega arith) ∙ sym (start-rows u (omega arith))

  pub size-rows : (u : ℕ) → length (entries Rows u) ≡ size_of sizes n u
  size-rows u = ap length (entries-rows starts sizes es n u) ∙ length-stretch es (get_or starts u 0) (size_of sizes n u)

  -- these starts are those of the table
  pub is-table : Rows ≡ table sizes es n
  unfolding table
  is-table = ap (λ (l : List ℕ). rows l sizes es n) same

  -- only a context has a ring
  within : (u i : ℕ) → i < size_of sizes n u → u < n
  within u i h = go (ltb u n) refl
    where
      go : (t : Bool) → ltb u n ≡ t → u < n
      go true q = ltb-true u n q
      go false q = let z = size_outside sizes n u (ltb-false u n q) in absurd (omega arith)

  module _ (u v : ℕ) {s i k : ℕ} (from-s : s ≡ get_or starts u 0) (at : i ≡ index_of v (ring (rows starts sizes es n) u)) (size : k ≡ size_of sizes n u) where
    begins : i < k → s ≡ start Rows u
    begins h = from-s ∙ start-bounded_table u (within u i (omega arith))

    -- there is a dart from u to v: its label stands at s + i
    pub label_there : (ls : List ℕ) → i < k → get_or ls (s + i) unlabelled ≡ label_of (table sizes es n) ls u v
    unfolding label_of labels_around
    label_there ls h =
        sym
        ((λ j. get_or (take (size-rows u j) (drop (sym (begins h) j) ls)) (sym at j) 5)
        ∙ get_or-take (size_of sizes n u) (drop s ls) i 5 (omega arith)
        ∙ get_or-drop s ls i 5)
        ∙ ap (λ (p : Plan). label_of p ls u v) is-table

    -- there is none, and no label
    pub label_none : (ls : List ℕ) → k ≤ i → unlabelled ≡ label_of (table sizes es n) ls u v
    unfolding label_of labels_around
    label_none ls h =
        let l = length-take (length (entries Rows u)) (drop (start Rows u) ls) in
        let z = size-rows u in
        sym (get_or-eq_default (take (length (entries Rows u)) (drop (start Rows u) ls)) 5 (omega arith)) ∙ ap (λ (p : Plan). label_of p ls u v) is-table

    is_dart : adjacent Rows u v ≡ ltb i k
    unfolding adjacent
    is_dart = member_index v (ring Rows u) ∙ (λ j. ltb (sym at j) ((ring-size starts sizes es n u ∙ sym size) j))

    -- there is a dart exactly where the index is below the size
    pub dart_test : adjacent (table sizes es n) u v ≡ ltb i k
    dart_test = ap (λ (p : Plan). adjacent p u v) (sym is-table) ∙ is_dart

    -- s + i is the place of its label
    pub place_there : i < k → s + i ≡ start (table sizes es n) u + index_of v (ring (table sizes es n) u)
    place_there h = (λ j. begins h j + at j) ∙ ap (λ (p : Plan). start p u + index_of v (ring p u)) is-table
