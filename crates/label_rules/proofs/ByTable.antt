-- The rings of a plan that fits with a table of labels, filled: each entry has a cell, in which the mark of its label stands; and a ring with its labels, where they stand in the arrays.
use Prim.Native.Nat.{ℕ, zero, suc, ◌+◌, ◌-◌, ◌*◌, ◌≤◌, ◌<◌}
use mathlib.Core.Path.{◌≡◌, refl, sym, ap, ◌∙◌}
use mathlib.Core.List.{List, [], ◌∷◌, map}
use mathlib.Core.Bool.{Bool, true, false, cond, or-false}
use native.Mathlib.Omega.{arith}
use lib.ListN.{replicate, length, get_or, take, drop}
use lib.Dec.{ltb}
use lib.Seq.{slice, take-nil}
use borrow.Author.Tests.{ltb-true, ltb-false, le-ltb}
use Rattle.std.specs.List.{list_any}
use Rattle.lists.specs.Tests.{member}
use Rattle.lists.specs.Folds.{some_within}
use Rattle.lists.specs.Parts.{index_of}
use Rattle.lists.specs.Spans.{stretch, zeros}
use Rattle.lists.proofs.Chains.{any_some, any_entry}
use Rattle.lists.proofs.Spans.{length-zeros, stretch_part}
use Rattle.lists.proofs.Stretches.{span_whole}
use Rattle.lists.proofs.Tests.{list_any-map, list_any_same}
use Rattle.model.specs.Plan.{Plan, context_count, neighbour, ring}
use Rattle.model.specs.Labels.{unlabelled, start, labels_around, label_of, bad_dart}
use Rattle.model.proofs.Eligible.{get_or-mem}
use Rattle.model.proofs.Plans.{adjacent-from, mem-adjacent}
use Rattle.rings.specs.Tables.{starts_of, size_of, table, plan_of}
use Rattle.rings.specs.declared.Rings.{Rings}
use Rattle.rings.proofs.Rows.{size_outside, count-rows, ring-rows, ring-size, ring-at, member_index}
use Rattle.plan_bounds.specs.Fits.{fit}
use Rattle.plan_bounds.proofs.Fits.{fit-says}
use Rattle.ring_positions.specs.Positions.{cell_at}
use Rattle.labels.proofs.Places.{is-table, start-bounded_table, size-rows, label_there, label_none}
use Rattle.label_rules.specs.LabelBy.{label_mark, marks_filled, Marked, wrong_dart}
use Rattle.label_rules.proofs.Noted.{marks_filled-long, marks_filled_cell}

drop-take : (s k : ℕ) (l : List ℕ) → drop s (take (s + k) l) ≡ take k (drop s l)
drop-take zero k l = let z : 0 + k ≡ k = omega arith in rw z
drop-take (suc s) k [] = let z : suc s + k ≡ suc (s + k) = omega arith in rw z (sym (take-nil k))
drop-take (suc s) k (x ∷ l) = let z : suc s + k ≡ suc (s + k) = omega arith in rw z (drop-take s k l)

-- the mark of none is 0
mark-none : label_mark unlabelled ≡ 0
unfolding label_mark
mark-none = refl

module _ (r : Rings) (fits : fit (plan_of r) ≡ true) where
  -- there are as many contexts as the rings say
  pub counted : context_count (plan_of r) ≡ r.n
  counted = count-rows r.starts.now r.sizes.now r.entries.now r.n

  -- at most 200
  pub few : r.n ≤ 200
  few = let h = (fit-says (plan_of r) fits).few in let c = counted in omega arith

  -- only a context has entries, and each of them is one
  pub entry_low : (u i : ℕ) {a e : ℕ} → a ≡ get_or r.starts.now u 0 → e ≡ get_or r.starts.now u 0 + size_of r.sizes.now r.n u → a ≤ i → i < e → (u < r.n) × (neighbour (get_or r.entries.now i 0) < r.n)
  entry_low u i {a} {e} from to h l =
      let size = ring-size r.starts.now r.sizes.now r.entries.now r.n u in
      let z : get_or r.starts.now u 0 + (i - a) ≡ i = omega arith in
      let m = get_or-mem (ring (plan_of r) u) (i - a) (omega arith) in
      let low = (fit-says (plan_of r) fits).inside u (get_or (ring (plan_of r) u) (i - a) 0) m in
      let there = adjacent-from (plan_of r) u (get_or (ring (plan_of r) u) (i - a) 0) (mem-adjacent (plan_of r) u (get_or (ring (plan_of r) u) (i - a) 0) m) in
      let is = ring-at r.starts.now r.sizes.now r.entries.now r.n u (i - a) (omega arith) ∙ ap (λ (j : ℕ). neighbour (get_or r.entries.now j 0)) z in
      let c = counted in
      (omega arith, omega arith)

  module _ (same : r.starts.now ≡ starts_of r.sizes.now) (ls : List ℕ) where
    -- in a table that was all zeros, with a row for each context, the marks of all labels stand
    cell_own : {k : ℕ} → 200 * r.n ≤ k → (u v : ℕ) → u < 200 → v < 200 → get_or (marks_filled r ls (zeros k)) (cell_at u v) 0 ≡ label_mark (label_of (plan_of r) ls u v)
    cell_own room u v h l = marks_filled_cell r ls few room u v h l ∙ go (member v (ring (plan_of r) u)) refl ∙ ap (λ (p : Plan). label_mark (label_of p ls u v)) (sym (is-table r.starts.now r.sizes.now r.entries.now r.n same few))
      where
        P : Plan
        P = table r.sizes.now r.entries.now r.n

        i : ℕ
        i = index_of v (ring (plan_of r) u)

        j : ℕ
        j = get_or r.starts.now u 0 + i

        m : ℕ
        m = length (ring (plan_of r) u)

        size : m ≡ size_of r.sizes.now r.n u
        size = ring-size r.starts.now r.sizes.now r.entries.now r.n u

        inside : member v (ring (plan_of r) u) ≡ ltb i m
        inside = member_index v (ring (plan_of r) u)

        go : (b : Bool) → member v (ring (plan_of r) u) ≡ b → cond (member v (ring (plan_of r) u)) (label_mark (get_or ls j unlabelled)) 0 ≡ label_mark (label_of P ls u v)
        go true q =
            let there = label_there r.starts.now r.sizes.now r.entries.now r.n same few u v refl refl size ls (ltb-true i m (sym inside ∙ q)) in
            ap (λ (b : Bool). cond b (label_mark (get_or ls j unlabelled)) 0) q ∙ ap label_mark there
        go false q =
            let none = label_none r.starts.now r.sizes.now r.entries.now r.n same few u v refl refl size ls (ltb-false i m (sym inside ∙ q)) in
            ap (λ (b : Bool). cond b (label_mark (get_or ls j unlabelled)) 0) q ∙ sym mark-none ∙ ap label_mark none

    pub marked_filled : {k : ℕ} → 200 * r.n ≤ k → {t₀ t : List ℕ} → t₀ ≡ replicate k 0 → t ≡ marks_filled r ls t₀ → Marked r ls t
    unfolding zeros
    marked_filled {k} room {t₀} {t} none e =
        let is : t ≡ marks_filled r ls (zeros k) = e ∙ ap (marks_filled r ls) none in
        let long : length t ≡ k = ap length is ∙ marks_filled-long r ls (zeros k) ∙ length-zeros k in
        let small = few in
        record { room = omega arith; cells = λ u v h l. ap (λ (s : List ℕ). get_or s (cell_at u v) 0) is ∙ cell_own room u v (omega arith) (omega arith) }

    -- the labels around u
    pub around_is : (u : ℕ) {a e : ℕ} → a ≡ get_or r.starts.now u 0 → e ≡ get_or r.starts.now u 0 + size_of r.sizes.now r.n u → slice a e ls ≡ labels_around (plan_of r) ls u
    unfolding labels_around
    around_is u from to =
        (λ j. slice (from j) (to j) ls)
        ∙ drop-take (get_or r.starts.now u 0) (size_of r.sizes.now r.n u) ls
        ∙ go (ltb u r.n) refl
        ∙ (λ j. take (sym (size-rows r.starts.now r.sizes.now r.entries.now r.n same few u) j) (drop (start (plan_of r) u) ls))
      where
        go : (b : Bool) → ltb u r.n ≡ b → take (size_of r.sizes.now r.n u) (drop (get_or r.starts.now u 0) ls) ≡ take (size_of r.sizes.now r.n u) (drop (start (plan_of r) u) ls)
        go true q = ap (λ (s : ℕ). take (size_of r.sizes.now r.n u) (drop s ls)) (start-bounded_table r.starts.now r.sizes.now r.entries.now r.n same few u (ltb-true u r.n q))
        go false q = let z = size_outside r.sizes.now r.n u (ltb-false u r.n q) in rw z

-- whether some entry of a ring passes, where they stand in the arrays
pub some_ring : (r : Rings) (u : ℕ) (f : ℕ → Bool) {a e : ℕ} → a ≡ get_or r.starts.now u 0 → e ≡ get_or r.starts.now u 0 + size_of r.sizes.now r.n u
    → some_within (λ (i : ℕ). f (neighbour (get_or r.entries.now i 0))) a e ≡ list_any f (ring (plan_of r) u)
some_ring r u f {a} {e} from to =
    let es = r.entries.now in
    let size : e - a ≡ size_of r.sizes.now r.n u = omega arith in
    sym (any_some (λ (i : ℕ). f (neighbour (get_or es i 0))) a (e - a))
    ∙ any_entry es (λ (x : ℕ). f (neighbour x)) a (e - a)
    ∙ list_any-map f neighbour (stretch es a (e - a))
    ∙ (λ i. list_any f (map neighbour (stretch es (from i) (size i))))
    ∙ sym (ap (list_any f) (ring-rows r.starts.now r.sizes.now es r.n u))

-- the same of an inner context's ring, where it is there, taken out of the entries: none of its darts leaves a border context
pub inner_ring : (r : Rings) (ls : List ℕ) (u : ℕ) → 4 ≤ u → {a e : ℕ} → a ≡ get_or r.starts.now u 0 → e ≡ get_or r.starts.now u 0 + size_of r.sizes.now r.n u → e ≤ length r.entries.now
    → some_within (λ (i : ℕ). bad_dart (plan_of r) ls u (neighbour (get_or (take (e - a) (drop a r.entries.now)) i 0))) 0 (length (take (e - a) (drop a r.entries.now))) ≡ list_any (wrong_dart (plan_of r) ls u) (ring (plan_of r) u)
unfolding wrong_dart
inner_ring r ls u h {a} {e} from to there =
    let es = r.entries.now in
    let part = take (e - a) (drop a es) in
    let bad = bad_dart (plan_of r) ls u in
    let size : e - a ≡ size_of r.sizes.now r.n u = omega arith in
    sym (any_some (λ (i : ℕ). bad (neighbour (get_or part i 0))) 0 (length part - 0))
    ∙ any_entry part (λ (x : ℕ). bad (neighbour x)) 0 (length part - 0)
    ∙ list_any-map bad neighbour (stretch part 0 (length part - 0))
    ∙ ap (λ (l : List ℕ). list_any bad (map neighbour l)) (span_whole part (length part) refl ∙ sym (stretch_part es a (e - a) (omega arith)) ∙ (λ i. stretch es (from i) (size i)))
    ∙ sym (ap (list_any bad) (ring-rows r.starts.now r.sizes.now es r.n u))
    ∙ list_any_same bad (wrong_dart (plan_of r) ls u) (ring (plan_of r) u) (λ v. sym (rw (le-ltb u 4 h) (or-false (bad v))))
