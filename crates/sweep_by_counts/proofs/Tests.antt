-- The test of a pair on the arrays of a course is the test of the state that the course holds.
use Prim.Native.Nat.{ℕ, suc, ◌-◌, ◌≤◌, ◌<◌, min}
use mathlib.Core.Path.{◌≡◌, refl, sym, ap, ◌∙◌}
use mathlib.Core.List.{List, [], ◌∷◌, ◌++◌, reverse}
use mathlib.Core.Bool.{Bool, true, false, cond, not, ◌&&◌, not-not, and-false}
use mathlib.Core.Logic.{◌⊎◌, inl, inr}
use native.Mathlib.Omega.{arith}
use lib.ListN.{length, get_or, take, drop}
use lib.Dec.{eqb}
use borrow.Author.Tests.{eq-eqb, ne_eqb}
use Rattle.std.specs.List.{list_all}
use Rattle.lists.specs.Tests.{is_empty}
use Rattle.lists.proofs.Ranges.{lt-or-le}
use Rattle.model.specs.Plan.{Plan, context_count, border}
use Rattle.model.specs.Sweep.{State, below, chordless}
use Rattle.rings.specs.declared.Rings.{Rings}
use Rattle.rings.specs.Tables.{plan_of}
use Rattle.sweep_frontier.specs.declared.below.Below.{Below}
use Rattle.sweep_frontier.specs.Frontiers.{below_of, entries_read, depth_of}
use Rattle.sweep_frontier.proofs.Under.{below-mem, below-zero_padded}
use Rattle.sweep_frontier.proofs.Puts.{put_below}
use Rattle.sweep_theory.specs.Quick.{single, candidate}
use Rattle.sweep_theory.specs.Local.{low_due, high_due, positions_due}
use Rattle.sweep_theory.specs.Counter.{fair_by, good_by, local_by}
use Rattle.sweep_theory.proofs.Tells.{all_same}
use Rattle.sweep_by_counts.specs.declared.course.Course.{Course}
use Rattle.sweep_by_counts.specs.Courses.{HoldsState}
use Rattle.sweep_by_counts.specs.Picks.{fair_on, good_on}
use Rattle.sweep_by_counts.proofs.Singles.{candidate_held, single_told, single_held}

-- no more positions are touched than there are up to j
due_le : (i j : ℕ) (l : List ℕ) (c : ℕ) → positions_due i j l c ≤ suc j
unfolding positions_due high_due
due_le i j l c = go (eqb c (get_or l (length l - 1) 0)) (low_due i j l c)
  where
    go : (t : Bool) (x : ℕ) → suc (cond t j (j - 1) - x) ≤ suc j
    go true x = omega arith
    go false x = omega arith

-- what 16 bits hold of a number is below the most that they hold where the number is
pub held-eqb : (x d : ℕ) → d < 65535 → eqb (min x 65535) d ≡ eqb x d
held-eqb x d h = go (lt-or-le x 65535)
  where
    go : (x < 65535) ⊎ (65535 ≤ x) → eqb (min x 65535) d ≡ eqb x d
    go (inl k) = let z : min x 65535 ≡ x = omega arith in ap (λ (n : ℕ). eqb n d) z
    go (inr k) = ne_eqb (min x 65535) d (λ z. omega arith) ∙ sym (ne_eqb x d (λ z. omega arith))

-- ---- the list of a pair, as the code tests it
-- all of the entries pass
pub all_list : (f : ℕ → Bool) (l : List ℕ) → list_all f l ≡ list_all f l
all_list f [] = refl
all_list f (c ∷ l) = ap (λ (t : Bool). f c && t) (all_list f l)

module _ (v : Course) (p : Plan) (i j : ℕ) (l : List ℕ) where
  -- there is none
  pub good_none : length l ≡ 0 → false ≡ good_on v p i j l
  unfolding good_on
  good_none = go l
    where
      go : (l : List ℕ) → length l ≡ 0 → false ≡ (not (is_empty l) && (list_all (fair_on v i j l) l && chordless p l))
      go [] z = refl
      go (c ∷ l) z = absurd (omega arith)

  module _ {a : Bool} (told : a ≡ list_all (fair_on v i j l) l) where
    -- an entry may not be on it
    pub good_unfair : a ≡ false → false ≡ good_on v p i j l
    unfolding good_on
    good_unfair e = sym (ap (λ (t : Bool). not (is_empty l) && (t && chordless p l)) (sym told ∙ e) ∙ and-false (not (is_empty l)))

    -- it is what its chords are
    pub good_told : {b : Bool} → (length l ≡ 0 → ⊥) → a ≡ true → b ≡ not (chordless p l) → not b ≡ good_on v p i j l
    unfolding good_on
    good_told n e c = ap not c ∙ not-not (chordless p l) ∙ sym (λ t. not (some l n t) && ((sym told ∙ e) t && chordless p l))
      where
        some : (l : List ℕ) → (length l ≡ 0 → ⊥) → is_empty l ≡ false
        some [] n = absurd (n refl)
        some (c ∷ l) n = refl

-- ---- the course that holds a state
module _ {p : Plan} {s : State} {cnt : List ℕ} {v : Course} (h : HoldsState p s cnt v) where
  -- a context of the list
  fair-held : (i j : ℕ) (l : List ℕ) (c : ℕ) → j < 512 → c < context_count p → fair_on v i j l c ≡ fair_by cnt s i j l c
  unfolding fair_on fair_by
  fair-held i j l c k inside =
      let d = due_le i j l c in
      let n = h.all in
      let few = h.counts.few in
      let counter = ap (λ (x : ℕ). eqb x (positions_due i j l c)) (h.counts.count c (omega arith)) ∙ held-eqb (get_or cnt c 0) (positions_due i j l c) (omega arith) in
      λ t. not (border c) && (h.front.marks.mark c (omega arith) t && counter t)

  -- THE TEST of what is below the position before j with j's candidate
  pub good_held : (j : ℕ) → j < 512 → good_on v p (candidate p v.frontier.at j) j (below p v.frontier.at (j - 1)) ≡ local_by cnt p s j
  unfolding good_on good_by local_by
  good_held j k =
      let f = s.frontier in
      let l = below p f (j - 1) in
      let i = candidate p f j in
      let same = ap (λ (m : List ℕ). below p m (j - 1)) h.front.rep.at ∙ below-zero_padded p f (j - 1) in
      (λ t. good_on v p (candidate_held p h.front.rep j t) j (same t))
      ∙ ap (λ (b : Bool). not (is_empty l) && (b && chordless p l)) (all_same (fair_on v i j l) (fair_by cnt s i j l) l (λ c m. fair-held i j l c k (h.inside (get_or f (j - 1) 0) c (below-mem p f (j - 1) c m))))

-- THE TEST AS THE CODE MAKES IT: what is below the position before j is put on a list, and that list is tested
module _ (r : Rings) {s : State} {cnt : List ℕ} {v : Course} (h : HoldsState (plan_of r) s cnt v) where
  pub judged : (j : ℕ) (old : List ℕ) {i q : ℕ} {b : Below} {list : List ℕ} {t : Bool} → j < 512 → i ≡ candidate (plan_of r) v.frontier.at j → b ≡ below_of r v.frontier.at (j - 1) → q ≡ depth_of b
      → list ≡ reverse (take (depth_of b) (entries_read b)) ++ drop (depth_of b) old → t ≡ good_on v (plan_of r) i j (take q list) → t ≡ local_by cnt (plan_of r) s j
  judged j old {b = b} x i is long put told =
      let listed = put_below r v.frontier.at (j - 1) is (drop (depth_of b) old) long put in
      told ∙ (λ t. good_on v (plan_of r) (i t) j (listed t)) ∙ good_held h j x

  module _ (k : ℕ) {q : ℕ} {b : Below} (is : b ≡ below_of r v.frontier.at k) (long : q ≡ depth_of b) where
    -- the list is what is below in the state
    pub put_held : (old : List ℕ) {list : List ℕ} → list ≡ reverse (take (depth_of b) (entries_read b)) ++ drop (depth_of b) old → take q list ≡ below (plan_of r) s.frontier k
    put_held old put = put_below r v.frontier.at k is (drop (depth_of b) old) long put ∙ ap (λ (f : List ℕ). below (plan_of r) f k) h.front.rep.at ∙ below-zero_padded (plan_of r) s.frontier k

    -- one context alone is below
    pub alone_held : q ≡ 1 → single (plan_of r) s.frontier k ≡ true
    alone_held one = sym (single_told r v.frontier.at k is (sym (eq-eqb (depth_of b) 1 (sym long ∙ one))) ∙ single_held (plan_of r) h.front.rep k)
