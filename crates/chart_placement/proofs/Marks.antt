-- The marks of a ring's entries, as the walk over the darts makes them: a law for the start, the three cases of a dart, and the next ring.
use Prim.Native.Nat.{ℕ, zero, suc, ◌+◌, ◌-◌, ◌≤◌, ◌<◌}
use mathlib.Core.Path.{◌≡◌, refl, sym, ap, ◌∙◌}
use mathlib.Core.List.{List, [], ◌∷◌}
use mathlib.Core.Bool.{Bool, true, false, cond, false≢true, true≢false}
use Rattle.std.specs.Prelude.{Option, Some, None, is_some, unwrap_or}
use native.Mathlib.Omega.{arith}
use lib.ListN.{length, get_or, set, replicate, length-set}
use lib.Seq.{get_or-set_same, get_or-set_other}
use lib.Dec.{eqb, ltb}
use borrow.Author.Tests.{eqb-true, eqb-false, eq-eqb, ltb-true, ltb-false}
use Rattle.lists.proofs.Padded.{get_or-zeros}
use Rattle.lists.specs.Parts.{index_of}
use Rattle.lists.specs.Spans.{zeros}
use Rattle.chart_placement.specs.Marking.{MarkedUpTo, DartAt, marked_position}

-- what stands at the index of a context
index_there : (v : ℕ) (l : List ℕ) → index_of v l < length l → get_or l (index_of v l) 0 ≡ v
index_there v [] h = absurd (omega arith)
index_there v (b ∷ l) h = go (eqb v b) refl h (index_there v l)
  where
    go : (t : Bool) → eqb v b ≡ t → cond t 0 (suc (index_of v l)) < suc (length l) → (index_of v l < length l → get_or l (index_of v l) 0 ≡ v) → get_or (b ∷ l) (cond t 0 (suc (index_of v l))) 0 ≡ v
    go true e h r = sym (eqb-true v b e)
    go false e h r = r (omega arith)

-- an entry's index is at most its position
index_most : (l : List ℕ) (i : ℕ) → i < length l → index_of (get_or l i 0) l ≤ i
index_most [] i h = absurd (omega arith)
index_most (b ∷ l) zero h = let z : index_of b (b ∷ l) ≡ 0 = rw (eq-eqb b b refl) in omega arith
index_most (b ∷ l) (suc i) h = go (eqb (get_or l i 0) b) (index_most l i (omega arith))
  where
    go : (t : Bool) → index_of (get_or l i 0) l ≤ i → cond t 0 (suc (index_of (get_or l i 0) l)) ≤ suc i
    go true r = omega arith
    go false r = omega arith

-- the entry of a dart stands at the dart's position or before it
pub dart-most : {r : List ℕ} {i v : ℕ} → DartAt r i v → index_of v r ≤ i
dart-most {r} {i} {v} dart = let h = dart.inside in let m = index_most r i h in let z : index_of v r ≡ index_of (get_or r i 0) r = ap (λ (w : ℕ). index_of w r) dart.entry in omega arith

-- ---- what a mark says
-- there is a position
pub position_some : (marks : List ℕ) (v a : ℕ) {p : ℕ} → Some p ≡ marked_position marks v a → (a < get_or marks v 0) × (p ≡ get_or marks v 0 - 1)
unfolding marked_position
position_some marks v a {p} e = go (ltb a (get_or marks v 0)) refl e
  where
    go : (t : Bool) → ltb a (get_or marks v 0) ≡ t → Some p ≡ cond t (Some (get_or marks v 0 - 1)) None → (a < get_or marks v 0) × (p ≡ get_or marks v 0 - 1)
    go true q e = (ltb-true a (get_or marks v 0) q, ap (λ (o : Option ℕ). unwrap_or o p) e)
    go false q e = absurd (true≢false (ap (λ (o : Option ℕ). is_some o) e))

-- there is none
pub position_none : (marks : List ℕ) (v a : ℕ) → None ≡ marked_position marks v a → get_or marks v 0 ≤ a
unfolding marked_position
position_none marks v a e = go (ltb a (get_or marks v 0)) refl e
  where
    go : (t : Bool) → ltb a (get_or marks v 0) ≡ t → None ≡ cond t (Some (get_or marks v 0 - 1)) None → get_or marks v 0 ≤ a
    go true q e = absurd (false≢true (ap (λ (o : Option ℕ). is_some o) e))
    go false q e = ltb-false a (get_or marks v 0) q

-- no ring is begun
pub marked_start : (r : List ℕ) → MarkedUpTo (replicate 200 0) r 0 0
unfolding zeros
marked_start r = record { size = refl; seen = λ v h k. absurd (omega arith); fresh = λ v h k. let z = get_or-zeros 200 v in omega arith }

module _ {marks r : List ℕ} {a i : ℕ} (inv : MarkedUpTo marks r a i) where
  -- the next ring begins where this one ends
  pub marked_next : (r' : List ℕ) {a' : ℕ} → i ≡ length r → a' ≡ a + i → MarkedUpTo marks r' a' 0
  marked_next r' {a'} end q = record { size = inv.size; seen = λ v h k. absurd (omega arith); fresh = λ v h k. go v h (ltb (index_of v r) i) refl }
    where
      go : (v : ℕ) → v < 200 → (t : Bool) → ltb (index_of v r) i ≡ t → get_or marks v 0 ≤ a'
      go v h true e = let k = ltb-true (index_of v r) i e in let z = inv.seen v h k in omega arith
      go v h false e = let z = inv.fresh v h (ltb-false (index_of v r) i e) in omega arith

  module _ {v : ℕ} (dart : DartAt r i v) where
    -- another context that stands before i + 1 stands before i
    before : (w : ℕ) {i' : ℕ} → i' ≡ i + 1 → (w ≡ v → ⊥) → index_of w r < i' → index_of w r < i
    before w q other k = go (eqb (index_of w r) i) refl
      where
        go : (t : Bool) → eqb (index_of w r) i ≡ t → index_of w r < i
        go true e =
            let z = eqb-true (index_of w r) i e in
            absurd (other (sym (index_there w r (let h = dart.inside in omega arith)) ∙ ap (λ (j : ℕ). get_or r j 0) z ∙ sym dart.entry))
        go false e = let z = eqb-false (index_of w r) i e in omega arith

    module _ (low : v < 200) {mark : ℕ} (at : mark ≡ get_or marks v 0) where
      -- v is marked in this ring
      module _ (h : a < mark) where
        earlier : index_of v r < i
        earlier = go (ltb (index_of v r) i) refl
          where
            go : (t : Bool) → ltb (index_of v r) i ≡ t → index_of v r < i
            go true e = ltb-true (index_of v r) i e
            go false e = let z = inv.fresh v low (ltb-false (index_of v r) i e) in absurd (omega arith)

        pub position-marked : mark - 1 ≡ a + index_of v r
        position-marked = let z = inv.seen v low earlier in omega arith

        pub marked-still : MarkedUpTo marks r a (i + 1)
        marked-still = record { size = inv.size; seen = λ w l k. go w l k (eqb w v) refl; fresh = λ w l k. inv.fresh w l (omega arith) }
          where
            go : (w : ℕ) → w < 200 → index_of w r < i + 1 → (t : Bool) → eqb w v ≡ t → get_or marks w 0 ≡ suc (a + index_of w r)
            go w l k true e = let z : index_of w r ≡ index_of v r = ap (λ (j : ℕ). index_of j r) (eqb-true w v e) in let y = earlier in inv.seen w l (omega arith)
            go w l k false e = inv.seen w l (before w refl (eqb-false w v e) k)

      -- it is not
      module _ (h : mark ≤ a) where
        first : index_of v r ≡ i
        first = go (ltb (index_of v r) i) refl
          where
            go : (t : Bool) → ltb (index_of v r) i ≡ t → index_of v r ≡ i
            go true e = let z = inv.seen v low (ltb-true (index_of v r) i e) in absurd (omega arith)
            go false e = let z = ltb-false (index_of v r) i e in let y = dart-most dart in omega arith

        pub position-first : a + i ≡ a + index_of v r
        position-first = let z = first in omega arith

        pub marked_more : {x : ℕ} → x ≡ a + i + 1 → MarkedUpTo (set marks v x) r a (i + 1)
        marked_more {x} q = record { size = length-set marks v x ∙ inv.size; seen = λ w l k. go w l k (eqb w v) refl; fresh = λ w l k. other w l k (eqb w v) refl }
          where
            go : (w : ℕ) → w < 200 → index_of w r < i + 1 → (t : Bool) → eqb w v ≡ t → get_or (set marks v x) w 0 ≡ suc (a + index_of w r)
            go w l k true e =
                let z = eqb-true w v e in
                let y : index_of w r ≡ index_of v r = ap (λ (j : ℕ). index_of j r) z in
                let f = first in
                ap (λ (j : ℕ). get_or (set marks v x) j 0) z ∙ get_or-set_same marks v x 0 (let b = inv.size in omega arith) ∙ omega arith
            go w l k false e = let d = eqb-false w v e in get_or-set_other marks v w x 0 d ∙ inv.seen w l (before w refl d k)

            other : (w : ℕ) → w < 200 → i + 1 ≤ index_of w r → (t : Bool) → eqb w v ≡ t → get_or (set marks v x) w 0 ≤ a
            other w l k true e = let y : index_of w r ≡ index_of v r = ap (λ (j : ℕ). index_of j r) (eqb-true w v e) in let f = first in absurd (omega arith)
            other w l k false e = let z = get_or-set_other marks v w x 0 (eqb-false w v e) in let y = inv.fresh w l (omega arith) in omega arith
