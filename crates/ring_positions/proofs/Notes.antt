-- The table of positions, noted entry by entry: what a pass over all rings keeps (Notes), with a law for its start, its steps and its end.
use Prim.Native.Nat.{ℕ, suc, ◌+◌, ◌-◌, ◌*◌, ◌/◌, ◌%◌, ◌≤◌, ◌<◌, min}
use mathlib.Core.Path.{◌≡◌, refl, sym, ap, ◌∙◌}
use mathlib.Core.List.{List, [], ◌∷◌, ◌++◌, map}
use mathlib.Core.Bool.{Bool, true, false, cond, ◌&&◌, ◌||◌, false≢true}
use native.Mathlib.Omega.{arith}
use Rattle.std.specs.List.{slice_range}
use lib.ListN.{length, get_or, set, take, drop, replicate, length-set, length-replicate}
use lib.Seq.{ext_get_or, take-suc, take_all, take-nil, length-take-le, get_or-set_same, get_or-set_other}
use lib.Arith.{lt_of_le-ne}
use lib.Dec.{eqb, ltb}
use borrow.Author.Tests.{eqb-true, eqb-false, eq-eqb, ne_eqb, ltb-true, ltb-false, lt-ltb}
use Rattle.lists.specs.Ranges.{from}
use Rattle.lists.specs.Tests.{member}
use Rattle.lists.specs.Parts.{index_of}
use Rattle.lists.specs.Spans.{stretch, zeros}
use Rattle.lists.proofs.Bools.{or_no}
use Rattle.lists.proofs.Tests.{list_any-append}
use Rattle.lists.proofs.Spans.{past, stretch_part, get_or-stretch}
use Rattle.lists.proofs.Ranges.{length-map-from, get_or-map-from}
use Rattle.lists.proofs.Padded.{get_or-zeros}
use Rattle.model.specs.Plan.{Plan, context_count, neighbour, ring}
use Rattle.model.proofs.Plans.{ring_outside}
use Rattle.rings.specs.Tables.{size_of, rows}
use Rattle.rings.proofs.Rows.{ring-at}
use Rattle.ring_positions.specs.Positions.{position, cell_at, has_cell, positions_of, noted, over, positions_filled, Finds}

-- ---- the table cell by cell
-- the table's length
pub length_positions : (p : Plan) → length (positions_of p) ≡ 40000
unfolding positions_of
length_positions p = length-map-from (λ (k : ℕ). position (k % 200) (ring p (k / 200))) 0 40000

-- what stands at a number below 40000
positions_at : (p : Plan) (k : ℕ) → k < 40000 → get_or (positions_of p) k 0 ≡ position (k % 200) (ring p (k / 200))
unfolding positions_of
positions_at p k h = get_or-map-from (λ (k : ℕ). position (k % 200) (ring p (k / 200))) 0 40000 k 0 h ∙ (let z : 0 + k ≡ k = omega arith in λ i. position (z i % 200) (ring p (z i / 200)))

-- the cell of an entry of a ring
pub positions_cell : (p : Plan) (u v : ℕ) → u < 200 → v < 200 → get_or (positions_of p) (cell_at u v) 0 ≡ position v (ring p u)
positions_cell p u v h k =
    let d : (200 * u + v) / 200 ≡ u = omega arith in
    let m : (200 * u + v) % 200 ≡ v = omega arith in
    positions_at p (cell_at u v) (omega arith) ∙ (λ i. position (m i) (ring p (d i)))

-- ---- the position of an entry in a list with one more at its end
-- an entry that is there keeps its index
index_kept : (v : ℕ) (l m : List ℕ) → member v l ≡ true → index_of v (l ++ m) ≡ index_of v l
index_kept v [] m e = absurd (false≢true e)
index_kept v (a ∷ l) m e = go (eqb v a) e (index_kept v l m)
  where
    go : (t : Bool) → (t || member v l) ≡ true → (member v l ≡ true → index_of v (l ++ m) ≡ index_of v l) → cond t 0 (suc (index_of v (l ++ m))) ≡ cond t 0 (suc (index_of v l))
    go true e r = refl
    go false e r = ap suc (r e)

-- one that is not there stands at the end
index_new : (v : ℕ) (l : List ℕ) → member v l ≡ false → index_of v (l ++ (v ∷ [])) ≡ length l
index_new v [] e = rw (eq-eqb v v refl)
index_new v (a ∷ l) e = let (x, y) = or_no (eqb v a) (member v l) e in rw x (ap suc (index_new v l y))

module _ (v : ℕ) (l : List ℕ) where
  -- an entry that is not there has position 0
  pub position_absent : member v l ≡ false → position v l ≡ 0
  unfolding position
  position_absent e = rw e

  -- one that is there has its index and one
  pub position-present : member v l ≡ true → position v l ≡ suc (index_of v l)
  unfolding position
  position-present e = rw e

  -- an entry that is there keeps its position
  position_kept : (m : List ℕ) → member v l ≡ true → position v (l ++ m) ≡ position v l
  unfolding position
  position_kept m e = rw (list_any-append (eqb v) l m, e) (ap suc (index_kept v l m e))

  -- one that was not there has the position behind the list
  position_new : member v l ≡ false → position v (l ++ (v ∷ [])) ≡ suc (length l)
  unfolding position
  position_new e = rw (list_any-append (eqb v) l (v ∷ []), e, eq-eqb v v refl) (ap suc (index_new v l e))

  -- every other entry keeps its position
  position_other : (w : ℕ) → (v ≡ w → ⊥) → position v (l ++ (w ∷ [])) ≡ position v l
  unfolding position
  position_other w h = go (member v l) refl
    where
      go : (t : Bool) → member v l ≡ t → position v (l ++ (w ∷ [])) ≡ position v l
      go true e = position_kept (w ∷ []) e
      go false e = rw (list_any-append (eqb v) l (w ∷ []), e, ne_eqb v w h)

-- past the last context there are no entries
bare : (p : Plan) (a v : ℕ) → context_count p ≤ a → position v (ring p a) ≡ 0
bare p a v h = ap (position v) (ring_outside p a h) ∙ position_absent v [] refl

-- ---- a number noted
module _ (t : List ℕ) (u v x : ℕ) where
  -- there is no cell
  pub noted_off : has_cell u v ≡ false → noted t u v x ≡ t
  unfolding noted
  noted_off h = rw h

  -- a number is noted already
  pub noted_full : u < 200 → v < 200 → (get_or t (cell_at u v) 0 ≡ 0 → ⊥) → noted t u v x ≡ t
  unfolding noted
  noted_full h k f = rw (lt-ltb u 200 h, lt-ltb v 200 k, ne_eqb (get_or t (cell_at u v) 0) 0 f)

  -- none is
  pub noted-put : u < 200 → v < 200 → get_or t (cell_at u v) 0 ≡ 0 → noted t u v x ≡ set t (cell_at u v) x
  unfolding noted
  noted-put h k z = rw (lt-ltb u 200 h, lt-ltb v 200 k, eq-eqb (get_or t (cell_at u v) 0) 0 z)

  -- the table keeps its length
  noted_long : length (noted t u v x) ≡ length t
  unfolding noted
  noted_long = go (has_cell u v && eqb (get_or t (cell_at u v) 0) 0)
    where
      go : (b : Bool) → length (cond b (set t (cell_at u v) x) t) ≡ length t
      go true = length-set t (cell_at u v) x
      go false = refl

  -- every other number stays
  noted_other : (k : ℕ) → (k ≡ cell_at u v → ⊥) → get_or (noted t u v x) k 0 ≡ get_or t k 0
  unfolding noted
  noted_other k h = go (has_cell u v && eqb (get_or t (cell_at u v) 0) 0)
    where
      go : (b : Bool) → get_or (cond b (set t (cell_at u v) x) t) k 0 ≡ get_or t k 0
      go true = get_or-set_other t (cell_at u v) k x 0 h
      go false = refl

-- cells of two rings differ
other_ring : (a u v w : ℕ) → v < 200 → w < 200 → (a ≡ u → ⊥) → cell_at a v ≡ cell_at u w → ⊥
other_ring a u v w h k d e = d (omega arith)

-- an entry from 200 on has no cell
noted-apart : (t : List ℕ) (u w x k : ℕ) → u < 200 → (w < 200 → k ≡ cell_at u w → ⊥) → get_or (noted t u w x) k 0 ≡ get_or t k 0
noted-apart t u w x k h d = go (ltb w 200) refl
  where
    go : (b : Bool) → ltb w 200 ≡ b → get_or (noted t u w x) k 0 ≡ get_or t k 0
    go true e = noted_other t u w x k (d (ltb-true w 200 e))
    go false e = ap (λ (s : List ℕ). get_or s k 0) (noted_off t u w x (rw (lt-ltb u 200 h, e)))

-- ---- a number that gives way to another where it is 0
-- it is 0
over_none : {x : ℕ} (y : ℕ) → x ≡ 0 → over x y ≡ y
unfolding over
over_none {x} y e = rw (eq-eqb x 0 e)

-- it is not
over-some : {x : ℕ} (y : ℕ) → (x ≡ 0 → ⊥) → over x y ≡ x
unfolding over
over-some {x} y f = rw (ne_eqb x 0 f)

-- to 0 nothing gives way
over_zero : (x : ℕ) → over x 0 ≡ x
over_zero x = go (eqb x 0) refl
  where
    go : (b : Bool) → eqb x 0 ≡ b → over x 0 ≡ x
    go true e = over_none 0 (eqb-true x 0 e) ∙ sym (eqb-true x 0 e)
    go false e = over-some 0 (eqb-false x 0 e)

-- nor to the position of an entry where there are none
over_bare : (x v : ℕ) → over x (position v []) ≡ x
over_bare x v = ap (over x) (position_absent v [] refl) ∙ over_zero x

-- ---- of a table's cells that are 0, those of the rings before u's are noted, of u's ring those of the first i entries, of the rings after it none
pub record Notes (p : Plan) (t₀ : List ℕ) (u i : ℕ) (t : List ℕ) : Type 0 where
  pub long : length t ≡ length t₀
  pub done : (a v : ℕ) → a < 200 → v < 200 → cell_at a v < length t₀ → a < u → get_or t (cell_at a v) 0 ≡ over (get_or t₀ (cell_at a v) 0) (position v (ring p a))
  pub here : (v : ℕ) → u < 200 → v < 200 → cell_at u v < length t₀ → get_or t (cell_at u v) 0 ≡ over (get_or t₀ (cell_at u v) 0) (position v (take i (ring p u)))
  pub later : (a v : ℕ) → a < 200 → v < 200 → u < a → get_or t (cell_at a v) 0 ≡ get_or t₀ (cell_at a v) 0
  pub beyond : (k : ℕ) → 40000 ≤ k → get_or t k 0 ≡ get_or t₀ k 0

-- nothing is noted yet
pub notes_start : {p : Plan} {t : List ℕ} → Notes p t 0 0 t
notes_start {p} {t} =
    record {
      long = refl;
      done = λ a v h k f l. absurd (omega arith);
      here = λ v h k f. sym (over_bare (get_or t (cell_at 0 v) 0) v);
      later = λ a v h k l. refl;
      beyond = λ k h. refl;
    }

module _ {p : Plan} {t₀ : List ℕ} {u i : ℕ} {t : List ℕ} (inv : Notes p t₀ u i t) where
  -- the next entry of u's ring
  pub notes_on : {w x i' : ℕ} {t' : List ℕ} → u < 200 → i < length (ring p u) → w ≡ get_or (ring p u) i 0 → i' ≡ suc i → x ≡ i' → t' ≡ noted t u w x → Notes p t₀ u i' t'
  notes_on {w} {x} {i'} {t'} hu hi ew ei ex et =
      record {
        long = ap length et ∙ noted_long t u w x ∙ inv.long;
        done = λ a v h k f l. apart a v k (omega arith) ∙ inv.done a v h k f l;
        here = λ v h k f. ap (λ (s : List ℕ). get_or s (cell_at u v) 0) et ∙ same v k f (eqb v w) refl ∙ ap (λ (l : List ℕ). over (get_or t₀ (cell_at u v) 0) (position v l)) (sym more);
        later = λ a v h k l. apart a v k (omega arith) ∙ inv.later a v h k l;
        beyond = λ k h. ap (λ (s : List ℕ). get_or s k 0) et ∙ noted-apart t u w x k hu (λ b e. absurd (omega arith)) ∙ inv.beyond k h;
      }
    where
      r : List ℕ
      r = ring p u

      more : take i' r ≡ take i r ++ (w ∷ [])
      more = ap (λ (j : ℕ). take j r) ei ∙ take-suc r i 0 hi ∙ ap (λ (b : ℕ). take i r ++ (b ∷ [])) (sym ew)

      size : length (take i r) ≡ i
      size = length-take-le i r (omega arith)

      apart : (a v : ℕ) → v < 200 → (a ≡ u → ⊥) → get_or t' (cell_at a v) 0 ≡ get_or t (cell_at a v) 0
      apart a v k d = ap (λ (s : List ℕ). get_or s (cell_at a v) 0) et ∙ noted-apart t u w x (cell_at a v) hu (λ b. other_ring a u v w k b d)

      -- the entry itself: its cell was not 0, or the entry stood in the ring before, or did not
      entry : (v : ℕ) → v < 200 → cell_at u v < length t₀ → (b m : Bool) → eqb (get_or t₀ (cell_at u v) 0) 0 ≡ b → member v (take i r) ≡ m
          → get_or (noted t u v x) (cell_at u v) 0 ≡ over (get_or t₀ (cell_at u v) 0) (position v (take i r ++ (v ∷ [])))
      entry v k f false m e q =
          let full = eqb-false (get_or t₀ (cell_at u v) 0) 0 e in
          let old = inv.here v hu k f ∙ over-some (position v (take i r)) full in
          ap (λ (s : List ℕ). get_or s (cell_at u v) 0) (noted_full t u v x hu k (λ z. full (sym old ∙ z))) ∙ old ∙ sym (over-some (position v (take i r ++ (v ∷ []))) full)
      entry v k f true true e q =
          let free = eqb-true (get_or t₀ (cell_at u v) 0) 0 e in
          let old = inv.here v hu k f ∙ over_none (position v (take i r)) free in
          let one = position-present v (take i r) q in
          ap (λ (s : List ℕ). get_or s (cell_at u v) 0) (noted_full t u v x hu k (λ z. omega arith)) ∙ old ∙ sym (position_kept v (take i r) (v ∷ []) q) ∙ sym (over_none (position v (take i r ++ (v ∷ []))) free)
      entry v k f true false e q =
          let free = eqb-true (get_or t₀ (cell_at u v) 0) 0 e in
          let old = inv.here v hu k f ∙ over_none (position v (take i r)) free ∙ position_absent v (take i r) q in
          let l = inv.long in
          let new : x ≡ position v (take i r ++ (v ∷ [])) = omega (arith, size, position_new v (take i r) q) in
          ap (λ (s : List ℕ). get_or s (cell_at u v) 0) (noted-put t u v x hu k old)
          ∙ get_or-set_same t (cell_at u v) x 0 (omega arith)
          ∙ new
          ∙ sym (over_none (position v (take i r ++ (v ∷ []))) free)

      same : (v : ℕ) → v < 200 → cell_at u v < length t₀ → (b : Bool) → eqb v w ≡ b → get_or (noted t u w x) (cell_at u v) 0 ≡ over (get_or t₀ (cell_at u v) 0) (position v (take i r ++ (w ∷ [])))
      same v k f false e = noted-apart t u w x (cell_at u v) hu (λ b c. eqb-false v w e (omega arith)) ∙ inv.here v hu k f ∙ ap (over (get_or t₀ (cell_at u v) 0)) (sym (position_other v (take i r) w (eqb-false v w e)))
      same v k f true e =
          let q = eqb-true v w e in
          ap (λ (b : ℕ). get_or (noted t u b x) (cell_at u v) 0) (sym q)
          ∙ entry v k f (eqb (get_or t₀ (cell_at u v) 0) 0) (member v (take i r)) refl refl
          ∙ ap (λ (b : ℕ). over (get_or t₀ (cell_at u v) 0) (position v (take i r ++ (b ∷ [])))) q

  -- u's ring is passed
  pub notes_next : {u' : ℕ} → length (ring p u) ≤ i → u' ≡ suc u → Notes p t₀ u' 0 t
  notes_next {u'} h e =
      record {
        long = inv.long;
        done = λ a v k l f m. passed a v k l f m (eqb a u) refl;
        here = λ v k l f. inv.later u' v k l (omega arith) ∙ sym (over_bare (get_or t₀ (cell_at u' v) 0) v);
        later = λ a v k l m. inv.later a v k l (omega arith);
        beyond = inv.beyond;
      }
    where
      passed : (a v : ℕ) → a < 200 → v < 200 → cell_at a v < length t₀ → a < u' → (b : Bool) → eqb a u ≡ b → get_or t (cell_at a v) 0 ≡ over (get_or t₀ (cell_at a v) 0) (position v (ring p a))
      passed a v k l f m true q =
          let z = eqb-true a u q in
          let whole = ap (λ (r : List ℕ). over (get_or t₀ (cell_at u v) 0) (position v r)) (take_all i (ring p u) h) in
          ap (λ (c : ℕ). get_or t (cell_at c v) 0) z ∙ inv.here v (omega arith) l (omega arith) ∙ whole ∙ ap (λ (c : ℕ). over (get_or t₀ (cell_at c v) 0) (position v (ring p c))) (sym z)
      passed a v k l f m false q = inv.done a v k l f (lt_of_le-ne {i = a} {k = u} (omega arith) (eqb-false a u q))

  -- all rings are passed that the table has room for
  pub notes_end : min (context_count p) 200 ≤ u → t ≡ positions_filled p t₀
  unfolding positions_filled
  notes_end last =
      ext_get_or 0 t (map fresh (from 0 (length t₀))) (inv.long ∙ sym (length-map-from fresh 0 (length t₀)))
      (λ k h. each-cell k h (ltb k 40000) refl ∙ sym (get_or-map-from fresh 0 (length t₀) k 0 (let l = inv.long in omega arith) ∙ ap fresh (omega arith)))
    where
      fresh : ℕ → ℕ
      fresh k = over (get_or t₀ k 0) (get_or (positions_of p) k 0)

      none : (a v : ℕ) → u ≤ a → a < 200 → (j : ℕ) → position v (take j (ring p a)) ≡ 0
      none a v h k j = ap (λ (l : List ℕ). position v (take j l)) (ring_outside p a (omega arith)) ∙ ap (position v) (take-nil j) ∙ position_absent v [] refl

      by_ring : (a v : ℕ) → a < 200 → v < 200 → cell_at a v < length t₀ → (x y : Bool) → ltb a u ≡ x → eqb a u ≡ y → get_or t (cell_at a v) 0 ≡ over (get_or t₀ (cell_at a v) 0) (position v (ring p a))
      by_ring a v h k f true y e g = inv.done a v h k f (ltb-true a u e)
      by_ring a v h k f false true e g =
          let z = eqb-true a u g in
          let l = ltb-false a u e in
          let nothing = none u v (omega arith) (omega arith) i ∙ sym (bare p a v (omega arith)) in
          ap (λ (c : ℕ). get_or t (cell_at c v) 0) z ∙ inv.here v (omega arith) k (omega arith) ∙ ap (over (get_or t₀ (cell_at u v) 0)) nothing ∙ ap (λ (c : ℕ). over (get_or t₀ (cell_at c v) 0) (position v (ring p a))) (sym z)
      by_ring a v h k f false false e g =
          let l = ltb-false a u e in
          let d = eqb-false a u g in
          inv.later a v h k (lt_of_le-ne {i = u} {k = a} l (λ q. d (sym q))) ∙ sym (ap (over (get_or t₀ (cell_at a v) 0)) (bare p a v (omega arith)) ∙ over_zero (get_or t₀ (cell_at a v) 0))

      each-cell : (k : ℕ) → k < length t → (b : Bool) → ltb k 40000 ≡ b → get_or t k 0 ≡ fresh k
      each-cell k h true e =
          let l = inv.long in
          let m = ltb-true k 40000 e in
          let s : 200 * (k / 200) + k % 200 ≡ k = omega arith in
          let a : k / 200 < 200 = omega arith in
          let b : k % 200 < 200 = omega arith in
          let here = by_ring (k / 200) (k % 200) a b (omega arith) (ltb (k / 200) u) (eqb (k / 200) u) refl refl in
          ap (λ (j : ℕ). get_or t j 0) (sym s) ∙ here ∙ ap (λ (j : ℕ). over (get_or t₀ j 0) (position (k % 200) (ring p (k / 200)))) s ∙ ap (over (get_or t₀ k 0)) (sym (positions_at p k m))
      each-cell k h false e =
          let m = ltb-false k 40000 e in
          let l = length_positions p in
          inv.beyond k m ∙ sym (ap (over (get_or t₀ k 0)) (sym (past (positions_of p) k (omega arith))) ∙ over_zero (get_or t₀ k 0))

-- A table that was all 0 finds the entries once it is filled, where it has a row for each context, or 200 rows
pub finds-filled : (p : Plan) {n k : ℕ} {old t : List ℕ} → n ≡ context_count p → 200 * min n 200 ≤ k → old ≡ replicate k 0 → t ≡ positions_filled p old → Finds t p
unfolding positions_filled zeros
finds-filled p {k = k} {old} {t} size room none is u v h l = ap (λ (t : List ℕ). get_or t (cell_at u v) 0) is ∙ go (ltb (cell_at u v) k) refl
  where
    fresh : ℕ → ℕ
    fresh c = over (get_or old c 0) (get_or (positions_of p) c 0)

    long : length old ≡ k
    long = ap length none ∙ length-replicate {A = ℕ} k 0

    go : (b : Bool) → ltb (cell_at u v) k ≡ b → get_or (map fresh (from 0 (length old))) (cell_at u v) 0 ≡ position v (ring p u)
    go true e =
        let m = ltb-true (cell_at u v) k e in
        get_or-map-from fresh 0 (length old) (cell_at u v) 0 (omega (arith, long))
        ∙ ap fresh (let z : 0 + cell_at u v ≡ cell_at u v = omega arith in z)
        ∙ over_none (get_or (positions_of p) (cell_at u v) 0) (ap (λ (s : List ℕ). get_or s (cell_at u v) 0) none ∙ get_or-zeros k (cell_at u v))
        ∙ positions_cell p u v h l
    go false e =
        let m = ltb-false (cell_at u v) k e in
        sym (past (map fresh (from 0 (length old))) (cell_at u v) (omega (arith, length-map-from fresh 0 (length old), long))) ∙ sym (bare p u v (omega arith))

-- an entry of u's ring, in the part of the entries that is the ring
pub part-at : (starts sizes es : List ℕ) (n u : ℕ) {a k i : ℕ} {l : List ℕ} → a ≡ get_or starts u 0 → k ≡ size_of sizes n u → a + k ≤ length es
    → l ≡ slice_range es a (a + k) → i < k → neighbour (get_or l i 0) ≡ get_or (ring (rows starts sizes es n) u) i 0
part-at starts sizes es n u {a} {k} {i} {l} p q h same low =
    let size : a + k - a ≡ k = omega arith in
    let part : l ≡ stretch es a k = same ∙ ap (λ (m : ℕ). take m (drop a es)) size ∙ sym (stretch_part es a k h) in
    ap neighbour (ap (λ (s : List ℕ). get_or s i 0) part ∙ get_or-stretch es a k i low ∙ ap (λ (b : ℕ). get_or es (b + i) 0) p) ∙ sym (ring-at starts sizes es n u i (omega arith))
