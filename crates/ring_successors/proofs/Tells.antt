-- What the table of successors tells: for each ring and entry below 200 the mark of the entry after it, and 0 where the entry is not there.
use Prim.Native.Nat.{ℕ, zero, suc, ◌+◌, ◌-◌, ◌≤◌, ◌<◌, min}
use mathlib.Core.Path.{◌≡◌, refl, sym, ap, ◌∙◌}
use mathlib.Core.List.{List, [], ◌∷◌}
use mathlib.Core.Bool.{Bool, true, false, cond, ◌&&◌, ◌||◌, false≢true, true≢false}
use native.Mathlib.Omega.{arith}
use lib.ListN.{length, get_or, set, get_or-eq_default}
use lib.Seq.{get_or-set_same, get_or-set_other}
use lib.Arith.{lt_of_le-ne}
use lib.Dec.{eqb, ltb}
use borrow.Author.Tests.{ltb-true, ltb-false, lt-ltb, eqb-true, eqb-false}
use Rattle.lists.specs.Tests.{member, repeats}
use Rattle.lists.specs.Parts.{index_of}
use Rattle.lists.specs.Spans.{zeros}
use Rattle.lists.specs.Folds.{each}
use Rattle.lists.proofs.Bools.{and_yes, no_or}
use Rattle.lists.proofs.Spans.{length-zeros}
use Rattle.lists.proofs.Tests.{member-mem}
use Rattle.lists.proofs.Places.{get_d_any, index_below, index_is}
use Rattle.lists.proofs.Padded.{get_or-zeros}
use Rattle.model.specs.Plan.{Plan, context_count, ring, adjacent, next}
use Rattle.model.proofs.Plans.{ring_outside}
use Rattle.rings.proofs.Rows.{next-after, next_round, next-alone}
use Rattle.ring_successors.specs.Successors.{successor_mark, cell_at, has_cell, Noted, note_at, note_ring, note_rings, successors_of, apart, successor}
use Rattle.ring_successors.proofs.Notes.{ring_long, row, successor-cell, successor_there}

-- ---- one note: its own cell, and every other
module _ (u v x : ℕ) (s : Noted) where
  note_same : u < 200 → v < 200 → cell_at u v < length s.0 → get_or (note_at u v x s).0 (cell_at u v) 0 ≡ x
  unfolding note_at
  note_same h k l = rw (lt-ltb u 200 h, lt-ltb v 200 k) (get_or-set_same s.0 (cell_at u v) x 0 l)

  note_other : (k : ℕ) → (v < 200 → k ≡ cell_at u v → ⊥) → get_or (note_at u v x s).0 k 0 ≡ get_or s.0 k 0
  unfolding note_at
  note_other k h = go (has_cell u v) refl
    where
      go : (b : Bool) → has_cell u v ≡ b → get_or (cond b (set s.0 (cell_at u v) x) s.0) k 0 ≡ get_or s.0 k 0
      go true e = get_or-set_other s.0 (cell_at u v) k x 0 (h (ltb-true v 200 (and_yes (ltb u 200) (ltb v 200) e).1))
      go false e = refl

-- ---- a ring: what it says of v, where z comes after its last entry
unfoldable tell : ℕ → ℕ → List ℕ → ℕ
tell v z [] = 0
tell v z (a ∷ l) = cond (eqb v a) (successor_mark (get_or l 0 z)) (tell v z l)

-- the cells of u's row, which were 0
row-cell : (u v z : ℕ) (l : List ℕ) (s : Noted) → u < 200 → v < 200 → length s.0 ≡ 40000 → get_or s.0 (cell_at u v) 0 ≡ 0 → get_or (note_ring u z l s).0 (cell_at u v) 0 ≡ tell v z l
unfolding note_ring tell
row-cell u v z [] s h k n e = e
row-cell u v z (a ∷ l) s h k n e = go (eqb v a) refl (row-cell u v z l s h k n e)
  where
    r : Noted
    r = note_ring u z l s

    x : ℕ
    x = successor_mark (get_or l 0 z)

    go : (b : Bool) → eqb v a ≡ b → get_or r.0 (cell_at u v) 0 ≡ tell v z l → get_or (note_at u a x r).0 (cell_at u v) 0 ≡ cond b x (tell v z l)
    go true q c =
        let m = eqb-true v a q in
        let long = ring_long u z l s in
        ap (λ (w : ℕ). get_or (note_at u w x r).0 (cell_at u v) 0) (sym m) ∙ note_same u v x r h k (omega arith)
    go false q c = note_other u a x r (cell_at u v) (λ w d. eqb-false v a q (omega arith)) ∙ c

-- every other cell
row_other : (u z : ℕ) (l : List ℕ) (s : Noted) (k : ℕ) → ((w : ℕ) → w < 200 → k ≡ cell_at u w → ⊥) → get_or (note_ring u z l s).0 k 0 ≡ get_or s.0 k 0
unfolding note_ring
row_other u z [] s k h = refl
row_other u z (a ∷ l) s k h = note_other u a (successor_mark (get_or l 0 z)) (note_ring u z l s) k (h a) ∙ row_other u z l s k h

-- an entry that is there has a mark
tell_some : (v z : ℕ) (l : List ℕ) → member v l ≡ true → tell v z l ≡ successor_mark (get_or l (suc (index_of v l)) z)
unfolding tell
tell_some v z [] e = absurd (false≢true e)
tell_some v z (a ∷ l) e = go (eqb v a) e (tell_some v z l)
  where
    go : (b : Bool) → (b || member v l) ≡ true → (member v l ≡ true → tell v z l ≡ successor_mark (get_or l (suc (index_of v l)) z))
        → cond b (successor_mark (get_or l 0 z)) (tell v z l) ≡ successor_mark (get_or l (cond b 0 (suc (index_of v l))) z)
    go true e c = refl
    go false e c = c e

-- one that is not there has none
tell_none : (v z : ℕ) (l : List ℕ) → member v l ≡ false → tell v z l ≡ 0
unfolding tell
tell_none v z [] e = refl
tell_none v z (a ∷ l) e = go (eqb v a) e (tell_none v z l)
  where
    go : (b : Bool) → (b || member v l) ≡ false → (member v l ≡ false → tell v z l ≡ 0) → cond b (successor_mark (get_or l 0 z)) (tell v z l) ≡ 0
    go true e c = absurd (true≢false e)
    go false e c = c e

-- a mark is not 0
successor_mark-some : (v : ℕ) → successor_mark v ≡ 0 → ⊥
unfolding successor_mark
successor_mark-some v e = omega arith

-- a mark that is not 255 says its context
successor_mark-room : (v w : ℕ) → (suc w ≡ 255 → ⊥) → successor_mark v ≡ suc w → v ≡ w
unfolding successor_mark
successor_mark-room v w h e = omega arith

-- a ring whose entries all found their cells 0 repeats none
row_apart : (u z : ℕ) (l : List ℕ) (s : Noted) → u < 200 → length s.0 ≡ 40000 → ((v : ℕ) → v < 200 → get_or s.0 (cell_at u v) 0 ≡ 0) → (note_ring u z l s).1 ≡ true → (s.1 ≡ true) × (repeats l ≡ false)
unfolding note_ring note_at
row_apart u z [] s h n e t = (t, refl)
row_apart u z (v ∷ l) s h n e t = let rest = row_apart u z l s h n e halves.1 in (rest.0, no_or (member v l) (repeats l) (go (member v l) refl) rest.1)
  where
    r : Noted
    r = note_ring u z l s

    halves : ((has_cell u v && eqb (get_or r.0 (cell_at u v) 0) 0) ≡ true) × (r.1 ≡ true)
    halves = and_yes (has_cell u v && eqb (get_or r.0 (cell_at u v) 0) 0) r.1 t

    tests : (has_cell u v ≡ true) × (eqb (get_or r.0 (cell_at u v) 0) 0 ≡ true)
    tests = and_yes (has_cell u v) (eqb (get_or r.0 (cell_at u v) 0) 0) halves.0

    low : v < 200
    low = ltb-true v 200 (and_yes (ltb u 200) (ltb v 200) tests.0).1

    go : (b : Bool) → member v l ≡ b → member v l ≡ false
    go false q = q
    go true q = absurd (successor_mark-some (get_or l (suc (index_of v l)) z) (sym (row-cell u v z l s h low n (e v low) ∙ tell_some v z l q) ∙ eqb-true (get_or r.0 (cell_at u v) 0) 0 tests.1))

-- ---- the rings of a plan one after the other
module _ (p : Plan) where
  abbrev says : ℕ → ℕ → ℕ
  says u v = tell v (get_or (ring p u) 0 0) (ring p u)

  -- the cells of a ring that is none of them
  each-kept : (a v : ℕ) → v < 200 → (i k : ℕ) (s : Noted) → ((j : ℕ) → i ≤ j → j < i + k → a ≡ j → ⊥) → get_or (each (row p) i k s).0 (cell_at a v) 0 ≡ get_or s.0 (cell_at a v) 0
  unfolding each
  each-kept a v h i zero s d = refl
  each-kept a v h i (suc k) s d =
      each-kept a v h (suc i) k (row p i s) (λ j x y. d j (omega arith) (omega arith)) ∙ row_other i (get_or (ring p i) 0 0) (ring p i) s (cell_at a v) (λ w l e. d i (omega arith) (omega arith) (omega arith))

  -- the cells of one of them, which were 0
  each-cell : (a v : ℕ) → v < 200 → (i k : ℕ) (s : Noted) → length s.0 ≡ 40000 → i ≤ a → a < i + k → i + k ≤ 200 → get_or s.0 (cell_at a v) 0 ≡ 0 → get_or (each (row p) i k s).0 (cell_at a v) 0 ≡ says a v
  unfolding each
  each-cell a v h i zero s n x y m e = absurd (omega arith)
  each-cell a v h i (suc k) s n x y m e = go (eqb i a) refl (each-cell a v h (suc i) k (row p i s) long)
    where
      long : length (row p i s).0 ≡ 40000
      long = ring_long i (get_or (ring p i) 0 0) (ring p i) s ∙ n

      go : (b : Bool) → eqb i a ≡ b
          → (suc i ≤ a → a < suc i + k → suc i + k ≤ 200 → get_or (row p i s).0 (cell_at a v) 0 ≡ 0 → get_or (each (row p) (suc i) k (row p i s)).0 (cell_at a v) 0 ≡ says a v)
          → get_or (each (row p) (suc i) k (row p i s)).0 (cell_at a v) 0 ≡ says a v
      go true q c =
          let z = eqb-true i a q in
          each-kept a v h (suc i) k (row p i s) (λ j x y e. omega arith)
          ∙ ap (λ (w : ℕ). get_or (row p w s).0 (cell_at a v) 0) z
          ∙ row-cell a v (get_or (ring p a) 0 0) (ring p a) s (omega arith) h n e
      go false q c = let d = eqb-false i a q in c (lt_of_le-ne {i = i} {k = a} x d) (omega arith) (omega arith) (row_other i (get_or (ring p i) 0 0) (ring p i) s (cell_at a v) (λ w l f. d (omega arith)) ∙ e)

  -- where all found their cells 0, none of the rings repeats an entry
  each-apart : (i k : ℕ) (s : Noted) → length s.0 ≡ 40000 → i + k ≤ 200 → ((a v : ℕ) → i ≤ a → a < 200 → v < 200 → get_or s.0 (cell_at a v) 0 ≡ 0)
      → (each (row p) i k s).1 ≡ true → (s.1 ≡ true) × ((a : ℕ) → i ≤ a → a < i + k → repeats (ring p a) ≡ false)
  unfolding each
  each-apart i zero s n m e t = (t, λ a x y. absurd (omega arith))
  each-apart i (suc k) s n m e t =
      let z = get_or (ring p i) 0 0 in
      let long = ring_long i z (ring p i) s ∙ n in
      let rest = each-apart (suc i) k (row p i s) long (omega arith) (λ a v x h l. row_other i z (ring p i) s (cell_at a v) (λ w b c. omega arith) ∙ e a v (omega arith) h l) t in
      let here = row_apart i (get_or (ring p i) 0 0) (ring p i) s (omega arith) n (λ v l. e i v (omega arith) (omega arith) l) rest.0 in
      (here.0, λ a x y. go a x y here.1 rest.1 (eqb i a) refl)
    where
      go : (a : ℕ) → i ≤ a → a < i + suc k → repeats (ring p i) ≡ false → ((b : ℕ) → suc i ≤ b → b < suc i + k → repeats (ring p b) ≡ false) → (b : Bool) → eqb i a ≡ b → repeats (ring p a) ≡ false
      go a x y f g true q = ap (λ (j : ℕ). repeats (ring p j)) (sym (eqb-true i a q)) ∙ f
      go a x y f g false q = g a (lt_of_le-ne {i = i} {k = a} x (eqb-false i a q)) (omega arith)

  -- the table keeps its length
  each-long : (i k : ℕ) (s : Noted) → length (each (row p) i k s).0 ≡ length s.0
  unfolding each
  each-long i zero s = refl
  each-long i (suc k) s = each-long (suc i) k (row p i s) ∙ ring_long i (get_or (ring p i) 0 0) (ring p i) s

  -- ---- from a table of zeros
  -- each cell of the table of successors
  successors_cell : (u v : ℕ) → u < 200 → v < 200 → get_or (successors_of p) (cell_at u v) 0 ≡ says u v
  unfolding successors_of note_rings tell
  successors_cell u v h k = go (ltb u m) refl
    where
      m : ℕ
      m = min (context_count p) 200

      go : (b : Bool) → ltb u m ≡ b → get_or (each (row p) 0 (m - 0) (zeros 40000, true)).0 (cell_at u v) 0 ≡ says u v
      go true e = let l = ltb-true u m e in each-cell u v k 0 (m - 0) (zeros 40000, true) (length-zeros 40000) (omega arith) (omega arith) (omega arith) (get_or-zeros 40000 (cell_at u v))
      go false e =
          let l = ltb-false u m e in
          each-kept u v k 0 (m - 0) (zeros 40000, true) (λ j x y q. omega arith) ∙ get_or-zeros 40000 (cell_at u v) ∙ sym (ap (λ (r : List ℕ). tell v (get_or r 0 0) r) (ring_outside p u (omega arith)))

  pub successors_long : length (successors_of p) ≡ 40000
  unfolding successors_of note_rings
  successors_long = each-long 0 (min (context_count p) 200 - 0) (zeros 40000, true) ∙ length-zeros 40000

  -- Where every entry has a cell of its own, no ring repeats an entry
  pub apart-once : context_count p ≤ 200 → apart p ≡ true → (u : ℕ) → u < context_count p → repeats (ring p u) ≡ false
  unfolding apart note_rings
  apart-once h e u l =
      let m : min (context_count p) 200 ≡ context_count p = omega arith in
      let all = each-apart 0 (min (context_count p) 200 - 0) (zeros 40000, true) (length-zeros 40000) (omega arith) (λ a v x k w. get_or-zeros 40000 (cell_at a v)) e in
      all.1 u (omega arith) (omega arith)

-- the entry after v, where v is there
pub next-successor_mark : (v : ℕ) (r : List ℕ) → member v r ≡ true → get_or r (suc (index_of v r)) (get_or r 0 0) ≡ next v r
next-successor_mark v r e = go (ltb (suc i) (length r)) refl
  where
    i : ℕ
    i = index_of v r

    there : i < length r
    there = index_below v r (member-mem v r e)

    one : i + 1 ≡ suc i
    one = omega arith

    go : (b : Bool) → ltb (suc i) (length r) ≡ b → get_or r (suc i) (get_or r 0 0) ≡ next v r
    go true q = let h = ltb-true (suc i) (length r) q in get_d_any r (suc i) (get_or r 0 0) 0 h ∙ ap (λ (k : ℕ). get_or r k 0) (sym one) ∙ next-after v r i (length r) refl refl (omega arith)
    go false q = let h = ltb-false (suc i) (length r) q in get_or-eq_default r (get_or r 0 0) h ∙ last h (ltb 0 i) refl
      where
        last : length r ≤ suc i → (b : Bool) → ltb 0 i ≡ b → get_or r 0 0 ≡ next v r
        last h true f = next_round v r i (length r) refl refl (omega arith) (ltb-true 0 i f)
        last h false f =
            let z : i ≡ 0 = let l = ltb-false 0 i f in omega arith in
            ap (λ (k : ℕ). get_or r k 0) (sym z) ∙ index_is v r 0 (member-mem v r e) ∙ next-alone v r i (length r) refl refl (omega arith) (omega arith)

-- ---- what a look-up says, where the table is the plan's own
module _ (p : Plan) {t : List ℕ} (own : t ≡ successors_of p) where
  abbrev Has : ℕ → ℕ → Bool → Type 0
  Has u v b = member v (ring p u) ≡ b

  successor-says : (u v : ℕ) → u < 200 → v < 200 → successor t u v ≡ says p u v
  successor-says u v h k = sym (successor-cell t u v h k) ∙ ap (λ (s : List ℕ). get_or s (cell_at u v) 0) own ∙ successors_cell p u v h k

  -- where it says something, u lists v
  pub successor-some : (u v : ℕ) → (successor t u v ≡ 0 → ⊥) → adjacent p u v ≡ true
  unfolding adjacent
  successor-some u v f = go (member v (ring p u)) refl
    where
      go : (b : Bool) → Has u v b → member v (ring p u) ≡ true
      go true e = e
      go false e = let (h, k) = successor_there t u v f in absurd (f (successor-says u v h k ∙ tell_none v (get_or (ring p u) 0 0) (ring p u) e))

  -- where there is a cell and it says nothing, u does not
  pub successor_none : (u v : ℕ) → u < 200 → v < 200 → successor t u v ≡ 0 → adjacent p u v ≡ false
  unfolding adjacent
  successor_none u v h k z = go (member v (ring p u)) refl
    where
      go : (b : Bool) → Has u v b → member v (ring p u) ≡ false
      go false e = e
      go true e = absurd (successor_mark-some _ (sym (successor-says u v h k ∙ tell_some v (get_or (ring p u) 0 0) (ring p u) e) ∙ z))

  -- where u lists v, it says the entry after it
  pub successor-successor_mark : (u v : ℕ) → u < 200 → v < 200 → adjacent p u v ≡ true → successor t u v ≡ successor_mark (next v (ring p u))
  unfolding adjacent
  successor-successor_mark u v h k q = successor-says u v h k ∙ tell_some v (get_or (ring p u) 0 0) (ring p u) q ∙ ap successor_mark (next-successor_mark v (ring p u) q)

  -- where it says a context that a byte has room for, that comes after v
  pub successor-next : (u v w : ℕ) → successor t u v ≡ suc w → (suc w ≡ 255 → ⊥) → next v (ring p u) ≡ w
  successor-next u v w e h =
      let (k, l) = successor_there t u v (λ z. omega arith) in
      successor_mark-room (next v (ring p u)) w h (sym (successor-successor_mark u v k l (successor-some u v (λ z. omega arith))) ∙ e)
