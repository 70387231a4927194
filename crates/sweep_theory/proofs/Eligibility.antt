-- Eligible pairs of a frontier without chords, test by test: what the list, and each of its contexts, must be.
use Prim.Native.Nat.{ℕ, zero, suc, ◌+◌, ◌-◌, ◌≤◌, ◌<◌}
use mathlib.Core.Path.{◌≡◌, refl, sym, ap, ◌∙◌}
use mathlib.Core.List.{List, [], ◌∷◌, Memᴰ}
use mathlib.Core.Bool.{Bool, true, false, not, ◌&&◌, ◌||◌}
use mathlib.Core.Logic.{◌⊎◌, inl, inr, ◌≢◌}
use native.Mathlib.Omega.{arith}
use lib.ListN.{length, drop}
use borrow.Author.Tests.{not-true}
use Rattle.std.specs.List.{list_any, list_all}
use Rattle.lists.specs.Tests.{is_empty, member, repeats}
use Rattle.lists.specs.Ranges.{from}
use Rattle.lists.specs.Parts.{index_of}
use Rattle.lists.proofs.Bools.{and_yes, yes_and, or_no, no_or, yes-not, both}
use Rattle.lists.proofs.Ranges.{lt-or-le, from-mem, mem-from}
use Rattle.lists.proofs.Tests.{none_of, of_none, list_all_of, of_list_all, list_any_of}
use Rattle.lists.proofs.Places.{index_at}
use Rattle.lists.proofs.Once.{Once, no_repeat_once}
use Rattle.model.specs.Plan.{Plan, adjacent, border}
use Rattle.model.specs.Sweep.{State, below, listed, replaced, chordless, eligible}
use Rattle.model.specs.SweepStates.{Positions}
use Rattle.model.proofs.Eligible.{get_or-mem, mem-get_or, chordless-apart, replaced-left, replaced-list, replaced-right, replaced-length, below-listed}
use Rattle.sweep_theory.proofs.Trails.{at}

-- ---- lists that are not empty
pub some_in : (v : List ℕ) → is_empty v ≡ false → 0 < length v
some_in [] q = both true refl q
some_in (c ∷ v) q = omega arith

pub not_empty : (v : List ℕ) → 0 < length v → is_empty v ≡ false
not_empty [] h = absurd (omega arith)
not_empty (c ∷ v) h = refl

-- ---- chords
-- a list whose entries two or more apart are no neighbours has no chord
pub apart-chordless : (p : Plan) (g : List ℕ) → ((k l : ℕ) → k + 2 ≤ l → l < length g → adjacent p (at g k) (at g l) ≡ false) → chordless p g ≡ true
unfolding chordless
apart-chordless p [] h = refl
apart-chordless p (a ∷ g) h =
    yes_and (not (list_any (adjacent p a) (drop 1 g))) (chordless p g) (yes-not (list_any (adjacent p a) (drop 1 g)) (of_none (adjacent p a) (drop 1 g) (λ c m. far g c m (λ l b q. h 0 (suc l) (omega arith) (omega arith)))))
    (apart-chordless p g (λ k l b q. h (suc k) (suc l) (omega arith) (omega arith)))
  where
    far : (g : List ℕ) (c : ℕ) → Memᴰ c (drop 1 g) → ((l : ℕ) → 1 ≤ l → l < length g → adjacent p a (at g l) ≡ false) → adjacent p a c ≡ false
    far [] c m h = elim m [ ]
    far (b ∷ g) c m h = let (l, q, e) = mem-get_or g c m in ap (adjacent p a) (sym e) ∙ h (suc l) (omega arith) (omega arith)

-- a list with a chord
pub record Chord (p : Plan) (g : List ℕ) : Type 0 where
  pub from : ℕ
  pub to : ℕ
  pub apart : from + 2 ≤ to
  pub inside : to < length g
  pub near : adjacent p (at g from) (at g to) ≡ true

pub chord_found : (p : Plan) (g : List ℕ) → chordless p g ≡ false → Chord p g
unfolding chordless
chord_found p [] e = both true refl e
chord_found p (a ∷ g) e = go (chord_found p g) (list_any (adjacent p a) (drop 1 g)) refl e
  where
    here : (g : List ℕ) (c : ℕ) → Memᴰ c (drop 1 g) → adjacent p a c ≡ true → Chord p (a ∷ g)
    here [] c m n = elim m [ ]
    here (b ∷ g) c m n = let (l, q, e) = mem-get_or g c m in record { from = 0; to = suc (suc l); apart = omega arith; inside = omega arith; near = ap (adjacent p a) e ∙ n }

    go : (chordless p g ≡ false → Chord p g) → (t : Bool) → list_any (adjacent p a) (drop 1 g) ≡ t → (not t && chordless p g) ≡ false → Chord p (a ∷ g)
    go r true q e = let (c, m, n) = list_any_of (adjacent p a) (drop 1 g) q in here g c m n
    go r false q e = let c = r e in let x = c.apart in let y = c.inside in record { from = suc c.from; to = suc c.to; apart = omega arith; inside = omega arith; near = c.near }

-- positions of a list without repeats that hold the same context are the same
pub same_position : (l : List ℕ) → Once l → (a b : ℕ) → a < length l → b < length l → at l a ≡ at l b → a ≡ b
same_position l o a b h k e = sym (index_at l a 0 o h) ∙ ap (λ (c : ℕ). index_of c l) e ∙ index_at l b 0 o k

-- ---- what makes a pair eligible
pub record Fits (p : Plan) (f seen : List ℕ) (i j : ℕ) (l : List ℕ) : Type 0 where
  -- each position between has something below
  pub full : (t : ℕ) → i < t → t < j → is_empty (below p f t) ≡ false
  -- the list has no repeat, no border context and none that is seen
  pub once : repeats l ≡ false
  pub inner : (c : ℕ) → Memᴰ c l → border c ≡ false
  pub new : (c : ℕ) → Memᴰ c l → member c seen ≡ false
  -- it has no chord, nor is there one to what stays on its left and on its right
  pub among : chordless p l ≡ true
  pub left : (a c : ℕ) → a < i → Memᴰ c l → adjacent p (at f a) c ≡ false
  pub first : (c : ℕ) → Memᴰ c l → c ≢ at l 0 → adjacent p (at f i) c ≡ false
  pub right : (b c : ℕ) → j < b → b < length f → Memᴰ c l → adjacent p c (at f b) ≡ false
  pub last : (c : ℕ) → Memᴰ c l → c ≢ at l (length l - 1) → adjacent p c (at f j) ≡ false

module _ (p : Plan) (s : State) (i j : ℕ) (o : Positions s i j) where
  abbrev f : List ℕ
  f = s.frontier

  abbrev l : List ℕ
  l = listed p f i j

  abbrev g : List ℕ
  g = replaced f i j l

  two : i + 2 ≤ j
  two = o.apart

  inside : j < length f
  inside = o.inside

  size : length g ≡ suc i + length l + (length f - j)
  size = replaced-length f l i j two inside

  on_left : (t : ℕ) → t ≤ i → at g t ≡ at f t
  on_left t h = replaced-left f l i j two inside t h

  on_list : (t x : ℕ) → t ≡ suc i + x → x < length l → at g t ≡ at l x
  on_list t x e h = ap (at g) e ∙ replaced-list f l i j two inside x h

  on_right : (t u : ℕ) → t ≡ suc i + length l + (u - j) → j ≤ u → at g t ≡ at f u
  on_right t u e h = let x : j + (u - j) ≡ u = omega arith in ap (at g) e ∙ replaced-right f l i j two inside (u - j) ∙ ap (at f) x

  abbrev something : ℕ → Bool
  something k = not (is_empty (below p f k))

  abbrev Parts : Type 0
  Parts = (list_all something (from (suc i) (j - suc i)) ≡ true) × (repeats l ≡ false) × (list_any border l ≡ false) × (list_any (λ (c : ℕ). member c s.seen) l ≡ false) × (chordless p g ≡ true)

  parts : eligible p s i j ≡ true → Parts
  unfolding eligible
  parts e =
      let seen : Bool = list_any (λ (c : ℕ). member c s.seen) l in
      let bad : Bool = repeats l || list_any border l || seen in
      let (ab, c) = and_yes (list_all something (from (suc i) (j - suc i)) && not bad) (chordless p g) e in
      let (a, b) = and_yes (list_all something (from (suc i) (j - suc i))) (not bad) ab in
      let (x, y) = or_no (repeats l || list_any border l) seen (not-true bad b) in
      let (z, w) = or_no (repeats l) (list_any border l) x in
      (a, z, w, y, c)

  joined : Parts → eligible p s i j ≡ true
  unfolding eligible
  joined (a, z, w, y, c) =
      let seen : Bool = list_any (λ (c : ℕ). member c s.seen) l in
      let bad : Bool = repeats l || list_any border l || seen in
      let fine : not bad ≡ true = yes-not bad (no_or (repeats l || list_any border l) seen (no_or (repeats l) (list_any border l) z w) y) in
      yes_and (list_all something (from (suc i) (j - suc i)) && not bad) (chordless p g) (yes_and (list_all something (from (suc i) (j - suc i))) (not bad) a fine) c

  -- the new frontier of an eligible pair has no chord
  pub no_chord : eligible p s i j ≡ true → chordless p g ≡ true
  no_chord e = (parts e).4

  -- AN ELIGIBLE PAIR FITS
  pub fits : eligible p s i j ≡ true → Fits p f s.seen i j l
  fits e =
      let (a, z, w, y, c) = parts e in
      let far : (k v : ℕ) → k + 2 ≤ v → v < length g → adjacent p (at g k) (at g v) ≡ false = chordless-apart p g c in
      let n = size in
      record {
        full = λ t b q. not-true (is_empty (below p f t)) (list_all_of something (from (suc i) (j - suc i)) a t (from-mem (suc i) (j - suc i) t (omega arith) (omega arith)));
        once = z;
        inner = none_of border l w;
        new = none_of (λ (d : ℕ). member d s.seen) l y;
        among = apart-chordless p l (λ k v b q. sym (λ d. adjacent p (on_list (suc i + k) k refl (omega arith) d) (on_list (suc i + v) v refl q d)) ∙ far (suc i + k) (suc i + v) (omega arith) (omega arith));
        left = λ t d b m.
            let (x, q, h) = mem-get_or l d m in
            sym (λ k. adjacent p (on_left t (omega arith) k) ((on_list (suc i + x) x refl q ∙ h) k)) ∙ far t (suc i + x) (omega arith) (omega arith);
        first = λ d m ne.
            let (x, q, h) = mem-get_or l d m in
            let x1 : 1 ≤ x = later x h ne in
            sym (λ k. adjacent p (on_left i (omega arith) k) ((on_list (suc i + x) x refl q ∙ h) k)) ∙ far i (suc i + x) (omega arith) (omega arith);
        right = λ b d h q m.
            let (x, r, k) = mem-get_or l d m in
            let t : ℕ = suc i + length l + (b - j) in
            sym (λ v. adjacent p ((on_list (suc i + x) x refl r ∙ k) v) (on_right t b refl (omega arith) v)) ∙ far (suc i + x) t (omega arith) (omega arith);
        last = λ d m ne.
            let (x, r, k) = mem-get_or l d m in
            let x1 : suc x < length l = sooner x r k ne in
            let t : ℕ = suc i + length l in
            sym (λ v. adjacent p ((on_list (suc i + x) x refl r ∙ k) v) (on_right t j (omega arith) (omega arith) v)) ∙ far (suc i + x) t (omega arith) (omega arith);
      }
    where
      later : {d : ℕ} (x : ℕ) → at l x ≡ d → d ≢ at l 0 → 1 ≤ x
      later zero h ne = absurd (ne (sym h))
      later (suc x) h ne = omega arith

      sooner : {d : ℕ} (x : ℕ) → x < length l → at l x ≡ d → d ≢ at l (length l - 1) → suc x < length l
      sooner x r h ne = go (lt-or-le (suc x) (length l))
        where
          go : (suc x < length l) ⊎ (length l ≤ suc x) → suc x < length l
          go (inl b) = b
          go (inr b) = let e : x ≡ length l - 1 = omega arith in absurd (ne (sym h ∙ ap (at l) e))

  -- its list is not empty
  pub listed_some : eligible p s i j ≡ true → 0 < length l
  listed_some e =
      let w = two in
      let v : List ℕ = below p f (suc i) in
      let some = some_in v ((fits e).full (suc i) (omega arith) (omega arith)) in
      let (k, b, q) = mem-get_or l (at v 0) (below-listed p s i j o e (suc i) (at v 0) (omega arith) (omega arith) (get_or-mem v 0 some)) in
      omega arith

  -- AND WHERE THE FRONTIER HAS NO CHORD, A PAIR THAT FITS IS ELIGIBLE
  pub fits_eligible : chordless p f ≡ true → Fits p f s.seen i j l → eligible p s i j ≡ true
  fits_eligible clean t =
      joined (
        of_list_all something (from (suc i) (j - suc i)) (λ k m. let (a, b) = mem-from (suc i) (j - suc i) k m in yes-not (is_empty (below p f k)) (t.full k (omega arith) (omega arith))),
        t.once,
        of_none border l t.inner,
        of_none (λ (d : ℕ). member d s.seen) l t.new,
        apart-chordless p g far,
      )
    where
      o₁ : Once l
      o₁ = no_repeat_once l t.once

      -- by where the two stand
      left_list : (k v x : ℕ) → k ≤ i → v ≡ suc i + x → x < length l → k + 2 ≤ v → adjacent p (at g k) (at g v) ≡ false
      left_list k v x a e q b = (λ d. adjacent p (on_left k a d) (on_list v x e q d)) ∙ go (lt-or-le k i)
        where
          go : (k < i) ⊎ (i ≤ k) → adjacent p (at f k) (at l x) ≡ false
          go (inl c) = t.left k (at l x) c (get_or-mem l x q)
          go (inr c) =
              let z : k ≡ i = omega arith in
              ap (λ (y : ℕ). adjacent p (at f y) (at l x)) z ∙ t.first (at l x) (get_or-mem l x q) (λ y. let w = same_position l o₁ x 0 q (omega arith) y in absurd (omega arith))

      list_right : (k v x u : ℕ) → k ≡ suc i + x → x < length l → v ≡ suc i + length l + (u - j) → j ≤ u → u < length f → k + 2 ≤ v → adjacent p (at g k) (at g v) ≡ false
      list_right k v x u e q h c r b = (λ d. adjacent p (on_list k x e q d) (on_right v u h c d)) ∙ go (lt-or-le j u)
        where
          go : (j < u) ⊎ (u ≤ j) → adjacent p (at l x) (at f u) ≡ false
          go (inl w) = t.right u (at l x) w r (get_or-mem l x q)
          go (inr w) =
              let z : u ≡ j = omega arith in
              ap (λ (y : ℕ). adjacent p (at l x) (at f y)) z ∙ t.last (at l x) (get_or-mem l x q) (λ y. let n = same_position l o₁ x (length l - 1) q (omega arith) y in absurd (omega arith))

      far : (k v : ℕ) → k + 2 ≤ v → v < length g → adjacent p (at g k) (at g v) ≡ false
      far k v b q = go (lt-or-le i k) (lt-or-le i v) (lt-or-le k (suc i + length l)) (lt-or-le v (suc i + length l))
        where
          go : (i < k) ⊎ (k ≤ i) → (i < v) ⊎ (v ≤ i) → (k < suc i + length l) ⊎ (suc i + length l ≤ k) → (v < suc i + length l) ⊎ (suc i + length l ≤ v) → adjacent p (at g k) (at g v) ≡ false
          go (inr a) (inr c) d w = (λ y. adjacent p (on_left k a y) (on_left v c y)) ∙ chordless-apart p f clean k v b (let z = inside in omega arith)
          go (inr a) (inl c) d (inl w) = left_list k v (v - suc i) a (omega arith) (omega arith) b
          go (inr a) (inl c) d (inr w) =
              let z = inside in
              let y = two in
              let m = size in
              let u : ℕ = j + (v - (suc i + length l)) in
              (λ x. adjacent p (on_left k a x) (on_right v u (omega arith) (omega arith) x)) ∙ chordless-apart p f clean k u (omega arith) (omega arith)
          go (inl a) (inr c) d w = absurd (omega arith)
          go (inl a) (inl c) (inl d) (inl w) =
              let x : ℕ = k - suc i in
              let y : ℕ = v - suc i in
              (λ z. adjacent p (on_list k x (omega arith) (omega arith) z) (on_list v y (omega arith) (omega arith) z)) ∙ chordless-apart p l t.among x y (omega arith) (omega arith)
          go (inl a) (inl c) (inl d) (inr w) =
              let z = inside in
              let m = size in
              list_right k v (k - suc i) (j + (v - (suc i + length l))) (omega arith) (omega arith) (omega arith) (omega arith) (omega arith) b
          go (inl a) (inl c) (inr d) (inl w) = absurd (omega arith)
          go (inl a) (inl c) (inr d) (inr w) =
              let z = inside in
              let m = size in
              let x : ℕ = j + (k - (suc i + length l)) in
              let y : ℕ = j + (v - (suc i + length l)) in
              (λ n. adjacent p (on_right k x (omega arith) (omega arith) n) (on_right v y (omega arith) (omega arith) n)) ∙ chordless-apart p f clean x y (omega arith) (omega arith)
