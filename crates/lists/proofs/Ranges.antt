-- Which numbers a range has; and what the lowest number that passes is.
use Prim.Native.Nat.{ℕ, zero, suc, ◌+◌, ◌≤◌, ◌<◌}
use mathlib.Core.Path.{◌≡◌, refl, sym, ap, ◌∙◌}
use mathlib.Core.List.{map, Memᴰ}
use mathlib.Core.Logic.{◌≢◌, ◌⊎◌, inl, inr}
use mathlib.Core.Bool.{Bool, true, false, cond}
use native.Mathlib.Omega.{arith}
use native.Mathlib.Decide.{dec_lt}
use lib.ListN.{length, get_or}
use lib.Dec.{eqb}
use borrow.Author.Tests.{eqb-true, eqb-false}
use Rattle.lists.specs.Ranges.{from, first_from}

-- a number is below another, or not
pub lt-or-le : (a b : ℕ) → (a < b) ⊎ (b ≤ a)
lt-or-le a b = go (dec_lt a b)
  where
    go : Dec (a < b) → (a < b) ⊎ (b ≤ a)
    go (yes h) = inl h
    go (no h) = inr (omega arith)

pub from-mem : (a k u : ℕ) → a ≤ u → u < a + k → Memᴰ u (from a k)
from-mem a zero u p q = absurd (omega arith)
from-mem a (suc k) u p q = go (λ h. from-mem (suc a) k u h (omega arith)) (eqb a u) refl
  where
    go : (a < u → Memᴰ u (from (suc a) k)) → (t : Bool) → eqb a u ≡ t → Memᴰ u (from a (suc k))
    go r true e = Memᴰ.head (sym (eqb-true a u e))
    go r false e = Memᴰ.tail (r (let n : a ≢ u = eqb-false a u e in omega arith))

pub mem-from : (a k u : ℕ) → Memᴰ u (from a k) → (a ≤ u) × (u < a + k)
mem-from a zero u x' = elim x' [ ]
mem-from a (suc k) u (Memᴰ.head e) = omega arith
mem-from a (suc k) u (Memᴰ.tail m) = let h : (suc a ≤ u) × (u < suc a + k) = mem-from (suc a) k u m in omega arith

pub length-map-from : {A : Type 0} (f : ℕ → A) (a k : ℕ) → length (map f (from a k)) ≡ k
length-map-from f a zero = refl
length-map-from f a (suc k) = ap suc (length-map-from f (suc a) k)

pub get_or-map-from : {A : Type 0} (f : ℕ → A) (a k u : ℕ) (d : A) → u < k → get_or (map f (from a k)) u d ≡ f (a + u)
get_or-map-from f a zero u d h = absurd (omega arith)
get_or-map-from f a (suc k) zero d h = ap f (omega arith)
get_or-map-from f a (suc k) (suc u) d h = get_or-map-from f (suc a) k u d (omega arith) ∙ ap f (omega arith)

module _ (f : ℕ → Bool) where
  -- the number is the first of those from a up to e that passes
  pub record FirstOf (a e u : ℕ) : Type 0 where
    pub reached : a ≤ u
    pub below : u < e
    pub passes : f u ≡ true
    pub none_before : (v : ℕ) → a ≤ v → v < u → f v ≡ false

  -- none of the numbers from a up to e passes
  abbrev pub NoneOf : ℕ → ℕ → Type 0
  NoneOf a e = (v : ℕ) → a ≤ v → v < e → f v ≡ false

  at_or_after : (a v e : ℕ) → f a ≡ false → NoneOf (suc a) e → a ≤ v → v < e → f v ≡ false
  at_or_after a v e q h l k = go (eqb a v) refl
    where
      go : (t : Bool) → eqb a v ≡ t → f v ≡ false
      go true s = rw (eqb-true a v s) at q
      go false s = h v (let n : a ≢ v = eqb-false a v s in omega arith) k

  -- either the first that passes is found, or none passes and the number after them is given
  pub first_found : (a k : ℕ) → first_from f a k < a + k → FirstOf a (a + k) (first_from f a k)
  unfolding first_from
  first_found a zero h = absurd (omega arith)
  first_found a (suc k) h = go (first_found (suc a) k) (f a) refl h
    where
      go : (first_from f (suc a) k < suc a + k → FirstOf (suc a) (suc a + k) (first_from f (suc a) k))
          → (t : Bool) → f a ≡ t → cond t a (first_from f (suc a) k) < a + suc k → FirstOf a (a + suc k) (cond t a (first_from f (suc a) k))
      go r true q h = record { reached = omega arith; below = h; passes = q; none_before = λ v l b. absurd (omega arith) }
      go r false q h =
          let i = r (omega arith) in
          let low = i.reached in
          record { reached = omega arith; below = h; passes = i.passes; none_before = λ v l b. at_or_after a v (first_from f (suc a) k) q i.none_before l b }

  pub first-none : (a k : ℕ) → a + k ≤ first_from f a k → NoneOf a (a + k)
  unfolding first_from
  first-none a zero h = λ v l b. absurd (omega arith)
  first-none a (suc k) h = go (first-none (suc a) k) (f a) refl h
    where
      go : (suc a + k ≤ first_from f (suc a) k → NoneOf (suc a) (suc a + k)) → (t : Bool) → f a ≡ t → a + suc k ≤ cond t a (first_from f (suc a) k) → NoneOf a (a + suc k)
      go r true q h = absurd (omega arith)
      go r false q h = λ v l m. at_or_after a v (suc a + k) q (r (omega arith)) l (omega arith)

  pub none_first : (a k : ℕ) → NoneOf a (a + k) → first_from f a k ≡ a + k
  unfolding first_from
  none_first a zero h = omega arith
  none_first a (suc k) h =
      let here = h a (omega arith) (omega arith) in
      let later = none_first (suc a) k (λ v l m. h v (omega arith) (omega arith)) in
      rw here (omega arith)

  pub found_first : (a k u : ℕ) → FirstOf a (a + k) u → first_from f a k ≡ u
  unfolding first_from
  found_first a zero u h = let l = h.reached in let m = h.below in absurd (omega arith)
  found_first a (suc k) u h = go (found_first (suc a) k u) (eqb a u) refl
    where
      go : (FirstOf (suc a) (suc a + k) u → first_from f (suc a) k ≡ u) → (t : Bool) → eqb a u ≡ t → cond (f a) a (first_from f (suc a) k) ≡ u
      go r true s = let e = eqb-true a u s in let q : f a ≡ true = rw (← e) at h.passes in rw q e
      go r false s =
          let n : a ≢ u = eqb-false a u s in
          let l = h.reached in
          let m = h.below in
          rw (h.none_before a (omega arith) (omega arith)) (r (record { reached = omega arith; below = omega arith; passes = h.passes; none_before = λ v i j. h.none_before v (omega arith) j }))
