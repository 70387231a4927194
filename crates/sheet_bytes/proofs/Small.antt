-- Small outcomes: a refusal's number is one of 01's seventeen, and its place is below 2^17.
use Prim.Native.Nat.{ℕ, zero, suc, ◌+◌, ◌≤◌, ◌<◌}
use mathlib.Core.Path.{◌≡◌, refl, sym}
use mathlib.Core.Bool.{Bool, true, false, cond}
use native.Mathlib.Omega.{arith}
use lib.Dec.{leb}
use Rattle.lists.specs.Ranges.{first_from, lowest}
use Rattle.model.specs.Outcome.{Outcome, accepted, refused, mapped, require, rule, ◌>>=◌, ◌>>◌}
use Rattle.model.proofs.Outcomes.{not-both, same-refusal}

-- An outcome whose refusal, if it is one, has a number up to 17 and a place below 2^17
pub record Small {A : Type 0} (o : Outcome A) : Type 0 where
  pub says : (k at : ℕ) → o ≡ refused k at → (k ≤ 17) × (at < 131072)

-- what is accepted
pub small-accepted : {A : Type 0} (a : A) → Small (accepted a)
small-accepted a = record { says = λ k at e. not-both (sym e) }

-- what is refused by a number up to 17 at a small place
pub small-refused : {A : Type 0} (k at : ℕ) → k ≤ 17 → at < 131072 → Small {A = A} (refused k at)
small-refused k at a b = record { says = λ j t e. let (n, p) = same-refusal e in (omega arith, omega arith) }

-- ---- a block is small where each step is
-- two steps, the second with the first's result
pub small_bind : {A B : Type 0} (o : Outcome A) (f : A → Outcome B) → Small o → ((a : A) → o ≡ accepted a → Small (f a)) → Small (o >>= f)
small_bind (accepted a) f s h = h a refl
small_bind (refused k at) f s h = let (a, b) = s.says k at refl in small-refused k at a b

-- one step, its result mapped
pub small_mapped : {A B : Type 0} (f : A → B) (o : Outcome A) → Small o → Small (mapped f o)
small_mapped f (accepted a) s = small-accepted (f a)
small_mapped f (refused k at) s = let (a, b) = s.says k at refl in small-refused k at a b

-- two steps, the second without a result
pub small_then : {A B : Type 0} (o : Outcome A) (b : Outcome B) → Small o → ((a : A) → o ≡ accepted a → Small b) → Small (o >> b)
small_then (accepted a) b s h = h a refl
small_then (refused k at) b s h = let (a, c) = s.says k at refl in small-refused k at a c

-- a test
pub small-require : (t : Bool) (k at : ℕ) → k ≤ 17 → at < 131072 → Small (require t k at)
small-require true k at a b = small-accepted tt
small-require false k at a b = small-refused k at a b

-- the first that passes is at most the number after them
pub first-most : (f : ℕ → Bool) (a k : ℕ) → first_from f a k ≤ a + k
unfolding first_from
first-most f a zero = omega arith
first-most f a (suc k) = go (f a) (first-most f (suc a) k)
  where
    go : (t : Bool) → first_from f (suc a) k ≤ suc a + k → cond t a (first_from f (suc a) k) ≤ a + suc k
    go true h = omega arith
    go false h = omega arith

-- a rule over fewer than 2^17 numbers
pub small-rule : (k n : ℕ) (bad : ℕ → Bool) → k ≤ 17 → n < 131072 → Small (rule k n bad)
small-rule k n bad a b = small-require (leb n (lowest bad n)) k (lowest bad n) a (let h = first-most bad 0 n in omega arith)
