-- What an outcome says of the steps that led to it; and the one law of all refusals that have a place: it is the lowest that breaks the rule.
use Prim.Native.Nat.{ℕ, ◌+◌, ◌<◌}
use mathlib.Core.Path.{◌≡◌, refl, sym, ap, subst}
use mathlib.Core.Logic.{◌↔◌, ◌⊎◌, inl, inr}
use mathlib.Core.Bool.{Bool, true, false}
use native.Mathlib.Omega.{arith}
use lib.Dec.{leb}
use borrow.Author.Tests.{leb-true, leb-false, le-leb, lt-leb}
use Rattle.lists.specs.Ranges.{lowest}
use Rattle.lists.proofs.Ranges.{FirstOf, first_found, first-none, none_first, found_first}
use Rattle.model.specs.Outcome.{Outcome, accepted, refused, passed, mapped, require, rule, ◌>>=◌, ◌>>◌}

-- an outcome is accepted or refused, never both
abbrev IsRefused : {A : Type 0} → Outcome A → Type 0
IsRefused (accepted a) = ⊥
IsRefused (refused k at) = Unit {0}

pub not-both : {A B : Type 0} {a : A} {k at : ℕ} → refused k at ≡ accepted a → B
not-both e = absurd (subst IsRefused e tt)

module _ {A : Type 0} where
  value : A → Outcome A → A
  value d (accepted a) = a
  value d (refused k at) = d

  number : Outcome A → ℕ
  number (accepted a) = 0
  number (refused k at) = k

  place : Outcome A → ℕ
  place (accepted a) = 0
  place (refused k at) = at

  pub same-value : {a b : A} → accepted a ≡ accepted b → a ≡ b
  unfolding value
  same-value {a} e = ap (value a) e

  pub same-refusal : {j k at at' : ℕ} → ◌≡◌ {A = Outcome A} (refused j at) (refused k at') → (j ≡ k) × (at ≡ at')
  unfolding number place
  same-refusal e = (ap number e, ap place e)

-- a block whose first step is accepted goes on; one whose first step is refused ends
module _ {A B : Type 0} where
  pub bind_at : (o : Outcome A) (a : A) (f : A → Outcome B) → o ≡ accepted a → (o >>= f) ≡ f a
  bind_at o a f e = ap (λ (x : Outcome A). x >>= f) e

  pub bind_off : (o : Outcome A) (k at : ℕ) (f : A → Outcome B) → o ≡ refused k at → (o >>= f) ≡ refused k at
  bind_off o k at f e = ap (λ (x : Outcome A). x >>= f) e

  pub then_at : (o : Outcome A) (a : A) (b : Outcome B) → o ≡ accepted a → (o >> b) ≡ b
  then_at o a b e = ap (λ (x : Outcome A). x >> b) e

  pub then_off : (o : Outcome A) (k at : ℕ) (b : Outcome B) → o ≡ refused k at → (o >> b) ≡ refused k at
  then_off o k at b e = ap (λ (x : Outcome A). x >> b) e

  pub mapped_at : (f : A → B) (o : Outcome A) (a : A) → o ≡ accepted a → mapped f o ≡ accepted (f a)
  mapped_at f o a e = ap (mapped f) e

  pub mapped_off : (f : A → B) (o : Outcome A) (k at : ℕ) → o ≡ refused k at → mapped f o ≡ refused k at
  mapped_off f o k at e = ap (mapped f) e

-- an accepted block: each step of it is accepted
pub bind_accepted : {A B : Type 0} (a : Outcome A) (f : A → Outcome B) (b : B) → (a >>= f) ≡ accepted b → (c : A) × (a ≡ accepted c) × (f c ≡ accepted b)
bind_accepted (accepted c) f b e = (c, refl, e)
bind_accepted (refused k at) f b e = not-both e

-- a refused block: its first refusal is the outcome
pub bind_refused : {A B : Type 0} (a : Outcome A) (f : A → Outcome B) (k at : ℕ) → (a >>= f) ≡ refused k at → (a ≡ refused k at) ⊎ ((c : A) × (a ≡ accepted c) × (f c ≡ refused k at))
bind_refused (accepted c) f k at e = inr (c, refl, e)
bind_refused (refused j place) f k at e = let (n, p) = same-refusal e in inl (λ i. refused (n i) (p i))

-- what an outcome was before it was mapped
module _ {A B : Type 0} (f : A → B) where
  pub mapped_accepted : (o : Outcome A) (b : B) → mapped f o ≡ accepted b → (a : A) × (o ≡ accepted a) × (f a ≡ b)
  mapped_accepted (accepted a) b e = (a, refl, same-value e)
  mapped_accepted (refused k at) b e = not-both e

  pub mapped_refused : (o : Outcome A) (k at : ℕ) → mapped f o ≡ refused k at → o ≡ refused k at
  mapped_refused (accepted a) k at e = not-both (sym e)
  mapped_refused (refused j place) k at e = let (n, p) = same-refusal e in λ i. refused (n i) (p i)

pub then_accepted : {A : Type 0} (a : Outcome (Unit {0})) (b : Outcome A) (c : A) → (a >> b) ≡ accepted c → (a ≡ passed) × (b ≡ accepted c)
then_accepted (accepted tt) b c e = (refl, e)
then_accepted (refused k at) b c e = not-both e

pub passed_then : (a b : Outcome (Unit {0})) → a ≡ passed → b ≡ passed → (a >> b) ≡ passed
passed_then (accepted t) b p q = q
passed_then (refused k at) b p q = not-both p

pub passed-require : (t : Bool) (k at : ℕ) → t ≡ true → require t k at ≡ passed
passed-require t k at e = rw e

pub require-passed : (t : Bool) (k at : ℕ) → require t k at ≡ passed → t ≡ true
require-passed true k at e = refl
require-passed false k at e = not-both e

pub require-refused : (t : Bool) (j k at at' : ℕ) → require t j at ≡ refused k at' → (t ≡ false) × (j ≡ k) × (at ≡ at')
require-refused true j k at at' e = not-both (sym e)
require-refused false j k at at' e = let (n, p) = same-refusal e in (refl, n, p)

-- The lowest of the numbers below n that is bad
pub record Lowest (bad : ℕ → Bool) (n u : ℕ) : Type 0 where
  pub below : u < n
  pub is_bad : bad u ≡ true
  pub none_lower : (v : ℕ) → v < u → bad v ≡ false

module _ (k n : ℕ) (bad : ℕ → Bool) where
  first_of : (u : ℕ) → Lowest bad n u → FirstOf bad 0 (0 + n) u
  first_of u l = let b = l.below in record { reached = omega arith; below = omega arith; passes = l.is_bad; none_before = λ v _. l.none_lower v }

  -- a rule passes exactly where nothing is bad
  pub rule-passes : (rule k n bad ≡ passed) ↔ ((u : ℕ) → u < n → bad u ≡ false)
  rule-passes = (
    λ e u h. first-none bad 0 n (let b = leb-true n (lowest bad n) (require-passed _ k _ e) in omega arith) u (omega arith) (omega arith),
    λ h. let e = none_first bad 0 n (λ v _ b. h v (omega arith)) in rw (le-leb n (lowest bad n) (omega arith)),
  )

  -- THE LAW OF PLACES: it refuses exactly at the lowest that is bad, by its own number
  pub rule_refuses : (j u : ℕ) → (rule k n bad ≡ refused j u) ↔ ((j ≡ k) × Lowest bad n u)
  rule_refuses j u = (
    λ e.
        let (t, q, at) = require-refused (leb n (lowest bad n)) k j (lowest bad n) u e in
        let b = leb-false n (lowest bad n) t in
        let f = first_found bad 0 n (omega arith) in
        (sym q, record { below = omega arith; is_bad = rw at at f.passes; none_lower = λ v h. f.none_before v (omega arith) (omega arith) }),
    λ l. let e = found_first bad 0 n u (first_of u l.1) in let b = l.1.below in rw (l.0, lt-leb n (lowest bad n) (omega arith), e),
  )
