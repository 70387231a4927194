-- What the loops over ranges of numbers keep, each with a law for its start, its steps and its end; and what it says that some number of a range passes.
use Prim.Native.Nat.{ℕ, zero, suc, ◌+◌, ◌-◌, ◌≤◌, ◌<◌}
use mathlib.Core.Path.{◌≡◌, refl, ap, sym, ◌∙◌}
use mathlib.Core.Logic.{◌≢◌}
use mathlib.Core.Bool.{Bool, true, false, cond, not, ◌&&◌, false≢true}
use native.Mathlib.Numerals.{add-one}
use native.Mathlib.Omega.{arith}
use lib.Dec.{eqb}
use borrow.Author.Tests.{eqb-true, eqb-false}
use Rattle.std.specs.List.{list_all}
use Rattle.lists.specs.Ranges.{from}
use Rattle.lists.specs.Folds.{each, through, each_down, some_of, some_within}

-- ---- for i in a..e { s = step(i, s); }
pub record FoldsUp {A : Type 0} (step : ℕ → A → A) (a e : ℕ) (s₀ : A) (i : ℕ) (s : A) : Type 0 where
  pub same : through step a e s₀ ≡ through step i e s

module _ {A : Type 0} {step : ℕ → A → A} {a e i : ℕ} {s₀ s : A} (inv : FoldsUp step a e s₀ i s) where
  -- after a turn of the loop
  pub folds_up_on : {s' : A} → i < e → s' ≡ step i s → FoldsUp step a e s₀ (i + 1) s'
  unfolding each
  folds_up_on h q =
      let z : e - i ≡ suc (e - (i + 1)) = omega arith in
      record { same = inv.same ∙ ap (λ (k : ℕ). each step i k s) z ∙ rw (q, add-one) }

  -- after the loop
  pub folds_up_end : e ≤ i → s ≡ through step a e s₀
  unfolding each
  folds_up_end h = let z : e - i ≡ 0 = omega arith in sym (inv.same ∙ rw z)

-- ---- for k in (0..n).rev() { s = step(k, s); }
pub record FoldsDown {A : Type 0} (step : ℕ → A → A) (n : ℕ) (s₀ : A) (k : ℕ) (s : A) : Type 0 where
  pub same : each_down step n s₀ ≡ each_down step k s

-- before the loop, from equal parts
pub folds_down_from : {A : Type 0} {step : ℕ → A → A} {n k : ℕ} {s₀ s : A} → k ≡ n → s ≡ s₀ → FoldsDown step n s₀ k s
folds_down_from q e = record { same = rw (q, e) }

module _ {A : Type 0} {step : ℕ → A → A} {n k : ℕ} {s₀ s : A} (inv : FoldsDown step n s₀ k s) where
  -- after a turn of the loop
  pub folds_down_on : {s' : A} {k' : ℕ} → k ≡ suc k' → s' ≡ step k' s → FoldsDown step n s₀ k' s'
  unfolding each_down
  folds_down_on z q = record { same = inv.same ∙ rw (z, q) }

  -- after the loop
  pub folds_down_end : k ≡ 0 → s ≡ each_down step n s₀
  unfolding each_down
  folds_down_end z = sym (inv.same ∙ rw z)

-- ---- for i in a..e { if p(i) { return true; } } false
pub record FindsSome (p : ℕ → Bool) (a e i : ℕ) : Type 0 where
  pub same : some_within p a e ≡ some_within p i e

module _ {p : ℕ → Bool} {a e i : ℕ} (inv : FindsSome p a e i) where
  -- where the number passes
  pub some_hit : i < e → p i ≡ true → true ≡ some_within p a e
  unfolding some_of
  some_hit h t = let z : e - i ≡ suc (e - (i + 1)) = omega arith in sym (inv.same ∙ rw (z, t))

  -- where the number does not pass
  pub some_on : i < e → p i ≡ false → FindsSome p a e (i + 1)
  unfolding some_of
  some_on h t = let z : e - i ≡ suc (e - (i + 1)) = omega arith in record { same = inv.same ∙ rw (z, t, add-one) }

  -- after the loop
  pub some_end : e ≤ i → false ≡ some_within p a e
  unfolding some_of
  some_end h = let z : e - i ≡ 0 = omega arith in sym (inv.same ∙ rw z)

-- ---- some number of a range passes, or none does
pub some-none : (q : ℕ → Bool) (a k : ℕ) → some_of q a k ≡ false → (i : ℕ) → a ≤ i → i < a + k → q i ≡ false
unfolding some_of
some-none q a zero e i h l = absurd (omega arith)
some-none q a (suc k) e i h l = go (q a) refl (some-none q (suc a) k) e (eqb a i) refl
  where
    go : (t : Bool) → q a ≡ t → (some_of q (suc a) k ≡ false → (i : ℕ) → suc a ≤ i → i < suc a + k → q i ≡ false) → cond t true (some_of q (suc a) k) ≡ false → (b : Bool) → eqb a i ≡ b → q i ≡ false
    go true x r e b y = absurd (false≢true (sym e))
    go false x r e true y = ap q (sym (eqb-true a i y)) ∙ x
    go false x r e false y = r e i (let n : a ≢ i = eqb-false a i y in omega arith) (omega arith)

-- where some number passes, there is one
pub some_one : (q : ℕ → Bool) (a k : ℕ) → some_of q a k ≡ true → (i : ℕ) × (a ≤ i) × (i < a + k) × (q i ≡ true)
unfolding some_of
some_one q a zero e = absurd (false≢true e)
some_one q a (suc k) e = go (q a) refl (some_one q (suc a) k) e
  where
    go : (t : Bool) → q a ≡ t → (some_of q (suc a) k ≡ true → (i : ℕ) × (suc a ≤ i) × (i < suc a + k) × (q i ≡ true)) → cond t true (some_of q (suc a) k) ≡ true → (i : ℕ) × (a ≤ i) × (i < a + suc k) × (q i ≡ true)
    go true x r e = (a, omega arith, omega arith, x)
    go false x r e = let (i, h, l, y) = r e in (i, omega arith, omega arith, y)

-- tests that agree on every number agree on a range
pub some_same : (q r : ℕ → Bool) (a k : ℕ) → ((i : ℕ) → q i ≡ r i) → some_of q a k ≡ some_of r a k
unfolding some_of
some_same q r a zero h = refl
some_same q r a (suc k) h = λ i. cond (h a i) true (some_same q r (suc a) k h i)

-- some number fails: not all of them pass
pub all_from : (q : ℕ → Bool) (a k : ℕ) → some_of (λ (i : ℕ). not (q i)) a k ≡ not (list_all q (from a k))
unfolding some_of
all_from q a zero = refl
all_from q a (suc k) = ap (cond (not (q a)) true) (all_from q (suc a) k) ∙ go (q a) (list_all q (from (suc a) k))
  where
    go : (s t : Bool) → cond (not s) true (not t) ≡ not (s && t)
    go true t = refl
    go false t = refl
