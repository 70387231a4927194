-- One entry alone is below: what the first two entries of a ring say of it.
use Prim.Native.Nat.{ℕ, suc}
use mathlib.Core.Path.{◌≡◌, refl, sym, ap, ◌∙◌}
use mathlib.Core.List.{List, [], ◌∷◌}
use mathlib.Core.Bool.{Bool, true, false, cond}
use native.Mathlib.Omega.{arith}
use lib.ListN.{length, get_or}
use lib.Dec.{eqb}
use borrow.Author.Tests.{eq-eqb, ne_eqb}
use Rattle.lists.specs.Parts.{index_of}

-- where b is the second entry, or there is no second, it stands at position 1 as it does not stand first
second : (b a : ℕ) (l : List ℕ) → (b ≡ a → ⊥) → index_of b (a ∷ l) ≡ suc (index_of b l)
second b a l n = ap (λ (t : Bool). cond t 0 (suc (index_of b l))) (ne_eqb b a n)

module _ {e : ℕ} (l : List ℕ) (b : ℕ) (long : e ≡ length l) where
  -- nothing is read
  pub one_bare : e ≡ 0 → false ≡ eqb (index_of b l) 1
  one_bare z = go l (sym long ∙ z)
    where
      go : (l : List ℕ) → length l ≡ 0 → false ≡ eqb (index_of b l) 1
      go [] q = refl
      go (a ∷ l) q = absurd (omega arith)

  -- the first entry is b
  pub one_left : (e ≡ 0 → ⊥) → b ≡ get_or l 0 0 → false ≡ eqb (index_of b l) 1
  one_left n q = go l (λ z. n (long ∙ z)) q
    where
      go : (l : List ℕ) → (length l ≡ 0 → ⊥) → b ≡ get_or l 0 0 → false ≡ eqb (index_of b l) 1
      go [] n q = absurd (n refl)
      go (a ∷ l) n q = sym (ap (λ (t : Bool). eqb (cond t 0 (suc (index_of b l))) 1) (eq-eqb b a q))

  -- it is not, and there is no second
  pub one_alone : (b ≡ get_or l 0 0 → ⊥) → e ≡ 1 → true ≡ eqb (index_of b l) 1
  one_alone n z = go l n (sym long ∙ z)
    where
      go : (l : List ℕ) → (b ≡ get_or l 0 0 → ⊥) → length l ≡ 1 → true ≡ eqb (index_of b l) 1
      go [] n q = absurd (omega arith)
      go (a ∷ []) n q = sym (ap (λ (k : ℕ). eqb k 1) (second b a [] n))
      go (a ∷ d ∷ l) n q = absurd (omega arith)

  -- it is not, and there is a second
  pub one_next : (e ≡ 0 → ⊥) → (b ≡ get_or l 0 0 → ⊥) → (e ≡ 1 → ⊥) → eqb b (get_or l 1 0) ≡ eqb (index_of b l) 1
  one_next o n m = go l (λ z. o (long ∙ z)) n (λ z. m (long ∙ z))
    where
      one : (t : Bool) (k : ℕ) → t ≡ eqb (suc (cond t 0 (suc k))) 1
      one true k = refl
      one false k = sym (ne_eqb (suc (suc k)) 1 (λ z. omega arith))

      go : (l : List ℕ) → (length l ≡ 0 → ⊥) → (b ≡ get_or l 0 0 → ⊥) → (length l ≡ 1 → ⊥) → eqb b (get_or l 1 0) ≡ eqb (index_of b l) 1
      go [] o n m = absurd (o refl)
      go (a ∷ []) o n m = absurd (m refl)
      go (a ∷ d ∷ l) o n m = one (eqb b d) (index_of b l) ∙ sym (ap (λ (k : ℕ). eqb k 1) (second b a (d ∷ l) n))
