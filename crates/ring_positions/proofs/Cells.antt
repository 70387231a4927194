-- What the cell of an entry holds in a table that finds the entries, and what the entry's position says of it.
use Prim.Native.Nat.{ℕ, suc, ◌-◌}
use mathlib.Core.Path.{◌≡◌, refl, sym, ap, ◌∙◌}
use mathlib.Core.List.{List}
use mathlib.Core.Logic.{◌⊎◌, inl, inr, ⊎_elim}
use mathlib.Core.Bool.{Bool, true, false, not}
use native.Mathlib.Omega.{arith}
use lib.ListN.{length, get_or}
use lib.Dec.{eqb}
use Rattle.std.specs.Prelude.{Option, Some}
use borrow.Author.Tests.{ltb-false, eq-eqb, ne_eqb}
use Rattle.lists.specs.Tests.{member}
use Rattle.lists.specs.Parts.{index_of}
use Rattle.model.specs.Plan.{Plan, ring, adjacent}
use Rattle.rings.specs.Tables.{cell}
use Rattle.rings.proofs.Rows.{index_le, member_index, cell_some}
use Rattle.ring_positions.specs.Positions.{position, Finds}
use Rattle.ring_positions.proofs.Notes.{position_absent, position-present}

-- the cell of a pair, where it has one, holds the position
pub cell-position : (p : Plan) (t : List ℕ) → Finds t p → (u v : ℕ) {o : Option ℕ} {at x : ℕ} → o ≡ cell u v → o ≡ Some at → x ≡ get_or t at 0 → x ≡ position v (ring p u)
cell-position p t finds u v is some read = let (h, k, e) = cell_some u v is some in read ∙ ap (λ (at : ℕ). get_or t at 0) e ∙ finds u v h k

-- the position of an entry by whether it is there; one that is not has the length for its index
position-cases : (v : ℕ) (l : List ℕ) → (member v l ≡ true) × (position v l ≡ suc (index_of v l)) ⊎ (member v l ≡ false) × (position v l ≡ 0) × (index_of v l ≡ length l)
position-cases v l = go (member v l) refl
  where
    go : (b : Bool) → member v l ≡ b → (member v l ≡ true) × (position v l ≡ suc (index_of v l)) ⊎ (member v l ≡ false) × (position v l ≡ 0) × (index_of v l ≡ length l)
    go true e = inl (e, position-present v l e)
    go false e = let h = ltb-false (index_of v l) (length l) (sym (member_index v l) ∙ e) in let k = index_le v l in inr (e, position_absent v l e, omega arith)

module _ (p : Plan) (u v : ℕ) {x : ℕ} (is : x ≡ position v (ring p u)) where
  -- u lists v where the position is not 0
  pub adjacent-cell : not (eqb x 0) ≡ adjacent p u v
  unfolding adjacent
  adjacent-cell = ⊎_elim (λ t. ap not (ne_eqb x 0 (λ z. let q = t.1 in omega arith)) ∙ sym t.0) (λ t. ap not (eq-eqb x 0 (is ∙ t.1)) ∙ sym t.0) (position-cases v (ring p u))

  -- its index is the ring's length where the position is 0
  pub index_none : x ≡ 0 → index_of v (ring p u) ≡ length (ring p u)
  index_none z = ⊎_elim (λ t. let q = t.1 in absurd (omega arith)) (λ t. t.2) (position-cases v (ring p u))

  -- else it is one less than the position
  pub index_some : (x ≡ 0 → ⊥) → x - 1 ≡ index_of v (ring p u)
  index_some f = ⊎_elim (λ t. let q = t.1 in omega arith) (λ t. absurd (f (is ∙ t.1))) (position-cases v (ring p u))
