-- The index behind the next mark of a text, from one byte to the next.
use Prim.Native.Nat.{ℕ, suc, ◌+◌, ◌≤◌, ◌<◌, max}
use mathlib.Core.Path.{◌≡◌, sym, ap, ◌∙◌}
use mathlib.Core.List.{List}
use mathlib.Core.Logic.{◌⊎◌, inl, inr}
use native.Mathlib.Omega.{arith}
use lib.ListN.{length, get_or, drop, drop_of_length-le}
use lib.Seq.{drop-cons}
use borrow.Author.Tests.{eq-eqb, ne_eqb}
use Rattle.std.proofs.Math.Nat.{max-eq_left, max-eq_right}
use Rattle.std.proofs.lemmas.Bool.{cases_lt}
use Rattle.console.specs.Lines.{up_to_mark, behind}

module _ (t : List ℕ) (i : ℕ) where
  -- the byte at i is the mark
  pub behind-mark : i < length t → get_or t i 0 ≡ 35 → behind t i ≡ i + 1
  unfolding behind up_to_mark
  behind-mark h e = ap (λ (l : List ℕ). i + up_to_mark l) (drop-cons t i 0 h) ∙ rw (eq-eqb (get_or t i 0) 35 e)

  -- it is another byte
  pub behind-on : i < length t → (get_or t i 0 ≡ 35 → ⊥) → behind t i ≡ behind t (i + 1)
  unfolding behind up_to_mark
  behind-on h e =
      let z : i + 1 ≡ suc i = omega arith in
      let rest = up_to_mark (drop (suc i) t) in
      let s : i + suc rest ≡ suc i + rest = omega arith in
      ap (λ (l : List ℕ). i + up_to_mark l) (drop-cons t i 0 h) ∙ rw (ne_eqb (get_or t i 0) 35 e, z) s

  -- the text is at its end
  pub behind_end : length t ≤ i → behind t i ≡ i
  unfolding behind up_to_mark
  behind_end h = ap (λ (l : List ℕ). i + up_to_mark l) (drop_of_length-le t {i = i} h) ∙ (let z : i + 0 ≡ i = omega arith in z)

-- a text has no mark from an index on: all of it is behind that, or none
pub behind_all : (t : List ℕ) (from i : ℕ) → behind t from ≡ behind t i → length t ≤ i → (from ≤ length t → i ≤ length t) → max from (length t) ≡ behind t from
behind_all t from i same end inside = go (cases_lt from (length t))
  where
    go : (from < length t) ⊎ (length t ≤ from) → max from (length t) ≡ behind t from
    go (inl h) =
        let all : i ≡ length t = omega (arith, inside) in
        max-eq_right (omega arith) ∙ sym all ∙ sym (same ∙ behind_end t i end)
    go (inr h) = max-eq_left h ∙ sym (behind_end t from h)
