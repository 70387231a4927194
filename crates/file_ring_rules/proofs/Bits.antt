-- Marks that are true or false, as the numbers 1 and 0 that the law of marks speaks of.
use Prim.Native.Nat.{ℕ, zero, suc}
use mathlib.Core.Path.{◌≡◌, refl, sym, ap, ◌∙◌}
use mathlib.Core.List.{List, ◌∷◌, map}
use mathlib.Core.Bool.{Bool, true, false, cond}
use lib.ListN.{get_or, set, replicate, get_or-map}
use Rattle.std.proofs.lemmas.List.{map-set}

-- the number of a mark
abbrev pub bit : Bool → ℕ
bit t = cond t 1 0

-- the numbers of marks
abbrev pub bits : List Bool → List ℕ
bits b = map bit b

-- no mark is set
pub bits_none : (k : ℕ) → bits (replicate k false) ≡ replicate k 0
bits_none zero = refl
bits_none (suc k) = ap (λ (l : List ℕ). 0 ∷ l) (bits_none k)

module _ (b : List Bool) (v : ℕ) where
  -- a mark is set exactly where its number is 1
  pub bits_yes : get_or b v false ≡ true → get_or (bits b) v 0 ≡ 1
  bits_yes e = get_or-map bit b v false ∙ ap bit e

  pub bits_no : get_or b v false ≡ false → get_or (bits b) v 0 ≡ 1 → ⊥
  bits_no e one = let z = sym (get_or-map bit b v false ∙ ap bit e) ∙ one in cc

  -- one mark more
  pub bits_more : {b' : List Bool} → b' ≡ set b v true → bits b' ≡ set (bits b) v 1
  bits_more e = ap bits e ∙ map-set bit b v true
