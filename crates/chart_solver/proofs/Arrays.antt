-- Arrays that have zeros from an index on; sums of lists.
use Prim.Native.Nat.{ℕ, zero, suc, ◌*◌, ◌≤◌, ◌<◌}
use mathlib.Core.Path.{◌≡◌, refl, sym, ◌∙◌}
use mathlib.Core.List.{List, [], ◌∷◌}
use mathlib.Core.Bool.{Bool, true, false}
use native.Mathlib.Omega.{arith}
use native.Mathlib.Nat.{suc-mul}
use lib.ListN.{length, get_or, set, take, get_or-eq_default}
use lib.Seq.{ext_get_or, get_or-take, length-take-le}
use lib.Dec.{ltb}
use borrow.Author.Tests.{ltb-true, ltb-false}
use Rattle.lists.specs.Spans.{zero_padded}
use Rattle.lists.proofs.Padded.{get_or-zero_padded, length-zero_padded}
use Rattle.rings.specs.Tables.{sum_of}

-- ---- a list and zeros after it
-- the first n entries of an array that has zeros from n on
module _ (k n : ℕ) (l : List ℕ) (size : length l ≡ k) (fits : n ≤ k) (past : (u : ℕ) → n ≤ u → get_or l u 0 ≡ 0) where
  pub get_or-first : (u : ℕ) → get_or (take n l) u 0 ≡ get_or l u 0
  get_or-first u = go (ltb u n) refl
    where
      go : (t : Bool) → ltb u n ≡ t → get_or (take n l) u 0 ≡ get_or l u 0
      go true q = get_or-take n l u 0 (ltb-true u n q)
      go false q =
          let h = ltb-false u n q in
          let s = length-take-le n l (omega arith) in
          get_or-eq_default (take n l) 0 {n = u} (omega arith) ∙ sym (past u h)

  pub zero_padded-first : l ≡ zero_padded k (take n l)
  zero_padded-first =
      let s = length-take-le n l (omega arith) in
      let p = length-zero_padded k (take n l) (omega arith) in
      ext_get_or 0 l (zero_padded k (take n l)) (omega arith) (λ u _. sym (get_or-zero_padded k (take n l) u ∙ get_or-first u))

-- ---- sums
pub sum-raise : (ks : List ℕ) (u d : ℕ) → u < length ks → get_or ks u 0 < d → sum_of ks < sum_of (set ks u d)
unfolding sum_of
sum-raise [] u d h q = absurd (omega arith)
sum-raise (k ∷ ks) zero d h q = omega arith
sum-raise (k ∷ ks) (suc u) d h q = let r = sum-raise ks u d (omega arith) q in omega arith

pub sum-most : (ks : List ℕ) (b : ℕ) → ((u : ℕ) → get_or ks u 0 ≤ b) → sum_of ks ≤ length ks * b
unfolding sum_of
sum-most [] b h = omega arith
sum-most (k ∷ ks) b h = let r = sum-most ks b (λ u. h (suc u)) in let a : k ≤ b = h 0 in rw (suc-mul (length ks) b) (omega arith)
