-- What the loops of the engine keep, each with a law for its start, its steps and its end:
-- the lowest number that passes (FindsLowest), an array that is filled from the front (Fills).
use Prim.Native.Nat.{ℕ, suc, ◌+◌, ◌-◌, ◌≤◌, ◌<◌}
use mathlib.Core.Path.{◌≡◌, refl, sym, ap, ◌∙◌}
use mathlib.Core.List.{List, [], ◌∷◌, ◌++◌, map, append-nil}
use mathlib.Core.Bool.{Bool, true, false, cond}
use native.Mathlib.Omega.{arith}
use lib.ListN.{length, set, length-append, replicate}
use lib.Seq.{set-append_seam, append_snoc}
use Rattle.lists.specs.Ranges.{from, first_from, lowest}
use Rattle.lists.specs.Spans.{zeros, zero_padded}
use Rattle.lists.proofs.Ranges.{length-map-from}
use Rattle.lists.proofs.Stretches.{map-from-more}

-- ---- the numbers below u do not pass: for u in 0..n { if test(u) { return u; } }
pub record FindsLowest (f : ℕ → Bool) (n u : ℕ) : Type 0 where
  pub reached : u ≤ n
  pub same : lowest f n ≡ first_from f u (n - u)

pub lowest_start : {f : ℕ → Bool} {n : ℕ} → FindsLowest f n 0
lowest_start {f} {n} = let z : n - 0 ≡ n = omega arith in record { reached = omega arith; same = ap (first_from f 0) (sym z) }

module _ {f : ℕ → Bool} {n u : ℕ} (inv : FindsLowest f n u) where
  first_step : u < n → lowest f n ≡ cond (f u) u (first_from f (suc u) (n - suc u))
  unfolding first_from
  first_step h = let s : n - u ≡ suc (n - suc u) = omega arith in inv.same ∙ ap (first_from f u) s

  pub lowest_hit : u < n → f u ≡ true → u ≡ lowest f n
  lowest_hit h t = sym (first_step h ∙ rw t)

  pub lowest_on : {u' : ℕ} → u' ≡ suc u → u < n → f u ≡ false → FindsLowest f n u'
  lowest_on {u'} q h t = record { reached = omega arith; same = rw q (first_step h ∙ rw t) }

  pub lowest_end : n ≤ u → u ≡ lowest f n
  unfolding first_from
  lowest_end h = let z : n - u ≡ 0 = omega arith in sym (inv.same ∙ ap (first_from f u) z)

-- ---- an array of k, filled from the front: let mut b = [0; k]; for i in 0..e { b[i] = f(i); }
zeros-suc : (j : ℕ) → zeros (suc j) ≡ 0 ∷ zeros j
unfolding zeros
zeros-suc j = refl

pub zero_padded-none : (k : ℕ) → zero_padded k [] ≡ zeros k
unfolding zero_padded
zero_padded-none k = let z : k - 0 ≡ k = omega arith in ap zeros z

pub zero_padded-put : (k : ℕ) (l : List ℕ) (x : ℕ) → length l < k → set (zero_padded k l) (length l) x ≡ zero_padded k (l ++ x ∷ [])
unfolding zero_padded
zero_padded-put k l x h =
    let e : k - length l ≡ suc (k - (length l + 1)) = omega arith in
    rw (e, zeros-suc, set-append_seam, length-append) (sym (append_snoc l x (zeros (k - (length l + 1)))))

pub zero_padded_full : (k : ℕ) (l : List ℕ) → length l ≡ k → zero_padded k l ≡ l
unfolding zero_padded zeros
zero_padded_full k l h = let z : k - length l ≡ 0 = omega arith in rw z (append-nil l)

pub record Fills (k : ℕ) (f : ℕ → ℕ) (i : ℕ) (b : List ℕ) : Type 0 where
  pub same : b ≡ zero_padded k (map f (from 0 i))

pub fills_start : {k : ℕ} {f : ℕ → ℕ} {b : List ℕ} → b ≡ replicate k 0 → Fills k f 0 b
unfolding zeros
fills_start {k} e = record { same = e ∙ sym (zero_padded-none k) }

module _ {k : ℕ} {f : ℕ → ℕ} {i : ℕ} {b : List ℕ} (inv : Fills k f i b) where
  pub fills_on : {b' : List ℕ} {x i' : ℕ} → i < k → i' ≡ suc i → x ≡ f i → b' ≡ set b i x → Fills k f i' b'
  fills_on {b'} {x} {i'} h q v p =
      let l : List ℕ = map f (from 0 i) in
      let size : length l ≡ i = length-map-from f 0 i in
      let z : 0 + i ≡ i = omega arith in
      let more : l ++ (f i ∷ []) ≡ map f (from 0 i') = ap (λ (j : ℕ). l ++ (f j ∷ [])) (sym z) ∙ sym (map-from-more f 0 i) ∙ ap (λ (j : ℕ). map f (from 0 j)) (sym q) in
      record { same = p ∙ (λ t. set (inv.same t) (sym size t) (v t)) ∙ zero_padded-put k l (f i) (omega arith) ∙ ap (zero_padded k) more }

  pub fills_end : i ≡ k → b ≡ map f (from 0 k)
  fills_end q = inv.same ∙ ap (λ (j : ℕ). zero_padded k (map f (from 0 j))) q ∙ zero_padded_full k (map f (from 0 k)) (length-map-from f 0 k)
