-- Filled forms: how they go on from byte to byte, how they are put, and how long they are.
use Prim.Native.Nat.{ℕ, suc, ◌+◌, ◌*◌, ◌^◌, ◌≤◌, ◌<◌}
use mathlib.Core.Path.{◌≡◌, sym, ap, ◌∙◌}
use mathlib.Core.Logic.{◌≢◌}
use mathlib.Core.List.{List, [], ◌∷◌, ◌++◌}
use mathlib.Core.Bool.{Bool, true, false, cond}
use native.Mathlib.Omega.{arith}
use native.Mathlib.Numerals.{add-one}
use lib.ListN.{length, get_or, drop, length-append, drop_of_length-le}
use lib.Seq.{drop-cons}
use lib.Dec.{eqb}
use borrow.Author.Tests.{ne_eqb}
use Rattle.std.proofs.Common.{Bor, Option, Some, None}
use Rattle.std.specs.declared.slice.Iter.{Iter}
use Rattle.std.specs.Slice.Iter.{iter_steps}
use Rattle.std.specs.Option.{option_copied, unwrap_or}
use Rattle.text_templates.specs.Digits.{decimal_digits}
use Rattle.text_templates.specs.Forms.{placeholder_count, stands, filled}
use Rattle.buffer.proofs.Puts.{put-none, put_join}
use Rattle.text_templates.proofs.Digits.{decimal_digits_low, decimal_digits-word, decimal_digits_wide}

-- ---- what is left of a form, byte by byte
-- nothing
pub filled_end : (form numbers : List ℕ) (i : ℕ) → length form ≤ i → filled (drop i form) numbers ≡ []
unfolding filled
filled_end form numbers i h = ap (λ (l : List ℕ). filled l numbers) (drop_of_length-le form h)

module _ (form numbers : List ℕ) (i : ℕ) (h : i < length form) where
  -- a byte, and what follows it
  filled_on : stands (get_or form i 0) (get_or numbers 0 0) ++ filled (drop (i + 1) form) (drop (placeholder_count (get_or form i 0)) numbers) ≡ filled (drop i form) numbers
  unfolding filled
  filled_on = sym (rw add-one (ap (λ (l : List ℕ). filled l numbers) (drop-cons form i 0 h)))

  -- any byte but `#`
  pub filled_byte : get_or form i 0 ≢ 35 → (get_or form i 0 ∷ []) ++ filled (drop (i + 1) form) numbers ≡ filled (drop i form) numbers
  unfolding stands placeholder_count
  filled_byte e = rw (ne_eqb _ _ e) at filled_on

  -- a `#`: the first of the numbers
  filled_number : get_or form i 0 ≡ 35 → decimal_digits (get_or numbers 0 0) ++ filled (drop (i + 1) form) (drop 1 numbers) ≡ filled (drop i form) numbers
  unfolding stands placeholder_count
  filled_number e = rw e at filled_on

-- the next of the numbers, 0 behind them, and those that are left
module _ (form : List ℕ) (i : ℕ) (h : i < length form) (e : get_or form i 0 ≡ 35) (s t : Iter ℕ) where
  pub filled_next : (r : Option (Bor ℕ)) → iter_steps s r t → decimal_digits (unwrap_or (option_copied r) 0) ++ filled (drop (i + 1) form) t.rest.now ≡ filled (drop i form) s.rest.now
  filled_next None (z, same) = go s.rest.now z (ap (λ (u : Iter ℕ). u.rest.now) same)
    where
      go : (l : List ℕ) → length l ≡ 0 → t.rest.now ≡ l → decimal_digits 0 ++ filled (drop (i + 1) form) t.rest.now ≡ filled (drop i form) l
      go [] z q = (λ j. decimal_digits 0 ++ filled (drop (i + 1) form) (q j)) ∙ filled_number form [] i h e
      go (x ∷ l) z q = absurd (omega arith)
  filled_next (Some x) q = (λ j. decimal_digits (get_or (sym q j) 0 0) ++ filled (drop (i + 1) form) (drop 1 (sym q j))) ∙ filled_number form s.rest.now i h e

-- for the loop over the bytes of a form
pub ruleset each = (put-none, put_join, filled_end, filled_byte, filled_next)

-- ---- how long a filled form is
-- each of the numbers has at most k + 1 digits
abbrev pub Short : ℕ → List ℕ → Type 0
Short k [] = Unit {0}
Short k (x ∷ numbers) = (length (decimal_digits x) ≤ suc k) × Short k numbers

-- a filled form has at most k bytes more for each number
pub filled-short : (k : ℕ) (form numbers : List ℕ) → Short k numbers → length (filled form numbers) ≤ length form + k * length numbers
unfolding filled stands placeholder_count
filled-short k [] numbers s = omega arith
filled-short k (b ∷ form) numbers s = go (eqb b 35) numbers s (λ l t. filled-short k form l t)
  where
    go : (c : Bool) (l : List ℕ) → Short k l → ((m : List ℕ) → Short k m → length (filled form m) ≤ length form + k * length m)
        → length (cond c (decimal_digits (get_or l 0 0)) (b ∷ []) ++ filled form (drop (cond c 1 0) l)) ≤ suc (length form) + k * length l
    go true [] t f = let a = length-append (decimal_digits 0) (filled form []) in let one = ap length (decimal_digits_low 0 (omega arith)) in let r = f [] tt in omega arith
    go true (x ∷ l) t f = let a = length-append (decimal_digits x) (filled form l) in let one = t.0 in let r = f l t.1 in omega arith
    go false l t f = let r = f l t in omega arith

-- all numbers are below a bound
abbrev pub Below : ℕ → List ℕ → Type 0
Below m [] = Unit {0}
Below m (x ∷ numbers) = (x < m) × Below m numbers

-- numbers of eight bytes
pub filled_wide : (form numbers : List ℕ) → Below (2 ^ 64) numbers → length (filled form numbers) ≤ length form + 19 * length numbers
filled_wide form numbers h = filled-short 19 form numbers (go numbers h)
  where
    go : (l : List ℕ) → Below (2 ^ 64) l → Short 19 l
    go [] b = tt
    go (x ∷ l) b = (decimal_digits_wide x b.0, go l b.1)

-- numbers of two bytes
pub filled-word : (form numbers : List ℕ) → Below (2 ^ 16) numbers → length (filled form numbers) ≤ length form + 4 * length numbers
filled-word form numbers h = filled-short 4 form numbers (go numbers h)
  where
    go : (l : List ℕ) → Below (2 ^ 16) l → Short 4 l
    go [] b = tt
    go (x ∷ l) b = (decimal_digits-word x b.0, go l b.1)
