-- Digits: how they go on from those of a number's tenth, that they are what the kit prints, how many there are, and that they say the number.
use Prim.Native.Nat.{ℕ, zero, suc, ◌+◌, ◌-◌, ◌*◌, ◌/◌, ◌%◌, ◌^◌, ◌≤◌, ◌<◌}
use mathlib.Core.Path.{◌≡◌, refl, sym, ap, ◌∙◌}
use mathlib.Core.List.{List, [], ◌∷◌, ◌++◌}
use mathlib.Core.Bool.{Bool, true, false, cond}
use native.Mathlib.Omega.{arith}
use lib.ListN.{length, length-append}
use lib.Dec.{ltb}
use borrow.Author.Tests.{ltb-true, ltb-false, lt-ltb, le-ltb}
use Rattle.std.specs.Fmt.{decimal}
use Rattle.std.proofs.lemmas.Fmt.{decimal_from_appends, length-decimal-le_succ}
use Rattle.text_templates.specs.Digits.{decimal_digits_below, decimal_digits, number}

-- ---- the digits of a number from those of its tenth
-- the last digit of a number below ten is the number
one_digit : (k x : ℕ) → x < 10 → decimal_digits_below (suc k) x ≡ (48 + x) ∷ []
unfolding decimal_digits_below
one_digit k x h =
    let one : x % 10 ≡ x = omega arith in
    ap (λ (b : Bool). cond b [] (decimal_digits_below k (x / 10)) ++ ((48 + x % 10) ∷ [])) (lt-ltb x 10 h) ∙ ap (λ (d : ℕ). (48 + d) ∷ []) one

-- any other number has its tenth's digits, then its last digit
more-decimal_digits : (k x : ℕ) → 10 ≤ x → decimal_digits_below (suc k) x ≡ decimal_digits_below k (x / 10) ++ ((48 + x % 10) ∷ [])
unfolding decimal_digits_below
more-decimal_digits k x h = ap (λ (b : Bool). cond b [] (decimal_digits_below k (x / 10)) ++ ((48 + x % 10) ∷ [])) (le-ltb x 10 h)

-- a number below ten is one digit
pub decimal_digits_low : (x : ℕ) → x < 10 → decimal_digits x ≡ (48 + x) ∷ []
unfolding decimal_digits
decimal_digits_low x h = one_digit x x h

-- of a number of eight bytes they are what the kit prints
pub decimal_digits-decimal : (x : ℕ) → x < 2 ^ 64 → decimal x ≡ decimal_digits x
unfolding decimal_digits
decimal_digits-decimal x h = sym (decimal_from_appends decimal_digits_below (record { one = one_digit; more = more-decimal_digits }) (suc x) x h (let n = length-decimal-le_succ x h in omega arith))

-- for the function that puts them
pub ruleset printed = (decimal_digits-decimal)

-- ---- how many digits there are
-- ten to the k
abbrev tens : ℕ → ℕ
tens zero = 1
tens (suc k) = 10 * tens k

-- a last digit makes one digit more
one_more : (b : Bool) (l : List ℕ) (d k : ℕ) → (b ≡ false → length l ≤ k) → length (cond b [] l ++ (d ∷ [])) ≤ suc k
one_more true l d k f = omega arith
one_more false l d k f = let a = length-append l (d ∷ []) in let b = f refl in omega arith

-- below ten to the k + 1 there are at most k + 1 digits
few-decimal_digits : (k m x : ℕ) → x < 10 * tens k → length (decimal_digits_below m x) ≤ suc k
unfolding decimal_digits_below
few-decimal_digits k zero x h = omega arith
few-decimal_digits zero (suc m) x h = one_more (ltb x 10) (decimal_digits_below m (x / 10)) (48 + x % 10) 0 (λ e. let g = ltb-false x 10 e in absurd (omega arith))
few-decimal_digits (suc k) (suc m) x h = one_more (ltb x 10) (decimal_digits_below m (x / 10)) (48 + x % 10) (suc k) (λ e. few-decimal_digits k m (x / 10) (omega arith))

-- a number of two bytes has at most 5 digits
pub decimal_digits-word : (x : ℕ) → x < 2 ^ 16 → length (decimal_digits x) ≤ 5
unfolding decimal_digits
decimal_digits-word x h = few-decimal_digits 4 (suc x) x (omega arith)

-- one of eight bytes at most 20
pub decimal_digits_wide : (x : ℕ) → x < 2 ^ 64 → length (decimal_digits x) ≤ 20
unfolding decimal_digits
decimal_digits_wide x h = few-decimal_digits 19 (suc x) x (omega arith)

-- ---- what the digits say
-- one digit more says ten times as much and the digit
number_more : (a : ℕ) (l : List ℕ) (d : ℕ) → number a (l ++ (d ∷ [])) ≡ 10 * number a l + (d - 48)
unfolding number
number_more a [] d = refl
number_more a (b ∷ l) d = number_more (10 * a + (b - 48)) l d

-- the digits say the number, below any bound
below_say : (k x : ℕ) → x < k → number 0 (decimal_digits_below k x) ≡ x
unfolding decimal_digits_below number
below_say zero x h = absurd (omega arith)
below_say (suc k) x h = go (ltb x 10) refl (λ f. below_say k (x / 10) f)
  where
    go : (b : Bool) → ltb x 10 ≡ b → (x / 10 < k → number 0 (decimal_digits_below k (x / 10)) ≡ x / 10) → number 0 (cond b [] (decimal_digits_below k (x / 10)) ++ ((48 + x % 10) ∷ [])) ≡ x
    go true e f = omega (arith, ltb-true x 10 e)
    go false e f = let g = ltb-false x 10 e in let m = number_more 0 (decimal_digits_below k (x / 10)) (48 + x % 10) in let n = f (omega arith) in omega arith

-- The digits of a number say the number
pub decimal_digits_say : (x : ℕ) → number 0 (decimal_digits x) ≡ x
unfolding decimal_digits
decimal_digits_say x = below_say (suc x) x (omega arith)
