-- Answers as one number: no answer is too large for 64 bits, and its number and its value can be read off.
use Prim.Native.Nat.{ℕ, ◌/◌, ◌%◌, ◌<◌, ◌^◌}
use mathlib.Core.Path.{◌≡◌, refl, sym, ap, ◌∙◌}
use native.Mathlib.Omega.{arith}
use Rattle.model.specs.Outcome.{Outcome, accepted, refused}
use Rattle.sheet_bytes.specs.Codes.{answer_code, wrapped, answer_number, answer_value, Unpacks}
use Rattle.sheet_bytes.proofs.Small.{Small}

-- A value below 2^64 is its own number
pub wrapped_at : (o : Outcome ℕ) (v : ℕ) → o ≡ accepted v → v < 2 ^ 64 → v ≡ wrapped o
unfolding wrapped answer_code
wrapped_at o v e h = let small : v ≡ v % 2 ^ 64 = omega arith in small ∙ ap wrapped (sym e)

-- An answer that has room in the number: a small refusal, or a value below 2^48
pub record Roomy (o : Outcome ℕ) : Type 0 where
  pub small : Small o
  pub value : (v : ℕ) → o ≡ accepted v → v < 2 ^ 48

-- In 64 bits it is what it is
pub code_whole : (o : Outcome ℕ) → Roomy o → wrapped o ≡ answer_code o
unfolding wrapped answer_code
code_whole (accepted v) r = let h = r.value v refl in omega arith
code_whole (refused k at) r = let (a, b) = r.small.says k at refl in omega arith

-- its number is the number divided by 2^48
number_back : (o : Outcome ℕ) → Roomy o → answer_code o / 2 ^ 48 ≡ answer_number o
unfolding answer_code answer_number
number_back (accepted v) r = let h = r.value v refl in omega arith
number_back (refused k at) r = let (a, b) = r.small.says k at refl in omega arith

-- its value is what is left
value_back : (o : Outcome ℕ) → Roomy o → answer_code o % 2 ^ 48 ≡ answer_value o
unfolding answer_code answer_value
value_back (accepted v) r = let h = r.value v refl in omega arith
value_back (refused k at) r = let (a, b) = r.small.says k at refl in omega arith

-- so both can be read off
pub unpacks : (o : Outcome ℕ) → Roomy o → Unpacks o
unpacks o r = record { number = number_back o r; value = value_back o r }
