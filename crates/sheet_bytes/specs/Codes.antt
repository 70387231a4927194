-- A call's answer as one number: number × 2^48 + value.
use Rattle.std.specs.Prelude.{◌≡◌, ℕ, ◌+◌, ◌*◌, ◌/◌, ◌%◌, ◌^◌}
use Rattle.model.specs.Outcome.{Outcome, accepted, refused}

-- The answer as one number: number 0 is acceptance, another a refusal with its place as the value
unfoldable pub answer_code : Outcome ℕ → ℕ
answer_code (accepted v) = v
answer_code (refused k at) = k * 2 ^ 48 + at

-- the number of an answer, 0 where it is accepted
unfoldable pub answer_number : Outcome ℕ → ℕ
answer_number (accepted v) = 0
answer_number (refused k at) = k

-- the value of an answer: what is accepted, or the refusal's place
unfoldable pub answer_value : Outcome ℕ → ℕ
answer_value (accepted v) = v
answer_value (refused k at) = at

-- Number and value can be read off the one number
pub record Unpacks (o : Outcome ℕ) : Type 0 where
  pub number : answer_code o / 2 ^ 48 ≡ answer_number o
  pub value : answer_code o % 2 ^ 48 ≡ answer_value o

-- the answer as it is in 64 bits
unfoldable pub wrapped : Outcome ℕ → ℕ
wrapped o = answer_code o % 2 ^ 64
