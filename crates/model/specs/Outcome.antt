-- The outcome of a call: accepted with a result, or refused with the number and the place of 01's table.
use Rattle.std.specs.Prelude.{ℕ, Bool, cond, leb}
use Rattle.lists.specs.Ranges.{lowest}

-- a result, or a refusal's number and place
pub data Outcome (A : Type 0) : Type 0 where
  accepted : A → Outcome A
  refused : ℕ → ℕ → Outcome A

-- do blocks: the first refusal ends the block
infixl 10 ◌>>=◌
infixl 10 ◌>>◌
-- the result handed on to the next step
abbrev pub ◌>>=◌ : {A B : Type 0} → Outcome A → (A → Outcome B) → Outcome B
accepted a >>= f = f a
refused k at >>= f = refused k at

-- the next step, which needs no result
abbrev pub ◌>>◌ : {A B : Type 0} → Outcome A → Outcome B → Outcome B
accepted a >> b = b
refused k at >> b = refused k at

-- accepted, with nothing to hand on
abbrev pub passed : Outcome (Unit {0})
passed = accepted tt

-- a result as f has it; a refusal as it is
abbrev pub mapped : {A B : Type 0} → (A → B) → Outcome A → Outcome B
mapped f (accepted a) = accepted (f a)
mapped f (refused k at) = refused k at

-- the test holds, or refusal k at the place
abbrev pub require : Bool → ℕ → ℕ → Outcome (Unit {0})
require t k at = cond t passed (refused k at)

-- refusal k at the lowest number below n that is bad, if there is one
abbrev pub rule : ℕ → ℕ → (ℕ → Bool) → Outcome (Unit {0})
rule k n bad = require (leb n (lowest bad n)) k (lowest bad n)

-- what is there after an accepted call; after a refused one, what was there before
unfoldable pub taken : {A : Type 0} → A → Outcome A → A
taken old (accepted new) = new
taken old (refused k at) = old
