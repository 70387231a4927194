-- The answers of a script's calls: what an answer tells that may be missing, and which answers are those of accepted calls.
use Rattle.std.specs.Prelude.{Bool, true, false, Option}
use Rattle.std.specs.Option.{option_map}
use Rattle.std.specs.declared.result.Result.{Result}
use Rattle.model.specs.Outcome.{Outcome, accepted, refused}
use Rattle.refusal.specs.declared.Refusal.{Refusal}
use Rattle.refusal.specs.Refusals.{outcome_of}

-- what was answered, if there was a call
abbrev pub ran : {A : Type 0} → Option (Result A Refusal) → Option (Outcome A)
ran {A} o = option_map (λ (r : Result A Refusal). outcome_of r) o

-- it is the answer of an accepted call
abbrev pub is_accepted : Outcome (Unit {0}) → Bool
is_accepted (accepted u) = true
is_accepted (refused k at) = false
