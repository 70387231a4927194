-- The refusals: 01's number and place for each case, and what a result tells.
use Rattle.std.specs.Prelude.{◌≡◌, ℕ, ◌^◌, ◌<◌, Bool, Ok, Err}
use Rattle.std.specs.declared.result.Result.{Result}
use Rattle.model.specs.Outcome.{Outcome, accepted, refused, rule}
use Rattle.refusal.specs.declared.Refusal.{Refusal}

-- the refusal's number
abbrev pub number_of : Refusal → ℕ
number_of (Refusal.BrokenRecord at) = 1
number_of (Refusal.OtherRecord at) = 2
number_of Refusal.ContextCount = 3
number_of (Refusal.BadEntry at) = 4
number_of (Refusal.RepeatedEntry at) = 5
number_of (Refusal.OneSidedEntry at) = 6
number_of Refusal.EntryTotal = 7
number_of (Refusal.BadBorder at) = 8
number_of (Refusal.BadFace at) = 9
number_of (Refusal.BadLabels at) = 10
number_of Refusal.NoPlacement = 11
number_of Refusal.OtherChart = 12
number_of Refusal.TooEarly = 13
number_of Refusal.SweepStuck = 14
number_of (Refusal.BadPair at) = 15
number_of (Refusal.ShortBuffer at) = 16
number_of (Refusal.NoSuchContext at) = 17

-- its place: where it stands, a count, or 0
abbrev pub place_of : Refusal → ℕ
place_of (Refusal.BrokenRecord at) = at
place_of (Refusal.OtherRecord at) = at
place_of Refusal.ContextCount = 0
place_of (Refusal.BadEntry at) = at
place_of (Refusal.RepeatedEntry at) = at
place_of (Refusal.OneSidedEntry at) = at
place_of Refusal.EntryTotal = 0
place_of (Refusal.BadBorder at) = at
place_of (Refusal.BadFace at) = at
place_of (Refusal.BadLabels at) = at
place_of Refusal.NoPlacement = 0
place_of Refusal.OtherChart = 0
place_of Refusal.TooEarly = 0
place_of Refusal.SweepStuck = 0
place_of (Refusal.BadPair at) = at
place_of (Refusal.ShortBuffer at) = at
place_of (Refusal.NoSuchContext at) = at

-- what a result tells: it is accepted, or refused with the refusal's number and place
abbrev pub outcome_of : {A : Type 0} → Result A Refusal → Outcome A
outcome_of (Ok a) = accepted a
outcome_of (Err r) = refused (number_of r) (place_of r)

-- a rule, for a test and a refusal of which this is said at each number: whatever number k the refusals have, a result tells what the model's rule k says of the test
abbrev pub NoneOf : (ℕ → Bool → Type 0) → (ℕ → Refusal → Type 0) → ℕ → Result (Unit {0}) Refusal → Type 0
NoneOf tests refusals n result =
    (k : ℕ) (bad : ℕ → Bool)
    → ((u : ℕ) (t : Bool) → u < 2 ^ 64 → tests u t → t ≡ bad u)
    → ((u : ℕ) (r : Refusal) → u < 2 ^ 64 → refusals u r → (number_of r ≡ k) × (place_of r ≡ u))
    → outcome_of result ≡ rule k n bad
