-- What holds of each state that the sweep with counters comes to.
use Rattle.std.specs.Prelude.{ℕ, ◌<◌, ◌≡◌, List, true, false, length, get_or}
use Rattle.lists.specs.Tests.{member}
use Rattle.model.specs.Plan.{Plan, context_count, border}
use Rattle.model.specs.Sweep.{State, chordless, eligible}
use Rattle.model.specs.SweepStates.{Positions, Reached}
use Rattle.sweep_theory.specs.Local.{touching}

-- No pair is eligible with j at the limit or larger
abbrev pub Limits : Plan → State → ℕ → Type 0
Limits p s limit = (i j : ℕ) → Positions s i j → eligible p s i j ≡ true → j < limit

-- The frontier has no chord, or nothing is tried
abbrev pub Clean : Plan → State → ℕ → Type 0
Clean p s limit = 0 < limit → chordless p s.frontier ≡ true

-- The counters tell how many contexts of the frontier touch each inner context that never was on it
pub record Tells (p : Plan) (s : State) (cnt : List ℕ) : Type 0 where
  pub size : length cnt ≡ context_count p
  pub tells : (c : ℕ) → c < context_count p → border c ≡ false → member c s.seen ≡ false → get_or cnt c 0 ≡ touching p s.frontier c

-- A state that the sweep reaches, with its limit and its counters
pub record Ready (p : Plan) (limit : ℕ) (cnt : List ℕ) (s : State) : Type 0 where
  pub reached : Reached p s
  pub limits : Limits p s limit
  pub clean : Clean p s limit
  pub tells : Tells p s cnt
