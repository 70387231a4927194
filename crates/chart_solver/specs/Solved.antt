-- The answer of the solver.
use Rattle.std.specs.Prelude.{ℕ, List, cond, leb, Option, Some, None}
use Rattle.lists.specs.Spans.{zero_padded}
use Rattle.model.specs.Outcome.{Outcome, accepted, refused}
use Rattle.std.specs.List.{list_all}
use Rattle.model.specs.Chart.{Constraint, meets, least_numbers}

-- The least numbers that meet the constraints, for up to 200 numbers; of more than 200 all are refused
unfoldable pub solved : ℕ → List Constraint → Outcome (List ℕ)
solved n cs = cond (leb n 200) (least_numbers n cs) (refused 11 0)

-- The solver's answer for an outcome: the numbers and zeros after them, or none
unfoldable pub numbers_of : Outcome (List ℕ) → Option (List ℕ)
numbers_of (accepted ks) = Some (zero_padded 200 ks)
numbers_of (refused k place) = None

-- the numbers found, if they meet the constraints
abbrev pub kept_at : List Constraint → Option (List ℕ) → Option (List ℕ)
kept_at cs None = None
kept_at cs (Some ks) = cond (list_all (meets ks) cs) (Some ks) None
