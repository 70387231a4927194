-- Difference constraints in an array: the model's constraints for which they stand.
use Rattle.std.specs.Prelude.{ℕ, List, map, cond, get_or, eqb}
use Rattle.model.specs.Chart.{Constraint, constraint}
use Rattle.chart_solver.specs.declared.Constraint.{Constraint as Stored}

-- a gap as the solver reads it: 0, or else 1
unfoldable pub rise : ℕ → ℕ
rise g = cond (eqb g 0) 0 1

-- the constraint
unfoldable pub constraint_of : Stored → Constraint
constraint_of c = constraint c.low c.high (rise c.gap)

-- the constraints of an array
abbrev pub constraints_in : List Stored → List Constraint
constraints_in cs = map constraint_of cs

-- the constraint at i; behind the last there is one that all numbers meet
unfoldable pub constraint_at : List Stored → ℕ → Constraint
constraint_at cs i = constraint_of (get_or cs i (record { low = 0; high = 0; gap = 0 }))
