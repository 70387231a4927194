-- What a labelled plan asks of the numbers of one coordinate.
use Rattle.std.specs.Prelude.{ℕ, List, ◌++◌, Bool, cond, ◌&&◌, eqb, ltb}
use Rattle.chart_solver.specs.declared.Constraint.{Constraint as Stored}
use Rattle.model.specs.Plan.{Plan, north, east, west}
use Rattle.model.specs.Labels.{up, right}
use Rattle.model.specs.Chart.{Constraint, x_constraints, y_constraints, tie, slope}

-- the border's tie, which comes first: of y where upright holds, else of x
unfoldable pub ties : Bool → List Constraint
ties upright = cond upright (tie north west) (tie north east)

unfoldable pub compass : Bool → Plan → List ℕ → List Constraint
compass upright p ls = cond upright (y_constraints slope p ls) (x_constraints slope p ls)

abbrev pub dart_constraints : Bool → Plan → List ℕ → List Constraint
dart_constraints upright p ls = ties upright ++ compass upright p ls

-- the context that North is tied to
unfoldable pub tied_to : Bool → ℕ
tied_to upright = cond upright west east

-- the lower end of the constraint of a dart from u to v, and of its reverse the higher end: along a right dart y does not rise, so there the ends are exchanged
unfoldable pub constraint_end : Bool → ℕ → ℕ → ℕ → ℕ
constraint_end upright l u v = cond (upright && eqb l right) v u

-- x along an up dart and y along a right dart have the slope's gap, the other two 1
unfoldable pub gap_of : Bool → ℕ → ℕ
gap_of upright l = cond upright (cond (eqb l up) 1 slope) (cond (eqb l up) slope 1)

-- up and right darts ask for a constraint each, the others for none
unfoldable pub constraint_count : ℕ → ℕ
constraint_count l = cond (ltb l 2) 1 0

-- the constraint that a dart from u to v asks for, if it asks for one
abbrev pub dart_constraint : Bool → ℕ → ℕ → ℕ → Stored
dart_constraint upright l u v = record { low = constraint_end upright l u v; high = constraint_end upright l v u; gap = gap_of upright l }
