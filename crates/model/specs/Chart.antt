-- Placement and chart: the compass rules, and the least placement that keeps them.
-- Standard terms: a chart is a straight-line grid drawing; the compass rules are difference constraints, and the chart is their least solution.
use Rattle.std.specs.Prelude.{ℕ, zero, suc, ◌+◌, ◌*◌, ◌≤◌, ◌<◌, max, ◌≡◌, List, [], ◌∷◌, ◌++◌, map, Bool, true, cond, ◌&&◌, length, get_or, set, replicate, eqb, leb}
use Rattle.std.specs.List.{list_all}
use Rattle.lists.specs.Tests.{same_list}
use Rattle.lists.specs.Parts.{flatten}
use Rattle.model.specs.Outcome.{Outcome, accepted, refused, ◌>>=◌, ◌>>◌, require}
use Rattle.model.specs.Plan.{Plan, Dart, context_count, darts, north, east, south, west}
use Rattle.model.specs.Labels.{up, right, label_of}

-- Width, height, and x and y of each context
pub record Chart : Type 0 where
  pub w : ℕ
  pub h : ℕ
  pub xs : List ℕ
  pub ys : List ℕ

-- the x of a context
abbrev pub x : Chart → ℕ → ℕ
x c u = get_or c.xs u 0

-- the y of a context
abbrev pub y : Chart → ℕ → ℕ
y c u = get_or c.ys u 0

-- A difference constraint: the number at `high` is at least the number at `low` plus `gap`
pub record Constraint : Type 0 where
  pub low : ℕ
  pub high : ℕ
  pub gap : ℕ

-- the numbers meet the constraint
unfoldable pub meets : List ℕ → Constraint → Bool
meets ks d = leb (get_or ks d.low 0 + d.gap) (get_or ks d.high 0)

-- v's number is at least u's plus g
abbrev pub constraint : ℕ → ℕ → ℕ → Constraint
constraint u v g = record { low = u; high = v; gap = g }

-- The compass rules, with a number s that says how far a line must at least lean (0: it may be upright or level).
-- Along an up dart from u to v, x does not fall (rises by s) and y rises; along a right dart x rises and y does not rise (falls by s).
-- what a dart with label l asks of x
unfoldable pub x_constraint : ℕ → ℕ → Dart → List Constraint
x_constraint s l d = cond (eqb l up) (constraint d.0 d.1 s ∷ []) (cond (eqb l right) (constraint d.0 d.1 1 ∷ []) [])

-- what a dart with label l asks of y
unfoldable pub y_constraint : ℕ → ℕ → Dart → List Constraint
y_constraint s l d = cond (eqb l up) (constraint d.0 d.1 1 ∷ []) (cond (eqb l right) (constraint d.1 d.0 s ∷ []) [])

-- what all darts ask of x
unfoldable pub x_constraints : ℕ → Plan → List ℕ → List Constraint
x_constraints s p ls = flatten (map (λ (d : Dart). x_constraint s (label_of p ls d.0 d.1) d) (darts p))

-- what all darts ask of y
unfoldable pub y_constraints : ℕ → Plan → List ℕ → List Constraint
y_constraints s p ls = flatten (map (λ (d : Dart). y_constraint s (label_of p ls d.0 d.1) d) (darts p))

-- the context u stands at (a, b)
unfoldable pub is_at : Chart → ℕ → ℕ → ℕ → Bool
is_at c u a b = eqb (x c u) a && eqb (y c u) b

-- A placement that keeps the compass rules: South (0,0), West (0,h), North (w,h), East (w,0)
unfoldable pub is_placement : ℕ → Plan → List ℕ → Chart → Bool
is_placement s p ls c =
    eqb (length c.xs) (context_count p) && eqb (length c.ys) (context_count p)
    && is_at c south 0 0 && is_at c west 0 c.h && is_at c north c.w c.h && is_at c east c.w 0
    && list_all (meets c.xs) (x_constraints s p ls) && list_all (meets c.ys) (y_constraints s p ls)

-- Every number of c is at most that of d: w, h, and x and y of each of n contexts
pub record AtMost (n : ℕ) (c d : Chart) : Type 0 where
  pub w_least : c.w ≤ d.w
  pub h_least : c.h ≤ d.h
  pub x_least : (u : ℕ) → u < n → x c u ≤ x d u
  pub y_least : (u : ℕ) → u < n → y c u ≤ y d u

-- The chart is, among the placements that keep the compass rules, the one in which every x, every y, w and h is least
pub record IsChart (s : ℕ) (p : Plan) (ls : List ℕ) (c : Chart) : Type 0 where
  pub keeps : is_placement s p ls c ≡ true
  pub least : (d : Chart) → is_placement s p ls d ≡ true → AtMost (context_count p) c d

-- How it is worked out: numbers are raised from 0, constraint by constraint, until nothing rises
unfoldable pub raise : Constraint → List ℕ → List ℕ
raise d ks = set ks d.high (max (get_or ks d.high 0) (get_or ks d.low 0 + d.gap))

-- each constraint in turn
unfoldable pub pass : List Constraint → List ℕ → List ℕ
pass [] ks = ks
pass (d ∷ ds) ks = pass ds (raise d ks)

-- passes until nothing rises; 11 where the numbers still rise after so many passes
unfoldable pub settle : List Constraint → ℕ → List ℕ → Outcome (List ℕ)
settle ds zero ks = refused 11 0
settle ds (suc fuel) ks = let more = settle ds fuel (pass ds ks) in cond (same_list (pass ds ks) ks) (accepted ks) more

-- where n numbers settle at all, none passes n, so this many passes are enough
unfoldable pub least_numbers : ℕ → List Constraint → Outcome (List ℕ)
least_numbers n ds = settle ds (suc (n * n)) (replicate n 0)

-- two contexts have the same number
unfoldable pub tie : ℕ → ℕ → List Constraint
tie u v = constraint u v 0 ∷ constraint v u 0 ∷ []

-- The least numbers in which North is above East and level with West; 11 if there are none, or if South, West or East would have to leave its 0
unfoldable pub least_placement : ℕ → Plan → List ℕ → Outcome Chart
least_placement s p ls = do
  xs ← least_numbers (context_count p) (tie north east ++ x_constraints s p ls)
  ys ← least_numbers (context_count p) (tie north west ++ y_constraints s p ls)
  let c : Chart = record { w = get_or xs north 0; h = get_or ys north 0; xs = xs; ys = ys } in
      require (is_placement s p ls c) 11 0 >> accepted c

-- How far a chart's lines must at least lean: they may be upright or level
unfoldable pub slope : ℕ
slope = 0

-- The chart of a labelled plan
unfoldable pub chart : Plan → List ℕ → Outcome Chart
chart p ls = least_placement slope p ls

-- the same width, height and points
unfoldable pub same_chart : Chart → Chart → Bool
same_chart c d = eqb c.w d.w && eqb c.h d.h && same_list c.xs d.xs && same_list c.ys d.ys

-- who unfolds this unfolds all of the above: for facts that are computed
unfoldable pub chart_computes : Unit {0}
unfolding meets x_constraint y_constraint x_constraints y_constraints is_at is_placement raise pass settle least_numbers tie least_placement slope chart same_chart
chart_computes = tt
