-- What the solver keeps from pass to pass. Nothing here has to be believed: the solver's contract does not name it.
use Rattle.std.specs.Prelude.{ℕ, ◌+◌, ◌-◌, ◌≤◌, ◌<◌, ◌≡◌, Bool, true, false, cond, length, get_or, Option, Some, None}
use mathlib.Core.List.{List, Memᴰ}
use Rattle.chart_solver.specs.Constraints.{constraint_at, constraints_in}
use Rattle.model.specs.Chart.{Constraint}
use Rattle.rings.specs.Tables.{sum_of}
use Rattle.chart_solver.specs.declared.System.{System}

-- numbers, given as a function, that meet every constraint on one of the first n
abbrev pub Keeps : ℕ → List Constraint → (ℕ → ℕ) → Type 0
Keeps n cs d = (c : Constraint) → Memᴰ c cs → c.high < n → d c.low + c.gap ≤ d c.high

-- numbers, n of at most 200, that the constraints have raised from 0: none is above n, and none above those of any numbers that meet the constraints
pub record Raised (n : ℕ) (cs : List Constraint) (ks : List ℕ) : Type 0 where
  pub few : n ≤ 200
  pub size : length ks ≡ 200
  pub past : (u : ℕ) → n ≤ u → get_or ks u 0 ≡ 0
  pub most : (u : ℕ) → get_or ks u 0 ≤ n
  pub under : (d : ℕ → ℕ) → Keeps n cs d → (u : ℕ) → get_or ks u 0 ≤ d u

abbrev pub RaisedIn : System → List ℕ → Type 0
RaisedIn s ks = Raised s.n (constraints_in s.constraints.now) ks

-- no numbers up to n meet the constraints
abbrev pub Hopeless : System → Type 0
Hopeless s = (d : ℕ → ℕ) → Keeps s.n (constraints_in s.constraints.now) d → ((u : ℕ) → d u ≤ s.n) → ⊥

-- the constraint at i is met, if it is on one of the first n
abbrev pub MetAt : System → List ℕ → ℕ → Type 0
MetAt s ks i = (constraint_at s.constraints.now i).high < s.n → get_or ks (constraint_at s.constraints.now i).low 0 + (constraint_at s.constraints.now i).gap ≤ get_or ks (constraint_at s.constraints.now i).high 0

-- what taking constraint k leaves of the numbers old: where nothing meets the constraints they stay; else they are raised, and where none rose, it is met
pub record Relaxed (s : System) (k : ℕ) (old ks : List ℕ) (r : Option Bool) : Type 0 where
  pub raised : RaisedIn s ks
  pub none : r ≡ None → Hopeless s
  pub still : r ≡ Some false → (ks ≡ old) × MetAt s ks k
  pub more : r ≡ Some true → sum_of old < sum_of ks

-- the constraint that a pass comes to after i others: from the first to the last, or back
unfoldable pub pass_index : Bool → ℕ → ℕ → ℕ
pass_index back count i = cond back (count - 1 - i) i

-- a pass that has come to its constraint i, from the numbers old to the numbers ks
pub record Passing (s : System) (back : Bool) (old ks : List ℕ) (i : ℕ) (rose : Bool) : Type 0 where
  pub raised : RaisedIn s ks
  pub still : rose ≡ false → (ks ≡ old) × ((j : ℕ) → j < i → MetAt s ks (pass_index back (length s.constraints.now) j))
  pub more : rose ≡ true → sum_of old < sum_of ks

-- what a pass leaves: nothing meets the constraints; or the numbers are raised, and where none rose, every constraint is met
pub record Passed (s : System) (old ks : List ℕ) (r : Option Bool) : Type 0 where
  pub raised : RaisedIn s ks
  pub none : r ≡ None → Hopeless s
  pub still : r ≡ Some false → (i : ℕ) → i < length s.constraints.now → MetAt s ks i
  pub more : r ≡ Some true → sum_of old < sum_of ks
