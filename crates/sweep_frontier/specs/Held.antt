-- What the engine's frontier holds of the sweep's state: the frontier in an array, and marks for what is or was on it.
use Rattle.sweep_frontier.specs.Frontiers.{Frontier}
use Rattle.std.specs.Prelude.{ℕ, ◌+◌, ◌≤◌, ◌<◌, ◌≡◌, Bool, true, false, not, length, get_or, eqb}
use mathlib.Core.List.{List, [], ◌∷◌, ◌++◌, Memᴰ}
use Rattle.lists.specs.Tests.{member, repeats}
use Rattle.lists.specs.Spans.{zero_padded}
use Rattle.model.specs.Plan.{Plan, ring}
use Rattle.model.specs.Sweep.{State}

-- all entries of a list are below 200
abbrev pub AllBelow200 : List ℕ → Type 0
AllBelow200 [] = Unit {0}
AllBelow200 (a ∷ l) = (a < 200) × AllBelow200 l

-- Every ring entry is below 200
pub record EntriesBelow200 (p : Plan) : Type 0 where
  pub entry : (u a : ℕ) → Memᴰ a (ring p u) → a < 200

-- v has not failed, and its contexts are l, with zeros behind
pub record HoldsList (v : Frontier) (l : List ℕ) : Type 0 where
  pub ok : v.ok ≡ true
  pub len : v.len ≡ length l
  pub at : v.at ≡ zero_padded 512 l
  pub short : length l ≤ 512

-- the contexts that pass are marked
pub record Marks (m : List ℕ) (p : ℕ → Bool) : Type 0 where
  pub size : length m ≡ 256
  pub mark : (c : ℕ) → c < 256 → eqb (get_or m c 0) 0 ≡ not (p c)

-- v holds the frontier of a state of the sweep. What came to the frontier since the start has no repeat, so that it is never longer than the array
pub record HoldsFrontier (s : State) (v : Frontier) : Type 0 where
  pub rep : HoldsList v s.frontier
  pub marks : Marks v.marks (λ (c : ℕ). member c s.seen)
  pub small : AllBelow200 s.frontier
  pub news : List ℕ
  pub olds : List ℕ
  pub parts : s.seen ≡ news ++ olds
  pub once : repeats news ≡ false
  pub few : AllBelow200 news
  pub room : length s.frontier ≤ 255 + length news
