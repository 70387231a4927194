-- What it means that a list has each inner face of a plan exactly once.
use Rattle.std.specs.Prelude.{ℕ, ◌≤◌, ◌≡◌, Bool, true, false, length, get_or}
use mathlib.Core.List.{List, Memᴰ}
use Rattle.std.specs.List.{list_any}
use Rattle.lists.specs.Tests.{tally}
use Rattle.lists.specs.Parts.{cycle}
use Rattle.model.specs.Plan.{Plan, Dart, Face, darts, adjacent, same_dart, step, outer}

-- An inner face: a closed walk of three face steps over darts that are not outer, begun at its lowest context
pub record InnerFace (p : Plan) (f : Face) : Type 0 where
  pub three : length f ≡ 3
  pub walked : (c : Dart × Dart) → Memᴰ c (cycle (cycle f)) → step p c.0 ≡ c.1
  pub darts_of : (d : Dart) → Memᴰ d (cycle f) → adjacent p d.0 d.1 ≡ true
  pub not_outer : (d : Dart) → Memᴰ d (cycle f) → outer d ≡ false
  pub lowest_first : (u : ℕ) → Memᴰ u f → get_or f 0 0 ≤ u

-- the walk has the dart
unfoldable pub passes : Dart → Face → Bool
passes d f = list_any (same_dart d) (cycle f)

-- Each of these walks is an inner face, and each dart that is not outer is on exactly one of them
pub record InnerFaces (p : Plan) (fs : List Face) : Type 0 where
  pub each_inner : (f : Face) → Memᴰ f fs → InnerFace p f
  pub each_once : (d : Dart) → Memᴰ d (darts p) → outer d ≡ false → tally (passes d) fs ≡ 1
