-- What holds of a placement that keeps the compass rules, as statements and not as a test. The test `is_placement` passes exactly where they hold (proofs, Placements).
use Rattle.std.specs.Prelude.{ℕ, ◌+◌, ◌≤◌, ◌<◌, ◌≡◌, List, true, length}
use Rattle.model.specs.Plan.{Plan, context_count, adjacent, north, east, south, west}
use Rattle.model.specs.Labels.{up, right, label_of}
use Rattle.model.specs.Chart.{Chart, x, y}

-- The compass rules, one dart at a time
pub record Compass (s : ℕ) (p : Plan) (ls : List ℕ) (c : Chart) : Type 0 where
  pub up_x : (u v : ℕ) → adjacent p u v ≡ true → label_of p ls u v ≡ up → x c u + s ≤ x c v
  pub up_y : (u v : ℕ) → adjacent p u v ≡ true → label_of p ls u v ≡ up → y c u < y c v
  pub right_x : (u v : ℕ) → adjacent p u v ≡ true → label_of p ls u v ≡ right → x c u < x c v
  pub right_y : (u v : ℕ) → adjacent p u v ≡ true → label_of p ls u v ≡ right → y c v + s ≤ y c u

-- A placement that keeps the compass rules, with the corners where 01 has them
pub record Placed (s : ℕ) (p : Plan) (ls : List ℕ) (c : Chart) : Type 0 where
  pub count_x : length c.xs ≡ context_count p
  pub count_y : length c.ys ≡ context_count p
  pub south_x : x c south ≡ 0
  pub south_y : y c south ≡ 0
  pub west_x : x c west ≡ 0
  pub west_y : y c west ≡ c.h
  pub north_x : x c north ≡ c.w
  pub north_y : y c north ≡ c.h
  pub east_x : x c east ≡ c.w
  pub east_y : y c east ≡ 0
  pub compass : Compass s p ls c
