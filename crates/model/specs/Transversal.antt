-- What the label rules say, without a test: conditions C1 and C2 of source 001, read as 01 reads them.
-- Up is outgoing red, right outgoing blue, down ingoing red, left ingoing blue.
use Rattle.std.specs.Prelude.{ℕ, ◌≤◌, ◌<◌, max, ◌≡◌, List, ◌++◌, true, length, take, drop, replicate}
use Rattle.model.specs.Plan.{Plan, context_count, adjacent, north, east, south, west}
use Rattle.model.specs.Labels.{up, right, down, left, border_label, turned, label_of, labels_around}

-- C1: some rotation of the ring's labels is up^a right^b down^c left^d with a, b, c, d above 0
pub record FourRuns (r : List ℕ) : Type 0 where
  pub begins : ℕ
  pub a : ℕ
  pub b : ℕ
  pub c : ℕ
  pub d : ℕ
  pub within : begins < length r
  pub a_some : 0 < a
  pub b_some : 0 < b
  pub c_some : 0 < c
  pub d_some : 0 < d
  pub runs : drop begins r ++ take begins r ≡ replicate a up ++ (replicate b right ++ (replicate c down ++ replicate d left))

-- C2: the label that each inner dart leaving a border context has
pub record Borders (p : Plan) (ls : List ℕ) : Type 0 where
  pub from_north : (v : ℕ) → adjacent p north v ≡ true → 4 ≤ v → label_of p ls north v ≡ down
  pub from_east : (v : ℕ) → adjacent p east v ≡ true → 4 ≤ v → label_of p ls east v ≡ left
  pub from_south : (v : ℕ) → adjacent p south v ≡ true → 4 ≤ v → label_of p ls south v ≡ up
  pub from_west : (v : ℕ) → adjacent p west v ≡ true → 4 ≤ v → label_of p ls west v ≡ right

-- The label rules: 4 between border contexts and only there, a dart and its reverse two quarters apart, C1 and C2
pub record Transversal (p : Plan) (ls : List ℕ) : Type 0 where
  pub border_darts : (u v : ℕ) → u < 4 → v < 4 → adjacent p u v ≡ true → label_of p ls u v ≡ border_label
  pub inner_darts : (u v : ℕ) → u < context_count p → adjacent p u v ≡ true → 4 ≤ max u v → label_of p ls u v < 4
  pub reverses : (u v : ℕ) → u < context_count p → adjacent p u v ≡ true → 4 ≤ max u v → label_of p ls v u ≡ turned (label_of p ls u v) 2
  pub inner_rings : (u : ℕ) → u < context_count p → 4 ≤ u → FourRuns (labels_around p ls u)
  pub border_rings : Borders p ls
