-- Wherever there is a placement there is one on a grid of n − 3 by n − 3 in which no line is upright or level. So no number of a chart is above n − 3.
use Prim.Native.Nat.{ℕ, zero, suc, ◌-◌, ◌≤◌, ◌<◌}
use mathlib.Core.Path.{◌≡◌, refl, sym, ap, ◌∙◌}
use mathlib.Core.List.{List, map}
use mathlib.Core.Logic.{◌≢◌, ◌⊎◌, inl, inr}
use mathlib.Core.Bool.{Bool, true, false, cond, ◌&&◌, ◌||◌, or-true}
use native.Mathlib.Omega.{arith}
use lib.ListN.{length, get_or}
use lib.Dec.{eqb, ltb, leb}
use borrow.Author.Tests.{eqb-true, eq-eqb, ne_eqb, ltb-true, ltb-false, lt-ltb, le-ltb, le-leb}
use Rattle.lists.specs.Ranges.{from}
use Rattle.lists.proofs.Bools.{and_yes, yes_and, or_yes}
use Rattle.lists.proofs.Ranges.{length-map-from, get_or-map-from, lt-or-le}
use Rattle.lists.proofs.Counts.{count_below, count_below_strict, count_below-from}
use Rattle.model.specs.Outcome.{accepted, passed}
use Rattle.model.specs.Plan.{Plan, context_count, adjacent, plan_rules, north, east, south, west}
use Rattle.model.specs.Labels.{up, right, turned, label_of, label_rules}
use Rattle.model.specs.Chart.{Chart, x, y, least_placement, slope, chart}
use Rattle.model.specs.Placed.{Placed}
use Rattle.model.specs.Transversal.{Transversal}
use Rattle.model.proofs.Plans.{adjacent-from}
use Rattle.model.proofs.PlanRules.{sound}
use Rattle.model.proofs.LabelRules.{labels_exactly}
use Rattle.model.proofs.Placements.{placed, is-placed, chart-is}

-- ---- a strict order of contexts, as a test
record Order : Type 0 where
  before : ℕ → ℕ → Bool
  strict : (u : ℕ) → before u u ≡ false
  chain : (u v w : ℕ) → before u v ≡ true → before v w ≡ true → before u w ≡ true

-- by a number
rising : (ℕ → ℕ) → Order
rising f = record {
  before = λ u v. ltb (f u) (f v);
  strict = λ u. le-ltb (f u) (f u) (omega arith);
  chain = λ u v w e g. let a = ltb-true (f u) (f v) e in let b = ltb-true (f v) (f w) g in lt-ltb (f u) (f w) (omega arith);
}

falling : (ℕ → ℕ) → Order
falling f = record {
  before = λ u v. ltb (f v) (f u);
  strict = λ u. le-ltb (f u) (f u) (omega arith);
  chain = λ u v w e g. let a = ltb-true (f v) (f u) e in let b = ltb-true (f w) (f v) g in lt-ltb (f w) (f u) (omega arith);
}

-- by a key first, then by another order
module _ (key : ℕ → ℕ) (o : Order) where
  first : ℕ → ℕ → Bool
  first u v = ltb (key u) (key v) || (eqb (key u) (key v) && o.before u v)

  by_key : (u v : ℕ) → key u < key v → first u v ≡ true
  unfolding first
  by_key u v h = rw (lt-ltb (key u) (key v) h)

  by_order : (u v : ℕ) → key u ≤ key v → o.before u v ≡ true → first u v ≡ true
  unfolding first
  by_order u v h t = go (ltb (key u) (key v)) refl
    where
      go : (b : Bool) → ltb (key u) (key v) ≡ b → (b || (eqb (key u) (key v) && o.before u v)) ≡ true
      go true q = refl
      go false q = yes_and _ _ (eq-eqb (key u) (key v) (let k = ltb-false (key u) (key v) q in omega arith)) t

  first_cases : (u v : ℕ) → first u v ≡ true → (key u < key v) ⊎ ((key u ≡ key v) × (o.before u v ≡ true))
  unfolding first
  first_cases u v e = go (or_yes (ltb (key u) (key v)) (eqb (key u) (key v) && o.before u v) e)
    where
      go : (ltb (key u) (key v) ≡ true) ⊎ ((eqb (key u) (key v) && o.before u v) ≡ true) → (key u < key v) ⊎ ((key u ≡ key v) × (o.before u v ≡ true))
      go (inl h) = inl (ltb-true (key u) (key v) h)
      go (inr h) = let (a, b) = and_yes (eqb (key u) (key v)) (o.before u v) h in inr (eqb-true (key u) (key v) a, b)

  not_first : (u : ℕ) → first u u ≡ false
  unfolding first
  not_first u = rw (le-ltb (key u) (key u) (omega arith), o.strict u, eq-eqb (key u) (key u) refl)

  first_chain : (u v w : ℕ) → first u v ≡ true → first v w ≡ true → first u w ≡ true
  first_chain u v w e f = go (first_cases u v e) (first_cases v w f)
    where
      go : (key u < key v) ⊎ ((key u ≡ key v) × (o.before u v ≡ true)) → (key v < key w) ⊎ ((key v ≡ key w) × (o.before v w ≡ true)) → first u w ≡ true
      go (inl a) (inl b) = by_key u w (omega arith)
      go (inl a) (inr b) = let q = b.0 in by_key u w (omega arith)
      go (inr a) (inl b) = let q = a.0 in by_key u w (omega arith)
      go (inr a) (inr b) = let q = a.0 in let r = b.0 in by_order u w (omega arith) (o.chain u v w a.1 b.1)

  keyed : Order
  keyed = record { before = first; strict = not_first; chain = first_chain }

-- ---- levels: two border contexts at 0, the other two at n − 3, the inner ones between them by how many inner ones come before
module _ (n : ℕ) (o : Order) where
  rank : ℕ → ℕ
  rank u = count_below (λ (w : ℕ). leb 4 w && o.before w u) n

  rank_strict : (u v : ℕ) → u < n → 4 ≤ u → o.before u v ≡ true → rank u < rank v
  unfolding rank
  rank_strict u v h i b =
      count_below_strict (λ (w : ℕ). leb 4 w && o.before w u) (λ (w : ℕ). leb 4 w && o.before w v) n u wider h
      (rw (le-leb 4 u i) (o.strict u)) (rw (le-leb 4 u i) b)
    where
      wider : (w : ℕ) → (leb 4 w && o.before w u) ≡ true → (leb 4 w && o.before w v) ≡ true
      wider w e = let (a, c) = and_yes (leb 4 w) (o.before w u) e in yes_and (leb 4 w) (o.before w v) a (o.chain w u v c b)

  rank-low : (u : ℕ) → u < n → 4 ≤ u → rank u < n - 4
  unfolding rank
  rank-low u h i =
      let c = count_below_strict (λ (w : ℕ). leb 4 w && o.before w u) (leb 4) n u (λ w e. (and_yes (leb 4 w) (o.before w u) e).0) h (rw (le-leb 4 u i) (o.strict u)) (le-leb 4 u i) in
      let d = count_below-from 4 n in
      omega arith

  -- the level of u, with South and one more border context at 0
  level : ℕ → ℕ → ℕ
  level low u = cond (ltb u 4) (cond (eqb u south || eqb u low) 0 (n - 3)) (suc (rank u))

  levels : ℕ → List ℕ
  levels low = map (level low) (from 0 n)

  levels_at : (low u : ℕ) → u < n → get_or (levels low) u 0 ≡ level low u
  unfolding levels
  levels_at low u h = get_or-map-from (level low) 0 n u 0 h ∙ ap (level low) (omega arith)

  levels_inner : (low u : ℕ) → u < n → 4 ≤ u → get_or (levels low) u 0 ≡ suc (rank u)
  unfolding level
  levels_inner low u h i = levels_at low u h ∙ rw (le-ltb u 4 i)

  -- an inner level is above 0 and below n − 3, and rises with the order
  inner_low : (low u : ℕ) → u < n → 4 ≤ u → (0 < get_or (levels low) u 0) × (get_or (levels low) u 0 < n - 3)
  inner_low low u h i = let e = levels_inner low u h i in let r = rank-low u h i in omega arith

  inner_rises : (low u v : ℕ) → u < n → v < n → 4 ≤ u → 4 ≤ v → o.before u v ≡ true → get_or (levels low) u 0 < get_or (levels low) v 0
  inner_rises low u v h k i j b = let e = levels_inner low u h i in let f = levels_inner low v k j in let r = rank_strict u v h i b in omega arith

  levels_zero : (low : ℕ) → 4 ≤ n → low < 4 → (get_or (levels low) south 0 ≡ 0) × (get_or (levels low) low 0 ≡ 0)
  unfolding level
  levels_zero low h l = (levels_at low south (omega arith) ∙ refl, levels_at low low (omega arith) ∙ rw (lt-ltb low 4 l, eq-eqb low low refl, or-true (eqb low south)))

  levels_top : (low u : ℕ) → 4 ≤ n → u < 4 → u ≢ south → u ≢ low → get_or (levels low) u 0 ≡ n - 3
  unfolding level
  levels_top low u h k a b = levels_at low u (omega arith) ∙ rw (lt-ltb u 4 k, ne_eqb u south a, ne_eqb u low b)

  -- the level rises from u to v: where u is a border context it stands lowest, where v is one it stands highest, and between inner contexts the order tells
  climbs : (low u v : ℕ) → u < n → v < n → (u < 4 → (4 ≤ v) × (get_or (levels low) u 0 ≡ 0)) → (v < 4 → (4 ≤ u) × (get_or (levels low) v 0 ≡ n - 3)) → (4 ≤ u → 4 ≤ v → o.before u v ≡ true)
      → get_or (levels low) u 0 < get_or (levels low) v 0
  climbs low u v h k lowest highest between = go (lt-or-le u 4) (lt-or-le v 4)
    where
      go : (u < 4) ⊎ (4 ≤ u) → (v < 4) ⊎ (4 ≤ v) → get_or (levels low) u 0 < get_or (levels low) v 0
      go (inl a) q = let (i, z) = lowest a in let b = inner_low low v k i in omega arith
      go (inr i) (inl a) = let (j, z) = highest a in let b = inner_low low u h j in omega arith
      go (inr i) (inr j) = inner_rises low u v h k i j (between i j)

  levels_length : (low : ℕ) → length (levels low) ≡ n
  unfolding levels
  levels_length low = length-map-from (level low) 0 n

  -- none is above n − 3
  levels_most : (low u : ℕ) → u < n → get_or (levels low) u 0 ≤ n - 3
  unfolding level
  levels_most low u h = let e = levels_at low u h in go (ltb u 4) refl (eqb u south || eqb u low) e
    where
      go : (t : Bool) → ltb u 4 ≡ t → (r : Bool) → get_or (levels low) u 0 ≡ cond t (cond r 0 (n - 3)) (suc (rank u)) → get_or (levels low) u 0 ≤ n - 3
      go true q true e = omega arith
      go true q false e = omega arith
      go false q r e = let i = ltb-false u 4 q in let k = rank-low u h i in omega arith

-- ---- which end of a dart that has a label below 4 can be a border context
module _ (p : Plan) (ls : List ℕ) (returned : (u v : ℕ) → adjacent p u v ≡ true → adjacent p v u ≡ true) (t : Transversal p ls) where
  due_label_lem : (u v : ℕ) → u < 4 → 4 ≤ v → adjacent p u v ≡ true → label_of p ls u v ≡ turned u 2
  due_label_lem zero v h k m = t.border_rings.from_north v m k
  due_label_lem (suc zero) v h k m = t.border_rings.from_east v m k
  due_label_lem (suc (suc zero)) v h k m = t.border_rings.from_south v m k
  due_label_lem (suc (suc (suc zero))) v h k m = t.border_rings.from_west v m k
  due_label_lem (suc (suc (suc (suc u)))) v h k m = absurd (omega arith)

  module _ (u v l : ℕ) (m : adjacent p u v ≡ true) (e : label_of p ls u v ≡ l) (b : l < 4) where
    -- not both
    one_inner : u < 4 → v < 4 → ⊥
    one_inner h k = let q = t.border_darts u v h k m in omega arith

    -- the first: its due label is the dart's
    from-border : u < 4 → (4 ≤ v) × (turned u 2 ≡ l)
    from-border h = go (ltb v 4) refl
      where
        go : (r : Bool) → ltb v 4 ≡ r → (4 ≤ v) × (turned u 2 ≡ l)
        go true q = absurd (one_inner h (ltb-true v 4 q))
        go false q = let k = ltb-false v 4 q in (k, sym (due_label_lem u v h k m) ∙ e)

    -- the second: its due label is the reverse dart's
    to_border : v < 4 → (4 ≤ u) × (turned v 2 ≡ turned l 2)
    to_border h = go (ltb u 4) refl
      where
        go : (r : Bool) → ltb u 4 ≡ r → (4 ≤ u) × (turned v 2 ≡ turned l 2)
        go true q = absurd (one_inner (ltb-true u 4 q) h)
        go false q =
            let k = ltb-false u 4 q in
            (k, sym (due_label_lem v u h k (returned u v m)) ∙ t.reverses u v (adjacent-from p u v m) m (omega arith) ∙ ap (λ (j : ℕ). turned j 2) e)

-- ---- the grid
module _ (p : Plan) (ls : List ℕ) (five : 5 ≤ context_count p) (returned : (u v : ℕ) → adjacent p u v ≡ true → adjacent p v u ≡ true) (t : Transversal p ls) (d : Chart) (k : Placed 0 p ls d) where
  -- x by x, then y; y by y, then x falling
  x_order : Order
  x_order = keyed (x d) (rising (y d))

  y_order : Order
  y_order = keyed (y d) (falling (x d))

  pub grid : Chart
  grid = record { w = context_count p - 3; h = context_count p - 3; xs = levels (context_count p) x_order west; ys = levels (context_count p) y_order east }

  module _ (u v : ℕ) (m : adjacent p u v ≡ true) where
    in_u : u < context_count p
    in_u = adjacent-from p u v m

    in_v : v < context_count p
    in_v = adjacent-from p v u (returned u v m)

    -- along an up dart both levels rise
    rises_up : label_of p ls u v ≡ up → (x grid u < x grid v) × (y grid u < y grid v)
    unfolding grid x_order y_order keyed rising falling
    rises_up e =
        let dx = k.compass.up_x u v m e in
        let dy = k.compass.up_y u v m e in (
          climbs (context_count p) x_order west u v in_u in_v (λ h. ((from h).0, ap (x grid) (from h).1 ∙ (levels_zero (context_count p) x_order west (omega arith) (omega arith)).0))
              (λ h. ((to h).0, ap (x grid) (to h).1 ∙ levels_top (context_count p) x_order west north (omega arith) (omega arith) (omega arith) (omega arith)))
              (λ i j. by_order (x d) (rising (y d)) u v (omega arith) (lt-ltb (y d u) (y d v) dy)),
          climbs (context_count p) y_order east u v in_u in_v (λ h. ((from h).0, ap (y grid) (from h).1 ∙ (levels_zero (context_count p) y_order east (omega arith) (omega arith)).0))
              (λ h. ((to h).0, ap (y grid) (to h).1 ∙ levels_top (context_count p) y_order east north (omega arith) (omega arith) (omega arith) (omega arith)))
              (λ i j. by_key (y d) (falling (x d)) u v dy),
        )
      where
        from : u < 4 → (4 ≤ v) × (u ≡ south)
        from h = let (i, due) = from-border p ls returned t u v up m e (omega arith) h in (i, omega arith)

        to : v < 4 → (4 ≤ u) × (v ≡ north)
        to h = let (i, due) = to_border p ls returned t u v up m e (omega arith) h in (i, omega arith)

    -- along a right dart the first rises and the second falls
    rises_right : label_of p ls u v ≡ right → (x grid u < x grid v) × (y grid v < y grid u)
    unfolding grid x_order y_order keyed rising falling
    rises_right e =
        let dx = k.compass.right_x u v m e in
        let dy = k.compass.right_y u v m e in (
          climbs (context_count p) x_order west u v in_u in_v (λ h. ((from h).0, ap (x grid) (from h).1 ∙ (levels_zero (context_count p) x_order west (omega arith) (omega arith)).1))
              (λ h. ((to h).0, ap (x grid) (to h).1 ∙ levels_top (context_count p) x_order west east (omega arith) (omega arith) (omega arith) (omega arith)))
              (λ i j. by_key (x d) (rising (y d)) u v dx),
          climbs (context_count p) y_order east v u in_v in_u (λ h. ((to h).0, ap (y grid) (to h).1 ∙ (levels_zero (context_count p) y_order east (omega arith) (omega arith)).1))
              (λ h. ((from h).0, ap (y grid) (from h).1 ∙ levels_top (context_count p) y_order east west (omega arith) (omega arith) (omega arith) (omega arith)))
              (λ i j. by_order (y d) (falling (x d)) v u (omega arith) (lt-ltb (x d u) (x d v) dx)),
        )
      where
        from : u < 4 → (4 ≤ v) × (u ≡ west)
        from h = let (i, due) = from-border p ls returned t u v right m e (omega arith) h in (i, omega arith)

        to : v < 4 → (4 ≤ u) × (v ≡ east)
        to h = let (i, due) = to_border p ls returned t u v right m e (omega arith) h in (i, omega arith)

  -- the grid is a placement for every slope up to 1
  pub grid_placed : (s : ℕ) → s ≤ 1 → Placed s p ls grid
  unfolding grid
  grid_placed s low =
      let zx = levels_zero (context_count p) x_order west (omega arith) (omega arith) in
      let zy = levels_zero (context_count p) y_order east (omega arith) (omega arith) in
      let top : (o : Order) (a u : ℕ) → u < 4 → u ≢ south → u ≢ a → get_or (levels (context_count p) o a) u 0 ≡ context_count p - 3 = λ o a u. levels_top (context_count p) o a u (omega arith) in
      record {
        count_x = levels_length (context_count p) x_order west;
        count_y = levels_length (context_count p) y_order east;
        south_x = zx.0;
        south_y = zy.0;
        west_x = zx.1;
        east_y = zy.1;
        west_y = top y_order east west (omega arith) (omega arith) (omega arith);
        north_x = top x_order west north (omega arith) (omega arith) (omega arith);
        north_y = top y_order east north (omega arith) (omega arith) (omega arith);
        east_x = top x_order west east (omega arith) (omega arith) (omega arith);
        compass = record {
          up_x = λ u v m e. let h = (rises_up u v m e).0 in omega arith;
          up_y = λ u v m e. (rises_up u v m e).1;
          right_x = λ u v m e. (rises_right u v m e).0;
          right_y = λ u v m e. let h = (rises_right u v m e).1 in omega arith;
        };
      }

-- a placement keeps the rules of every smaller slope
pub gentler : (s r : ℕ) (p : Plan) (ls : List ℕ) (c : Chart) → r ≤ s → Placed s p ls c → Placed r p ls c
gentler s r p ls c h k = record {
  count_x = k.count_x;
  count_y = k.count_y;
  south_x = k.south_x;
  south_y = k.south_y;
  west_x = k.west_x;
  west_y = k.west_y;
  north_x = k.north_x;
  north_y = k.north_y;
  east_x = k.east_x;
  east_y = k.east_y;
  compass = record {
    up_x = λ u v m e. let a = k.compass.up_x u v m e in omega arith;
    up_y = k.compass.up_y;
    right_x = k.compass.right_x;
    right_y = λ u v m e. let a = k.compass.right_y u v m e in omega arith;
  };
}

-- ---- no number of a chart is above n − 3
pub record Small (n : ℕ) (c : Chart) : Type 0 where
  pub w_small : c.w ≤ n - 3
  pub h_small : c.h ≤ n - 3
  pub x_small : (u : ℕ) → u < n → x c u ≤ n - 3
  pub y_small : (u : ℕ) → u < n → y c u ≤ n - 3

pub chart-small : (s : ℕ) (p : Plan) (ls : List ℕ) → s ≤ 1 → 5 ≤ context_count p → ((u v : ℕ) → adjacent p u v ≡ true → adjacent p v u ≡ true) → Transversal p ls
    → (c : Chart) → least_placement s p ls ≡ accepted c → Small (context_count p) c
unfolding grid
chart-small s p ls low five returned t c e =
    let is = chart-is s p ls c e in
    let d : Placed 0 p ls c = gentler s 0 p ls c (omega arith) (placed s p ls c is.keeps) in
    let g : Chart = grid p ls five returned t c d in
    let most = is.least g (is-placed s p ls g (grid_placed p ls five returned t c d s low)) in
    record {
      w_small = most.w_least;
      h_small = most.h_least;
      x_small = λ u h. let a = most.x_least u h in let b = levels_most (context_count p) (x_order p ls five returned t c d) west u h in omega arith;
      y_small = λ u h. let a = most.y_least u h in let b = levels_most (context_count p) (y_order p ls five returned t c d) east u h in omega arith;
    }

-- The chart of an accepted plan with accepted labels: width, height and every point are at most n − 3
pub chart-fits : (p : Plan) (ls : List ℕ) → 5 ≤ context_count p → plan_rules p ≡ passed → label_rules p ls ≡ passed → (c : Chart) → chart p ls ≡ accepted c → Small (context_count p) c
unfolding chart slope
chart-fits p ls five rules labels c e = chart-small 0 p ls (omega arith) five (sound p rules).returned ((labels_exactly p ls).0 labels) c e
