-- Placements read rule by rule; and the chart: it is the least placement, and it is refused exactly where no placement keeps the compass rules.
use Prim.Native.Nat.{ℕ, ◌+◌, ◌≤◌}
use mathlib.Core.Path.{◌≡◌, refl, sym, ap, ◌∙◌, subst}
use mathlib.Core.List.Memᴰ
use mathlib.Core.List.{List, [], ◌∷◌, ◌++◌, map, Memᴰ}
use mathlib.Core.Logic.{◌↔◌, ◌⊎◌, inl, inr}
use mathlib.Core.Bool.{Bool, true, false, cond}
use native.Mathlib.Omega.{arith}
use lib.ListN.{length, get_or}
use lib.Seq.{ext_get_or}
use lib.Dec.{eqb}
use borrow.Author.Tests.{eqb-true, eq-eqb, leb-true, le-leb}
use Rattle.std.specs.List.{list_all}
use Rattle.lists.specs.Parts.{flatten}
use Rattle.lists.proofs.Bools.{and_yes, yes_and, both}
use Rattle.lists.proofs.Tests.{list_all_of, of_list_all}
use Rattle.lists.proofs.Ranges.{from-mem}
use Rattle.lists.proofs.Joins.{join_mem, mem_join}
use Rattle.model.specs.Outcome.{Outcome, accepted, refused, require, ◌>>◌, ◌>>=◌}
use Rattle.model.specs.Plan.{Plan, Dart, context_count, contexts, ring, adjacent, darts_from, darts, north, east, south, west}
use Rattle.model.specs.Labels.{up, right, label_of}
use Rattle.model.specs.Chart.{Chart, x, y, Constraint, constraint, meets, x_constraint, y_constraint, x_constraints, y_constraints, is_at, is_placement, AtMost, IsChart, least_numbers, tie, least_placement}
use Rattle.model.specs.Placed.{Compass, Placed}
use Rattle.model.proofs.Outcomes.{not-both, same-value, same-refusal, bind_accepted, bind_refused, then_accepted, require-passed}
use Rattle.model.proofs.Plans.{adjacent-from, adjacent-mem, mem-adjacent}
use Rattle.model.proofs.Least.{Solves, least_under, least_solves, least_11, least-none}

-- ---- the darts of a plan are its ordered pairs of neighbours
pub mem-darts : (p : Plan) (d : Dart) → Memᴰ d (darts p) → adjacent p d.0 d.1 ≡ true
unfolding darts darts_from
mem-darts p d m =
    let (u, _, n) = mem_join (darts_from p) (contexts p) d m in
    let (v, k, e) = Memᴰ.of_map {B = Dart} (λ (v : ℕ). (u, v)) (ring p u) n in
    subst (λ (c : Dart). adjacent p c.0 c.1 ≡ true) e (mem-adjacent p u v k)

pub darts-mem : (p : Plan) (u v : ℕ) → adjacent p u v ≡ true → Memᴰ {A = Dart} (u, v) (darts p)
unfolding darts darts_from
darts-mem p u v e =
    let h = adjacent-from p u v e in
    join_mem (darts_from p) (contexts p) u (u, v) (from-mem 0 (context_count p) u (omega arith) (omega arith)) (Memᴰ.map {B = Dart} (λ (w : ℕ). (u, w)) (adjacent-mem p u v e))

-- ---- the compass rules, one dart at a time
-- a constraint that numbers meet
abbrev Met : List ℕ → Constraint → Type 0
Met ks e = get_or ks e.low 0 + e.gap ≤ get_or ks e.high 0

abbrev AllMet : List ℕ → List Constraint → Type 0
AllMet ks cs = (e : Constraint) → Memᴰ e cs → Met ks e

met_test : (ks : List ℕ) (cs : List Constraint) → (list_all (meets ks) cs ≡ true) ↔ AllMet ks cs
unfolding meets
met_test ks cs = (
  λ t e m. leb-true _ _ (list_all_of (meets ks) cs t e m),
  λ h. of_list_all (meets ks) cs (λ e m. le-leb _ _ (h e m)),
)

-- ---- what one label asks: a where it is up, b where it is right, else nothing
module _ (l : ℕ) (a b : Constraint) where
  asked : List Constraint
  asked = cond (eqb l up) (a ∷ []) (cond (eqb l right) (b ∷ []) [])

  asked-up : l ≡ up → Memᴰ a asked
  unfolding asked
  asked-up e = rw e (Memᴰ.head refl)

  asked-right : l ≡ right → Memᴰ b asked
  unfolding asked
  asked-right e = rw e (Memᴰ.head refl)

  asked_cases : (e : Constraint) → Memᴰ e asked → ((l ≡ up) × (e ≡ a)) ⊎ ((l ≡ right) × (e ≡ b))
  unfolding asked
  asked_cases e m = go (eqb l up) refl (eqb l right) refl m
    where
      go : (t : Bool) → eqb l up ≡ t → (r : Bool) → eqb l right ≡ r → Memᴰ e (cond t (a ∷ []) (cond r (b ∷ []) [])) → ((l ≡ up) × (e ≡ a)) ⊎ ((l ≡ right) × (e ≡ b))
      go true q r f n = inl (eqb-true l up q, Memᴰ.eq_of_singleton n)
      go false q true f n = inr (eqb-true l right f, Memᴰ.eq_of_singleton n)
      go false q false f n = absurd (Memᴰ.not-nil n)

-- ---- what all darts ask: a of each that is up, b of each that is right
module _ (p : Plan) (ls : List ℕ) (a b : Dart → Constraint) where
  asked_of : Dart → List Constraint
  asked_of d = asked (label_of p ls d.0 d.1) (a d) (b d)

  all_asked : List Constraint
  all_asked = flatten (map asked_of (darts p))

  module _ (P : Constraint → Type 0) where
    asked-all : ((u v : ℕ) → adjacent p u v ≡ true → label_of p ls u v ≡ up → P (a (u, v)))
        → ((u v : ℕ) → adjacent p u v ≡ true → label_of p ls u v ≡ right → P (b (u, v)))
        → (e : Constraint) → Memᴰ e all_asked → P e
    unfolding all_asked asked_of
    asked-all f g e m = let (d, n, k) = mem_join asked_of (darts p) e m in go d (mem-darts p d n) (asked_cases (label_of p ls d.0 d.1) (a d) (b d) e k)
      where
        go : (d : Dart) → adjacent p d.0 d.1 ≡ true → ((label_of p ls d.0 d.1 ≡ up) × (e ≡ a d)) ⊎ ((label_of p ls d.0 d.1 ≡ right) × (e ≡ b d)) → P e
        go d n (inl h) = subst P (sym h.1) (f d.0 d.1 n h.0)
        go d n (inr h) = subst P (sym h.1) (g d.0 d.1 n h.0)

    all_up : ((e : Constraint) → Memᴰ e all_asked → P e) → (u v : ℕ) → adjacent p u v ≡ true → label_of p ls u v ≡ up → P (a (u, v))
    unfolding all_asked asked_of
    all_up h u v n e = h (a (u, v)) (join_mem asked_of (darts p) (u, v) (a (u, v)) (darts-mem p u v n) (asked-up (label_of p ls u v) (a (u, v)) (b (u, v)) e))

    all_right : ((e : Constraint) → Memᴰ e all_asked → P e) → (u v : ℕ) → adjacent p u v ≡ true → label_of p ls u v ≡ right → P (b (u, v))
    unfolding all_asked asked_of
    all_right h u v n e = h (b (u, v)) (join_mem asked_of (darts p) (u, v) (b (u, v)) (darts-mem p u v n) (asked-right (label_of p ls u v) (a (u, v)) (b (u, v)) e))

-- a dart's constraint forwards, and backwards
abbrev ahead : ℕ → Dart → Constraint
ahead g d = constraint d.0 d.1 g

abbrev behind : ℕ → Dart → Constraint
behind g d = constraint d.1 d.0 g

module _ (s : ℕ) (p : Plan) (ls : List ℕ) where
  x-asked : x_constraints s p ls ≡ all_asked p ls (ahead s) (ahead 1)
  unfolding x_constraints x_constraint all_asked asked_of asked
  x-asked = refl

  y-asked : y_constraints s p ls ≡ all_asked p ls (ahead 1) (behind s)
  unfolding y_constraints y_constraint all_asked asked_of asked
  y-asked = refl

  -- no gap is above 1, if the slope is not
  pub gaps_x : s ≤ 1 → (e : Constraint) → Memᴰ e (x_constraints s p ls) → e.gap ≤ 1
  gaps_x h = rw x-asked (asked-all p ls (ahead s) (ahead 1) (λ e. e.gap ≤ 1) (λ _ _ _ _. h) (λ _ _ _ _. omega arith))

  pub gaps_y : s ≤ 1 → (e : Constraint) → Memᴰ e (y_constraints s p ls) → e.gap ≤ 1
  gaps_y h = rw y-asked (asked-all p ls (ahead 1) (behind s) (λ e. e.gap ≤ 1) (λ _ _ _ _. omega arith) (λ _ _ _ _. h))

  -- the constraints are met exactly where the compass rules are kept
  module _ (c : Chart) where
    met_compass : AllMet c.xs (x_constraints s p ls) → AllMet c.ys (y_constraints s p ls) → Compass s p ls c
    met_compass hx hy =
        let mx : AllMet c.xs (all_asked p ls (ahead s) (ahead 1)) = rw x-asked at hx in
        let my : AllMet c.ys (all_asked p ls (ahead 1) (behind s)) = rw y-asked at hy in
        record {
          up_x = all_up p ls (ahead s) (ahead 1) (Met c.xs) mx;
          up_y = λ u v n e. let h = all_up p ls (ahead 1) (behind s) (Met c.ys) my u v n e in omega arith;
          right_x = λ u v n e. let h = all_right p ls (ahead s) (ahead 1) (Met c.xs) mx u v n e in omega arith;
          right_y = all_right p ls (ahead 1) (behind s) (Met c.ys) my;
        }

    compass-x : Compass s p ls c → AllMet c.xs (x_constraints s p ls)
    compass-x k = rw x-asked (asked-all p ls (ahead s) (ahead 1) (Met c.xs) k.up_x (λ u v n e. let h = k.right_x u v n e in omega arith))

    compass-y : Compass s p ls c → AllMet c.ys (y_constraints s p ls)
    compass-y k = rw y-asked (asked-all p ls (ahead 1) (behind s) (Met c.ys) (λ u v n e. let h = k.up_y u v n e in omega arith) k.right_y)

-- ---- a placement, rule by rule
module _ (s : ℕ) (p : Plan) (ls : List ℕ) (c : Chart) where
  at-says : (u a b : ℕ) → is_at c u a b ≡ true → (x c u ≡ a) × (y c u ≡ b)
  unfolding is_at
  at-says u a b t = let (e, f) = and_yes (eqb (x c u) a) (eqb (y c u) b) t in (eqb-true _ _ e, eqb-true _ _ f)

  says_at : (u a b : ℕ) → x c u ≡ a → y c u ≡ b → is_at c u a b ≡ true
  unfolding is_at
  says_at u a b e f = yes_and (eqb (x c u) a) (eqb (y c u) b) (eq-eqb _ _ e) (eq-eqb _ _ f)

  pub placed : is_placement s p ls c ≡ true → Placed s p ls c
  unfolding is_placement
  placed t₀ =
      let (t₁, my) = and_yes _ (list_all (meets c.ys) (y_constraints s p ls)) t₀ in
      let (t₂, mx) = and_yes _ (list_all (meets c.xs) (x_constraints s p ls)) t₁ in
      let (t₃, te) = and_yes _ (is_at c east c.w 0) t₂ in
      let (t₄, tn) = and_yes _ (is_at c north c.w c.h) t₃ in
      let (t₅, tw) = and_yes _ (is_at c west 0 c.h) t₄ in
      let (t₆, ts) = and_yes _ (is_at c south 0 0) t₅ in
      let (ty, tx) = and_yes (eqb (length c.xs) (context_count p)) (eqb (length c.ys) (context_count p)) t₆ in
      let (se, sf) = at-says south 0 0 ts in
      let (we, wf) = at-says west 0 c.h tw in
      let (ne, nf) = at-says north c.w c.h tn in
      let (ee, ef) = at-says east c.w 0 te in
      record {
        count_x = eqb-true _ _ ty;
        count_y = eqb-true _ _ tx;
        south_x = se;
        south_y = sf;
        west_x = we;
        west_y = wf;
        north_x = ne;
        north_y = nf;
        east_x = ee;
        east_y = ef;
        compass = met_compass s p ls c ((met_test c.xs (x_constraints s p ls)).0 mx) ((met_test c.ys (y_constraints s p ls)).0 my);
      }

  pub is-placed : Placed s p ls c → is_placement s p ls c ≡ true
  unfolding is_placement
  is-placed k =
      yes_and _ _ (yes_and _ _ (yes_and _ _ (yes_and _ _ (yes_and _ _ (yes_and _ _ (yes_and _ _
      (eq-eqb _ _ k.count_x) (eq-eqb _ _ k.count_y))
      (says_at south 0 0 k.south_x k.south_y))
      (says_at west 0 c.h k.west_x k.west_y))
      (says_at north c.w c.h k.north_x k.north_y))
      (says_at east c.w 0 k.east_x k.east_y))
      ((met_test c.xs (x_constraints s p ls)).1 (compass-x s p ls c k.compass)))
      ((met_test c.ys (y_constraints s p ls)).1 (compass-y s p ls c k.compass))

-- ---- the chart
tie_met : (ks : List ℕ) (u v : ℕ) → get_or ks u 0 ≡ get_or ks v 0 → AllMet ks (tie u v)
unfolding tie
tie_met ks u v q e (Memᴰ.head h) = rw h (omega arith)
tie_met ks u v q e (Memᴰ.tail m) = rw (Memᴰ.eq_of_singleton m) (omega arith)

tied : (ks : List ℕ) (u v : ℕ) → AllMet ks (tie u v) → get_or ks u 0 ≡ get_or ks v 0
unfolding tie
tied ks u v h =
    let a = h (constraint u v 0) (Memᴰ.head refl) in
    let b = h (constraint v u 0) (Memᴰ.tail (Memᴰ.head refl)) in
    omega arith

both_met : (P : Constraint → Type 0) (cs ds : List Constraint) → ((e : Constraint) → Memᴰ e cs → P e) → ((e : Constraint) → Memᴰ e ds → P e) → (e : Constraint) → Memᴰ e (cs ++ ds) → P e
both_met P cs ds f g e m = go (Memᴰ.append_cases cs m)
  where
    go : Memᴰ e cs ⊎ Memᴰ e ds → P e
    go (inl h) = f e h
    go (inr h) = g e h

tie_gaps : (u v : ℕ) (e : Constraint) → Memᴰ e (tie u v) → e.gap ≤ 1
unfolding tie
tie_gaps u v e (Memᴰ.head h) = rw h (omega arith)
tie_gaps u v e (Memᴰ.tail m) = rw (Memᴰ.eq_of_singleton m) (omega arith)

module _ (s : ℕ) (p : Plan) (ls : List ℕ) where
  abbrev x_all : List Constraint
  x_all = tie north east ++ x_constraints s p ls

  abbrev y_all : List Constraint
  y_all = tie north west ++ y_constraints s p ls

  solves_x : (d : Chart) → Placed s p ls d → Solves (context_count p) x_all d.xs
  solves_x d k = record { for_all = k.count_x; met = both_met (Met d.xs) (tie north east) (x_constraints s p ls) (tie_met d.xs north east (k.north_x ∙ sym k.east_x)) (compass-x s p ls d k.compass) }

  solves_y : (d : Chart) → Placed s p ls d → Solves (context_count p) y_all d.ys
  solves_y d k = record { for_all = k.count_y; met = both_met (Met d.ys) (tie north west) (y_constraints s p ls) (tie_met d.ys north west (k.north_y ∙ sym k.west_y)) (compass-y s p ls d k.compass) }

  abbrev drawn : List ℕ → List ℕ → Chart
  drawn xs ys = record { w = get_or xs north 0; h = get_or ys north 0; xs = xs; ys = ys }

  module _ (xs ys : List ℕ) (ex : least_numbers (context_count p) x_all ≡ accepted xs) (ey : least_numbers (context_count p) y_all ≡ accepted ys) (d : Chart) (k : Placed s p ls d) where
    -- where there is a placement, the least numbers are one
    drawn-placed : Placed s p ls (drawn xs ys)
    drawn-placed =
        let hx = least_under (context_count p) x_all xs ex d.xs (solves_x d k) in
        let hy = least_under (context_count p) y_all ys ey d.ys (solves_y d k) in
        let sx = least_solves (context_count p) x_all xs ex d.xs (solves_x d k) in
        let sy = least_solves (context_count p) y_all ys ey d.ys (solves_y d k) in
        let zero-x : (u : ℕ) → x d u ≡ 0 → get_or xs u 0 ≡ 0 = λ u e. let h = hx u in omega arith in
        let zero-y : (u : ℕ) → y d u ≡ 0 → get_or ys u 0 ≡ 0 = λ u e. let h = hy u in omega arith in
        record {
          count_x = sx.for_all;
          count_y = sy.for_all;
          south_x = zero-x south k.south_x;
          south_y = zero-y south k.south_y;
          west_x = zero-x west k.west_x;
          west_y = sym (tied ys north west (λ e m. sy.met e (Memᴰ.append_left (y_constraints s p ls) m)));
          north_x = refl;
          north_y = refl;
          east_x = sym (tied xs north east (λ e m. sx.met e (Memᴰ.append_left (x_constraints s p ls) m)));
          east_y = zero-y east k.east_y;
          compass = met_compass s p ls (drawn xs ys) (λ e m. sx.met e (Memᴰ.append_right (tie north east) m)) (λ e m. sy.met e (Memᴰ.append_right (tie north west) m));
        }

    drawn-least : AtMost (context_count p) (drawn xs ys) d
    drawn-least =
        let hx = least_under (context_count p) x_all xs ex d.xs (solves_x d k) in
        let hy = least_under (context_count p) y_all ys ey d.ys (solves_y d k) in
        let x₀ = hx north in
        let y₀ = hy north in
        let w = k.north_x in
        let h = k.north_y in
        record { w_least = omega arith; h_least = omega arith; x_least = λ u _. hx u; y_least = λ u _. hy u }

  -- every refusal is 11 at 0
  pub chart_11 : (k at : ℕ) → least_placement s p ls ≡ refused k at → (k ≡ 11) × (at ≡ 0)
  unfolding least_placement
  chart_11 k at e = in_x (bind_refused (least_numbers (context_count p) x_all) _ k at e)
    where
      rest : List ℕ → List ℕ → Outcome Chart
      rest xs ys = require (is_placement s p ls (drawn xs ys)) 11 0 >> accepted (drawn xs ys)

      tested : (t : Bool) (c : Chart) → (require t 11 0 >> accepted c) ≡ refused k at → (k ≡ 11) × (at ≡ 0)
      tested true c e = not-both (sym e)
      tested false c e = let (a, b) = same-refusal e in (sym a, sym b)

      in_y : (xs : List ℕ) → (least_numbers (context_count p) y_all ≡ refused k at) ⊎ ((ys : List ℕ) × (least_numbers (context_count p) y_all ≡ accepted ys) × (rest xs ys ≡ refused k at)) → (k ≡ 11) × (at ≡ 0)
      in_y xs (inl r) = least_11 (context_count p) y_all k at r
      in_y xs (inr r) = tested (is_placement s p ls (drawn xs r.0)) (drawn xs r.0) r.2

      in_x : (least_numbers (context_count p) x_all ≡ refused k at) ⊎ ((xs : List ℕ) × (least_numbers (context_count p) x_all ≡ accepted xs) × ((least_numbers (context_count p) y_all >>= rest xs) ≡ refused k at)) → (k ≡ 11) × (at ≡ 0)
      in_x (inl r) = least_11 (context_count p) x_all k at r
      in_x (inr r) = in_y r.0 (bind_refused (least_numbers (context_count p) y_all) (rest r.0) k at r.2)

  -- The chart is a placement, and every number of it is at most that of every placement
  pub chart-is : (c : Chart) → least_placement s p ls ≡ accepted c → IsChart s p ls c
  unfolding least_placement
  chart-is c e =
      let (xs, ex, e₁) = bind_accepted (least_numbers (context_count p) x_all) _ c e in
      let (ys, ey, e₂) = bind_accepted (least_numbers (context_count p) y_all) _ c e₁ in
      let (t, q) = then_accepted (require (is_placement s p ls (drawn xs ys)) 11 0) _ c e₂ in
      subst (IsChart s p ls) (same-value q) (record { keeps = require-passed _ 11 0 t; least = λ d k. drawn-least xs ys ex ey d (placed s p ls d k) })

  -- and it is refused only where there is no placement
  pub chart-none : s ≤ 1 → (k at : ℕ) → least_placement s p ls ≡ refused k at → (d : Chart) → is_placement s p ls d ≡ true → ⊥
  unfolding least_placement
  chart-none low k at e d t = go (least_numbers (context_count p) x_all) refl (least_numbers (context_count p) y_all) refl
    where
      kept : Placed s p ls d
      kept = placed s p ls d t

      go : (a : Outcome (List ℕ)) → least_numbers (context_count p) x_all ≡ a → (b : Outcome (List ℕ)) → least_numbers (context_count p) y_all ≡ b → ⊥
      go (refused i j) q b r = least-none (context_count p) x_all (both_met (λ e. e.gap ≤ 1) (tie north east) (x_constraints s p ls) (tie_gaps north east) (gaps_x s p ls low)) i j q d.xs (solves_x d kept)
      go (accepted xs) q (refused i j) r = least-none (context_count p) y_all (both_met (λ e. e.gap ≤ 1) (tie north west) (y_constraints s p ls) (tie_gaps north west) (gaps_y s p ls low)) i j r d.ys (solves_y d kept)
      go (accepted xs) q (accepted ys) r =
          let f : is_placement s p ls (drawn xs ys) ≡ true = is-placed s p ls (drawn xs ys) (drawn-placed xs ys q r d kept) in
          not-both (sym (rw (q, r, f) at e))

  -- there is at most one chart
  pub chart_unique : (c d : Chart) → IsChart s p ls c → IsChart s p ls d → c ≡ d
  chart_unique c d f g =
      let a = f.least d g.keeps in
      let b = g.least c f.keeps in
      let j = placed s p ls c f.keeps in
      let k = placed s p ls d g.keeps in
      let same_w : c.w ≡ d.w = let l = a.w_least in let m = b.w_least in omega arith in
      let same-h : c.h ≡ d.h = let l = a.h_least in let m = b.h_least in omega arith in
      let same-x : c.xs ≡ d.xs = ext_get_or 0 c.xs d.xs (j.count_x ∙ sym k.count_x) (λ u h. let n = j.count_x in let l = a.x_least u (omega arith) in let m = b.x_least u (omega arith) in omega arith) in
      let same-y : c.ys ≡ d.ys = ext_get_or 0 c.ys d.ys (j.count_y ∙ sym k.count_y) (λ u h. let n = j.count_y in let l = a.y_least u (omega arith) in let m = b.y_least u (omega arith) in omega arith) in
      λ i. record { w = same_w i; h = same-h i; xs = same-x i; ys = same-y i }

  module _ (low : s ≤ 1) where
    -- THE CHART: what is worked out is the least placement, and it is refused with 11 exactly where no placement keeps the compass rules
    pub chart_exactly : (c : Chart) → (least_placement s p ls ≡ accepted c) ↔ IsChart s p ls c
    chart_exactly c = (chart-is c, λ f. go f (least_placement s p ls) refl)
      where
        go : IsChart s p ls c → (o : Outcome Chart) → least_placement s p ls ≡ o → o ≡ accepted c
        go f (accepted d) e = ap accepted (chart_unique d c (chart-is d e) f)
        go f (refused k at) e = absurd (chart-none low k at e c f.keeps)

    pub chart-refused : (least_placement s p ls ≡ refused 11 0) ↔ ((d : Chart) → is_placement s p ls d ≡ false)
    chart-refused = (λ e d. no_placement e d (is_placement s p ls d) refl, λ none. go none (least_placement s p ls) refl)
      where
        no_placement : least_placement s p ls ≡ refused 11 0 → (d : Chart) (t : Bool) → is_placement s p ls d ≡ t → t ≡ false
        no_placement e d true q = absurd (chart-none low 11 0 e d q)
        no_placement e d false q = refl

        go : ((d : Chart) → is_placement s p ls d ≡ false) → (o : Outcome Chart) → least_placement s p ls ≡ o → o ≡ refused 11 0
        go none (accepted c) e = both (is_placement s p ls c) (chart-is c e).keeps (none c)
        go none (refused k at) e = let (a, b) = chart_11 k at e in λ i. refused (a i) (b i)
