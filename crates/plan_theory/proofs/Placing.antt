-- Every placement heads each dart as its label says, and so walks each inner face with angles of at most a quarter: inner faces have positive area.
use Prim.Native.Nat.{ℕ, ◌+◌, ◌%◌, ◌≤◌, ◌<◌, max}
use mathlib.Core.Path.{◌≡◌, refl, sym, ap, ◌∙◌, subst}
use mathlib.Core.List.{List, [], ◌∷◌}
use mathlib.Core.Logic.{◌≢◌}
use mathlib.Core.Bool.{true}
use native.Mathlib.Omega.{arith}
use lib.ListN.{length}
use Rattle.lists.specs.Parts.{cycle}
use Rattle.lists.proofs.Bools.{both}
use Rattle.lists.proofs.Cycles.{mem-cycle}
use Rattle.model.specs.Plan.{Plan, Dart, Face, adjacent, step, outer}
use Rattle.model.specs.Sound.{Sound}
use Rattle.model.specs.Labels.{up, right, turned, label_of}
use Rattle.model.specs.Chart.{Chart, x, y}
use Rattle.model.specs.Placed.{Placed}
use Rattle.model.specs.Transversal.{Transversal}
use Rattle.model.proofs.Plans.{adjacent-from}
use Rattle.model.proofs.PlanRules.{border-next}
use Rattle.geometry.specs.Points.{Position, Left}
use Rattle.geometry.specs.Compass.{Heads, angle, Turning}
use Rattle.geometry.proofs.Corners.{triangle_positive}
use Rattle.plan_theory.specs.InnerFaces.{InnerFace}
use Rattle.plan_theory.proofs.Darts.{below_four, Inner, step_inner, third-dart}
use Rattle.plan_theory.proofs.Headings.{heading, Kind, inner_edge_lem, to_next, to_last, kind_of, heading_inner, heading-next, heading_last, heading-small, border_label_lem, corner-angle}

-- where a chart puts a context
unfoldable pub place : Chart → ℕ → Position
place c u = record { x = x c u; y = y c u }

module _ (p : Plan) (s : Sound p) (ls : List ℕ) (t : Transversal p ls) (slope : ℕ) (c : Chart) (k : Placed slope p ls c) where
  -- ---- inner darts, by their labels
  heads-up : (u v : ℕ) → adjacent p u v ≡ true → label_of p ls u v ≡ up → (x c u ≤ x c v) × (y c u < y c v)
  heads-up u v a e = let q = k.compass.up_x u v a e in (omega arith, k.compass.up_y u v a e)

  heads-right : (u v : ℕ) → adjacent p u v ≡ true → label_of p ls u v ≡ right → (x c u < x c v) × (y c v ≤ y c u)
  heads-right u v a e = let q = k.compass.right_y u v a e in (k.compass.right_x u v a e, omega arith)

  reverse_label : (u v l : ℕ) → adjacent p u v ≡ true → 4 ≤ max u v → label_of p ls u v ≡ l → label_of p ls v u ≡ turned l 2
  reverse_label u v l a h e = t.reverses u v (adjacent-from p u v a) a h ∙ ap (λ (j : ℕ). turned j 2) e

  heads_inner : (u v : ℕ) → adjacent p u v ≡ true → 4 ≤ max u v → Heads (label_of p ls u v) (place c u) (place c v)
  unfolding place
  heads_inner u v a h =
      below_four (λ l. label_of p ls u v ≡ l → Heads l (place c u) (place c v))
      (λ e. heads-up u v a e)
      (λ e. heads-right u v a e)
      (λ e. heads-up v u (s.returned u v a) (reverse_label u v 2 a h e))
      (λ e. heads-right v u (s.returned u v a) (reverse_label u v 3 a h e))
      (label_of p ls u v) (t.inner_darts u v (adjacent-from p u v a) a h) refl

  -- ---- the rectangle is not flat: the third context on the face of East and North is inner, below North and left of East
  record Corner (w : ℕ) : Type 0 where
    inner : 4 ≤ w
    by_north : adjacent p 0 w ≡ true
    by_east : adjacent p 1 w ≡ true

  corner : (w : ℕ) × Corner w
  unfolding step outer
  corner =
      let i : Inner p s (1, 0) = record { is_dart = s.returned 0 1 (border-next p s 0 (omega arith)); not_outer = refl } in
      let w = (step p (1, 0)).1 in
      let j = step_inner p s (1, 0) i in
      let k = step_inner p s (step p (1, 0)) j in
      let north : adjacent p 0 w ≡ true = j.is_dart in
      let east : adjacent p w 1 ≡ true = subst (λ (d : Dart). adjacent p d.0 d.1 ≡ true) (third-dart p s (1, 0) i) k.is_dart in
      let n₀ = s.other 0 w north in
      let n₁ = s.other w 1 east in
      let n₂ : w ≢ 2 = λ e. both (adjacent p 0 w) north (ap (adjacent p 0) e ∙ s.apart 0 (omega arith)) in
      let n₃ : w ≢ 3 = λ e. both (adjacent p w 1) east (ap (λ (u : ℕ). adjacent p u 1) e ∙ s.apart 3 (omega arith)) in
      (w, record { inner = omega arith; by_north = north; by_east = s.returned w 1 east })

  -- 0 < w and 0 < h
  record Size : Type 0 where
    wide : 0 < c.w
    high : 0 < c.h

  size : Size
  size =
      let (w, q) = corner in
      let h = q.inner in
      let from_north = border_label_lem p s ls t 0 (omega arith) w q.by_north h in
      let from_east = border_label_lem p s ls t 1 (omega arith) w q.by_east h in
      let to-north = (heads-up w 0 (s.returned 0 w q.by_north) (reverse_label 0 w 2 q.by_north (omega arith) from_north)).1 in
      let to-east = (heads-right w 1 (s.returned 1 w q.by_east) (reverse_label 1 w 3 q.by_east (omega arith) from_east)).0 in
      record { wide = above k.east_x to-east; high = above k.north_y to-north }
    where
      above : {a b d : ℕ} → a ≡ d → b < a → 0 < d
      above e h = omega arith

  -- ---- the darts of the border
  heads-next : (u : ℕ) → u < 4 → Heads ((u + 2) % 4) (place c u) (place c ((u + 1) % 4))
  unfolding place
  heads-next =
      let z = size in
      below_four (λ u. Heads ((u + 2) % 4) (place c u) (place c ((u + 1) % 4))) (omega (arith, k, z)) (omega (arith, k, z)) (omega (arith, k, z)) (omega (arith, k, z))

  heads_last : (u : ℕ) → u < 4 → Heads ((u + 3) % 4) (place c u) (place c ((u + 3) % 4))
  unfolding place
  heads_last =
      let z = size in
      below_four (λ u. Heads ((u + 3) % 4) (place c u) (place c ((u + 3) % 4))) (omega (arith, k, z)) (omega (arith, k, z)) (omega (arith, k, z)) (omega (arith, k, z))

  -- every dart heads as it should
  heads : (u v : ℕ) → adjacent p u v ≡ true → Heads (heading p ls u v) (place c u) (place c v)
  heads u v a = go (kind_of p s u v a)
    where
      held : (l m : ℕ) → heading p ls u v ≡ l → v ≡ m → Heads l (place c u) (place c m) → Heads (heading p ls u v) (place c u) (place c v)
      held l m e q h = subst (λ (j : ℕ). Heads j (place c u) (place c v)) (sym e) (subst (λ (w : ℕ). Heads l (place c u) (place c w)) (sym q) h)

      go : Kind u v → Heads (heading p ls u v) (place c u) (place c v)
      go (inner_edge_lem h) = held (label_of p ls u v) v (heading_inner p ls u v h) refl (heads_inner u v a h)
      go (to_next h e) = held ((u + 2) % 4) ((u + 1) % 4) (heading-next p ls u v h e) e (heads-next u h)
      go (to_last h e) = held ((u + 3) % 4) ((u + 3) % 4) (heading_last p ls u v h e) e (heads_last u h)

  -- ---- an inner face, of any number of darts
  pub face_turning : (f : Face) → InnerFace p f → Turning (λ (d : Dart). heading p ls d.0 d.1) (place c) f
  unfolding step
  face_turning f i = record {
    labelled = λ d m. heading-small p s ls t d.0 d.1 (i.darts_of d m);
    heads = λ d m. heads d.0 d.1 (i.darts_of d m);
    corners = λ q m.
        let d = q.0 in
        let on = (mem-cycle (cycle f) q m).0 in
        subst (λ (e : Dart). angle (heading p ls d.0 d.1) (heading p ls e.0 e.1) ≤ 1) (i.walked q m) (corner-angle p s ls t d.0 d.1 (i.darts_of d on) (i.not_outer d on));
  }

  -- an inner face of three darts has positive area
  pub face_left : (u v w : ℕ) → InnerFace p (u ∷ v ∷ w ∷ []) → Left (place c u) (place c v) (place c w)
  face_left u v w i = triangle_positive (λ (d : Dart). heading p ls d.0 d.1) (place c) u v w (face_turning (u ∷ v ∷ w ∷ []) i)

-- a walk of three darts
pub three-entries : (P : Face → Type 0) → ((u v w : ℕ) → P (u ∷ v ∷ w ∷ [])) → (f : Face) → length f ≡ 3 → P f
three-entries P h [] e = absurd (omega arith)
three-entries P h (u ∷ []) e = absurd (omega arith)
three-entries P h (u ∷ v ∷ []) e = absurd (omega arith)
three-entries P h (u ∷ v ∷ w ∷ []) e = h u v w
three-entries P h (u ∷ v ∷ w ∷ z ∷ f) e = absurd (omega arith)
