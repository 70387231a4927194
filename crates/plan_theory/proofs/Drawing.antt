-- Every placement draws its plan: the areas of the inner faces are positive and fill the rectangle, and each point on no line is inside exactly one of them.
use Prim.Native.Nat.{ℕ, zero, suc, ◌+◌, ◌*◌, ◌<◌, min, max}
use mathlib.Core.Path.{◌≡◌, refl, sym, ap, ap₂, ◌∙◌}
use mathlib.Core.List.{List, [], ◌∷◌, ◌++◌, map, Memᴰ}
use mathlib.Core.Bool.{Bool, true, false, cond, ◌&&◌}
use native.Mathlib.Omega.{arith}
use lib.IntN.{ℤ, pos, negsuc}
use lib.Dec.{ltb, leb}
use borrow.Author.Tests.{lt-ltb, le-ltb, ltb-true, le-leb}
use Rattle.std.specs.List.{list_all}
use Rattle.lists.specs.Parts.{steps, cycle}
use Rattle.lists.proofs.Bools.{and_yes, yes_and, both}
use Rattle.lists.proofs.Tests.{none_of}
use Rattle.lists.proofs.Sums.{total, total-each, total-add, tally-total}
use Rattle.lists.proofs.Cycles.{cycle-map}
use Rattle.model.specs.Plan.{Plan, Dart, Face, darts, faces, adjacent}
use Rattle.model.specs.Sound.{Sound}
use Rattle.model.specs.Chart.{Chart, x, y}
use Rattle.model.specs.Placed.{Placed}
use Rattle.model.specs.Geometry.{Point, positive, is_zero, corner, fan, area, areas, side, is_left, spans, on_line, on_some_line, in_rectangle, in_face}
use Rattle.model.specs.Transversal.{Transversal}
use Rattle.model.proofs.Placements.{darts-mem}
use Rattle.geometry.specs.Points.{Position, area_plus, area_minus, strictly_left, OnSegment, crossing, inside, InBox, scaled}
use Rattle.geometry.proofs.Signed.{Difference, Says, says_as, says-zero, says-sum, says_pos, says-area}
use Rattle.geometry.proofs.Walks.{along, against, cancels}
use Rattle.geometry.proofs.Crossings.{triangle_crossings, box_crossings, left-scaled}
use Rattle.plan_theory.specs.InnerFaces.{InnerFace}
use Rattle.plan_theory.specs.Draws.{Draws}
use Rattle.plan_theory.proofs.Darts.{border-walk}
use Rattle.plan_theory.proofs.Faces.{closed_map, inner_faces}
use Rattle.plan_theory.proofs.Placing.{place, face_left, three-entries}

-- ---- tests on signed numbers
says-positive : {z : ℤ} {a b : ℕ} → Says z a b → positive z ≡ ltb b a
says-positive {z} {a} {b} h = go z h.is
  where
    go : (z : ℤ) → Difference z a b → positive z ≡ ltb b a
    go (pos zero) e = sym (le-ltb b a (omega arith))
    go (pos (suc k)) e = sym (lt-ltb b a (omega arith))
    go (negsuc k) e = sym (le-ltb b a (omega arith))

-- ---- areas
module _ (c : Chart) where
  -- the x of one end times the y of the other
  product : ℕ → ℕ → ℕ
  product u v = x c u * y c v

  -- a triangle
  corner-says : (u v w : ℕ) → Says (corner c u v w) (product u v + product v w + product w u) (product v u + product w v + product u w)
  unfolding corner product place
  corner-says u v w = says_as (says-area (place c u) (place c v) (place c w)) (omega arith)

  fan-says : (u v : ℕ) (f : List ℕ) → Says (fan c u v f) (total (λ (d : Dart). product d.0 d.1) (steps (u ∷ v ∷ f ++ (u ∷ [])))) (total (λ (d : Dart). product d.1 d.0) (steps (u ∷ v ∷ f ++ (u ∷ []))))
  unfolding fan total
  fan-says u v [] = says_as (says-zero 0) (omega arith)
  fan-says u v (w ∷ f) = says_as (says-sum (corner-says u v w) (fan-says u w f)) (omega arith)

  -- the area of a closed walk of any length
  area-says : (f : Face) → Says (area c f) (along product f) (along (against product) f)
  unfolding area total
  area-says [] = says-zero 0
  area-says (u ∷ []) = says_as (says-zero 0) (omega arith)
  area-says (u ∷ v ∷ f) = fan-says u v f

  -- of all faces together
  areas_say : (fs : List Face) → Says (areas c fs) (total (along product) fs) (total (along (against product)) fs)
  unfolding areas total
  areas_say [] = says-zero 0
  areas_say (f ∷ fs) = says-sum (area-says f) (areas_say fs)

-- ---- a point, and the chart multiplied by its d
module _ (c : Chart) (t : Point) where
  here : Position
  here = record { x = t.p; y = t.q }

  spread : ℕ → Position
  spread u = scaled t.d (place c u)

  -- the definitions' tests are those of geometry
  side-says : (e : Dart) → Says (side c t e) (area_plus (spread e.0) (spread e.1) here) (area_minus (spread e.0) (spread e.1) here)
  unfolding side spread here place
  side-says e = says-area (spread e.0) (spread e.1) here

  left_tested : (e : Dart) → is_left c t e ≡ strictly_left (spread e.0) (spread e.1) here
  unfolding is_left strictly_left
  left_tested e = says-positive (side-says e)

  inside_tested : (f : Face) → in_face c t f ≡ inside here (map spread f)
  unfolding in_face inside
  inside_tested f = renamed (cycle f) ∙ ap (list_all (λ (d : Position × Position). strictly_left d.0 d.1 here)) (sym (cycle-map spread f))
    where
      renamed : (ds : List Dart) → list_all (is_left c t) ds ≡ list_all (λ (d : Position × Position). strictly_left d.0 d.1 here) (map (λ (d : Dart). (spread d.0, spread d.1)) ds)
      renamed [] = refl
      renamed (d ∷ ds) = ap₂ ◌&&◌ (left_tested d) (renamed ds)

  line_tested : (e : Dart) → OnSegment (spread e.0) (spread e.1) here → on_line c t e ≡ true
  unfolding on_line spread here place
  line_tested e o =
      let a = spread e.0 in
      let b = spread e.1 in
      let level : is_zero (side c t e) ≡ true = ap is_zero (says_pos 0 (side-says e) (omega (arith, o.flat))) in
      yes_and (is_zero (side c t e) && spans a.x b.x t.p) (spans a.y b.y t.q)
      (yes_and (is_zero (side c t e)) (spans a.x b.x t.p) level
      (yes_and (leb (min a.x b.x) t.p) (leb t.p (max a.x b.x)) (le-leb (min a.x b.x) t.p o.x_from) (le-leb t.p (max a.x b.x) o.x_to)))
      (yes_and (leb (min a.y b.y) t.q) (leb t.q (max a.y b.y)) (le-leb (min a.y b.y) t.q o.y_from) (le-leb t.q (max a.y b.y) o.y_to))

  -- a point on no line is on no segment between neighbours
  clear_of : (p : Plan) → on_some_line c p t ≡ false → (u v : ℕ) → adjacent p u v ≡ true → ¬ OnSegment (spread u) (spread v) here
  unfolding on_some_line
  clear_of p off u v a o = both (on_line c t (u, v)) (line_tested (u, v) o) (none_of (on_line c t) (darts p) off (u, v) (darts-mem p u v a))

-- ---- every placement
module _ (p : Plan) (s : Sound p) (ls : List ℕ) (tr : Transversal p ls) (slope : ℕ) (c : Chart) (k : Placed slope p ls c) where
  face_positive : (f : Face) → InnerFace p f → positive (area c f) ≡ true
  unfolding total product place
  face_positive f i = three-entries (λ f. InnerFace p f → positive (area c f) ≡ true) triangle f i.three i
    where
      triangle : (u v w : ℕ) → InnerFace p (u ∷ v ∷ w ∷ []) → positive (area c (u ∷ v ∷ w ∷ [])) ≡ true
      triangle u v w i =
          let l = face_left p s ls tr slope c k u v w i in
          let less : along (against (product c)) (u ∷ v ∷ w ∷ []) < along (product c) (u ∷ v ∷ w ∷ []) = omega arith in
          says-positive (area-says c (u ∷ v ∷ w ∷ [])) ∙ lt-ltb _ _ less

  -- the border alone does not cancel: East to North and North to West give width × height each
  border-area : along (against (product c)) border-walk ≡ along (product c) border-walk + 2 * c.w * c.h
  unfolding total product
  border-area = rw (k.north_x, k.north_y, k.east_x, k.east_y, k.south_x, k.south_y, k.west_x, k.west_y) (omega arith)

  -- over all inner faces everything but the border cancels
  all-areas : total (along (product c)) (faces p) ≡ total (along (against (product c))) (faces p) + 2 * c.w * c.h
  all-areas = omega (arith, cancels (darts p) (faces p) border-walk (closed_map p s) (product c), border-area)

  module _ (t : Point) (some : 0 < t.d) (within : in_rectangle c t ≡ true) (off : on_some_line c p t ≡ false) where
    -- 1 if the dart crosses the point's height upwards with the point on its left
    crosses : ℕ → ℕ → ℕ
    crosses u v = crossing (here c t) (spread c t u) (spread c t v)

    -- 1 if the point is strictly inside the face
    holds : Face → ℕ
    holds f = cond (in_face c t f) 1 0

    face_crossings : (f : Face) → InnerFace p f → along crosses f ≡ along (against crosses) f + holds f
    unfolding total crosses holds spread
    face_crossings f i = three-entries (λ f. InnerFace p f → along crosses f ≡ along (against crosses) f + holds f) triangle f i.three i
      where
        triangle : (u v w : ℕ) → InnerFace p (u ∷ v ∷ w ∷ []) → along crosses (u ∷ v ∷ w ∷ []) ≡ along (against crosses) (u ∷ v ∷ w ∷ []) + holds (u ∷ v ∷ w ∷ [])
        triangle u v w i =
            triangle_crossings (here c t) (spread c t u) (spread c t v) (spread c t w) (left-scaled t.d (place c u) (place c v) (place c w) some (face_left p s ls tr slope c k u v w i))
            (clear_of c t p off u v (i.darts_of (u, v) (Memᴰ.head refl)))
            (clear_of c t p off v w (i.darts_of (v, w) (Memᴰ.tail (Memᴰ.head refl))))
            (clear_of c t p off w u (i.darts_of (w, u) (Memᴰ.tail (Memᴰ.tail (Memᴰ.head refl)))))
            ∙ ap (λ (b : Bool). along (against crosses) (u ∷ v ∷ w ∷ []) + cond b 1 0) (sym (inside_tested c t (u ∷ v ∷ w ∷ [])))

    in_box : InBox (here c t) (spread c t 2) (spread c t 1) (spread c t 0) (spread c t 3)
    unfolding spread here place in_rectangle
    in_box =
        let (w₁, q-high) = and_yes (ltb 0 t.p && ltb t.p (c.w * t.d) && ltb 0 t.q) (ltb t.q (c.h * t.d)) within in
        let (w₂, q-low) = and_yes (ltb 0 t.p && ltb t.p (c.w * t.d)) (ltb 0 t.q) w₁ in
        let (p-low, p-high) = and_yes (ltb 0 t.p) (ltb t.p (c.w * t.d)) w₂ in
        let l = ltb-true 0 t.p p-low in
        let r = ltb-true t.p (c.w * t.d) p-high in
        let d = ltb-true 0 t.q q-low in
        let u = ltb-true t.q (c.h * t.d) q-high in
        rw (k.north_x, k.north_y, k.east_x, k.east_y, k.south_x, k.south_y, k.west_x, k.west_y) (omega arith)

    border_crossings : along (against crosses) border-walk ≡ along crosses border-walk + 1
    unfolding total crosses
    border_crossings = box_crossings (here c t) (spread c t 2) (spread c t 1) (spread c t 0) (spread c t 3) in_box

    -- the rectangle is crossed once more upwards than downwards, each face only if it holds the point: so one does
    one_holds : total holds (faces p) ≡ 1
    one_holds = omega (
      arith,
      cancels (darts p) (faces p) border-walk (closed_map p s) crosses,
      total-each (along crosses) (λ f. along (against crosses) f + holds f) (faces p) (λ f m. face_crossings f ((inner_faces p s).each_inner f m)) ∙ total-add (along (against crosses)) holds (faces p),
      border_crossings,
    )

  -- EVERY PLACEMENT DRAWS ITS PLAN, for every slope
  pub placement_draws : Draws p c
  unfolding holds
  placement_draws = record {
    each_positive = λ f m. face_positive f ((inner_faces p s).each_inner f m);
    areas_sum = says_pos (2 * c.w * c.h) (areas_say c (faces p)) all-areas;
    one_face = λ t some within off. tally-total (in_face c t) (faces p) ∙ one_holds t some within off;
    inner_faces = inner_faces p s;
  }
