-- Headings: labels, and between border contexts the labels that fit the border. With them every corner of an inner face has an angle of at most a quarter.
use Prim.Native.Nat.{ℕ, ◌+◌, ◌%◌, ◌≤◌, ◌<◌, max}
use mathlib.Core.Path.{◌≡◌, sym, ap, ◌∙◌, subst}
use mathlib.Core.List.Memᴰ
use mathlib.Core.List.{List, map, Memᴰ}
use mathlib.Core.Logic.{◌⊎◌, inl, inr, ◌≢◌}
use mathlib.Core.Bool.{true, false, cond}
use native.Mathlib.Omega.{arith}
use native.Mathlib.Decide.{ℕ_discrete}
use lib.ListN.{length, get_or, drop, length-map, length-take, get_or-map, get_or-eq_default}
use lib.Seq.{ext_get_or}
use lib.Dec.{eqb, ltb}
use borrow.Author.Tests.{eq-eqb, ne_eqb, lt-ltb, le-ltb}
use Rattle.lists.specs.Parts.{cycle}
use Rattle.lists.proofs.Bools.{both}
use Rattle.lists.proofs.Places.{mem-at, get_d_any, index_at}
use Rattle.lists.proofs.Cycles.{cycle-map}
use Rattle.lists.proofs.Ranges.{lt-or-le}
use Rattle.model.specs.Plan.{Plan, Dart, neighbour, entries, ring, adjacent, next, outer}
use Rattle.model.specs.Sound.{Sound}
use Rattle.model.specs.Labels.{unlabelled, turned, start, labels_around, label_of}
use Rattle.model.specs.Transversal.{Transversal}
use Rattle.model.proofs.Plans.{next-mem, adjacent-mem, mem-adjacent, adjacent-from, says-outer}
use Rattle.geometry.specs.Compass.{angle}
use Rattle.plan_theory.proofs.Rings.{next-on-cycle}
use Rattle.plan_theory.proofs.Runs.{Onward, runs-onward}
use Rattle.plan_theory.proofs.Darts.{dart, below_four, once-ring}

-- East to North and South to West up, South to East and West to North right; their reverses two quarters on
unfoldable pub heading : Plan → List ℕ → ℕ → ℕ → ℕ
heading p ls u v = cond (ltb (max u v) 4) (cond (eqb v ((u + 1) % 4)) (turned u 2) (turned u 3)) (label_of p ls u v)

-- a dart is inner, or leads to the border context after or before
pub data Kind (u v : ℕ) : Type 0 where
  inner_edge_lem : 4 ≤ max u v → Kind u v
  to_next : u < 4 → v ≡ (u + 1) % 4 → Kind u v
  to_last : u < 4 → v ≡ (u + 3) % 4 → Kind u v

module _ (p : Plan) (s : Sound p) where
  pub kind_of : (u v : ℕ) → adjacent p u v ≡ true → Kind u v
  kind_of u v a = go (lt-or-le (max u v) 4) (ℕ_discrete v ((u + 1) % 4)) (ℕ_discrete v ((u + 2) % 4))
    where
      go : (max u v < 4) ⊎ (4 ≤ max u v) → Dec (v ≡ (u + 1) % 4) → Dec (v ≡ (u + 2) % 4) → Kind u v
      go (inr h) _ _ = inner_edge_lem h
      go (inl h) (yes e) _ = to_next (omega arith) e
      go (inl h) (no _) (yes e) = both (adjacent p u v) a (ap (adjacent p u) e ∙ s.apart u (omega arith))
      go (inl h) (no n) (no m) = let o = s.other u v a in to_last (omega arith) (omega arith)

module _ (p : Plan) (ls : List ℕ) where
  pub heading_inner : (u v : ℕ) → 4 ≤ max u v → heading p ls u v ≡ label_of p ls u v
  unfolding heading
  heading_inner u v h = rw (le-ltb (max u v) 4 h)

  pub heading-next : (u v : ℕ) → u < 4 → v ≡ (u + 1) % 4 → heading p ls u v ≡ (u + 2) % 4
  unfolding heading
  heading-next u v h e = rw (lt-ltb (max u v) 4 (omega arith), eq-eqb v ((u + 1) % 4) e)

  pub heading_last : (u v : ℕ) → u < 4 → v ≡ (u + 3) % 4 → heading p ls u v ≡ (u + 3) % 4
  unfolding heading
  heading_last u v h e = rw (lt-ltb (max u v) 4 (omega arith), ne_eqb v ((u + 1) % 4) (λ q. omega arith))

module _ (p : Plan) (s : Sound p) (ls : List ℕ) (t : Transversal p ls) where
  -- ---- one dart
  pub heading-small : (u v : ℕ) → adjacent p u v ≡ true → heading p ls u v < 4
  heading-small u v a = go (kind_of p s u v a)
    where
      go : Kind u v → heading p ls u v < 4
      go (inner_edge_lem h) = rw (heading_inner p ls u v h) (t.inner_darts u v (adjacent-from p u v a) a h)
      go (to_next h e) = rw (heading-next p ls u v h e) (omega arith)
      go (to_last h e) = rw (heading_last p ls u v h e) (omega arith)

  pub heading-reverse : (u v : ℕ) → adjacent p u v ≡ true → heading p ls v u ≡ (heading p ls u v + 2) % 4
  heading-reverse u v a = go (kind_of p s u v a)
    where
      go : Kind u v → heading p ls v u ≡ (heading p ls u v + 2) % 4
      go (inner_edge_lem h) = rw (heading_inner p ls u v h, heading_inner p ls v u (omega arith)) (t.reverses u v (adjacent-from p u v a) a h)
      go (to_next h e) = omega (arith, heading-next p ls u v h e, heading_last p ls v u (omega arith) (omega arith))
      go (to_last h e) = omega (arith, heading_last p ls u v h e, heading-next p ls v u (omega arith) (omega arith))

  -- an inner dart that leaves a border context
  pub border_label_lem : (u : ℕ) → u < 4 → (v : ℕ) → adjacent p u v ≡ true → 4 ≤ v → label_of p ls u v ≡ (u + 2) % 4
  border_label_lem = below_four (λ u. (v : ℕ) → adjacent p u v ≡ true → 4 ≤ v → label_of p ls u v ≡ (u + 2) % 4)
      t.border_rings.from_north t.border_rings.from_east t.border_rings.from_south t.border_rings.from_west

  -- ---- the labels around an inner context stand in ring order
  label_at : (u i : ℕ) → i < length (ring p u) → label_of p ls u (get_or (ring p u) i 0) ≡ get_or (labels_around p ls u) i unlabelled
  unfolding label_of
  label_at u i h = ap (λ (k : ℕ). get_or (labels_around p ls u) k unlabelled) (index_at (ring p u) i 0 (once-ring p s u) h)

  few-labels : (u : ℕ) → length (labels_around p ls u) ≤ length (ring p u)
  unfolding labels_around ring
  few-labels u = let a = length-take (length (entries p u)) (drop (start p u) ls) in let b = length-map (entries p u) neighbour in omega arith

  as_many : (u : ℕ) → 4 ≤ u → length (ring p u) ≡ length (labels_around p ls u)
  as_many u k = go (lt-or-le (length (labels_around p ls u)) (length (ring p u)))
    where
      go : (length (labels_around p ls u) < length (ring p u)) ⊎ (length (ring p u) ≤ length (labels_around p ls u)) → length (ring p u) ≡ length (labels_around p ls u)
      go (inl h) =
          let i = length (labels_around p ls u) in
          let v = get_or (ring p u) i 0 in
          let a = mem-adjacent p u v (mem-at (ring p u) i 0 h) in
          let small = t.inner_darts u v (adjacent-from p u v a) a (omega arith) in
          let none = get_or-eq_default (labels_around p ls u) unlabelled {n = i} (omega arith) in
          absurd (omega (arith, label_at u i h))
      go (inr h) = omega (arith, few-labels u)

  labels_in_order : (u : ℕ) → 4 ≤ u → map (label_of p ls u) (ring p u) ≡ labels_around p ls u
  labels_in_order u k =
      ext_get_or (label_of p ls u 0) (map (label_of p ls u) (ring p u)) (labels_around p ls u) (length-map (ring p u) (label_of p ls u) ∙ as_many u k)
      (λ i h. at i (let z = length-map (ring p u) (label_of p ls u) in omega arith))
    where
      at : (i : ℕ) → i < length (ring p u) → get_or (map (label_of p ls u) (ring p u)) i (label_of p ls u 0) ≡ get_or (labels_around p ls u) i (label_of p ls u 0)
      at i h = get_or-map (label_of p ls u) (ring p u) i 0 ∙ label_at u i h ∙ get_d_any (labels_around p ls u) i unlabelled (label_of p ls u 0) (let z = as_many u k in omega arith)

  -- ---- one corner
  onward_inner : (v u : ℕ) → 4 ≤ v → adjacent p v u ≡ true → Onward (label_of p ls v u) (label_of p ls v (next u (ring p v)))
  onward_inner v u k a =
      let f = label_of p ls v in
      let around : cycle (labels_around p ls v) ≡ map (λ (d : Dart). (f d.0, f d.1)) (cycle (ring p v)) = ap cycle (sym (labels_in_order v k)) ∙ cycle-map f (ring p v) in
      runs-onward (labels_around p ls v) (t.inner_rings v (adjacent-from p v u a) k) (f u, f (next u (ring p v)))
      (subst (Memᴰ (dart (f u) (f (next u (ring p v))))) (sym around) (Memᴰ.map {B = Dart} (λ (d : Dart). (f d.0, f d.1)) (next-on-cycle u (ring p v) (adjacent-mem p v u a))))

  onward-border : (v u w : ℕ) → v < 4 → adjacent p v u ≡ true → adjacent p v w ≡ true → u ≢ (v + 3) % 4 → Onward (heading p ls v u) (heading p ls v w)
  onward-border v u w h a b n = go (kind_of p s v w b)
    where
      here : Kind v u → heading p ls v u ≡ (v + 2) % 4
      here (inner_edge_lem k) = heading_inner p ls v u k ∙ border_label_lem v h u a (omega arith)
      here (to_next k e) = heading-next p ls v u k e
      here (to_last k e) = absurd (n e)

      go : Kind v w → Onward (heading p ls v u) (heading p ls v w)
      go (inner_edge_lem k) = let x = here (kind_of p s v u a) in let y = heading_inner p ls v w k ∙ border_label_lem v h w b (omega arith) in record { quarters = 0; most = omega arith; is = omega arith }
      go (to_next k e) = let x = here (kind_of p s v u a) in let y = heading-next p ls v w k e in record { quarters = 0; most = omega arith; is = omega arith }
      go (to_last k e) = let x = here (kind_of p s v u a) in let y = heading_last p ls v w k e in record { quarters = 1; most = omega arith; is = omega arith }

  onward : (u v : ℕ) → adjacent p u v ≡ true → outer (u, v) ≡ false → Onward (heading p ls v u) (heading p ls v (next u (ring p v)))
  onward u v a o = go (lt-or-le v 4)
    where
      back : adjacent p v u ≡ true
      back = s.returned u v a

      on : adjacent p v (next u (ring p v)) ≡ true
      on = mem-adjacent p v (next u (ring p v)) (next-mem u (ring p v) (adjacent-mem p v u back))

      go : (v < 4) ⊎ (4 ≤ v) → Onward (heading p ls v u) (heading p ls v (next u (ring p v)))
      go (inl h) = onward-border v u (next u (ring p v)) h back on (λ e. both (outer (u, v)) (says-outer u v (omega arith) (omega arith)) o)
      go (inr h) = rw (heading_inner p ls v u (omega arith), heading_inner p ls v (next u (ring p v)) (omega arith)) (onward_inner v u h back)

  -- ANGLES: at every corner of an inner face at most a quarter
  pub corner-angle : (u v : ℕ) → adjacent p u v ≡ true → outer (u, v) ≡ false → angle (heading p ls u v) (heading p ls v (next u (ring p v))) ≤ 1
  unfolding angle
  corner-angle u v a o =
      let h = heading-small u v a in
      let r = heading-reverse u v a in
      let n = onward u v a o in
      let q = n.most in
      let e = n.is in
      omega arith
