-- The first frontier, North's ring read in reverse: a trail with North alone above.
use Prim.Native.Nat.{ℕ, zero, suc, ◌+◌, ◌%◌, ◌<◌}
use mathlib.Core.Path.{◌≡◌, refl, sym, ap, ◌∙◌, subst}
use mathlib.Core.List.Memᴰ
use mathlib.Core.List.{List, [], ◌∷◌, ◌++◌, reverse, reverse-cons, reverse-append, Memᴰ}
use mathlib.Core.Bool.{Bool, true, false}
use native.Mathlib.Omega.{arith}
use lib.ListN.{length, length-append, get_or-append}
use lib.Dec.{eqb, ltb}
use borrow.Author.Tests.{eqb-true, ltb-true}
use Rattle.lists.proofs.Bools.{and_yes, both}
use Rattle.lists.proofs.Members.{mem-reverse, repeats-reverse}
use Rattle.lists.proofs.Once.{Once, once-apart, no_repeat_once}
use Rattle.model.specs.Plan.{Plan, ring, adjacent, border, next, outer, north, east, west}
use Rattle.model.specs.Sound.{Sound}
use Rattle.model.specs.Sweep.{top, first_state}
use Rattle.model.proofs.Plans.{mem-adjacent}
use Rattle.model.proofs.PlanRules.{inner_ring, border_ring}
use Rattle.model.proofs.Eligible.{get_or-mem}
use Rattle.sweep_theory.proofs.Turns.{Backs, turns-ring, backs_reverse}
use Rattle.sweep_theory.proofs.Faces.{Face, face, once-ring}
use Rattle.sweep_theory.proofs.Around.{one, more}
use Rattle.sweep_theory.proofs.Trails.{Trail, at}

backs_at : (r l : List ℕ) → Backs r l → (k : ℕ) → suc k < length l → next (at l (suc k)) r ≡ at l k
backs_at r [] t k h = absurd (omega arith)
backs_at r (a ∷ []) t k h = absurd (omega arith)
backs_at r (a ∷ b ∷ l) t zero h = t.0
backs_at r (a ∷ b ∷ l) t (suc k) h = backs_at r (b ∷ l) t.1 k (omega arith)

-- what is seen first is the first frontier
pub first-frontier : (p : Plan) → (first_state p).frontier ≡ (first_state p).seen
unfolding first_state
first-frontier p = refl

module _ (p : Plan) (s : Sound p) where
  abbrev f : List ℕ
  f = (first_state p).frontier

  -- West, North's inner neighbours, East
  parts : f ≡ west ∷ top p ++ (east ∷ [])
  unfolding first_state
  parts = refl

  turned : f ≡ reverse (ring p north)
  unfolding top
  turned =
      let m = inner_ring p north in
      let e : reverse (east ∷ (m ++ (west ∷ []))) ≡ west ∷ reverse m ++ (east ∷ []) = reverse-cons east (m ++ (west ∷ [])) ∙ ap (λ (l : List ℕ). l ++ (east ∷ [])) (reverse-append m (west ∷ [])) in
      parts ∙ sym e ∙ sym (ap reverse (border_ring p s north (omega arith)))

  -- no context stands twice on it, and each is a neighbour of North
  pub once_first : Once f
  once_first = subst Once (sym turned) (no_repeat_once (reverse (ring p north)) (repeats-reverse (ring p north) (s.no_repeat north)))

  pub first_near : (c : ℕ) → Memᴰ c f → adjacent p north c ≡ true
  first_near c m = mem-adjacent p north c (mem-reverse (ring p north) c (subst (Memᴰ c) turned m))

  size : length f ≡ length (top p) + 2
  size = let e = length-append (top p) (east ∷ []) in ap length parts ∙ omega arith

  -- past the first position West does not come again
  not_west : (k : ℕ) → suc k < length f → at f (suc k) ≡ west → ⊥
  not_west k h e = go f parts once_first h e
    where
      go : (l : List ℕ) → l ≡ west ∷ top p ++ (east ∷ []) → Once l → suc k < length l → at l (suc k) ≡ west → ⊥
      go [] q o h e = absurd (omega arith)
      go (a ∷ l) q o h e = o.0 (subst (λ (z : ℕ). Memᴰ z l) (e ∙ sym (ap (λ (v : List ℕ). at v 0) q)) (get_or-mem l k (omega arith)))

  into_north : (y : ℕ) → (y ≡ west → ⊥) → outer (y, north) ≡ false
  unfolding outer
  into_north y n = go (outer (y, north)) refl
    where
      go : (t : Bool) → outer (y, north) ≡ t → t ≡ false
      go false o = refl
      go true o =
          let (h, e) = and_yes (ltb y 4) (eqb north ((y + 1) % 4)) o in
          let x = ltb-true y 4 h in
          let z = eqb-true north ((y + 1) % 4) e in
          let w : y ≡ west = omega arith in
          absurd (n w)

  -- the faces under North
  face_at : (k : ℕ) → suc k < length f → Face p north (at f k) (at f (suc k))
  face_at k h =
      face p s north (at f k) (at f (suc k)) (first_near (at f (suc k)) (get_or-mem f (suc k) h)) (into_north (at f (suc k)) (not_west k h))
      (backs_at (ring p north) f (subst (Backs (ring p north)) (sym turned) (backs_reverse (ring p north) (ring p north) (turns-ring [] (ring p north) (once-ring p s north)))) k h)

  -- North's neighbours between East and West are inner
  inner_top : (c : ℕ) → Memᴰ c (top p) → border c ≡ false
  unfolding top
  inner_top c m = go (border c) refl
    where
      i : Memᴰ c (inner_ring p north)
      i = mem-reverse (inner_ring p north) c m

      o : Once (east ∷ (inner_ring p north ++ (west ∷ [])))
      o = subst Once (border_ring p s north (omega arith)) (once-ring p s north)

      near : adjacent p north c ≡ true
      near = mem-adjacent p north c (subst (Memᴰ c) (sym (border_ring p s north (omega arith))) (Memᴰ.tail (Memᴰ.append_left (west ∷ []) i)))

      none : (k : ℕ) → c ≡ k → k < 4 → ⊥
      none zero e h = s.other north c near (sym e)
      none (suc zero) e h = o.0 (Memᴰ.append_left (west ∷ []) (subst (λ (z : ℕ). Memᴰ z (inner_ring p north)) e i))
      none (suc (suc zero)) e h = both (adjacent p north c) near (ap (adjacent p north) e ∙ s.apart north (omega arith))
      none (suc (suc (suc zero))) e h = once-apart (inner_ring p north) (west ∷ []) o.1 c i (Memᴰ.head e)
      none (suc (suc (suc (suc k)))) e h = absurd (omega arith)

      go : (t : Bool) → border c ≡ t → t ≡ false
      go false e = refl
      go true e = absurd (none c refl (ltb-true c 4 e))

  -- THE FIRST TRAIL
  pub first-trail : Trail p (λ c. c ≡ north) f
  first-trail =
      record {
        link = λ k h. (face_at k h).near;
        over = λ k h. more north (face_at k (omega arith)).at_y refl (one (face_at (suc k) h).at_x);
        inner = λ k h. let e = size in
            let b : k < length (top p) = omega arith in
            ap border (ap (λ (v : List ℕ). at v (suc k)) parts ∙ get_or-append (top p) (east ∷ []) 0 k b) ∙ inner_top (at (top p) k) (get_or-mem (top p) k b);
      }
