-- The face at a corner of an inner context: two entries that follow each other in its ring are neighbours, and so are seen from both.
use Prim.Native.Nat.{ℕ, ◌+◌, ◌%◌}
use mathlib.Core.Path.{◌≡◌, refl, sym, ap, ◌∙◌, subst}
use mathlib.Core.List.{List, [], ◌∷◌, ◌++◌, Memᴰ}
use mathlib.Core.Bool.{Bool, true, false}
use native.Mathlib.Omega.{arith}
use lib.Dec.{eqb, ltb}
use lib.ListN.{get_or}
use borrow.Author.Tests.{eqb-true, ltb-true, lt-ltb}
use Rattle.lists.proofs.Bools.{and_yes, both}
use Rattle.lists.proofs.Once.{Once, no_repeat_once}
use Rattle.model.specs.Plan.{Plan, ring, adjacent, border, onward, next, step, outer, closes}
use Rattle.model.specs.Sound.{Sound}
use Rattle.model.proofs.Plans.{adjacent-mem, mem-adjacent}
use Rattle.sweep_theory.proofs.Turns.{cut, onward_seam, Backs}

-- seen from u, x and y are the next two clockwise, y first: so u and y follow each other in x's ring, and x and u in y's
pub record Face (p : Plan) (u x y : ℕ) : Type 0 where
  pub at_u : next y (ring p u) ≡ x
  pub at_x : next u (ring p x) ≡ y
  pub at_y : next x (ring p y) ≡ u
  pub near : adjacent p x y ≡ true

-- a dart into an inner context is not outer
pub into_inner : (y u : ℕ) → border u ≡ false → outer (y, u) ≡ false
unfolding outer
into_inner y u b = go (outer (y, u)) refl
  where
    go : (t : Bool) → outer (y, u) ≡ t → t ≡ false
    go false o = refl
    go true o =
        let (h, e) = and_yes (ltb y 4) (eqb u ((y + 1) % 4)) o in
        let x = ltb-true y 4 h in
        let z = eqb-true u ((y + 1) % 4) e in
        both (border u) (lt-ltb u 4 (omega arith)) b

module _ (p : Plan) (s : Sound p) where
  pub once-ring : (u : ℕ) → Once (ring p u)
  once-ring u = no_repeat_once (ring p u) (s.no_repeat u)

  -- the entry after another is an entry
  pub next_near : (u a : ℕ) → adjacent p u a ≡ true → adjacent p u (next a (ring p u)) ≡ true
  unfolding next
  next_near u a e =
      let r = ring p u in
      let c = cut r a (adjacent-mem p u a e) in
      let on : onward a r ≡ c.right ++ c.left = ap (onward a) c.is ∙ onward_seam c.left a c.right (subst Once c.is (once-ring u)) in
      mem-adjacent p u (get_or (onward a r) 0 a) (subst (Memᴰ (get_or (onward a r) 0 a)) (sym c.is) (subst (λ (k : List ℕ). Memᴰ (get_or k 0 a) (c.left ++ (a ∷ c.right))) (sym on) (go c.left c.right)))
    where
      go : (x y : List ℕ) → Memᴰ (get_or (y ++ x) 0 a) (x ++ (a ∷ y))
      go [] [] = Memᴰ.head refl
      go (b ∷ x) [] = Memᴰ.head refl
      go x (c ∷ y) = late x
        where
          late : (x : List ℕ) → Memᴰ c (x ++ (a ∷ c ∷ y))
          late [] = Memᴰ.tail (Memᴰ.head refl)
          late (b ∷ x) = Memᴰ.tail (late x)

  -- THE FACE AT A CORNER
  pub face : (u x y : ℕ) → adjacent p u y ≡ true → outer (y, u) ≡ false → next y (ring p u) ≡ x → Face p u x y
  unfolding closes step
  face u x y a o e =
      let back = s.returned u y a in
      let z = next u (ring p (next y (ring p u))) in
      let (one, two) = and_yes (eqb z y) (eqb (next (next y (ring p u)) (ring p z)) u) (s.closed y u back o) in
      let first : z ≡ y = eqb-true z y one in
      let second : next (next y (ring p u)) (ring p z) ≡ u = eqb-true (next (next y (ring p u)) (ring p z)) u two in
      let at_x : next u (ring p x) ≡ y = ap (λ (k : ℕ). next u (ring p k)) (sym e) ∙ first in
      let near-x : adjacent p u x ≡ true = ap (adjacent p u) (sym e) ∙ next_near u y a in
      record {
        at_u = e;
        at_x = at_x;
        at_y = (λ i. next (sym e i) (ring p (sym first i))) ∙ second;
        near = ap (adjacent p x) (sym at_x) ∙ next_near x u (s.returned u x near-x);
      }

-- ---- fans: the faces at a context, one after the other
abbrev pub Fan : Plan → ℕ → List ℕ → Type 0
Fan p u [] = Unit {0}
Fan p u (x ∷ []) = Unit {0}
Fan p u (x ∷ y ∷ l) = Face p u x y × Fan p u (y ∷ l)

pub fan : (p : Plan) → Sound p → (u : ℕ) → border u ≡ false → (l : List ℕ) → Backs (ring p u) l → ((a : ℕ) → Memᴰ a l → adjacent p u a ≡ true) → Fan p u l
fan p s u b [] t h = tt
fan p s u b (x ∷ []) t h = tt
fan p s u b (x ∷ y ∷ l) t h = (face p s u x y (h y (Memᴰ.tail (Memᴰ.head refl))) (into_inner y u b) t.0, fan p s u b (y ∷ l) t.1 (λ a i. h a (Memᴰ.tail i)))
