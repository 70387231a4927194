-- Corner turns: the angles of a closed walk, and why a triangle that turns by at most a quarter has positive area.
use Prim.Native.Nat.{ℕ, zero, suc, ◌+◌, ◌*◌, ◌%◌, ◌≤◌, ◌<◌}
use mathlib.Core.Path.{◌≡◌, refl, ap, ◌∙◌, subst}
use mathlib.Core.List.Memᴰ
use mathlib.Core.List.{List, [], ◌∷◌, ◌++◌, map, Memᴰ}
use mathlib.Core.Logic.{◌⊎◌, inl, inr}
use native.Mathlib.Omega.{arith}
use lib.ListN.{length, length-map}
use Rattle.lists.specs.Parts.{steps, cycle}
use Rattle.lists.proofs.Sums.{total, total-map}
use Rattle.lists.proofs.Cycles.{cycle-map, length-cycle}
use Rattle.lists.proofs.Ranges.{lt-or-le}
use Rattle.geometry.specs.Points.{Position, Left}
use Rattle.geometry.specs.Compass.{Heads, angle, Turning}
use Rattle.geometry.proofs.Products.{product_le, product_lt}
use Rattle.geometry.proofs.Walks.{along}

-- the angles from one label to another, over the labels between
angles_between : (a : ℕ) (l : List ℕ) (z : ℕ) → a < 4 → ((k : ℕ) → Memᴰ k l → k < 4) → (total (λ (c : ℕ × ℕ). angle c.0 c.1) (steps (a ∷ l ++ (z ∷ []))) + a + 2 * suc (length l)) % 4 ≡ z % 4
unfolding total angle
angles_between a [] z h low = omega arith
angles_between a (b ∷ l) z h low =
    let hb = low b (Memᴰ.head refl) in
    omega (arith, angles_between b l z hb (λ k i. low k (Memᴰ.tail i)))

-- ANGLE SUM: around a closed walk of k darts the angles sum to 2k quarters, up to whole turns
pub angle-sum : (l : List ℕ) → ((k : ℕ) → Memᴰ k l → k < 4) → (along angle l + 2 * length l) % 4 ≡ 0
unfolding total
angle-sum [] low = refl
angle-sum (a ∷ l) low = let h = low a (Memᴰ.head refl) in omega (arith, angles_between a l a h (λ k i. low k (Memᴰ.tail i)))

-- a corner of one quarter turns left
quarter_left : (l k : ℕ) (a b c : Position) → l < 4 → k ≡ (l + 3) % 4 → Heads l a b → Heads k b c → Left a b c
quarter_left zero k a b c h e v w' = let w = subst (λ (i : ℕ). Heads i b c) e w' in omega (arith, product_lt v.1 w.0, product_le v.0 w.1)
quarter_left (suc zero) k a b c h e v w' = let w = subst (λ (i : ℕ). Heads i b c) e w' in omega (arith, product_lt v.0 w.1, product_le v.1 w.0)
quarter_left (suc (suc zero)) k a b c h e v w' = let w = subst (λ (i : ℕ). Heads i b c) e w' in omega (arith, product_lt v.1 w.0, product_le v.0 w.1)
quarter_left (suc (suc (suc zero))) k a b c h e v w' = let w = subst (λ (i : ℕ). Heads i b c) e w' in omega (arith, product_lt v.0 w.1, product_le v.1 w.0)
quarter_left (suc (suc (suc (suc l)))) k a b c h e v w = absurd (omega arith)

module _ {A : Type 0} (label : A × A → ℕ) (at : A → Position) where
  abbrev Meeting : Type 0
  Meeting = (A × A) × (A × A)

  -- the angle between two darts
  abbrev between : Meeting → ℕ
  between c = angle (label c.0) (label c.1)

  -- the angles at all corners of a closed walk
  abbrev pub corner_angles : List A → ℕ
  corner_angles walk = total between (cycle (cycle walk))

  -- CORNER TURNS: the angles of a turning walk of k darts are 2k quarters up to whole turns. So of three darts, each at most a quarter, they are 2.
  pub angles_sum : (walk : List A) → Turning label at walk → (corner_angles walk + 2 * length walk) % 4 ≡ 0
  angles_sum walk t =
      let labels = map label (cycle walk) in
      let same : along angle labels ≡ corner_angles walk = ap (total (λ (c : ℕ × ℕ). angle c.0 c.1)) (cycle-map label (cycle walk)) ∙ total-map (λ (c : ℕ × ℕ). angle c.0 c.1) (λ (c : Meeting). (label c.0, label c.1)) (cycle (cycle walk)) in
      let size : length labels ≡ length walk = length-map (cycle walk) label ∙ length-cycle walk in
      let sum = angle-sum labels (λ k i. let (d, j, e) = Memᴰ.of_map label (cycle walk) i in subst (◌< 4) e (t.labelled d j)) in
      rw (same, size) at sum

  -- at a corner of a quarter the walk turns left
  pub corner-left : (a b c : A) → label (a, b) < 4 → label (b, c) < 4 → angle (label (a, b)) (label (b, c)) ≡ 1 → Heads (label (a, b)) (at a) (at b) → Heads (label (b, c)) (at b) (at c) → Left (at a) (at b) (at c)
  unfolding angle
  corner-left a b c low lower one v w = quarter_left (label (a, b)) (label (b, c)) (at a) (at b) (at c) low (omega arith) v w

  -- POSITIVE TRIANGLE: two of the three angles are a quarter, and the area is the cross product at each corner
  pub triangle_positive : (a b c : A) → Turning label at (a ∷ b ∷ c ∷ []) → Left (at a) (at b) (at c)
  unfolding total
  triangle_positive a b c t = go (lt-or-le 0 (between (ab, bc))) (lt-or-le 0 (between (bc, ca))) (lt-or-le 0 (between (ca, ab)))
    where
      ab : A × A
      ab = (a, b)

      bc : A × A
      bc = (b, c)

      ca : A × A
      ca = (c, a)

      first : Memᴰ ab (cycle (a ∷ b ∷ c ∷ []))
      first = Memᴰ.head refl

      second : Memᴰ bc (cycle (a ∷ b ∷ c ∷ []))
      second = Memᴰ.tail (Memᴰ.head refl)

      third : Memᴰ ca (cycle (a ∷ b ∷ c ∷ []))
      third = Memᴰ.tail (Memᴰ.tail (Memᴰ.head refl))

      at_b : between (ab, bc) ≤ 1
      at_b = t.corners (ab, bc) (Memᴰ.head refl)

      at_c : between (bc, ca) ≤ 1
      at_c = t.corners (bc, ca) (Memᴰ.tail (Memᴰ.head refl))

      at_a : between (ca, ab) ≤ 1
      at_a = t.corners (ca, ab) (Memᴰ.tail (Memᴰ.tail (Memᴰ.head refl)))

      go : (0 < between (ab, bc)) ⊎ (between (ab, bc) ≤ 0) → (0 < between (bc, ca)) ⊎ (between (bc, ca) ≤ 0) → (0 < between (ca, ab)) ⊎ (between (ca, ab) ≤ 0) → Left (at a) (at b) (at c)
      go (inl h) _ _ = corner-left a b c (t.labelled ab first) (t.labelled bc second) (omega (arith, at_b)) (t.heads ab first) (t.heads bc second)
      go (inr _) (inl h) _ = let l = corner-left b c a (t.labelled bc second) (t.labelled ca third) (omega (arith, at_c)) (t.heads bc second) (t.heads ca third) in omega arith
      go (inr _) (inr _) (inl h) = let l = corner-left c a b (t.labelled ca third) (t.labelled ab first) (omega (arith, at_a)) (t.heads ca third) (t.heads ab first) in omega arith
      go (inr p) (inr q) (inr r) = absurd (omega (arith, angles_sum (a ∷ b ∷ c ∷ []) t))
