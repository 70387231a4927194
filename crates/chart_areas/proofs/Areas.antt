-- Doubled area: how large differences and products of coordinates are, and the sign of a triangle's area.
use Prim.Native.Nat.{ℕ, zero, suc, ◌+◌, ◌-◌, ◌*◌, ◌^◌, ◌≤◌, ◌<◌}
use mathlib.Core.Path.{◌≡◌, refl, sym, ap, ◌∙◌, subst}
use mathlib.Core.List.{List, [], ◌∷◌}
use mathlib.Core.Logic.{◌⊎◌, inl, inr}
use mathlib.Core.Bool.{Bool, true, false, cond}
use native.Mathlib.Omega.{arith}
use native.Mathlib.Nat.{mul-le-mul}
use lib.ListN.{get_or}
use lib.Dec.{eqb, ltb}
use lib.IntN.{ℤ, pos, negsuc, neg_ℤ, sub_ℕ, nat_abs, ◌+ℤ◌, ◌-ℤ◌, ◌*ℤ◌, +ℤ_idr}
use lib.Signed.{mag}
use borrow.Author.Tests.{ltb-true, ltb-false, lt-ltb, le-ltb, eq-eqb, ne_eqb}
use mir.Syntax.{w64}
use mir.Val.{SFits, to_z, of_z}
use mir.ValLaws.{to_z-of_z}
use Rattle.model.specs.Geometry.{positive, is_zero, corner, fan, area}
use Rattle.chart_areas.specs.Corners.{points_only, negative, corner_at, corner_plus, corner_minus, counterclockwise, flat, clockwise, at_points}

-- ---- a difference is a number or the negative of one
sub_pos : (p q d : ℕ) → p ≡ q + d → sub_ℕ p q ≡ pos d
sub_pos p q d e = rw (le-ltb p q (omega arith)) (ap pos (omega arith))

sub_neg : (p q d : ℕ) → q ≡ p + suc d → sub_ℕ p q ≡ negsuc d
sub_neg p q d e = rw (lt-ltb p q (omega arith)) (ap negsuc (omega arith))

-- the negative of k
sub-down : (p q k : ℕ) → q ≡ p + k → sub_ℕ p q ≡ neg_ℤ (pos k)
sub-down p q zero e = sub_pos p q 0 (omega arith)
sub-down p q (suc k) e = sub_neg p q k e

view : (p q : ℕ) → ((d : ℕ) × (p ≡ q + d)) ⊎ ((d : ℕ) × (q ≡ p + suc d))
view p q = go (ltb p q) refl
  where
    go : (t : Bool) → ltb p q ≡ t → ((d : ℕ) × (p ≡ q + d)) ⊎ ((d : ℕ) × (q ≡ p + suc d))
    go true e = inr (q - suc p, (let h = ltb-true p q e in omega arith))
    go false e = inl (p - q, (let h = ltb-false p q e in omega arith))

-- ---- products and differences of differences
sub_times : (p q r s : ℕ) → sub_ℕ p q *ℤ sub_ℕ r s ≡ sub_ℕ (p * r + q * s) (p * s + q * r)
sub_times p q r s = go (view p q) (view r s)
  where
    go : ((d : ℕ) × (p ≡ q + d)) ⊎ ((d : ℕ) × (q ≡ p + suc d)) → ((d : ℕ) × (r ≡ s + d)) ⊎ ((d : ℕ) × (s ≡ r + suc d)) → sub_ℕ p q *ℤ sub_ℕ r s ≡ sub_ℕ (p * r + q * s) (p * s + q * r)
    go (inl (d, e)) (inl (k, f)) = (λ i. sub_pos p q d e i *ℤ sub_pos r s k f i) ∙ sym (sub_pos (p * r + q * s) (p * s + q * r) (d * k) (rw (e, f) (omega arith)))
    go (inl (d, e)) (inr (k, f)) = (λ i. sub_pos p q d e i *ℤ sub_neg r s k f i) ∙ sym (sub-down (p * r + q * s) (p * s + q * r) (d * suc k) (rw (e, f) (omega arith)))
    go (inr (d, e)) (inl (k, f)) = (λ i. sub_neg p q d e i *ℤ sub_pos r s k f i) ∙ sym (sub-down (p * r + q * s) (p * s + q * r) (suc d * k) (rw (e, f) (omega arith)))
    go (inr (d, e)) (inr (k, f)) = (λ i. sub_neg p q d e i *ℤ sub_neg r s k f i) ∙ sym (sub_pos (p * r + q * s) (p * s + q * r) (suc d * suc k) (rw (e, f) (omega arith)))

same-sub : (p q r s : ℕ) → p + s ≡ q + r → sub_ℕ p q ≡ sub_ℕ r s
same-sub p q r s h = go (view r s)
  where
    go : ((d : ℕ) × (r ≡ s + d)) ⊎ ((d : ℕ) × (s ≡ r + suc d)) → sub_ℕ p q ≡ sub_ℕ r s
    go (inl (d, f)) = sub_pos p q d (omega arith) ∙ sym (sub_pos r s d f)
    go (inr (d, f)) = sub_neg p q d (omega arith) ∙ sym (sub_neg r s d f)

sub_minus : (p q r s : ℕ) → sub_ℕ p q -ℤ sub_ℕ r s ≡ sub_ℕ (p + s) (q + r)
sub_minus p q r s = go (view p q) (view r s)
  where
    go : ((d : ℕ) × (p ≡ q + d)) ⊎ ((d : ℕ) × (q ≡ p + suc d)) → ((d : ℕ) × (r ≡ s + d)) ⊎ ((d : ℕ) × (s ≡ r + suc d)) → sub_ℕ p q -ℤ sub_ℕ r s ≡ sub_ℕ (p + s) (q + r)
    go (inl (d, e)) (inl (zero, f)) = (λ i. sub_pos p q d e i -ℤ sub_pos r s 0 f i) ∙ sym (sub_pos (p + s) (q + r) (d + 0) (omega arith))
    go (inl (d, e)) (inl (suc k, f)) = (λ i. sub_pos p q d e i -ℤ sub_pos r s (suc k) f i) ∙ same-sub d (suc k) (p + s) (q + r) (omega arith)
    go (inl (d, e)) (inr (k, f)) = (λ i. sub_pos p q d e i -ℤ sub_neg r s k f i) ∙ sym (sub_pos (p + s) (q + r) (d + suc k) (omega arith))
    go (inr (d, e)) (inl (zero, f)) = (λ i. sub_neg p q d e i -ℤ sub_pos r s 0 f i) ∙ same-sub 0 (suc d) (p + s) (q + r) (omega arith)
    go (inr (d, e)) (inl (suc k, f)) = (λ i. sub_neg p q d e i -ℤ sub_pos r s (suc k) f i) ∙ sym (sub_neg (p + s) (q + r) (suc (d + k)) (omega arith))
    go (inr (d, e)) (inr (k, f)) = (λ i. sub_neg p q d e i -ℤ sub_neg r s k f i) ∙ same-sub (suc k) (suc d) (p + s) (q + r) (omega arith)

-- ---- the sign of a difference
-- what a test says of a difference, by what it says of none, of one above 0 and of one below 0
sub_sign : (test : ℤ → Bool) (p q : ℕ) (b : Bool) → (p ≡ q → test (pos 0) ≡ b) → ((d : ℕ) → q < p → test (pos (suc d)) ≡ b) → ((d : ℕ) → p < q → test (negsuc d) ≡ b) → test (sub_ℕ p q) ≡ b
sub_sign test p q b level above below = go (view p q)
  where
    go : ((d : ℕ) × (p ≡ q + d)) ⊎ ((d : ℕ) × (q ≡ p + suc d)) → test (sub_ℕ p q) ≡ b
    go (inl (zero, e)) = ap test (sub_pos p q 0 e) ∙ level (omega arith)
    go (inl (suc d, e)) = ap test (sub_pos p q (suc d) e) ∙ above d (omega arith)
    go (inr (d, e)) = ap test (sub_neg p q d e) ∙ below d (omega arith)

positive-sub : (p q : ℕ) → positive (sub_ℕ p q) ≡ ltb q p
positive-sub p q = sub_sign positive p q (ltb q p) (λ e. sym (le-ltb q p (omega arith))) (λ d h. sym (lt-ltb q p h)) (λ d h. sym (le-ltb q p (omega arith)))

zero-sub : (p q : ℕ) → is_zero (sub_ℕ p q) ≡ eqb q p
zero-sub p q = sub_sign is_zero p q (eqb q p) (λ e. sym (eq-eqb q p (omega arith))) (λ d h. sym (ne_eqb q p (λ z. absurd (omega arith)))) (λ d h. sym (ne_eqb q p (λ z. absurd (omega arith))))

negative-sub : (p q : ℕ) → negative (sub_ℕ p q) ≡ ltb p q
negative-sub p q = sub_sign negative p q (ltb p q) (λ e. sym (le-ltb p q (omega arith))) (λ d h. sym (le-ltb p q (omega arith))) (λ d h. sym (lt-ltb p q h))

module _ (ax ay bx by cx cy : ℕ) where
  shoelace : corner_at ax ay bx by cx cy ≡ sub_ℕ (corner_plus ax ay bx by cx cy) (corner_minus ax ay bx by cx cy)
  unfolding corner_at corner_plus corner_minus
  shoelace =
      (λ i. sub_times bx ax cy ay i -ℤ sub_times cx ax by ay i)
      ∙ sub_minus (bx * cy + ax * ay) (bx * ay + ax * cy) (cx * by + ax * ay) (cx * ay + ax * by)
      ∙ same-sub (bx * cy + ax * ay + (cx * ay + ax * by)) (bx * ay + ax * cy + (cx * by + ax * ay)) (ax * by + bx * cy + cx * ay) (bx * ay + cx * by + ax * cy) (omega arith)

  -- doubled area is positive, zero or negative as the walk is counterclockwise, flat or clockwise
  sign_positive : positive (corner_at ax ay bx by cx cy) ≡ counterclockwise ax ay bx by cx cy
  unfolding counterclockwise
  sign_positive = ap positive shoelace ∙ positive-sub (corner_plus ax ay bx by cx cy) (corner_minus ax ay bx by cx cy)

  sign_zero : is_zero (corner_at ax ay bx by cx cy) ≡ flat ax ay bx by cx cy
  unfolding flat
  sign_zero = ap is_zero shoelace ∙ zero-sub (corner_plus ax ay bx by cx cy) (corner_minus ax ay bx by cx cy)

  sign_negative : negative (corner_at ax ay bx by cx cy) ≡ clockwise ax ay bx by cx cy
  unfolding clockwise
  sign_negative = ap negative shoelace ∙ negative-sub (corner_plus ax ay bx by cx cy) (corner_minus ax ay bx by cx cy)

-- ---- how far a number is from 0
abs_neg : (z : ℤ) → nat_abs (neg_ℤ z) ≡ nat_abs z
abs_neg (pos zero) = refl
abs_neg (pos (suc n)) = refl
abs_neg (negsuc n) = refl

abs_sub : (a b : ℕ) → nat_abs (sub_ℕ a b) ≤ a + b
abs_sub a b = go (ltb a b) refl
  where
    go : (t : Bool) → ltb a b ≡ t → nat_abs (cond t (negsuc (b - suc a)) (pos (a - b))) ≤ a + b
    go true e = let h = ltb-true a b e in omega arith
    go false e = omega arith

abs_plus : (y z : ℤ) → nat_abs (y +ℤ z) ≤ nat_abs y + nat_abs z
abs_plus (pos a) (pos b) = omega arith
abs_plus (pos a) (negsuc b) = abs_sub a (suc b)
abs_plus (negsuc a) (pos b) = let h = abs_sub b (suc a) in omega arith
abs_plus (negsuc a) (negsuc b) = omega arith

abs_times : (y z : ℤ) → nat_abs (y *ℤ z) ≡ nat_abs y * nat_abs z
abs_times (pos a) (pos b) = refl
abs_times (pos a) (negsuc b) = abs_neg (pos (a * suc b))
abs_times (negsuc a) (pos b) = abs_neg (pos (suc a * b))
abs_times (negsuc a) (negsuc b) = refl

record Within (k : ℕ) (z : ℤ) : Type 0 where
  within : nat_abs z ≤ k

mag_abs : (z : ℤ) → mag z ≤ nat_abs z
mag_abs (pos n) = omega arith
mag_abs (negsuc n) = omega arith

within-fits : {k : ℕ} {z : ℤ} → Within k z → k < 2 ^ 63 → SFits w64 z
within-fits {k} {z} w h = let m = mag_abs z in let b = w.within in record { sfits = omega arith }

within-read : {k : ℕ} {z : ℤ} → Within k z → k < 2 ^ 63 → to_z w64 (of_z w64 z) ≡ z
within-read {k} {z} w h = to_z-of_z w64 z (within-fits w h)

-- a difference of coordinates, a product of two, and a difference of two products
within-sub : (a b : ℕ) → a < 2 ^ 16 → b < 2 ^ 16 → Within 131072 (sub_ℕ a b)
within-sub a b h k = let m = abs_sub a b in record { within = omega arith }

within_times : {y z : ℤ} → Within 131072 y → Within 131072 z → Within 17179869184 (y *ℤ z)
within_times {y} {z} a b = record { within = rw (abs_times y z) (mul-le-mul a.within b.within) }

within_minus : {y z : ℤ} → Within 17179869184 y → Within 17179869184 z → Within 34359738368 (y -ℤ z)
within_minus {y} {z} a b = let m = abs_plus y (neg_ℤ z) in let n = abs_neg z in let j = a.within in let k = b.within in record { within = omega arith }

-- ---- what the machine computes
abbrev read : ℤ → ℤ
read z = to_z w64 (of_z w64 z)

-- a product of two differences
module _ (p q : ℤ) (a b c d : ℕ) (e : p ≡ sub_ℕ a b) (f : q ≡ sub_ℕ c d) (ha : a < 2 ^ 16) (hb : b < 2 ^ 16) (hc : c < 2 ^ 16) (hd : d < 2 ^ 16) where
  times_is : read p *ℤ read q ≡ sub_ℕ a b *ℤ sub_ℕ c d
  times_is = λ i. (ap read e ∙ within-read (within-sub a b ha hb) (omega arith)) i *ℤ (ap read f ∙ within-read (within-sub c d hc hd) (omega arith)) i

  product : Within 17179869184 (sub_ℕ a b *ℤ sub_ℕ c d)
  product = within_times {y = sub_ℕ a b} {z = sub_ℕ c d} (within-sub a b ha hb) (within-sub c d hc hd)

  times_read : read (read p *ℤ read q) ≡ sub_ℕ a b *ℤ sub_ℕ c d
  times_read = ap read times_is ∙ within-read product (omega arith)

corner-within : (ax ay bx by cx cy : ℕ) → ax < 2 ^ 16 → ay < 2 ^ 16 → bx < 2 ^ 16 → by < 2 ^ 16 → cx < 2 ^ 16 → cy < 2 ^ 16 → Within 34359738368 (corner_at ax ay bx by cx cy)
unfolding corner_at
corner-within ax ay bx by cx cy i j k l m n =
    within_minus {y = sub_ℕ bx ax *ℤ sub_ℕ cy ay} {z = sub_ℕ cx ax *ℤ sub_ℕ by ay}
    (within_times {y = sub_ℕ bx ax} {z = sub_ℕ cy ay} (within-sub bx ax k i) (within-sub cy ay n j)) (within_times {y = sub_ℕ cx ax} {z = sub_ℕ by ay} (within-sub cx ax m i) (within-sub by ay l j))

-- the difference of two such products
module _ (p q r s : ℤ) (ax ay bx by cx cy : ℕ) (ep : p ≡ sub_ℕ bx ax) (eq : q ≡ sub_ℕ cy ay) (er : r ≡ sub_ℕ cx ax) (es : s ≡ sub_ℕ by ay)
    (i : ax < 2 ^ 16) (j : ay < 2 ^ 16) (k : bx < 2 ^ 16) (l : by < 2 ^ 16) (m : cx < 2 ^ 16) (n : cy < 2 ^ 16) where
  corner-is : read (read p *ℤ read q) -ℤ read (read r *ℤ read s) ≡ corner_at ax ay bx by cx cy
  unfolding corner_at
  corner-is = λ t. times_read p q bx ax cy ay ep eq k i n j t -ℤ times_read r s cx ax by ay er es m i l j t

  pub corner-fits : SFits w64 (read (read p *ℤ read q) -ℤ read (read r *ℤ read s))
  corner-fits = subst (SFits w64) (sym corner-is) (within-fits (corner-within ax ay bx by cx cy i j k l m n) (omega arith))

  pub corner-read : read (read (read p *ℤ read q) -ℤ read (read r *ℤ read s)) ≡ corner_at ax ay bx by cx cy
  corner-read = ap read corner-is ∙ within-read (corner-within ax ay bx by cx cy i j k l m n) (omega arith)

-- ---- the area of a face of three
area-three : (xs ys : List ℕ) (a b c : ℕ) → area (points_only xs ys) (a ∷ b ∷ c ∷ []) ≡ corner_at (get_or xs a 0) (get_or ys a 0) (get_or xs b 0) (get_or ys b 0) (get_or xs c 0) (get_or ys c 0)
unfolding area fan corner points_only corner_at
area-three xs ys a b c = +ℤ_idr (corner_at (get_or xs a 0) (get_or ys a 0) (get_or xs b 0) (get_or ys b 0) (get_or xs c 0) (get_or ys c 0))

-- a number that is the difference of the products is the area, and has the sign of the walk
module _ (xs ys : List ℕ) (a b c : ℕ) {z : ℤ} (e : z ≡ corner_at (get_or xs a 0) (get_or ys a 0) (get_or xs b 0) (get_or ys b 0) (get_or xs c 0) (get_or ys c 0)) where
  pub area_is : z ≡ area (points_only xs ys) (a ∷ b ∷ c ∷ [])
  area_is = e ∙ sym (area-three xs ys a b c)

  pub positive_is : positive z ≡ at_points counterclockwise xs ys a b c
  positive_is = ap positive e ∙ sign_positive _ _ _ _ _ _

  pub zero_is : is_zero z ≡ at_points flat xs ys a b c
  zero_is = ap is_zero e ∙ sign_zero _ _ _ _ _ _

  pub negative_is : negative z ≡ at_points clockwise xs ys a b c
  negative_is = ap negative e ∙ sign_negative _ _ _ _ _ _

-- for the code, step by step
pub ruleset steps = (corner-fits, corner-read, area_is, positive_is, zero_is, negative_is)
