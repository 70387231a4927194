-- Crossings: of a triangle that is walked counterclockwise, and of the rectangle.
use Prim.Native.Nat.{ℕ, ◌+◌, ◌*◌, ◌≤◌, ◌<◌, min, max}
use mathlib.Core.Path.{◌≡◌, refl, ap}
use mathlib.Core.List.{[], ◌∷◌}
use mathlib.Core.Logic.{◌⊎◌, inl, inr}
use mathlib.Core.Bool.{Bool, true, false, cond, ◌&&◌}
use native.Mathlib.Omega.{arith}
use native.Mathlib.Nat.{mul-pos}
use borrow.Author.Tests.{lt-ltb, le-ltb, le-leb, lt-leb}
use Rattle.lists.proofs.Sums.{total}
use Rattle.lists.proofs.Ranges.{lt-or-le}
use Rattle.geometry.specs.Points.{Position, area_plus, area_minus, Left, strictly_left, OnSegment, crossing, inside, InBox, scaled}
use Rattle.geometry.proofs.Products.{weak, poly, product_le, product_lt}
use Rattle.geometry.proofs.Walks.{along, against}

-- ---- the tests
left-yes : (a b c : Position) → Left a b c → strictly_left a b c ≡ true
unfolding strictly_left
left-yes a b c h = lt-ltb (area_minus a b c) (area_plus a b c) h

left-no : (a b c : Position) → area_plus a b c ≤ area_minus a b c → strictly_left a b c ≡ false
unfolding strictly_left
left-no a b c h = le-ltb (area_minus a b c) (area_plus a b c) h

crossing-yes : (p a b : Position) → a.y ≤ p.y → p.y < b.y → Left a b p → crossing p a b ≡ 1
unfolding crossing
crossing-yes p a b h k l = rw (le-leb a.y p.y h, lt-ltb p.y b.y k, left-yes a b p l)

crossing-no : (p a b : Position) → (a.y ≤ p.y → p.y < b.y → Left a b p → ⊥) → crossing p a b ≡ 0
unfolding crossing strictly_left
crossing-no p a b no_way = go (lt-or-le p.y a.y) (lt-or-le p.y b.y) (lt-or-le (area_minus a b p) (area_plus a b p))
  where
    go : (p.y < a.y) ⊎ (a.y ≤ p.y) → (p.y < b.y) ⊎ (b.y ≤ p.y) → Left a b p ⊎ (area_plus a b p ≤ area_minus a b p) → crossing p a b ≡ 0
    go (inl h) k l = rw (crossing, lt-leb a.y p.y h)
    go (inr h) (inr k) l = rw (crossing, le-leb a.y p.y h, le-ltb p.y b.y k)
    go (inr h) (inl k) (inr l) = rw (crossing, le-leb a.y p.y h, lt-ltb p.y b.y k, left-no a b p l)
    go (inr h) (inl k) (inl l) = absurd (no_way h k l)

-- 1 if p is strictly inside the triangle, else 0
abbrev held : Position → Position → Position → Position → ℕ
held p a b c = cond (inside p (a ∷ b ∷ c ∷ [])) 1 0

held-yes : (p a b c : Position) → Left a b p → Left b c p → Left c a p → held p a b c ≡ 1
unfolding inside
held-yes p a b c h k l = rw (left-yes a b p h, left-yes b c p k, left-yes c a p l)

held-no : (p a b c : Position) → (Left a b p → Left b c p → Left c a p → ⊥) → held p a b c ≡ 0
unfolding inside
held-no p a b c out = go (lt-or-le (area_minus a b p) (area_plus a b p)) (lt-or-le (area_minus b c p) (area_plus b c p)) (lt-or-le (area_minus c a p) (area_plus c a p))
  where
    go : Left a b p ⊎ (area_plus a b p ≤ area_minus a b p) → Left b c p ⊎ (area_plus b c p ≤ area_minus b c p) → Left c a p ⊎ (area_plus c a p ≤ area_minus c a p) → held p a b c ≡ 0
    go (inr h) k l = rw (left-no a b p h)
    go (inl h) (inr k) l = rw (left-yes a b p h, left-no b c p k)
    go (inl h) (inl k) (inr l) = rw (left-yes a b p h, left-yes b c p k, left-no c a p l)
    go (inl h) (inl k) (inl l) = absurd (out h k l)

held-turned : (p a b c : Position) → held p a b c ≡ held p b c a
unfolding inside
held-turned p a b c = go (strictly_left a b p) (strictly_left b c p) (strictly_left c a p)
  where
    go : (r s t : Bool) → ◌≡◌ {A = ℕ} (cond (r && (s && (t && true))) 1 0) (cond (s && (t && (r && true))) 1 0)
    go true true true = refl
    go true true false = refl
    go true false t = refl
    go false true true = refl
    go false true false = refl
    go false false t = refl

-- ---- one dart
-- p at the height of the dart, and on its line, is on the segment
at_height : (p a b : Position) → a.y ≤ p.y → p.y < b.y → area_plus a b p ≡ area_minus a b p → OnSegment a b p
at_height p a b h k e = record {
  flat = e;
  x_from = low (lt-or-le p.x a.x) (lt-or-le p.x b.x);
  x_to = high (lt-or-le a.x p.x) (lt-or-le b.x p.x);
  y_from = omega arith;
  y_to = omega arith;
}
  where
    low : (p.x < a.x) ⊎ (a.x ≤ p.x) → (p.x < b.x) ⊎ (b.x ≤ p.x) → min a.x b.x ≤ p.x
    low (inl s) (inl t) = absurd (omega (arith, product_lt s k, product_le t h))
    low (inl s) (inr t) = omega arith
    low (inr s) t = omega arith

    high : (a.x < p.x) ⊎ (p.x ≤ a.x) → (b.x < p.x) ⊎ (p.x ≤ b.x) → p.x ≤ max a.x b.x
    high (inl s) (inl t) = absurd (omega (arith, product_lt s k, product_le t h))
    high (inl s) (inr t) = omega arith
    high (inr s) t = omega arith

-- so if it is not, it lies left of the dart or of its reverse
other_side : (p a b : Position) → a.y ≤ p.y → p.y < b.y → ¬ OnSegment a b p → area_plus a b p ≤ area_minus a b p → Left b a p
other_side p a b h k off l = go (lt-or-le (area_plus a b p) (area_minus a b p))
  where
    go : (area_plus a b p < area_minus a b p) ⊎ (area_minus a b p ≤ area_plus a b p) → Left b a p
    go (inl s) = omega arith
    go (inr s) = absurd (off (at_height p a b h k (omega arith)))

on-reverse : (p a b : Position) → OnSegment a b p → OnSegment b a p
on-reverse p a b o = let e = o.flat in let l = o.x_from in let r = o.x_to in let d = o.y_from in let u = o.y_to in
    record { flat = omega arith; x_from = omega arith; x_to = omega arith; y_from = omega arith; y_to = omega arith }

under : (p a b : Position) → a.y ≤ p.y → b.y ≤ p.y → crossing p a b + crossing p b a ≡ 0
under p a b h k = rw (crossing-no p a b (λ s t _. omega arith), crossing-no p b a (λ s t _. omega arith))

over : (p a b : Position) → p.y < a.y → p.y < b.y → crossing p a b + crossing p b a ≡ 0
over p a b h k = rw (crossing-no p a b (λ s t _. omega arith), crossing-no p b a (λ s t _. omega arith))

falls : (p a b : Position) → p.y < a.y → b.y ≤ p.y → crossing p a b ≡ 0
falls p a b h k = crossing-no p a b (λ s t _. omega arith)

-- ---- three darts
-- p's height is the mean of the corners' heights, weighted by the areas that p cuts off
mean : (p a b c : Position)
    → area_plus a b p * c.y + area_minus a b p * p.y + area_plus b c p * a.y + area_minus b c p * p.y + area_plus c a p * b.y + area_minus c a p * p.y
    ≡ area_minus a b p * c.y + area_plus a b p * p.y + area_minus b c p * a.y + area_plus b c p * p.y + area_minus c a p * b.y + area_plus c a p * p.y
mean p a b c = simp poly (omega arith)

-- c above p's height, a and b not: a point that is left of b → c and of c → a is left of a → b, or on it
base : (p a b c : Position) → ¬ OnSegment a b p → a.y ≤ p.y → b.y ≤ p.y → p.y < c.y → Left b c p → Left c a p → Left a b p
base p a b c off ha hb hc l k = go (lt-or-le (area_minus a b p) (area_plus a b p)) (lt-or-le a.y p.y) (lt-or-le b.y p.y)
  where
    ax : (p.x < a.x) ⊎ (a.x ≤ p.x) → a.y ≡ p.y → a.x ≤ p.x
    ax (inl t) e = absurd (omega (arith, ap (c.x *◌) e, ap (p.x *◌) e, product_le t hc))
    ax (inr t) e = t

    bx : (b.x < p.x) ⊎ (p.x ≤ b.x) → b.y ≡ p.y → p.x ≤ b.x
    bx (inl t) e = absurd (omega (arith, ap (c.x *◌) e, ap (p.x *◌) e, product_le t hc))
    bx (inr t) e = t

    level : a.y ≡ p.y → b.y ≡ p.y → OnSegment a b p
    level ea eb =
        let s = ax (lt-or-le p.x a.x) ea in
        let t = bx (lt-or-le b.x p.x) eb in
        record { flat = omega (arith, ap (a.x *◌) eb, ap (p.x *◌) eb, ap (b.x *◌) ea, ap (p.x *◌) ea); x_from = omega arith; x_to = omega arith; y_from = omega arith; y_to = omega arith }

    go : Left a b p ⊎ (area_plus a b p ≤ area_minus a b p) → (a.y < p.y) ⊎ (p.y ≤ a.y) → (b.y < p.y) ⊎ (p.y ≤ b.y) → Left a b p
    go (inl s) _ _ = s
    go (inr s) (inl t) _ = absurd (omega (arith, mean p a b c, product_le s (weak hc), product_lt l t, product_le (weak k) hb))
    go (inr s) (inr t) (inl r) = absurd (omega (arith, mean p a b c, product_le s (weak hc), product_le (weak l) ha, product_lt k r))
    go (inr s) (inr t) (inr r) = absurd (off (level (omega arith) (omega arith)))

-- c alone above p
one_above : (p a b c : Position) → Left a b c → ¬ OnSegment a b p → ¬ OnSegment c a p → a.y ≤ p.y → b.y ≤ p.y → p.y < c.y → crossing p b c ≡ crossing p a c + held p a b c
one_above p a b c area off off' ha hb hc = go (lt-or-le (area_minus a c p) (area_plus a c p)) (lt-or-le (area_minus b c p) (area_plus b c p))
  where
    not_right : area_plus b c p ≤ area_minus b c p → area_plus c a p ≤ area_minus c a p → Left a b p ⊎ (area_plus a b p ≤ area_minus a b p) → ⊥
    not_right t s (inl l) = omega (arith, mean p a b c, product_lt l hc, product_le t ha, product_le s hb)
    not_right t s (inr l) = omega arith

    go : Left a c p ⊎ (area_plus a c p ≤ area_minus a c p) → Left b c p ⊎ (area_plus b c p ≤ area_minus b c p) → crossing p b c ≡ crossing p a c + held p a b c
    go (inl s) (inl t) = rw (crossing-yes p b c hb hc t, crossing-yes p a c ha hc s, held-no p a b c (λ _ _ k. omega arith))
    go (inl s) (inr t) = absurd (not_right t (omega arith) (lt-or-le (area_minus a b p) (area_plus a b p)))
    go (inr s) (inl t) =
        let k = other_side p a c ha hc (λ o. off' (on-reverse p a c o)) s in
        rw (crossing-yes p b c hb hc t, crossing-no p a c (λ _ _ l. omega arith), held-yes p a b c (base p a b c off ha hb hc t k) t k)
    go (inr s) (inr t) = rw (crossing-no p b c (λ _ _ l. omega arith), crossing-no p a c (λ _ _ l. omega arith), held-no p a b c (λ _ k _. omega arith))

-- a alone not above p
two_above : (p a b c : Position) → Left a b c → ¬ OnSegment c a p → a.y ≤ p.y → p.y < b.y → p.y < c.y → crossing p a b ≡ crossing p a c + held p a b c
two_above p a b c area off ha hb hc = go (lt-or-le (area_minus a c p) (area_plus a c p)) (lt-or-le (area_minus a b p) (area_plus a b p))
  where
    not_right : area_plus a b p ≤ area_minus a b p → area_plus c a p < area_minus c a p → Left b c p ⊎ (area_plus b c p ≤ area_minus b c p) → ⊥
    not_right t s (inl l) = omega (arith, mean p a b c, product_le t (weak hc), product_le (weak l) ha, product_lt s hb)
    not_right t s (inr l) = omega arith

    third : Left a b p → Left c a p → Left b c p ⊎ (area_plus b c p ≤ area_minus b c p) → Left b c p
    third t k (inl r) = r
    third t k (inr r) = absurd (omega (arith, mean p a b c, product_le r ha, product_lt t hc, product_lt k hb))

    go : Left a c p ⊎ (area_plus a c p ≤ area_minus a c p) → Left a b p ⊎ (area_plus a b p ≤ area_minus a b p) → crossing p a b ≡ crossing p a c + held p a b c
    go (inl s) (inl t) = rw (crossing-yes p a b ha hb t, crossing-yes p a c ha hc s, held-no p a b c (λ _ _ k. omega arith))
    go (inl s) (inr t) = absurd (not_right t (omega arith) (lt-or-le (area_minus b c p) (area_plus b c p)))
    go (inr s) (inl t) =
        let k = other_side p a c ha hc (λ o. off (on-reverse p a c o)) s in
        rw (crossing-yes p a b ha hb t, crossing-no p a c (λ _ _ l. omega arith), held-yes p a b c t (third t k (lt-or-le (area_minus b c p) (area_plus b c p))) k)
    go (inr s) (inr t) = rw (crossing-no p a b (λ _ _ l. omega arith), crossing-no p a c (λ _ _ l. omega arith), held-no p a b c (λ k _ _. omega arith))

all_above : (p a b c : Position) → p.y < a.y → p.y < b.y → p.y < c.y → held p a b c ≡ 0
all_above p a b c ha hb hc = held-no p a b c (λ k l m. omega (arith, mean p a b c, product_lt k hc, product_lt l ha, product_lt m hb))

none_above : (p a b c : Position) → Left a b c → a.y ≤ p.y → b.y ≤ p.y → c.y ≤ p.y → held p a b c ≡ 0
none_above p a b c area ha hb hc = held-no p a b c (λ k l m. go k l m (lt-or-le a.y p.y) (lt-or-le b.y p.y) (lt-or-le c.y p.y))
  where
    level : a.y ≡ p.y → b.y ≡ p.y → c.y ≡ p.y → ⊥
    level ea eb ec = omega (arith, ap (a.x *◌) eb, ap (b.x *◌) ec, ap (c.x *◌) ea, ap (b.x *◌) ea, ap (c.x *◌) eb, ap (a.x *◌) ec)

    go : Left a b p → Left b c p → Left c a p → (a.y < p.y) ⊎ (p.y ≤ a.y) → (b.y < p.y) ⊎ (p.y ≤ b.y) → (c.y < p.y) ⊎ (p.y ≤ c.y) → ⊥
    go k l m (inl t) _ _ = omega (arith, mean p a b c, product_le (weak k) hc, product_lt l t, product_le (weak m) hb)
    go k l m (inr _) (inl t) _ = omega (arith, mean p a b c, product_le (weak k) hc, product_le (weak l) ha, product_lt m t)
    go k l m (inr _) (inr _) (inl t) = omega (arith, mean p a b c, product_lt k t, product_le (weak l) ha, product_le (weak m) hb)
    go k l m (inr r) (inr s) (inr t) = level (omega arith) (omega arith) (omega arith)

-- CROSSINGS OF A TRIANGLE of positive area, for a point on none of its lines: upwards one more than downwards if the point is inside, else as many
pub triangle_crossings : (p a b c : Position) → Left a b c → ¬ OnSegment a b p → ¬ OnSegment b c p → ¬ OnSegment c a p
    → along (crossing p) (a ∷ b ∷ c ∷ []) ≡ along (against (crossing p)) (a ∷ b ∷ c ∷ []) + cond (inside p (a ∷ b ∷ c ∷ [])) 1 0
unfolding total
triangle_crossings p a b c area nab nbc nca = go (lt-or-le p.y a.y) (lt-or-le p.y b.y) (lt-or-le p.y c.y)
  where
    bca : Left b c a
    bca = omega arith

    cab : Left c a b
    cab = omega arith

    go : (p.y < a.y) ⊎ (a.y ≤ p.y) → (p.y < b.y) ⊎ (b.y ≤ p.y) → (p.y < c.y) ⊎ (c.y ≤ p.y)
        → along (crossing p) (a ∷ b ∷ c ∷ []) ≡ along (against (crossing p)) (a ∷ b ∷ c ∷ []) + held p a b c
    go (inl ha) (inl hb) (inl hc) = omega (arith, over p a b ha hb, over p b c hb hc, over p c a hc ha, all_above p a b c ha hb hc)
    go (inr ha) (inr hb) (inr hc) = omega (arith, under p a b ha hb, under p b c hb hc, under p c a hc ha, none_above p a b c area ha hb hc)
    go (inr ha) (inr hb) (inl hc) = omega (arith, under p a b ha hb, falls p c b hc hb, falls p c a hc ha, one_above p a b c area nab nca ha hb hc)
    go (inr ha) (inl hb) (inr hc) = omega (arith, under p c a hc ha, falls p b c hb hc, falls p b a hb ha, one_above p c a b cab nca nbc hc ha hb, held-turned p c a b)
    go (inl ha) (inr hb) (inr hc) = omega (arith, under p b c hb hc, falls p a b ha hb, falls p a c ha hc, one_above p b c a bca nbc nab hb hc ha, held-turned p a b c)
    go (inr ha) (inl hb) (inl hc) = omega (arith, over p b c hb hc, falls p b a hb ha, falls p c a hc ha, two_above p a b c area nca ha hb hc)
    go (inl ha) (inr hb) (inl hc) = omega (arith, over p c a hc ha, falls p c b hc hb, falls p a b ha hb, two_above p b c a bca nab hb hc ha, held-turned p a b c)
    go (inl ha) (inl hb) (inr hc) = omega (arith, over p a b ha hb, falls p a c ha hc, falls p b c hb hc, two_above p c a b cab nbc hc ha hb, held-turned p c a b)

-- CROSSINGS OF THE RECTANGLE, walked clockwise from north: downwards one more than upwards
pub box_crossings : (p s e n w : Position) → InBox p s e n w → along (against (crossing p)) (n ∷ e ∷ s ∷ w ∷ []) ≡ along (crossing p) (n ∷ e ∷ s ∷ w ∷ []) + 1
unfolding total
box_crossings p s e n w i = omega (
  arith,
  crossing-no p s e (λ a b _. omega arith),
  crossing-no p e s (λ a b _. omega arith),
  crossing-no p n w (λ a b _. omega arith),
  crossing-no p w n (λ a b _. omega arith),
  crossing-no p w s (λ a b _. omega arith),
  crossing-no p n e (λ a b _. omega arith),
  crossing-no p s w (λ _ _ l. not-west l),
  crossing-yes p e n (omega arith) i.under east-left,
)
  where
    lower : {a b c e : ℕ} → a < b → b < c → a ≡ e → e < c
    lower h k q = omega arith

    higher : {a b c e : ℕ} → a < b → b < c → c ≡ e → a < e
    higher h k q = omega arith

    east-left : Left e n p
    east-left = omega (arith, product_lt i.short (lower i.above i.under i.bottom), ap (e.y *◌) i.east, ap (p.y *◌) i.east, ap (n.y *◌) i.east)

    not-west : Left s w p → ⊥
    not-west l = omega (arith, product_lt i.past (higher i.above i.under i.top), ap (s.y *◌) i.west, ap (p.y *◌) i.west, ap (w.y *◌) i.west)

-- a positive triangle stays one d times as far out
pub left-scaled : (d : ℕ) (a b c : Position) → 0 < d → Left a b c → Left (scaled d a) (scaled d b) (scaled d c)
left-scaled d a b c h k = omega (arith, product_lt k (mul-pos h h))
