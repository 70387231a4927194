-- Trails of neighbours across the plan, from West to East: above each context of one, from its left to its right neighbour, there is one kind of context alone; all others lie below.
use Prim.Native.Nat.{ℕ, suc, ◌-◌, ◌<◌}
use mathlib.Core.Path.{◌≡◌, sym, ap, ◌∙◌, subst}
use mathlib.Core.List.Memᴰ
use mathlib.Core.List.{List, [], ◌∷◌, ◌++◌, reverse, reverse-reverse, Memᴰ}
use mathlib.Core.Bool.{true, false}
use mathlib.Core.Logic.{◌⊎◌, inl, inr, ◌≢◌}
use native.Mathlib.Omega.{arith}
use lib.ListN.{length, get_or, take, drop}
use Rattle.lists.specs.Parts.{index_of}
use Rattle.lists.proofs.Members.{mem-take, mem-drop, mem-reverse, mem-before}
use Rattle.lists.proofs.Once.{Once}
use Rattle.model.specs.Plan.{Plan, ring, adjacent, border, onward, strictly_between}
use Rattle.model.specs.Sound.{Sound}
use Rattle.model.specs.Sweep.{below}
use Rattle.model.proofs.Plans.{adjacent-mem, mem-adjacent}
use Rattle.sweep_theory.proofs.Turns.{Backs, strictly_between_backs, once-reverse, once-strictly_between}
use Rattle.sweep_theory.proofs.Faces.{Fan, fan, once-ring}
use Rattle.sweep_theory.proofs.Around.{Over, other_side}

-- position k of a trail
abbrev pub at : List ℕ → ℕ → ℕ
at f k = get_or f k 0

-- f is a trail with the kind S above
pub record Trail (p : Plan) (S : ℕ → Type 0) (f : List ℕ) : Type 0 where
  -- consecutive contexts are neighbours
  pub link : (k : ℕ) → suc k < length f → adjacent p (at f k) (at f (suc k)) ≡ true
  -- above are only contexts of the kind
  pub over : (k : ℕ) → suc (suc k) < length f → Over S (ring p (at f (suc k))) (at f k) (at f (suc (suc k)))
  -- the contexts between the ends are inner
  pub inner : (k : ℕ) → suc (suc k) < length f → border (at f (suc k)) ≡ false

-- what is below is of the ring
pub below_near : (p : Plan) (f : List ℕ) (k c : ℕ) → Memᴰ c (below p f k) → adjacent p (at f k) c ≡ true
unfolding below strictly_between onward
below_near p f k c m =
    let r = ring p (at f k) in
    let x = index_of (at f (suc k)) r in
    mem-adjacent p (at f k) c (go r x (Memᴰ.append_cases (drop (suc x) r) (mem-before (at f (k - 1)) (onward (at f (suc k)) r) c (mem-reverse (strictly_between (at f (suc k)) (at f (k - 1)) r) c m))))
  where
    go : (r : List ℕ) (x : ℕ) → Memᴰ c (drop (suc x) r) ⊎ Memᴰ c (take x r) → Memᴰ c r
    go r x (inl n) = mem-drop (suc x) r c n
    go r x (inr n) = mem-take x r c n

-- a reversed list has the list's entries
reverse-mem : (l : List ℕ) (c : ℕ) → Memᴰ c l → Memᴰ c (reverse l)
reverse-mem l c m = mem-reverse (reverse l) c (subst (Memᴰ c) (sym (reverse-reverse l)) m)

module _ (p : Plan) (s : Sound p) (S : ℕ → Type 0) (f : List ℕ) (w : Trail p S f) (k : ℕ) (h : suc (suc k) < length f) where
  -- a context of the trail and its two neighbours on it
  abbrev u : ℕ
  u = at f (suc k)

  abbrev a : ℕ
  a = at f k

  abbrev b : ℕ
  b = at f (suc (suc k))

  left : adjacent p u a ≡ true
  left = s.returned a u (w.link k (omega arith))

  right : adjacent p u b ≡ true
  right = w.link (suc k) h

  below_is : below p f (suc k) ≡ reverse (strictly_between b a (ring p u))
  unfolding below
  below_is = let e : suc k - 1 ≡ k = omega arith in ap (λ (i : ℕ). reverse (strictly_between b (at f i) (ring p u))) e

  backs : Backs (ring p u) (a ∷ below p f (suc k) ++ (b ∷ []))
  backs = subst (λ (l : List ℕ). Backs (ring p u) (a ∷ l ++ (b ∷ []))) (sym below_is) (strictly_between_backs (ring p u) b a (once-ring p s u) (adjacent-mem p u b right) (adjacent-mem p u a left))

  near_all : (c : ℕ) → Memᴰ c (a ∷ below p f (suc k) ++ (b ∷ [])) → adjacent p u c ≡ true
  near_all c (Memᴰ.head e) = ap (adjacent p u) e ∙ left
  near_all c (Memᴰ.tail m) = go (Memᴰ.append_cases (below p f (suc k)) m)
    where
      go : Memᴰ c (below p f (suc k)) ⊎ Memᴰ c (b ∷ []) → adjacent p u c ≡ true
      go (inl i) = below_near p f (suc k) c i
      go (inr (Memᴰ.tail m)) = elim m [ ]
      go (inr (Memᴰ.head e)) = ap (adjacent p u) e ∙ right

  -- the faces under a context of the trail, from left to right
  pub fan_at : Fan p u (a ∷ below p f (suc k) ++ (b ∷ []))
  fan_at = fan p s u (w.inner k h) (a ∷ below p f (suc k) ++ (b ∷ [])) backs near_all

  -- A NEIGHBOUR OF ANOTHER KIND LIES BELOW
  pub other_below : (c : ℕ) → adjacent p u c ≡ true → c ≢ a → c ≢ b → (S c → ⊥) → Memᴰ c (below p f (suc k))
  other_below c near na nb out = subst (Memᴰ c) (sym below_is) (reverse-mem (strictly_between b a (ring p u)) c (other_side a b c (once-ring p s u) (adjacent-mem p u b right) (w.over k h) (adjacent-mem p u c near) na nb out))

  -- no context stands twice below
  pub once-below : Once (below p f (suc k))
  once-below = subst Once (sym below_is) (once-reverse (strictly_between b a (ring p u)) (once-strictly_between (ring p u) b a (once-ring p s u) (adjacent-mem p u b right)))
