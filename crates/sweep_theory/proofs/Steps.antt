-- A trail with the list of a pair put in place of the positions between is a trail again.
use Prim.Native.Nat.{ℕ, zero, suc, ◌+◌, ◌-◌, ◌≤◌, ◌<◌}
use mathlib.Core.Path.{◌≡◌, refl, sym, ap, ◌∙◌, subst}
use mathlib.Core.List.{List, [], ◌∷◌, ◌++◌, Memᴰ}
use mathlib.Core.Bool.{true, false}
use mathlib.Core.Logic.{◌⊎◌, inl, inr}
use native.Mathlib.Omega.{arith}
use lib.ListN.{length, length-append, get_or-append}
use lib.Seq.{get_or-append_seam}
use Rattle.lists.specs.Tests.{is_empty}
use Rattle.lists.proofs.Ranges.{lt-or-le}
use Rattle.model.specs.Plan.{Plan, ring, adjacent, border, next}
use Rattle.model.specs.Sound.{Sound}
use Rattle.model.specs.Sweep.{below, listed, replaced}
use Rattle.model.proofs.Eligible.{get_or-mem, replaced-left, replaced-list, replaced-right, replaced-length}
use Rattle.sweep_theory.proofs.Around.{Over, one, more, over_join}
use Rattle.sweep_theory.proofs.Trails.{Trail, at}
use Rattle.sweep_theory.proofs.Strips.{Laid, Listed, strip_of}

-- ---- a laid list, position by position
module _ (p : Plan) (S : ℕ → Type 0) where
  pub laid_link : (l : List ℕ) → Laid p S l → (x : ℕ) → suc x < length l → adjacent p (at l x) (at l (suc x)) ≡ true
  laid_link [] w x h = absurd (omega arith)
  laid_link (a ∷ []) w x h = absurd (omega arith)
  laid_link (a ∷ b ∷ []) w zero h = w
  laid_link (a ∷ b ∷ []) w (suc x) h = absurd (omega arith)
  laid_link (a ∷ b ∷ c ∷ l) w zero h = w.0
  laid_link (a ∷ b ∷ c ∷ l) w (suc x) h = laid_link (b ∷ c ∷ l) w.2 x (omega arith)

  pub laid_over : (l : List ℕ) → Laid p S l → (x : ℕ) → suc (suc x) < length l → Over S (ring p (at l (suc x))) (at l x) (at l (suc (suc x)))
  laid_over [] w x h = absurd (omega arith)
  laid_over (a ∷ []) w x h = absurd (omega arith)
  laid_over (a ∷ b ∷ []) w x h = absurd (omega arith)
  laid_over (a ∷ b ∷ c ∷ l) w zero h = w.1
  laid_over (a ∷ b ∷ c ∷ l) w (suc x) h = laid_over (b ∷ c ∷ l) w.2 x (omega arith)

  -- the same with contexts that are called otherwise
  over_same : {a a' u u' b b' : ℕ} → a' ≡ a → u' ≡ u → b' ≡ b → Over S (ring p u) a b → Over S (ring p u') a' b'
  over_same {a} {a'} {u} {u'} {b} {b'} e g h o = subst (λ (z : ℕ). Over S (ring p u') a' z) (sym h) (subst (λ (z : ℕ). Over S (ring p u') z b) (sym e) (subst (λ (z : ℕ). Over S (ring p z) a b) (sym g) o))

module _ (p : Plan) (s : Sound p) (S : ℕ → Type 0) (f : List ℕ) (w : Trail p S f) (own : (k : ℕ) → k < length f → S (at f k))
    (i j : ℕ) (two : i + 2 ≤ j) (inside : j < length f) (full : (t : ℕ) → i < t → t < j → is_empty (below p f t) ≡ false)
    (inner : (c : ℕ) → Memᴰ c (listed p f i j) → border c ≡ false) where
  -- the list, and the new trail
  abbrev l : List ℕ
  l = listed p f i j

  abbrev g : List ℕ
  g = replaced f i j l

  it : Listed p s S f w own i j
  it = strip_of p s S f w own i j two inside full

  -- the list between the contexts that stay on both sides of it
  out : List ℕ
  out = at f i ∷ l ++ (at f j ∷ [])

  laid : Laid p S out
  unfolding out
  laid = subst (λ (v : List ℕ). Laid p S (at f i ∷ v ++ (at f j ∷ []))) (sym it.is) it.strip.laid

  size_out : length out ≡ length l + 2
  unfolding out
  size_out = let e = length-append l (at f j ∷ []) in omega arith

  size : length g ≡ suc i + length l + (length f - j)
  size = replaced-length f l i j two inside

  some : 0 < length l
  some = let e = ap length it.is in omega arith

  -- where things stand on the new trail
  new_left : (t : ℕ) → t ≤ i → at g t ≡ at f t
  new_left t h = replaced-left f l i j two inside t h

  new_right : (t u : ℕ) → t ≡ suc i + length l + (u - j) → j ≤ u → at g t ≡ at f u
  new_right t u e h = let x : j + (u - j) ≡ u = omega arith in ap (at g) e ∙ replaced-right f l i j two inside (u - j) ∙ ap (at f) x

  new_list : (t x : ℕ) → t ≡ suc i + x → x < length l → at g t ≡ at l x
  new_list t x e h = ap (at g) e ∙ replaced-list f l i j two inside x h

  new_out : (t x : ℕ) → t ≡ i + x → x < length l + 2 → at g t ≡ at out x
  unfolding out
  new_out t zero e h = new_left t (omega arith) ∙ ap (at f) (omega arith)
  new_out t (suc x) e h = go (lt-or-le x (length l))
    where
      go : (x < length l) ⊎ (length l ≤ x) → at g t ≡ at (l ++ (at f j ∷ [])) x
      go (inl b) = new_list t x (omega arith) b ∙ sym (get_or-append l (at f j ∷ []) 0 x b)
      go (inr b) = let z : length l ≡ x = omega arith in new_right t j (omega arith) (omega arith) ∙ sym (get_or-append_seam l (at f j) [] 0) ∙ ap (at (l ++ (at f j ∷ []))) z

  -- how the ends of the list meet what stays
  first_turn : next (at f (suc i)) (ring p (at f i)) ≡ at l 0
  first_turn = it.turn ∙ sym (ap (λ (v : List ℕ). at v 0) it.is)

  last_turn : next (at l (length l - 1)) (ring p (at f j)) ≡ at f (j - 1)
  last_turn =
      let e : length l - 1 ≡ length it.rest = let x = ap length it.is in omega arith in
      ap (λ (x : ℕ). next (at l x) (ring p (at f j))) e ∙ ap (λ (v : List ℕ). next (at v (length it.rest)) (ring p (at f j))) it.is ∙ it.strip.last

  link : (k : ℕ) → suc k < length g → adjacent p (at g k) (at g (suc k)) ≡ true
  link k h = go (lt-or-le k i) (lt-or-le (i + length l) k)
    where
      go : (k < i) ⊎ (i ≤ k) → (i + length l < k) ⊎ (k ≤ i + length l) → adjacent p (at g k) (at g (suc k)) ≡ true
      go (inl a) b = (λ d. adjacent p (new_left k (omega arith) d) (new_left (suc k) (omega arith) d)) ∙ w.link k (omega arith)
      go (inr a) (inl b) =
          let e = size in
          let u : ℕ = j + (k - (suc i + length l)) in
          (λ d. adjacent p (new_right k u (omega arith) (omega arith) d) (new_right (suc k) (suc u) (omega arith) (omega arith) d)) ∙ w.link u (omega arith)
      go (inr a) (inr b) =
          let e = size_out in
          (λ d. adjacent p (new_out k (k - i) (omega arith) (omega arith) d) (new_out (suc k) (suc (k - i)) (omega arith) (omega arith) d)) ∙ laid_link p S out laid (k - i) (omega arith)

  inner_new : (k : ℕ) → suc (suc k) < length g → border (at g (suc k)) ≡ false
  inner_new k h = go (lt-or-le k i) (lt-or-le k (i + length l))
    where
      go : (k < i) ⊎ (i ≤ k) → (k < i + length l) ⊎ (i + length l ≤ k) → border (at g (suc k)) ≡ false
      go (inl a) b = ap border (new_left (suc k) (omega arith)) ∙ w.inner k (omega arith)
      go (inr a) (inl b) = ap border (new_list (suc k) (k - i) (omega arith) (omega arith)) ∙ inner (at l (k - i)) (get_or-mem l (k - i) (omega arith))
      go (inr a) (inr b) =
          let e = size in
          let u : ℕ = (j - 1) + (k - (i + length l)) in
          ap border (new_right (suc k) (suc u) (omega arith) (omega arith)) ∙ w.inner u (omega arith)

  over : (k : ℕ) → suc (suc k) < length g → Over S (ring p (at g (suc k))) (at g k) (at g (suc (suc k)))
  over k h = go (lt-or-le (suc k) i) (lt-or-le k i) (lt-or-le k (i + length l)) (lt-or-le (i + length l) k)
    where
      go : (suc k < i) ⊎ (i ≤ suc k) → (k < i) ⊎ (i ≤ k) → (k < i + length l) ⊎ (i + length l ≤ k) → (i + length l < k) ⊎ (k ≤ i + length l) → Over S (ring p (at g (suc k))) (at g k) (at g (suc (suc k)))
      -- left of the list
      go (inl a) b c d = over_same p S (new_left k (omega arith)) (new_left (suc k) (omega arith)) (new_left (suc (suc k)) (omega arith)) (w.over k (omega arith))
      -- at position i
      go (inr a) (inl b) c d =
          let z : suc k ≡ i = omega arith in
          let e = some in
          over_same p S (new_left k (omega arith)) (new_left (suc k) (omega arith)) (new_list (suc (suc k)) 0 (omega arith) e)
          (over_join (w.over k (omega arith)) (own (suc (suc k)) (omega arith)) (one (ap (λ (x : ℕ). next (at f (suc x)) (ring p (at f x))) z ∙ first_turn)))
      -- on the list
      go (inr a) (inr b) (inl c) d =
          let e = size_out in
          over_same p S (new_out k (k - i) (omega arith) (omega arith)) (new_out (suc k) (suc (k - i)) (omega arith) (omega arith)) (new_out (suc (suc k)) (suc (suc (k - i))) (omega arith) (omega arith))
          (laid_over p S out laid (k - i) (omega arith))
      -- right of the list
      go (inr a) (inr b) (inr c) (inl d) =
          let e = size in
          let u : ℕ = j + (k - (suc i + length l)) in
          over_same p S (new_right k u (omega arith) (omega arith)) (new_right (suc k) (suc u) (omega arith) (omega arith)) (new_right (suc (suc k)) (suc (suc u)) (omega arith) (omega arith)) (w.over u (omega arith))
      -- at position j
      go (inr a) (inr b) (inr c) (inr d) =
          let e = size in
          let q = some in
          let v : ℕ = j - 1 in
          let x : suc v ≡ j = omega arith in
          over_same p S (new_list k (length l - 1) (omega arith) (omega arith)) (new_right (suc k) j (omega arith) (omega arith)) (new_right (suc (suc k)) (suc j) (omega arith) (omega arith))
          (more (at f v) last_turn (own v (omega arith)) (over_same p S {a = at f v} refl (ap (at f) (sym x)) (ap (λ (y : ℕ). at f (suc y)) (sym x)) (w.over v (omega arith))))

  -- THE NEW TRAIL
  pub trail_on : Trail p S g
  trail_on = record { link = link; over = over; inner = inner_new }
