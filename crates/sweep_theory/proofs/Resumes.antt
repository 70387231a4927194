-- The search goes on where the last step was. Right of the context at j nothing changes but what is seen, and so no pair becomes eligible there.
-- A new eligible pair reaches past that context only where one context alone lies below each position in between.
use Prim.Native.Nat.{ℕ, zero, suc, ◌+◌, ◌-◌, ◌≤◌, ◌<◌}
use mathlib.Core.Path.{◌≡◌, refl, sym, ap, ◌∙◌, subst}
use mathlib.Core.List.{List, ◌++◌, reverse, Memᴰ}
use mathlib.Core.Bool.{Bool, true, false}
use mathlib.Core.Logic.{◌⊎◌, inl, inr}
use native.Mathlib.Omega.{arith}
use lib.ListN.{length}
use lib.Dec.{eqb}
use borrow.Author.Tests.{eqb-true, eqb-false}
use Rattle.lists.specs.Tests.{is_empty, member}
use Rattle.lists.specs.Parts.{squeeze}
use Rattle.lists.proofs.Bools.{both, or_no}
use Rattle.lists.proofs.Ranges.{lt-or-le}
use Rattle.lists.proofs.Tests.{list_any-append, mem-member}
use Rattle.model.specs.Plan.{Plan, ring, adjacent, strictly_between}
use Rattle.model.specs.Sound.{Sound}
use Rattle.model.specs.Sweep.{State, finished, below, listed, replaced, eligible, advance}
use Rattle.model.specs.SweepStates.{Positions, Chosen, Reached, further}
use Rattle.model.proofs.Eligible.{replaced-left, replaced-right, replaced-length, below-listed}
use Rattle.sweep_theory.specs.Quick.{landing}
use Rattle.sweep_theory.proofs.Trails.{at}
use Rattle.sweep_theory.proofs.Strips.{raw}
use Rattle.sweep_theory.proofs.Eligibility.{Fits, fits, fits_eligible}
use Rattle.sweep_theory.proofs.Frontiers.{flat, new_below, clean}
use Rattle.sweep_theory.proofs.Cuts.{cut_eligible}

module _ (p : Plan) (sound : Sound p) (s : State) (r : Reached p s) (i j : ℕ) (c : Chosen p s i j) where
  abbrev f : List ℕ
  f = s.frontier

  abbrev l : List ℕ
  l = listed p f i j

  -- the next state's frontier
  abbrev g : List ℕ
  g = replaced f i j l

  abbrev J : ℕ
  J = suc i + length l

  two : i + 2 ≤ j
  two = c.positions.apart

  inside : j < length f
  inside = c.positions.inside

  size : length g ≡ J + (length f - j)
  size = replaced-length f l i j two inside

  same_left : (t : ℕ) → t ≤ i → at g t ≡ at f t
  same_left t b = replaced-left f l i j two inside t b

  same_right : (t u : ℕ) → J ≤ t → u ≡ j + (t - J) → at g t ≡ at f u
  same_right t u b e = let x : J + (t - J) ≡ t = omega arith in ap (at g) (sym x) ∙ replaced-right f l i j two inside (t - J) ∙ ap (at f) (sym e)

  -- what is below stays
  below_same : (t u : ℕ) → J < t → u ≡ j + (t - J) → below p g t ≡ below p f u
  unfolding below
  below_same t u b e = λ d. reverse (strictly_between (same_right (suc t) (suc u) (omega arith) (omega arith) d) (same_right (t - 1) (u - 1) (omega arith) (omega arith) d) (ring p (same_right t u (omega arith) e d)))

  raw_same : (n t u : ℕ) → J < t → u ≡ j + (t - J) → raw p g t n ≡ raw p f u n
  raw_same zero t u b e = refl
  raw_same (suc n) t u b e = λ d. below_same t u b e d ++ raw_same n (suc t) (suc u) (omega arith) (omega arith) d

  module _ (a b : ℕ) (o : Positions (advance p s i j) a b) (e : eligible p (advance p s i j) a b ≡ true) where
    -- the pair, as positions of the new frontier
    near_two : a + 2 ≤ b
    near_two = o.apart

    in_g : b < length g
    unfolding advance
    in_g = o.inside

    abbrev m : List ℕ
    m = listed p g a b

    t : Fits p g (l ++ s.seen) a b m
    unfolding advance
    t = fits p (advance p s i j) a b o e

    new : (d : ℕ) → Memᴰ d m → member d l ≡ false × (member d s.seen ≡ false)
    new d n = or_no (member d l) (member d s.seen) (sym (list_any-append (eqb d) l s.seen) ∙ t.new d n)

    module _ (past : J ≤ a) where
      a₀ : ℕ
      a₀ = j + (a - J)

      b₀ : ℕ
      b₀ = j + (b - J)

      listed_same : listed p f a₀ b₀ ≡ m
      unfolding listed a₀ b₀
      listed_same = let x : b₀ - suc a₀ ≡ b - suc a = let w = near_two in omega arith in ap (λ (n : ℕ). squeeze (raw p f (suc a₀) n)) x ∙ ap squeeze (sym (raw_same (b - suc a) (suc a) (suc a₀) (omega arith) (omega arith)))

      positions : Positions s a₀ b₀
      unfolding a₀ b₀
      positions = let w = near_two in let x = in_g in let y = size in let z = inside in record { apart = omega arith; inside = omega arith }

      left : (v d : ℕ) → v < a₀ → Memᴰ d m → adjacent p (at f v) d ≡ false
      unfolding a₀
      left v d h n = go (lt-or-le i v) (lt-or-le v j) (adjacent p (at f v) d) refl
        where
          go : (i < v) ⊎ (v ≤ i) → (v < j) ⊎ (j ≤ v) → (q : Bool) → adjacent p (at f v) d ≡ q → q ≡ false
          go x y false q = refl
          go (inr x) y true q = both (adjacent p (at f v) d) q (ap (λ (w : ℕ). adjacent p w d) (sym (same_left v x)) ∙ t.left v d (omega arith) n)
          go (inl x) (inl y) true q =
              let w = inside in
              let under = new_below p sound s (flat p sound s r) v d (omega arith) (omega arith) q (t.inner d n) (new d n).1 in
              both (member d l) (mem-member d l (below-listed p s i j c.positions c.fits v d x y under)) (new d n).0
          go (inl x) (inr y) true q = both (adjacent p (at f v) d) q (ap (λ (w : ℕ). adjacent p w d) (sym (same_right (J + (v - j)) v (omega arith) (omega arith))) ∙ t.left (J + (v - j)) d (omega arith) n)

      old_fits : Fits p f s.seen a₀ b₀ m
      unfolding a₀ b₀
      old_fits =
          let w = near_two in
          let x = in_g in
          let y = size in
          let z = inside in
          record {
            full = λ v h q. ap is_empty (sym (below_same (J + (v - j)) v (omega arith) (omega arith))) ∙ t.full (J + (v - j)) (omega arith) (omega arith);
            once = t.once;
            inner = t.inner;
            new = λ d n. (new d n).1;
            among = t.among;
            left = left;
            first = λ d n ne. ap (λ (v : ℕ). adjacent p v d) (sym (same_right a a₀ past refl)) ∙ t.first d n ne;
            right = λ v d h q n. ap (adjacent p d) (sym (same_right (J + (v - j)) v (omega arith) (omega arith))) ∙ t.right (J + (v - j)) d (omega arith) (omega arith) n;
            last = λ d n ne. ap (adjacent p d) (sym (same_right b b₀ (omega arith) refl)) ∙ t.last d n ne;
          }

      -- the pair was eligible before, further right than the one that was taken
      before : eligible p s a₀ b₀ ≡ true
      before = fits_eligible p s a₀ b₀ positions (clean p sound s r i j c.positions c.fits) (subst (λ (v : List ℕ). Fits p f s.seen a₀ b₀ v) (sym listed_same) old_fits)

      not_past : ⊥
      unfolding a₀ b₀
      not_past = go (c.largest a₀ b₀ positions before)
        where
          go : (b₀ < j) ⊎ ((b₀ ≡ j) × (a₀ ≤ i)) → ⊥
          go (inl x) = let w = near_two in absurd (omega arith)
          go (inr x) = let w = near_two in let y = x.0 in absurd (omega arith)

    -- NO PAIR THAT IS ELIGIBLE AFTER THE STEP BEGINS AT THE CONTEXT OF j OR RIGHT OF IT
    pub begins_before : a < landing p s i j
    unfolding landing
    begins_before = go (lt-or-le a J)
      where
        go : (a < J) ⊎ (J ≤ a) → a < J
        go (inl x) = x
        go (inr x) = absurd (not_past x)

module _ (p : Plan) (sound : Sound p) (s : State) (r : Reached p s) (u : finished p s.frontier ≡ false) (i j : ℕ) (c : Chosen p s i j) (a b : ℕ)
    (o : Positions (advance p s i j) a b) (e : eligible p (advance p s i j) a b ≡ true) where
  abbrev next_state : State
  next_state = advance p s i j

  -- AND IT PASSES ONLY OVER POSITIONS WITH ONE CONTEXT BELOW
  pub passes_single : (k : ℕ) → landing p s i j ≤ k → k + 2 ≤ b → length (below p next_state.frontier k) ≡ 1
  passes_single k h q = go (eqb (length (below p next_state.frontier k)) 1) refl
    where
      many : (length (below p next_state.frontier k) ≡ 1 → ⊥) → ⊥
      many n =
          let x = begins_before p sound s r i j c a b o e in
          let cl = clean p sound next_state (further s i j r u c) a b o e in
          let y = begins_before p sound s r i j c k b (record { apart = q; inside = o.inside }) (cut_eligible p sound next_state (flat p sound next_state (further s i j r u c)) a b o e k (omega arith) q n cl) in
          absurd (omega arith)

      go : (t : Bool) → eqb (length (below p next_state.frontier k)) 1 ≡ t → length (below p next_state.frontier k) ≡ 1
      go true x = eqb-true (length (below p next_state.frontier k)) 1 x
      go false x = absurd (many (eqb-false (length (below p next_state.frontier k)) 1 x))
