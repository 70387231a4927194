-- The pair that is picked is the one that the sweep takes, for every plan that keeps the rules.
use Prim.Native.Nat.{ℕ, zero, suc, ◌≤◌, ◌<◌, min}
use mathlib.Core.Path.{◌≡◌, refl, sym, ap, ◌∙◌, subst}
use mathlib.Core.List.{List}
use mathlib.Core.Bool.{Bool, true, false, cond, ◌&&◌}
use mathlib.Core.Logic.{◌⊎◌, inl, inr}
use native.Mathlib.Omega.{arith}
use lib.ListN.{length}
use Rattle.lists.proofs.Bools.{both, and_yes}
use Rattle.lists.proofs.Ranges.{lt-or-le}
use Rattle.model.specs.Outcome.{Outcome, accepted, refused}
use Rattle.model.specs.Plan.{Plan}
use Rattle.model.specs.Sound.{Sound}
use Rattle.model.specs.Sweep.{State, chordless, eligible, choices, choose, advance}
use Rattle.model.specs.SweepStates.{Positions, NoneEligible, Chosen, Reached}
use Rattle.model.proofs.Choices.{chosen_taken, none-taken}
use Rattle.sweep_theory.specs.Quick.{candidate, open_at}
use Rattle.sweep_theory.specs.Local.{local, pick}
use Rattle.sweep_theory.specs.Ready.{Limits, Clean}
use Rattle.sweep_theory.proofs.Frontiers.{flat, clean}
use Rattle.sweep_theory.proofs.Eligibility.{no_chord}
use Rattle.sweep_theory.proofs.Candidates.{candidate-below, candidate_largest, candidate-eligible, open_right, open_two}
use Rattle.sweep_theory.proofs.Local.{local_is}

-- ---- what is picked
module _ (p : Plan) (s : State) where
  abbrev f : List ℕ
  f = s.frontier

  -- none of the open j from a on and below n passes
  abbrev NoneFrom : ℕ → ℕ → Type 0
  NoneFrom a n = (j : ℕ) → a ≤ j → j < n → open_at p f j ≡ true → local p s j ≡ false

  -- The largest open j below n that passes, with its candidate
  pub record Picked (n : ℕ) (d : ℕ × ℕ) : Type 0 where
    pub below_n : d.1 < n
    pub opened : open_at p f d.1 ≡ true
    pub passes : local p s d.1 ≡ true
    pub left : d.0 ≡ candidate p f d.1
    pub none : NoneFrom (suc d.1) n

  -- what an outcome of the search below n says
  abbrev pub Said : ℕ → Outcome (ℕ × ℕ) → Type 0
  Said n (accepted d) = Picked n d
  Said n (refused a b) = (◌≡◌ {A = Outcome (ℕ × ℕ)} (refused a b) (refused 14 0)) × NoneFrom 0 n

  none_more : (a n : ℕ) → NoneFrom a n → (open_at p f n ≡ true → local p s n ≡ false) → NoneFrom a (suc n)
  none_more a n h k j b q o = go (lt-or-le j n)
    where
      go : (j < n) ⊎ (n ≤ j) → local p s j ≡ false
      go (inl c) = h j b c o
      go (inr c) = let z : n ≡ j = omega arith in subst (λ (x : ℕ). open_at p f x ≡ true → local p s x ≡ false) z k o

  pub said : (n : ℕ) → Said n (pick p s n)
  unfolding pick
  said zero = (refl, λ j a b o. absurd (omega arith))
  said (suc n) = go (open_at p f n && local p s n) refl (said n)
    where
      more : (o : Outcome (ℕ × ℕ)) → (open_at p f n ≡ true → local p s n ≡ false) → Said n o → Said (suc n) o
      more (accepted d) k h = let x = h.below_n in record { below_n = omega arith; opened = h.opened; passes = h.passes; left = h.left; none = none_more (suc d.1) n h.none k }
      more (refused a b) k h = (h.0, none_more 0 n h.1 k)

      go : (t : Bool) → (open_at p f n && local p s n) ≡ t → Said n (pick p s n) → Said (suc n) (cond t (accepted (candidate p f n, n)) (pick p s n))
      go true e h =
          let (a, b) = and_yes (open_at p f n) (local p s n) e in
          record { below_n = omega arith; opened = a; passes = b; left = refl; none = λ j x y o. absurd (omega arith) }
      go false e h = more (pick p s n) (λ o. sym (ap (λ (t : Bool). t && local p s n) o) ∙ e) h

-- ---- one step
module _ (p : Plan) (rules : Sound p) (s : State) (r : Reached p s) (limit : ℕ) (lim : Limits p s limit) (c : Clean p s limit) where
  abbrev l : List ℕ
  l = s.frontier

  abbrev n : ℕ
  n = min limit (length l)

  -- a position that is tried passes if it is eligible with its candidate
  same : (j : ℕ) → j < n → open_at p l j ≡ true → local p s j ≡ eligible p s (candidate p l j) j
  same j h o = local_is p rules s (flat p rules s r) (c (omega arith)) j (open_two p l j o) (omega arith)

  -- an eligible pair is found, or one with the same j
  module _ (i j : ℕ) (o : Positions s i j) (e : eligible p s i j ≡ true) where
    cl : chordless p l ≡ true
    cl = clean p rules s r i j o e

    early : j < n
    early = let x = lim i j o e in let y = o.inside in omega arith

    opened : open_at p l j ≡ true
    opened = open_right p rules s (flat p rules s r) cl i j o e

    largest : i ≤ candidate p l j
    largest = candidate_largest p rules s (flat p rules s r) cl i j o e

    passes : local p s j ≡ true
    passes = same j early opened ∙ candidate-eligible p rules s (flat p rules s r) cl i j o e

    not_past : (a : ℕ) → NoneFrom p s a n → a ≤ j → ⊥
    not_past a h q = both (local p s j) passes (h j q early opened)

  -- the one that is picked is the right one
  right : (d : ℕ × ℕ) → Picked p s n d → Chosen p s d.0 d.1
  right d h =
      let x = h.below_n in
      let y = candidate-below p l d.1 (open_two p l d.1 h.opened) in
      let z = h.left in
      record {
        positions = record { apart = omega arith; inside = omega arith };
        fits = ap (λ (k : ℕ). eligible p s k d.1) z ∙ sym (same d.1 x h.opened) ∙ h.passes;
        largest = λ i j o e. order i j o e (lt-or-le d.1 j) (lt-or-le j d.1);
      }
    where
      order : (i j : ℕ) → Positions s i j → eligible p s i j ≡ true → (d.1 < j) ⊎ (j ≤ d.1) → (j < d.1) ⊎ (d.1 ≤ j) → (j < d.1) ⊎ ((j ≡ d.1) × (i ≤ d.0))
      order i j o e (inl a) b = absurd (not_past i j o e (suc d.1) h.none a)
      order i j o e (inr a) (inl b) = inl b
      order i j o e (inr a) (inr b) = let q : j ≡ d.1 = omega arith in let w = subst (λ (k : ℕ). i ≤ candidate p l k) q (largest i j o e) in let z = h.left in inr (q, omega arith)

  none_eligible : NoneFrom p s 0 n → NoneEligible p s
  none_eligible h i j o = off (eligible p s i j) refl
    where
      off : (t : Bool) → eligible p s i j ≡ t → t ≡ false
      off false e = refl
      off true e = absurd (not_past i j o e 0 h (omega arith))

  -- THE PAIR THAT IS PICKED IS THE ONE THAT THE SWEEP TAKES
  pub pick_enough : pick p s n ≡ choose p s (choices l)
  pick_enough = go (pick p s n) (said p s n)
    where
      go : (o : Outcome (ℕ × ℕ)) → Said p s n o → o ≡ choose p s (choices l)
      go (accepted d) h = sym (chosen_taken p s d.0 d.1 (right d h))
      go (refused a b) h = h.0 ∙ sym (none-taken p s (none_eligible h.1))

-- the frontier after a step has no chord
pub next_clean : (p : Plan) (s : State) (i j : ℕ) → Chosen p s i j → chordless p (advance p s i j).frontier ≡ true
unfolding advance
next_clean p s i j c = no_chord p s i j c.positions c.fits
