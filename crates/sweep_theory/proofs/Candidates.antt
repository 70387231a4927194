-- For each j one i need be tried: where some i is eligible with j, the candidate is, and it is the largest.
use Prim.Native.Nat.{ℕ, zero, suc, ◌+◌, ◌-◌, ◌≤◌, ◌<◌}
use mathlib.Core.Path.{◌≡◌, refl, ap, ◌∙◌, subst}
use mathlib.Core.List.{List}
use mathlib.Core.Bool.{Bool, true, false, cond, not, ◌&&◌}
use mathlib.Core.Logic.{◌⊎◌, inl, inr}
use native.Mathlib.Omega.{arith}
use lib.ListN.{length}
use lib.Dec.{ltb, leb}
use borrow.Author.Tests.{eqb-true, eqb-false, ltb-true, le-leb, leb-true}
use Rattle.lists.proofs.Bools.{and_yes, yes_and, yes-not}
use Rattle.lists.proofs.Ranges.{lt-or-le}
use Rattle.model.specs.Plan.{Plan}
use Rattle.model.specs.Sound.{Sound}
use Rattle.model.specs.Sweep.{State, below, chordless, eligible}
use Rattle.model.specs.SweepStates.{Positions}
use Rattle.sweep_theory.specs.Quick.{single, candidate_from, candidate, open_at}
use Rattle.sweep_theory.proofs.Frontiers.{Flat}
use Rattle.sweep_theory.proofs.Cuts.{end_not_single, right_end_not_single, cut_eligible}

pub single_one : (p : Plan) (f : List ℕ) (k : ℕ) → single p f k ≡ true → length (below p f k) ≡ 1
unfolding single
single_one p f k e = eqb-true (length (below p f k)) 1 e

pub single_not : (p : Plan) (f : List ℕ) (k : ℕ) → single p f k ≡ false → length (below p f k) ≡ 1 → ⊥
unfolding single
single_not p f k e = eqb-false (length (below p f k)) 1 e

-- what the candidate is: past it, up to k, one context alone lies below each position
record Highest (p : Plan) (f : List ℕ) (k c : ℕ) : Type 0 where
  upto : c ≤ k
  stop : (c ≡ 0) ⊎ (single p f c ≡ false)
  past : (t : ℕ) → c < t → t ≤ k → single p f t ≡ true

highest : (p : Plan) (f : List ℕ) (k : ℕ) → Highest p f k (candidate_from p f k)
unfolding candidate_from
highest p f zero = record { upto = omega arith; stop = inl refl; past = λ t a b. absurd (omega arith) }
highest p f (suc k) = go (single p f (suc k)) refl (highest p f k)
  where
    go : (t : Bool) → single p f (suc k) ≡ t → Highest p f k (candidate_from p f k) → Highest p f (suc k) (cond t (candidate_from p f k) (suc k))
    go false e h = record { upto = omega arith; stop = inr e; past = λ t a b. absurd (omega arith) }
    go true e h = let x = h.upto in record { upto = omega arith; stop = h.stop; past = λ t a b. last t a b (lt-or-le t (suc k)) }
      where
        last : (t : ℕ) → candidate_from p f k < t → t ≤ suc k → (t < suc k) ⊎ (suc k ≤ t) → single p f t ≡ true
        last t a b (inl c) = h.past t a (omega arith)
        last t a b (inr c) = let z : t ≡ suc k = omega arith in ap (single p f) z ∙ e

-- the candidate is two or more below j
pub candidate-below : (p : Plan) (f : List ℕ) (j : ℕ) → 2 ≤ j → candidate p f j + 2 ≤ j
unfolding candidate
candidate-below p f j h = let x = (highest p f (j - 2)).upto in omega arith

-- between the candidate and position j − 1 one context alone lies below each position
pub candidate_past : (p : Plan) (f : List ℕ) (j t : ℕ) → candidate p f j < t → t + 2 ≤ j → length (below p f t) ≡ 1
unfolding candidate
candidate_past p f j t a b = single_one p f t ((highest p f (j - 2)).past t a (omega arith))

module _ (p : Plan) (sound : Sound p) (s : State) (h : Flat p s) (clean : chordless p s.frontier ≡ true) (i j : ℕ) (o : Positions s i j) (e : eligible p s i j ≡ true) where
  abbrev f : List ℕ
  f = s.frontier

  abbrev c : ℕ
  c = candidate p f j

  is : Highest p f (j - 2) c
  unfolding candidate
  is = highest p f (j - 2)

  -- i is not past the candidate
  pub candidate_largest : i ≤ c
  candidate_largest = go (lt-or-le c i)
    where
      go : (c < i) ⊎ (i ≤ c) → i ≤ c
      go (inr x) = x
      go (inl x) = let y = o.apart in absurd (end_not_single p sound s h i j o e (omega arith) (single_one p f i (is.past i x (omega arith))))

  -- THE CANDIDATE IS ELIGIBLE
  pub candidate-eligible : eligible p s c j ≡ true
  candidate-eligible = go (lt-or-le i c) is.stop
    where
      go : (i < c) ⊎ (c ≤ i) → (c ≡ 0) ⊎ (single p f c ≡ false) → eligible p s c j ≡ true
      go (inr x) y = let z = candidate_largest in let w : i ≡ c = omega arith in subst (λ (k : ℕ). eligible p s k j ≡ true) w e
      go (inl x) (inl y) = absurd (omega arith)
      go (inl x) (inr y) = let z = is.upto in let a = o.apart in cut_eligible p sound s h i j o e c x (omega arith) (single_not p f c y) clean

  -- and j is open
  pub open_right : open_at p f j ≡ true
  unfolding open_at
  open_right = let a = o.apart in yes_and (leb 2 j) (not (ltb (suc j) (length f) && single p f j)) (le-leb 2 j (omega arith)) (yes-not (ltb (suc j) (length f) && single p f j) (go (ltb (suc j) (length f) && single p f j) refl))
    where
      go : (t : Bool) → (ltb (suc j) (length f) && single p f j) ≡ t → t ≡ false
      go false x = refl
      go true x = let (a, b) = and_yes (ltb (suc j) (length f)) (single p f j) x in absurd (right_end_not_single p sound s h i j o e (ltb-true (suc j) (length f) a) (single_one p f j b))

-- an open position is two or more
pub open_two : (p : Plan) (f : List ℕ) (j : ℕ) → open_at p f j ≡ true → 2 ≤ j
unfolding open_at
open_two p f j e = leb-true 2 j (and_yes (leb 2 j) (not (ltb (suc j) (length f) && single p f j)) e).0
