-- The limit after a step: no pair is eligible with j there or past it.
use Prim.Native.Nat.{ℕ, suc, ◌-◌, ◌≤◌, ◌<◌}
use mathlib.Core.Path.{◌≡◌}
use mathlib.Core.List.{List}
use mathlib.Core.Bool.{false, not}
use mathlib.Core.Logic.{◌⊎◌, inl, inr}
use native.Mathlib.Omega.{arith}
use lib.ListN.{length}
use borrow.Author.Tests.{not-true}
use Rattle.lists.proofs.Ranges.{lt-or-le, first_found}
use Rattle.model.specs.Plan.{Plan}
use Rattle.model.specs.Sound.{Sound}
use Rattle.model.specs.Sweep.{State, listed, finished, advance}
use Rattle.model.specs.SweepStates.{Chosen, Reached}
use Rattle.model.proofs.Eligible.{replaced-length}
use Rattle.sweep_theory.specs.Quick.{single, landing, reach, resume}
use Rattle.sweep_theory.specs.Ready.{Limits}
use Rattle.sweep_theory.proofs.Resumes.{passes_single}
use Rattle.sweep_theory.proofs.Candidates.{single_not}

module _ (p : Plan) (rules : Sound p) (s : State) (r : Reached p s) (u : finished p s.frontier ≡ false) (i j : ℕ) (c : Chosen p s i j) where
  -- the next frontier
  abbrev g : List ℕ
  g = (advance p s i j).frontier

  landing_inside : landing p s i j ≤ length g
  unfolding landing advance
  landing_inside = let x = replaced-length s.frontier (listed p s.frontier i j) i j c.positions.apart c.positions.inside in omega arith

  -- where the reach ends
  abbrev R : ℕ
  R = reach p g (landing p s i j)

  stops : R < length g → (landing p s i j ≤ R) × (single p g R ≡ false)
  unfolding reach
  stops h =
      let x = landing_inside in
      let it = first_found (λ (t : ℕ). not (single p g t)) (landing p s i j) (length g - landing p s i j) (omega arith) in
      (it.reached, not-true (single p g R) it.passes)

  -- THE LIMIT AFTER A STEP
  pub limit_on : Limits p (advance p s i j) (resume p s i j)
  unfolding resume
  limit_on a b o e = go (lt-or-le b (suc (suc R)))
    where
      go : (b < suc (suc R)) ⊎ (suc (suc R) ≤ b) → b < suc (suc R)
      go (inl x) = x
      go (inr x) = let y = o.inside in let (low, s₁) = stops (omega arith) in absurd (single_not p g R s₁ (passes_single p rules s r u i j c a b o e R low (omega arith)))
