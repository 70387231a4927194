-- The pairs of the model's choices, gone through in order.
use Prim.Native.Nat.{ℕ, zero, suc, ◌-◌, ◌<◌}
use mathlib.Core.Path.{◌≡◌, refl, ap, sym, ◌∙◌}
use mathlib.Core.List.{List, ◌++◌, map}
use mathlib.Core.Bool.{Bool, false, cond}
use native.Mathlib.Omega.{arith}
use lib.ListN.{length}
use Rattle.lists.specs.Ranges.{countdown}
use Rattle.lists.specs.Parts.{flatten}
use Rattle.model.specs.Outcome.{accepted}
use Rattle.model.specs.Plan.{Plan}
use Rattle.model.specs.Sweep.{State, eligible, choices, choose}
use Rattle.sweep_by_definition.specs.Search.{pair_row}

-- the pairs of positions below n, the largest j first
abbrev pub pairs : ℕ → List (ℕ × ℕ)
pairs n = flatten (map (λ (j : ℕ). pair_row j (j - 1)) (countdown n))

-- all of them are those of the frontier's length
pub pairs_all : (p : Plan) (s : State) {n : ℕ} → n ≡ length s.frontier → choose p s (choices s.frontier) ≡ choose p s (pairs n)
unfolding choices
pairs_all p s e = sym (ap (λ (n : ℕ). choose p s (pairs n)) e)

module _ (p : Plan) (s : State) (j : ℕ) (others : List (ℕ × ℕ)) where
  -- what is taken, by whether the pair with the largest i is eligible
  pub row_next : {n i : ℕ} → n ≡ suc i → {b : Bool} → b ≡ eligible p s i j → choose p s (pair_row j n ++ others) ≡ cond b (accepted (i, j)) (choose p s (pair_row j i ++ others))
  unfolding choose
  row_next {n} {i} z e = ap (λ (m : ℕ). choose p s (pair_row j m ++ others)) z ∙ ap (λ (t : Bool). cond t (accepted (i, j)) (choose p s (pair_row j i ++ others))) (sym e)

  -- no pair is eligible
  pub row_none : (n : ℕ) → ((a : ℕ) → a < n → eligible p s a j ≡ false) → choose p s (pair_row j n ++ others) ≡ choose p s others
  row_none zero h = refl
  row_none (suc n) h = row_next refl (sym (h n (omega arith))) ∙ row_none n (λ a l. h a (omega arith))
