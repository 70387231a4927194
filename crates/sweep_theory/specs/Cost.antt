-- How many positions the sweep with counters tests.
use Rattle.std.specs.Prelude.{ℕ, zero, suc, ◌+◌, ◌-◌, min, List, cond, length}
use Rattle.lists.specs.Spans.{zeros}
use Rattle.model.specs.Outcome.{Outcome, accepted, refused}
use Rattle.model.specs.Plan.{Plan, context_count}
use Rattle.model.specs.Sweep.{State, first_state, below, chordless, advance}
use Rattle.sweep_theory.specs.Quick.{open_at, resume}
use Rattle.sweep_theory.specs.Counter.{counted, local_by, pick_by}

-- the open positions below n that are tested until one is picked
unfoldable pub test_count_below : List ℕ → Plan → State → ℕ → ℕ
test_count_below cnt p s zero = 0
test_count_below cnt p s (suc n) = let lower = test_count_below cnt p s n in cond (open_at p s.frontier n) (suc (cond (local_by cnt p s n) 0 lower)) lower

-- what comes after a pair; nothing after a refusal
unfoldable pub after_pair : (ℕ × ℕ → ℕ) → Outcome (ℕ × ℕ) → ℕ
after_pair more (accepted d) = more d
after_pair more (refused k at) = 0

-- all those that are tested from here on
unfoldable pub test_count_from : Plan → ℕ → ℕ → List ℕ → State → ℕ
test_count_from p zero limit cnt s = 0
test_count_from p (suc fuel) limit cnt s =
    let n = min limit (length s.frontier) in
    test_count_below cnt p s n + after_pair (λ (d : ℕ × ℕ). test_count_from p fuel (resume p s d.0 d.1) (counted p (below p s.frontier (d.1 - 1)) cnt) (advance p s d.0 d.1)) (pick_by cnt p s n)

-- all those of the whole sweep
unfoldable pub test_count : Plan → ℕ
test_count p =
    let s = first_state p in
    let limit = cond (chordless p s.frontier) (length s.frontier) 0 in
    test_count_from p (context_count p) limit (counted p s.frontier (zeros (context_count p))) s
