-- The sweep with counters: for each context, how many contexts that came to the frontier touch it. A counter is never lowered; each context that comes to the frontier raises those of its neighbours.
use Rattle.std.specs.Prelude.{ℕ, zero, suc, ◌-◌, min, List, [], ◌∷◌, Bool, cond, not, ◌&&◌, length, get_or, set, eqb}
use Rattle.std.specs.List.{list_all}
use Rattle.lists.specs.Tests.{is_empty, member}
use Rattle.lists.specs.Spans.{zeros}
use Rattle.model.specs.Outcome.{Outcome, accepted, refused}
use Rattle.model.specs.Plan.{Plan, context_count, ring, border}
use Rattle.model.specs.Sweep.{State, first_state, below, chordless, finished, finish, advance}
use Rattle.sweep_theory.specs.Quick.{candidate, open_at, resume}
use Rattle.sweep_theory.specs.Local.{positions_due}

-- one more for each of these
unfoldable pub raised : List ℕ → List ℕ → List ℕ
raised [] cnt = cnt
raised (w ∷ r) cnt = raised r (set cnt w (suc (get_or cnt w 0)))

-- one more for each neighbour of each of these
unfoldable pub counted : Plan → List ℕ → List ℕ → List ℕ
counted p [] cnt = cnt
counted p (e ∷ l) cnt = counted p l (raised (ring p e) cnt)

-- ---- the local test, by counters
-- c may be on the list l of i and j
unfoldable pub fair_by : List ℕ → State → ℕ → ℕ → List ℕ → ℕ → Bool
fair_by cnt s i j l c = not (border c) && (not (member c s.seen) && eqb (get_or cnt c 0) (positions_due i j l c))

-- l may be the list of i and j
unfoldable pub good_by : List ℕ → Plan → State → ℕ → ℕ → List ℕ → Bool
good_by cnt p s i j l = not (is_empty l) && (list_all (fair_by cnt s i j l) l && chordless p l)

-- j is eligible with its candidate
unfoldable pub local_by : List ℕ → Plan → State → ℕ → Bool
local_by cnt p s j = good_by cnt p s (candidate p s.frontier j) j (below p s.frontier (j - 1))

-- of the positions below n, the largest that is, with its candidate
unfoldable pub pick_by : List ℕ → Plan → State → ℕ → Outcome (ℕ × ℕ)
pick_by cnt p s zero = refused 14 0
pick_by cnt p s (suc j) = let lower = pick_by cnt p s j in cond (open_at p s.frontier j && local_by cnt p s j) (accepted (candidate p s.frontier j, j)) lower

-- ---- the sweep
-- what a pair leads to, or else what is without one
unfoldable pub settled : {A : Type 0} → (ℕ × ℕ → Outcome A) → Outcome A → Outcome (ℕ × ℕ) → Outcome A
settled more none (accepted d) = more d
settled more none (refused k at) = none

-- steps as long as a pair is picked; only then is it asked whether the sweep is finished
unfoldable pub count_from : Plan → ℕ → ℕ → List ℕ → State → Outcome (List ℕ)
count_from p zero limit cnt s = refused 14 0
count_from p (suc fuel) limit cnt s =
    let none = cond (finished p s.frontier) (accepted (finish p s)) (refused 14 0) in
    settled (λ (d : ℕ × ℕ). count_from p fuel (resume p s d.0 d.1) (counted p (below p s.frontier (d.1 - 1)) cnt) (advance p s d.0 d.1)) none (pick_by cnt p s (min limit (length s.frontier)))

-- THE SWEEP WITH COUNTERS, before the label rules are tested
unfoldable pub count_sweep : Plan → Outcome (List ℕ)
count_sweep p =
    let s = first_state p in
    let limit = cond (chordless p s.frontier) (length s.frontier) 0 in
    count_from p (context_count p) limit (counted p s.frontier (zeros (context_count p))) s
