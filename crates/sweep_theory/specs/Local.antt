-- The pair of a position j and its candidate, judged by what is below position j − 1 and by how many frontier contexts each context there touches.
use Rattle.std.specs.Prelude.{ℕ, zero, suc, ◌-◌, List, Bool, cond, not, ◌&&◌, length, get_or, eqb}
use Rattle.std.specs.List.{list_all}
use Rattle.lists.specs.Tests.{is_empty, member, tally}
use Rattle.model.specs.Outcome.{Outcome, accepted, refused}
use Rattle.model.specs.Plan.{Plan, adjacent, border}
use Rattle.model.specs.Sweep.{State, below, chordless}
use Rattle.sweep_theory.specs.Quick.{candidate, open_at}

-- how many contexts of a frontier touch c
unfoldable pub touching : Plan → List ℕ → ℕ → ℕ
touching p f c = tally (λ (u : ℕ). adjacent p u c) f

-- the first position that c touches, if it is one of the list l of i and j and touches no more than it must
unfoldable pub low_due : ℕ → ℕ → List ℕ → ℕ → ℕ
low_due i j l c = cond (eqb c (get_or l 0 0)) i (j - 1)

-- and the last
unfoldable pub high_due : ℕ → List ℕ → ℕ → ℕ
high_due j l c = cond (eqb c (get_or l (length l - 1) 0)) j (j - 1)

-- how many positions those are
unfoldable pub positions_due : ℕ → ℕ → List ℕ → ℕ → ℕ
positions_due i j l c = suc (high_due j l c - low_due i j l c)

-- c may be on the list l of i and j
unfoldable pub fair : Plan → State → ℕ → ℕ → List ℕ → ℕ → Bool
fair p s i j l c = not (border c) && (not (member c s.seen) && eqb (touching p s.frontier c) (positions_due i j l c))

-- l may be the list of i and j
unfoldable pub good : Plan → State → ℕ → ℕ → List ℕ → Bool
good p s i j l = not (is_empty l) && (list_all (fair p s i j l) l && chordless p l)

-- j is eligible with its candidate
unfoldable pub local : Plan → State → ℕ → Bool
local p s j = good p s (candidate p s.frontier j) j (below p s.frontier (j - 1))

-- of the positions below n, the largest that is, with its candidate
unfoldable pub pick : Plan → State → ℕ → Outcome (ℕ × ℕ)
pick p s zero = refused 14 0
pick p s (suc j) = let lower = pick p s j in cond (open_at p s.frontier j && local p s j) (accepted (candidate p s.frontier j, j)) lower
