-- Four trenches, and the table of what 01 says is to be shown of them.
use Rattle.std.specs.Prelude.{ℕ, ◌+◌, ◌%◌, ◌≡◌, List, [], ◌∷◌, ◌++◌, map, pos, Some, None}
use Rattle.lists.specs.Parts.{flatten}
use Rattle.model.specs.Outcome.{Outcome, accepted, refused, passed, ◌>>=◌, mapped}
use Rattle.model.specs.Plan.{Plan, faces}
use Rattle.model.specs.Labels.{labels_around, label_rules}
use Rattle.model.specs.Chart.{Chart, chart}
use Rattle.model.specs.Geometry.{area, areas}
use Rattle.model.specs.Sweep.{sweep}
use Rattle.model.specs.Turn.{turn}
use Rattle.model.specs.Scan.{scan}

-- the rings of trench A
abbrev pub rings_a : List (List ℕ)
rings_a = (1 ∷ 4 ∷ 3 ∷ []) ∷ (2 ∷ 4 ∷ 0 ∷ []) ∷ (3 ∷ 4 ∷ 1 ∷ []) ∷ (0 ∷ 4 ∷ 2 ∷ []) ∷ (0 ∷ 1 ∷ 2 ∷ 3 ∷ []) ∷ []

-- trench A
abbrev pub A : Plan
A = record { rings = rings_a }

-- trench B
abbrev pub B : Plan
B = record { rings = (1 ∷ 5 ∷ 3 ∷ []) ∷ (2 ∷ 4 ∷ 5 ∷ 0 ∷ []) ∷ (3 ∷ 4 ∷ 1 ∷ []) ∷ (0 ∷ 5 ∷ 4 ∷ 2 ∷ []) ∷ (5 ∷ 1 ∷ 2 ∷ 3 ∷ []) ∷ (0 ∷ 1 ∷ 4 ∷ 3 ∷ []) ∷ [] }

-- trench C
abbrev pub C : Plan
C = record { rings = (1 ∷ 5 ∷ 4 ∷ 3 ∷ []) ∷ (2 ∷ 4 ∷ 5 ∷ 0 ∷ []) ∷ (3 ∷ 4 ∷ 1 ∷ []) ∷ (0 ∷ 4 ∷ 2 ∷ []) ∷ (0 ∷ 5 ∷ 1 ∷ 2 ∷ 3 ∷ []) ∷ (0 ∷ 1 ∷ 4 ∷ []) ∷ [] }

-- D is A beside a torus of seven contexts, 5 + k for k from 0 to 6
abbrev pub ks : List ℕ
ks = 0 ∷ 1 ∷ 2 ∷ 3 ∷ 4 ∷ 5 ∷ 6 ∷ []

-- the ring of context 5 + k of the torus
abbrev pub ring_d : ℕ → List ℕ
ring_d k = map (λ (j : ℕ). 5 + (k + j) % 7) (1 ∷ 3 ∷ 2 ∷ 6 ∷ 4 ∷ 5 ∷ [])

-- trench D
abbrev pub D : Plan
D = record { rings = rings_a ++ map ring_d ks }

-- labels of A, then the torus labelled 0,0,1,2,2,3
abbrev pub labels_d : List ℕ → List ℕ
labels_d ls = ls ++ flatten (map (λ (k : ℕ). 0 ∷ 0 ∷ 1 ∷ 2 ∷ 2 ∷ 3 ∷ []) ks)

-- the chart of the swept labels
abbrev pub swept_chart : Plan → Outcome Chart
swept_chart p = sweep p >>= chart p

-- A row of the table: what is worked out, and what 01 says it is
pub record Row : Type 1 where
  pub sort : Type 0
  pub worked : sort
  pub said : sort

-- a row of what is worked out and what 01 says
abbrev pub row : {T : Type 0} → T → T → Row
row {T} a b = record { sort = T; worked = a; said = b }

-- every row of a table holds
abbrev pub Holds : List Row → Type 0
Holds [] = Unit {0}
Holds (r ∷ rs) = (r.worked ≡ r.said) × Holds rs

-- The table of what 01 says is to be shown
unfoldable pub worked_table : List Row
worked_table =
    -- A's sweep labels 4 as 0,1,2,3
    row (mapped (λ ls. labels_around A ls 4) (sweep A)) (accepted (0 ∷ 1 ∷ 2 ∷ 3 ∷ []))
    -- A's chart is 2 by 2 with 4 at (1,1)
    ∷ row (swept_chart A) (accepted (record { w = 2; h = 2; xs = 2 ∷ 2 ∷ 0 ∷ 0 ∷ 1 ∷ []; ys = 2 ∷ 0 ∷ 0 ∷ 2 ∷ 1 ∷ [] }))
    -- B's is 2 by 3 with 4 at (1,1), 5 at (1,2)
    ∷ row (swept_chart B) (accepted (record { w = 2; h = 3; xs = 2 ∷ 2 ∷ 0 ∷ 0 ∷ 1 ∷ 1 ∷ []; ys = 3 ∷ 0 ∷ 0 ∷ 3 ∷ 1 ∷ 2 ∷ [] }))
    -- face 3,4,5 in B has doubled area 1; B's areas sum to 12
    ∷ row (mapped (λ c. area c (3 ∷ 4 ∷ 5 ∷ [])) (swept_chart B)) (accepted (pos 1))
    ∷ row (mapped (λ c. areas c (faces B)) (swept_chart B)) (accepted (pos 12))
    -- turning 4,5 in B clockwise is 10 at 4
    ∷ row (sweep B >>= λ ls. turn B ls (4 ∷ 5 ∷ []) 0) (refused 10 4)
    -- scan of A and B names none; scan of C names 0,1,4
    ∷ row (scan A) None
    ∷ row (scan B) None
    ∷ row (scan C) (Some (0, 1, 4))
    -- sweep of C is 14
    ∷ row (sweep C) (refused 14 0)
    -- D's labels with A's swept ones pass; their chart is 11; sweep of D is 10 at 5
    ∷ row (sweep A >>= λ ls. label_rules D (labels_d ls)) passed
    ∷ row (sweep A >>= λ ls. chart D (labels_d ls)) (refused 11 0)
    ∷ row (sweep D) (refused 10 5)
    ∷ []
