-- Labels: 0 up, 1 right, 2 down, 3 left, 4 between border contexts; and the label rules, 10.
-- Standard terms: accepted labels are a transversal structure (regular edge labelling). Up is outgoing red, right outgoing blue, down ingoing red, left ingoing blue.
use Rattle.std.specs.Prelude.{ℕ, ◌+◌, ◌%◌, List, [], ◌∷◌, Bool, cond, not, ◌&&◌, ◌||◌, length, get_or, set, take, drop, eqb, ltb}
use Rattle.std.specs.List.{list_any}
use Rattle.lists.specs.Tests.{same_list}
use Rattle.lists.specs.Parts.{flatten, index_of, squeeze, rotations}
use Rattle.model.specs.Outcome.{Outcome, rule}
use Rattle.model.specs.Plan.{Plan, entries, ring, context_count, border, adjacent}

-- the label up
abbrev pub up : ℕ
up = 0

-- the label right
abbrev pub right : ℕ
right = 1

-- the label down
abbrev pub down : ℕ
down = 2

-- the label left
abbrev pub left : ℕ
left = 3

-- the label of a dart between border contexts
abbrev pub border_label : ℕ
border_label = 4

-- what stands where there is no label
abbrev pub unlabelled : ℕ
unlabelled = 5

-- The labels of all darts stand in one list, all rings in context order: where u's part begins
unfoldable pub start : Plan → ℕ → ℕ
start p u = length (flatten (take u p.rings))

-- the labels of the darts that leave u, in ring order
unfoldable pub labels_around : Plan → List ℕ → ℕ → List ℕ
labels_around p ls u = take (length (entries p u)) (drop (start p u) ls)

-- the label of the dart from u to v
unfoldable pub label_of : Plan → List ℕ → ℕ → ℕ → ℕ
label_of p ls u v = get_or (labels_around p ls u) (index_of v (ring p u)) unlabelled

-- a label turned clockwise by some quarters
abbrev pub turned : ℕ → ℕ → ℕ
turned l quarters = (l + quarters) % 4

-- the dart from u to v breaks this: 4 stands between border contexts, and only there; elsewhere a dart and its reverse differ by two quarters
unfoldable pub bad_dart : Plan → List ℕ → ℕ → ℕ → Bool
bad_dart p ls u v =
    let l = label_of p ls u v in
    not (cond (border u && border v) (eqb l border_label) (ltb l 4 && eqb (label_of p ls v u) (turned l 2)))

-- four runs, none empty: up, right, down, left; the ring may begin inside a run
unfoldable pub four_runs : List ℕ → Bool
four_runs r = list_any (λ (t : List ℕ). same_list (squeeze t) (up ∷ right ∷ down ∷ left ∷ [])) (rotations r)

-- inner darts leaving North are down, East left, South up, West right
unfoldable pub due : ℕ → ℕ
due u = get_or (down ∷ left ∷ up ∷ right ∷ []) u unlabelled

-- an inner dart that leaves the border context u has another label than is due
unfoldable pub not_due : Plan → List ℕ → ℕ → ℕ → Bool
not_due p ls u v = not (border v || eqb (label_of p ls u v) (due u))

-- a border context's inner darts are not all due, or an inner context's labels are not four runs
unfoldable pub bad_ring : Plan → List ℕ → ℕ → Bool
bad_ring p ls u = cond (border u) (list_any (not_due p ls u) (ring p u)) (not (four_runs (labels_around p ls u)))

-- a context breaks the rules if one of its darts or its ring does
unfoldable pub breaks : Plan → List ℕ → ℕ → Bool
breaks p ls u = list_any (bad_dart p ls u) (ring p u) || bad_ring p ls u

-- The label rules: 10 at the lowest context that breaks them
unfoldable pub label_rules : Plan → List ℕ → Outcome (Unit {0})
label_rules p ls = rule 10 (context_count p) (breaks p ls)

-- label l put on the dart from u to v, if there is one
unfoldable pub put_label : Plan → ℕ → ℕ → ℕ → List ℕ → List ℕ
put_label p u v l ls = cond (adjacent p u v) (set ls (start p u + index_of v (ring p u)) l) ls

-- who unfolds this unfolds all of the above: for facts that are computed
unfoldable pub labels_computes : Unit {0}
unfolding start labels_around label_of bad_dart four_runs due not_due bad_ring breaks label_rules put_label
labels_computes = tt
