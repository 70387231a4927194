-- Turn: both darts of each named edge by a quarter; 15, then 10.
use Rattle.std.specs.Prelude.{ℕ, ◌%◌, List, [], ◌∷◌, Bool, cond, not, ◌||◌, length, get_or, take, eqb, ltb}
use Rattle.std.specs.List.{list_any}
use Rattle.lists.specs.Parts.{pairs}
use Rattle.model.specs.Outcome.{Outcome, accepted, ◌>>◌, require, rule}
use Rattle.model.specs.Plan.{Plan, Dart, inner_edge, same_dart}
use Rattle.model.specs.Labels.{label_of, turned, put_label, label_rules}

-- the dart the other way
abbrev pub reverse_dart : Dart → Dart
reverse_dart d = (d.1, d.0)

-- the same edge, named in either order
unfoldable pub same_edge : Dart → Dart → Bool
same_edge d e = same_dart d e || same_dart d (reverse_dart e)

-- pair k is not an inner edge, or was named before in either order
unfoldable pub bad_pair : Plan → List Dart → ℕ → Bool
bad_pair p es k = let e = get_or es k (0, 0) in not (inner_edge p e.0 e.1) || list_any (same_edge e) (take k es)

-- direction 0 is clockwise, one quarter more; 1 is counterclockwise, one quarter less
abbrev pub quarters : ℕ → ℕ
quarters direction = cond (eqb direction 0) 1 3

-- the dart's label turned
unfoldable pub turn_dart : Plan → ℕ → Dart → List ℕ → List ℕ
turn_dart p q d ls = put_label p d.0 d.1 (turned (label_of p ls d.0 d.1) q) ls

-- both darts of each edge turned
unfoldable pub turned_edges : Plan → ℕ → List Dart → List ℕ → List ℕ
turned_edges p q [] ls = ls
turned_edges p q (e ∷ es) ls = turned_edges p q es (turn_dart p q e (turn_dart p q (reverse_dart e) ls))

-- The labels after a turn: the first bad pair, then an odd item over, then a direction above 1 (15); then the label rules (10)
unfoldable pub turn : Plan → List ℕ → List ℕ → ℕ → Outcome (List ℕ)
turn p ls items direction =
    let es = pairs items in
    let ms = turned_edges p (quarters direction) es ls in
    do
      rule 15 (length es) (bad_pair p es)
      require (eqb (length items % 2) 0) 15 (length es)
      require (ltb direction 2) 15 (length es)
      label_rules p ms
      accepted ms

-- who unfolds this unfolds all of the above: for facts that are computed
unfoldable pub turn_computes : Unit {0}
unfolding same_edge bad_pair turn_dart turned_edges turn
turn_computes = tt
