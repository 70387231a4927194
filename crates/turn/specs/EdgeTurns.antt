-- The turn as the engine runs it, on arrays: what the functions of src/ compute.
use Rattle.std.specs.Prelude.{ℕ, ◌+◌, List, Bool, cond, not, ◌&&◌, ◌||◌, Option, Some, None, length, get_or, set, eqb}
use Rattle.lists.specs.Parts.{index_of}
use Rattle.model.specs.Outcome.{Outcome, accepted, ◌>>◌, rule}
use Rattle.model.specs.Plan.{Plan, Dart, ring, adjacent, border}
use Rattle.model.specs.Labels.{unlabelled, start, turned}
use Rattle.model.specs.Turn.{bad_pair, turned_edges}

-- where the label of the dart from u to v stands, if there is a dart
unfoldable pub label_position : Plan → ℕ → ℕ → Option ℕ
label_position p u v = cond (adjacent p u v) (Some (start p u + index_of v (ring p u))) None

-- the label at a position turned; past the last label there is nothing to turn
unfoldable pub turn_at : ℕ → ℕ → List ℕ → List ℕ
turn_at q i ls = set ls i (turned (get_or ls i unlabelled) q)

-- the dart from u to v, whose label stands at a position, is no inner dart, or its label has changed
unfoldable pub bad_at : List ℕ → List ℕ → ℕ → ℕ → ℕ → Bool
bad_at old new i u v = border u && border v || not (eqb (get_or new i unlabelled) (get_or old i unlabelled))

-- the position of a dart's label, if there is a dart and it is not bad
unfoldable pub unturned : List ℕ → List ℕ → ℕ → ℕ → Option ℕ → Option ℕ
unturned old new u v None = None
unturned old new u v (Some i) = cond (bad_at old new i u v) None (Some i)

-- the labels after each edge is turned, or 15 at the first bad pair
unfoldable pub pairs_turned : Plan → ℕ → List Dart → List ℕ → Outcome (List ℕ)
pairs_turned p q es ls = rule 15 (length es) (bad_pair p es) >> accepted (turned_edges p q es ls)
