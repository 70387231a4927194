-- Contexts, rings, faces: the plan, and the plan rules 4 to 9.
-- Standard terms: a plan that keeps 4, 5 and 6 is a rotation system of a simple graph. A context is a vertex, a contact an edge, a ring the clockwise rotation at a vertex, a dart a directed edge, a face an orbit of the face step.
use Rattle.std.specs.Prelude.{ℕ, suc, ◌+◌, ◌-◌, ◌*◌, ◌%◌, List, [], ◌∷◌, ◌++◌, map, Bool, cond, not, ◌&&◌, ◌||◌, length, get_or, take, drop, eqb, ltb, leb}
use Rattle.std.specs.List.{list_any}
use Rattle.lists.specs.Tests.{member, repeats}
use Rattle.lists.specs.Ranges.{from}
use Rattle.lists.specs.Parts.{flatten, index_of, before}
use Rattle.model.specs.Outcome.{Outcome, ◌>>◌, require, rule}

-- A plan: the ring of each context, in context order
pub record Plan : Type 0 where
  pub rings : List (List ℕ)

-- n, the number of contexts
abbrev pub context_count : Plan → ℕ
context_count p = length p.rings

-- the contexts are numbered 0 to n − 1
abbrev pub contexts : Plan → List ℕ
contexts p = from 0 (context_count p)

-- the border contexts: North
abbrev pub north : ℕ
north = 0

-- East
abbrev pub east : ℕ
east = 1

-- South
abbrev pub south : ℕ
south = 2

-- West
abbrev pub west : ℕ
west = 3

-- u is a border context
abbrev pub border : ℕ → Bool
border u = ltb u 4

-- the neighbour that a ring entry names
unfoldable pub neighbour : ℕ → ℕ
neighbour e = e

-- u's ring as it is given
unfoldable pub entries : Plan → ℕ → List ℕ
entries p u = get_or p.rings u []

-- u's neighbours, clockwise
unfoldable pub ring : Plan → ℕ → List ℕ
ring p u = map neighbour (entries p u)

-- u lists v
unfoldable pub adjacent : Plan → ℕ → ℕ → Bool
adjacent p u v = member v (ring p u)

-- Each ordered pair of neighbours is a dart
abbrev pub Dart : Type 0
Dart = ℕ × ℕ

-- the darts that leave u, clockwise
unfoldable pub darts_from : Plan → ℕ → List Dart
darts_from p u = map (λ (v : ℕ). (u, v)) (ring p u)

-- all darts, in context order
unfoldable pub darts : Plan → List Dart
darts p = flatten (map (darts_from p) (contexts p))

-- the two darts are one
abbrev pub same_dart : Dart → Dart → Bool
same_dart d e = eqb d.0 e.0 && eqb d.1 e.1

-- a ring read clockwise from the entry after a, round to the entry before a; all of it, if a is not in it
unfoldable pub onward : ℕ → List ℕ → List ℕ
onward a r = drop (suc (index_of a r)) r ++ take (index_of a r) r

-- the entry after a, the ring closing on itself
unfoldable pub next : ℕ → List ℕ → ℕ
next a r = get_or (onward a r) 0 a

-- the entries strictly between a and b, clockwise
unfoldable pub strictly_between : ℕ → ℕ → List ℕ → List ℕ
strictly_between a b r = before b (onward a r)

-- The face step: the dart from u to v is followed by the dart from v to the entry after u in v's ring
unfoldable pub step : Plan → Dart → Dart
step p d = (d.1, next d.0 (ring p d.1))

-- North to East, East to South, South to West, West to North
unfoldable pub outer : Dart → Bool
outer d = border d.0 && eqb d.1 ((d.0 + 1) % 4)

-- the dart comes back to itself after three face steps
unfoldable pub closes : Plan → Dart → Bool
closes p d = same_dart (step p (step p (step p d))) d

-- 4: an entry is not below n, or is the context itself
unfoldable pub bad_entry : Plan → ℕ → Bool
bad_entry p u = list_any (λ (v : ℕ). leb (context_count p) v || eqb v u) (ring p u)

-- 5: a ring repeats an entry
unfoldable pub bad_repeat : Plan → ℕ → Bool
bad_repeat p u = repeats (ring p u)

-- 6: u lists some v that does not list u
unfoldable pub unreturned : Plan → ℕ → Bool
unreturned p u = list_any (λ (v : ℕ). not (adjacent p v u)) (ring p u)

-- 7: how many entries all rings together have
unfoldable pub entry_count : Plan → ℕ
entry_count p = length (flatten p.rings)

-- how many entries a plan of n contexts must have
abbrev pub dart_count : ℕ → ℕ
dart_count n = 6 * n - 14

-- how many labels a plan takes: one for each of its darts, if it keeps 7
abbrev pub labels_due : Plan → ℕ
labels_due p = dart_count (context_count p)

-- 8: a border ring does not begin with the next border context or does not end with the one before, or it lists the one across
unfoldable pub bad_border : Plan → ℕ → Bool
bad_border p u =
    let r = ring p u in
    not (eqb (get_or r 0 u) ((u + 1) % 4) && eqb (get_or r (length r - 1) u) ((u + 3) % 4) && not (member ((u + 2) % 4) r))

-- 9: a dart that leaves u is not outer and does not come back to itself after three steps
unfoldable pub bad_face : Plan → ℕ → Bool
bad_face p u = list_any (λ (d : Dart). not (outer d || closes p d)) (darts_from p u)

-- The plan rules, each tested over the whole table before the next
unfoldable pub plan_rules : Plan → Outcome (Unit {0})
plan_rules p = do
  rule 4 (context_count p) (bad_entry p)
  rule 5 (context_count p) (bad_repeat p)
  rule 6 (context_count p) (unreturned p)
  require (eqb (entry_count p) (dart_count (context_count p))) 7 0
  rule 8 4 (bad_border p)
  rule 9 (context_count p) (bad_face p)

-- A face, walked counterclockwise: the contexts that its darts leave
abbrev pub Face : Type 0
Face = List ℕ

-- the walk of three darts that begins with this one
unfoldable pub walk : Plan → Dart → Face
walk p d = d.0 ∷ d.1 ∷ (step p d).1 ∷ []

-- the walk that begins with a dart is an inner face
unfoldable pub on_inner_face : Plan → Dart → Bool
on_inner_face p d = not (outer d) && closes p d

-- the inner faces whose lowest context is a, each once, walked from it
unfoldable pub faces_from : Plan → ℕ → List Face
faces_from p a = flatten (map (λ (d : Dart). cond (on_inner_face p d && ltb a d.1 && ltb a (step p d).1) (walk p d ∷ []) []) (darts_from p a))

-- all inner faces
unfoldable pub faces : Plan → List Face
faces p = flatten (map (faces_from p) (contexts p))

-- an edge is inner unless both its ends are border contexts
unfoldable pub inner_edge : Plan → ℕ → ℕ → Bool
inner_edge p u v = adjacent p u v && not (border u && border v)

-- who unfolds this unfolds all of the above: for facts that are computed
unfoldable pub plan_computes : Unit {0}
unfolding neighbour entries ring adjacent darts_from darts onward next strictly_between step outer closes bad_entry bad_repeat unreturned entry_count bad_border bad_face plan_rules walk on_inner_face faces_from faces inner_edge
plan_computes = tt
