-- Scan: the smallest triple of mutual neighbours that are no inner face.
-- Standard term: a separating triangle, where the plan lies flat.
use Rattle.std.specs.Prelude.{ℕ, suc, ◌-◌, List, [], ◌∷◌, map, Bool, not, ◌&&◌, ◌||◌, Option}
use Rattle.std.specs.List.{find}
use Rattle.lists.specs.Tests.{same_list}
use Rattle.lists.specs.Ranges.{from}
use Rattle.lists.specs.Parts.{flatten}
use Rattle.model.specs.Plan.{Plan, context_count, contexts, adjacent, on_inner_face, walk}

-- three contexts
abbrev pub Triple : Type 0
Triple = ℕ × ℕ × ℕ

-- the contexts after a
unfoldable pub contexts_after : Plan → ℕ → List ℕ
contexts_after p a = from (suc a) (context_count p - suc a)

-- the triples a < b < c, by a, then b, then c
unfoldable pub triples : Plan → List Triple
triples p = flatten (map (λ (a : ℕ). flatten (map (λ (b : ℕ). map (λ (c : ℕ). (a, b, c)) (contexts_after p b)) (contexts_after p a))) (contexts p))

-- the walk a, b, c is an inner face, where a and b are neighbours
unfoldable pub inner_face : Plan → ℕ → ℕ → ℕ → Bool
inner_face p a b c = on_inner_face p (a, b) && same_list (walk p (a, b)) (a ∷ b ∷ c ∷ [])

-- mutual neighbours that are no inner face, walked either way
unfoldable pub enclosing : Plan → Triple → Bool
enclosing p t =
    let (a, b, c) = t in
    adjacent p a b && adjacent p a c && adjacent p b c && not (inner_face p a b c || inner_face p a c b)

-- The scan: the first of the triples that encloses, or none
unfoldable pub scan : Plan → Option Triple
scan p = find (enclosing p) (triples p)

-- who unfolds this unfolds all of the above: for facts that are computed
unfoldable pub scan_computes : Unit {0}
unfolding contexts_after triples inner_face enclosing scan
scan_computes = tt
