-- Joined lists: a renaming of them, and joins of joins.
use mathlib.Core.Path.{◌≡◌, refl, sym, ap, ◌∙◌}
use mathlib.Core.List.{List, [], ◌∷◌, ◌++◌, map, append_assoc}
use Rattle.lists.specs.Parts.{flatten}

pub map-append : {A B : Type 0} (g : A → B) (l m : List A) → map g (l ++ m) ≡ map g l ++ map g m
map-append g [] m = refl
map-append {A} {B} g (a ∷ l) m = ap (λ (k : List B). g a ∷ k) (map-append g l m)

pub flatten-append : {A : Type 0} (l m : List (List A)) → flatten (l ++ m) ≡ flatten l ++ flatten m
flatten-append [] m = refl
flatten-append (a ∷ l) m = ap (a ++◌) (flatten-append l m) ∙ sym (append_assoc a (flatten l) (flatten m))

-- lists of lists, each joined and then all joined
pub join_join : {A B C : Type 0} (f : B → List C) (g : A → List B) (l : List A) → flatten (map f (flatten (map g l))) ≡ flatten (map (λ (a : A). flatten (map f (g a))) l)
join_join f g [] = refl
join_join f g (a ∷ l) = ap flatten (map-append f (g a) (flatten (map g l))) ∙ flatten-append (map f (g a)) (map f (flatten (map g l))) ∙ ap (flatten (map f (g a)) ++◌) (join_join f g l)
