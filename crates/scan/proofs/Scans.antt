-- The first triple that encloses, context by context: the first of rows of triples is the first of the first row that has one.
use Prim.Native.Nat.{ℕ, zero, suc, ◌+◌, ◌-◌}
use mathlib.Core.Path.{◌≡◌, refl, sym, ap, ◌∙◌}
use mathlib.Core.List.{List, [], ◌∷◌, map}
use mathlib.Core.Bool.{Bool, true, false, cond, ◌||◌}
use native.Mathlib.Numerals.{add-one}
use denote.Ref.{Bor}
use denote.Param.Members.{Mut}
use Rattle.std.specs.Prelude.{Option, Some, None, is_some, MatchOption}
use Rattle.std.specs.Bool.{⊤}
use Rattle.std.specs.Option.{option_map, option_and_then, option_or}
use Rattle.std.specs.declared.ops.Range.{Range}
use Rattle.std.specs.Iterator.{YieldsThen}
use Rattle.std.specs.Fn.{CalledAt}
use Rattle.std.specs.List.{FoldsTo, find, range_with_len, list_any}
use Rattle.std.proofs.iter.Yields.{nat_range_steps}
use Rattle.std.proofs.lemmas.Iterator.{YieldsList-from_range}
use Rattle.std.proofs.lemmas.Iterator.Search.{find_from_yields_List}
use Rattle.std.proofs.lemmas.List.Folds.{find-append}
use Rattle.lists.specs.Ranges.{from}
use Rattle.lists.specs.Parts.{flatten}
use Rattle.lists.proofs.Tests.{list_any-append, list_any-map}
use Rattle.model.specs.Plan.{Plan, contexts}
use Rattle.model.specs.Scan.{Triple, contexts_after, triples, enclosing, scan}
use Rattle.scan.specs.Scanned.{has_third, has_second}

-- ---- what `find` gives of the numbers from a up to e
pub range_from : (a k : ℕ) → range_with_len a k ≡ from a k
range_from a zero = refl
range_from a (suc k) = ap (a ∷◌) (range_from (a + 1) k ∙ ap (λ (b : ℕ). from b k) (add-one a))

same_option : (r : Option ℕ) → option_map (λ (x : ℕ). x) r ≡ r
same_option None = refl
same_option (Some x) = refl

pub find_in_range : {F : Type 0} {g : Mut F (Bor ℕ × Unit {0}) Bool} (test : ℕ → Bool) (a e : ℕ) (l : List ℕ) (u : Range ℕ) (f : F) (r : Option ℕ) → from a (e - a) ≡ l
    → (xs : List ℕ) × (j : F) × YieldsThen nat_range_steps (record { start = a; end = e }) xs r u × FoldsTo (λ p x q. CalledAt g p x false q) f xs j × MatchOption r ⊤ (λ x. (h : F) × CalledAt g j x true h)
    → ((x : ℕ) (b : Bool) (q : F) → CalledAt g f x b q → (q ≡ f) × (b ≡ test x))
    → find test l ≡ r
find_in_range test a e l u f r is ran told =
    ap (find test) (sym (range_from a (e - a) ∙ is)) ∙ sym (find_from_yields_List test u f r ran (YieldsList-from_range a e (e - a) refl refl) told) ∙ same_option r

-- ---- what `find` gives of rows of elements
module _ {A : Type 0} (test : A → Bool) where
  -- there is a first exactly where some element passes
  found-any : (l : List A) → is_some (find test l) ≡ list_any test l
  found-any [] = refl
  found-any (x ∷ l) = go (test x) (found-any l)
    where
      go : (t : Bool) → is_some (find test l) ≡ list_any test l → is_some (cond t (Some x) (find test l)) ≡ (t || list_any test l)
      go true r = refl
      go false r = r

  -- the first of the row that is picked
  abbrev pub of_row : (ℕ → List A) → Option ℕ → Option A
  of_row row o = option_and_then (λ (x : ℕ). find test (row x)) o

  module _ (row : ℕ → List A) (has : ℕ → Bool) (says : (x : ℕ) → has x ≡ list_any test (row x)) where
    -- a row that has such an element settles it, and one that has none is passed over
    first_row : (l : List ℕ) → find test (flatten (map row l)) ≡ of_row row (find has l)
    first_row [] = refl
    first_row (x ∷ l) = find-append test (row x) (flatten (map row l)) ∙ go (find test (row x)) refl (says x ∙ sym (found-any (row x))) (first_row l)
      where
        go : (o : Option A) → find test (row x) ≡ o → has x ≡ is_some o → find test (flatten (map row l)) ≡ of_row row (find has l)
            → option_or o (find test (flatten (map row l))) ≡ of_row row (cond (has x) (Some x) (find has l))
        go None q e r = r ∙ ap (λ (t : Bool). of_row row (cond t (Some x) (find has l))) (sym e)
        go (Some a) q e r = sym q ∙ ap (λ (t : Bool). of_row row (cond t (Some x) (find has l))) (sym e)

    any_row : (l : List ℕ) → list_any has l ≡ list_any test (flatten (map row l))
    any_row [] = refl
    any_row (x ∷ l) = (λ i. says x i || any_row l i) ∙ sym (list_any-append test (row x) (flatten (map row l)))

  -- of the elements that f makes of numbers
  found-map : (f : ℕ → A) (l : List ℕ) → find test (map f l) ≡ option_map f (find (λ (x : ℕ). test (f x)) l)
  found-map f [] = refl
  found-map f (x ∷ l) = go (test (f x)) (found-map f l)
    where
      go : (t : Bool) → find test (map f l) ≡ option_map f (find (λ (y : ℕ). test (f y)) l)
          → cond t (Some (f x)) (find test (map f l)) ≡ option_map f (cond t (Some x) (find (λ (y : ℕ). test (f y)) l))
      go true r = refl
      go false r = r

module _ (p : Plan) where
  -- the triples with a and b, and those with a
  abbrev pub thirds : ℕ → ℕ → List Triple
  thirds a b = map (λ (c : ℕ). (a, b, c)) (contexts_after p b)

  abbrev pub seconds : ℕ → List Triple
  seconds a = flatten (map (thirds a) (contexts_after p a))

  third_says : (a b : ℕ) → has_third p a b ≡ list_any (enclosing p) (thirds a b)
  unfolding has_third
  third_says a b = list_any-map (enclosing p) (λ (c : ℕ). (a, b, c)) (contexts_after p b)

  second_says : (a : ℕ) → has_second p a ≡ list_any (enclosing p) (seconds a)
  unfolding has_second
  second_says a = any_row (enclosing p) (thirds a) (has_third p a) (third_says a) (contexts_after p a)

  -- ---- what is found of first, second and third contexts says what the scan is
  pub by_first : (o : Option ℕ) → find (has_second p) (contexts p) ≡ o → of_row (enclosing p) seconds o ≡ scan p
  unfolding scan triples
  by_first o e = sym (first_row (enclosing p) seconds (has_second p) second_says (contexts p) ∙ ap (of_row (enclosing p) seconds) e)

  module _ (a : ℕ) (first : find (has_second p) (contexts p) ≡ Some a) where
    pub by_second : (o : Option ℕ) → find (has_third p a) (contexts_after p a) ≡ o → of_row (enclosing p) (thirds a) o ≡ scan p
    by_second o e = sym (first_row (enclosing p) (thirds a) (has_third p a) (third_says a) (contexts_after p a) ∙ ap (of_row (enclosing p) (thirds a)) e) ∙ by_first (Some a) first

    module _ (b : ℕ) (second : find (has_third p a) (contexts_after p a) ≡ Some b) where
      pub by_third : (o : Option ℕ) → find (λ (c : ℕ). enclosing p (a, b, c)) (contexts_after p b) ≡ o → option_map (λ (c : ℕ). (a, b, c)) o ≡ scan p
      by_third o e = let third : ℕ → Triple = λ c. (a, b, c) in sym (found-map (enclosing p) third (contexts_after p b) ∙ ap (option_map third) e) ∙ by_second (Some b) second
