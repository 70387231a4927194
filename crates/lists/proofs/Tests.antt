-- What the tests on lists say of the entries.
use Prim.Native.Nat.{ℕ}
use mathlib.Core.Path.{◌≡◌, refl, sym, ap, ◌∙◌, subst}
use mathlib.Core.List.{List, [], ◌∷◌, ◌++◌, map, Memᴰ}
use mathlib.Core.Bool.{Bool, true, false, ◌||◌, false≢true, or-true, or_assoc}
use lib.Dec.{eqb}
use borrow.Author.Tests.{eqb-true, eqb-false, eq-eqb, ne_eqb}
use Rattle.std.specs.List.{list_any, list_all}
use Rattle.lists.specs.Tests.{member, repeats, same_list}
use Rattle.lists.proofs.Bools.{or_no, no_or, and_yes, yes_and}

module _ {A : Type 0} (f : A → Bool) where
  pub none_of : (l : List A) → list_any f l ≡ false → (a : A) → Memᴰ a l → f a ≡ false
  none_of [] e a x'' = elim x'' [ ]
  none_of (b ∷ l) e a (Memᴰ.head q) = ap f q ∙ (or_no (f b) (list_any f l) e).0
  none_of (b ∷ l) e a (Memᴰ.tail m) = none_of l (or_no (f b) (list_any f l) e).1 a m

  pub of_none : (l : List A) → ((a : A) → Memᴰ a l → f a ≡ false) → list_any f l ≡ false
  of_none [] h = refl
  of_none (b ∷ l) h = no_or (f b) (list_any f l) (h b (Memᴰ.head refl)) (of_none l (λ a m. h a (Memᴰ.tail m)))

  pub list_any_of : (l : List A) → list_any f l ≡ true → (a : A) × Memᴰ a l × (f a ≡ true)
  list_any_of [] e = absurd (false≢true e)
  list_any_of (b ∷ l) e = go (list_any_of l) (f b) refl e
    where
      go : (list_any f l ≡ true → (a : A) × Memᴰ a l × (f a ≡ true)) → (t : Bool) → f b ≡ t → (t || list_any f l) ≡ true → (a : A) × Memᴰ a (b ∷ l) × (f a ≡ true)
      go r true q e = (b, Memᴰ.head refl, q)
      go r false q e = let (a, m, h) = r e in (a, Memᴰ.tail m, h)

  pub of_list_any : (l : List A) (a : A) → Memᴰ a l → f a ≡ true → list_any f l ≡ true
  of_list_any [] a x'' h = elim x'' [ ]
  of_list_any (b ∷ l) a (Memᴰ.head q) h = rw (← q, h)
  of_list_any (b ∷ l) a (Memᴰ.tail m) h = rw (of_list_any l a m h) (or-true (f b))

  pub list_all_of : (l : List A) → list_all f l ≡ true → (a : A) → Memᴰ a l → f a ≡ true
  list_all_of [] e a x'' = elim x'' [ ]
  list_all_of (b ∷ l) e a (Memᴰ.head q) = ap f q ∙ (and_yes (f b) (list_all f l) e).0
  list_all_of (b ∷ l) e a (Memᴰ.tail m) = list_all_of l (and_yes (f b) (list_all f l) e).1 a m

  pub of_list_all : (l : List A) → ((a : A) → Memᴰ a l → f a ≡ true) → list_all f l ≡ true
  of_list_all [] h = refl
  of_list_all (b ∷ l) h = yes_and (f b) (list_all f l) (h b (Memᴰ.head refl)) (of_list_all l (λ a m. h a (Memᴰ.tail m)))

  pub list_any-append : (l m : List A) → list_any f (l ++ m) ≡ (list_any f l || list_any f m)
  list_any-append [] m = refl
  list_any-append (a ∷ l) m = ap (λ (t : Bool). f a || t) (list_any-append l m) ∙ sym (or_assoc (f a) (list_any f l) (list_any f m))

-- two tests that agree
pub list_any_same : (f g : ℕ → Bool) (l : List ℕ) → ((a : ℕ) → f a ≡ g a) → list_any f l ≡ list_any g l
list_any_same f g [] h = refl
list_any_same f g (a ∷ l) h = λ i. h a i || list_any_same f g l h i

-- the four parts of two tests on an entry and on the others, grouped by the tests
regroup : (a b c d : Bool) → ((a || b) || (c || d)) ≡ ((a || c) || (b || d))
regroup true b c d = refl
regroup false true true d = refl
regroup false true false d = refl
regroup false false true d = refl
regroup false false false d = refl

-- either of two tests
pub list_any-or : (f g : ℕ → Bool) (l : List ℕ) → list_any (λ (a : ℕ). f a || g a) l ≡ (list_any f l || list_any g l)
list_any-or f g [] = refl
list_any-or f g (a ∷ l) = ap (λ (t : Bool). (f a || g a) || t) (list_any-or f g l) ∙ regroup (f a) (g a) (list_any f l) (list_any g l)

-- equality is the same both ways
pub eqb_swap : (a b : ℕ) → eqb a b ≡ eqb b a
eqb_swap a b = go (eqb a b) refl
  where
    go : (t : Bool) → eqb a b ≡ t → eqb a b ≡ eqb b a
    go true e = e ∙ sym (eq-eqb b a (sym (eqb-true a b e)))
    go false e = e ∙ sym (ne_eqb b a (λ h. eqb-false a b e (sym h)))

pub list_any-map : {A B : Type 0} (f : B → Bool) (g : A → B) (l : List A) → list_any (λ (a : A). f (g a)) l ≡ list_any f (map g l)
list_any-map f g [] = refl
list_any-map f g (a ∷ l) = ap (λ (t : Bool). f (g a) || t) (list_any-map f g l)

pub mem-member : (a : ℕ) (l : List ℕ) → Memᴰ a l → member a l ≡ true
mem-member a l m = of_list_any (eqb a) l a m (eq-eqb a a refl)

pub member-mem : (a : ℕ) (l : List ℕ) → member a l ≡ true → Memᴰ a l
member-mem a l e = let (b, m, q) = list_any_of (eqb a) l e in subst (λ (k : ℕ). Memᴰ k l) (sym (eqb-true a b q)) m

pub same-eq : (l m : List ℕ) → same_list l m ≡ true → l ≡ m
same-eq [] [] e = refl
same-eq [] (b ∷ m) e = absurd (false≢true e)
same-eq (a ∷ l) [] e = absurd (false≢true e)
same-eq (a ∷ l) (b ∷ m) e = let (p, q) = and_yes (eqb a b) (same_list l m) e in λ i. eqb-true a b p i ∷ same-eq l m q i

pub same_refl : (l : List ℕ) → same_list l l ≡ true
same_refl [] = refl
same_refl (a ∷ l) = rw (eq-eqb a a refl, same_refl l)

pub eq-same : (l m : List ℕ) → l ≡ m → same_list l m ≡ true
eq-same l m e = subst (λ (k : List ℕ). same_list l k ≡ true) e (same_refl l)

-- no entry stands twice in two lists joined
pub repeats-append : (l m : List ℕ) → repeats l ≡ false → repeats m ≡ false → list_any (λ (c : ℕ). member c m) l ≡ false → repeats (l ++ m) ≡ false
repeats-append [] m a b c = b
repeats-append (k ∷ l) m a b c =
    let (a₀, a₁) = or_no (member k l) (repeats l) a in
    let (c₀, c₁) = or_no (member k m) (list_any (λ (w : ℕ). member w m) l) c in
    no_or (member k (l ++ m)) (repeats (l ++ m)) (list_any-append (eqb k) l m ∙ no_or (member k l) (member k m) a₀ c₀) (repeats-append l m a₁ b c₁)

-- no repeat, and so none in the second part
pub repeats-right : (l m : List ℕ) → repeats (l ++ m) ≡ false → repeats m ≡ false
repeats-right [] m e = e
repeats-right (a ∷ l) m e = repeats-right l m (or_no (member a (l ++ m)) (repeats (l ++ m)) e).1
