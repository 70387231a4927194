-- Sums over the entries of a list.
use Prim.Native.Nat.{ℕ, ◌+◌}
use mathlib.Core.Path.{◌≡◌, refl, sym, ap, ap₂, ◌∙◌}
use mathlib.Core.List.Memᴰ
use mathlib.Core.List.{List, [], ◌∷◌, ◌++◌, map, Memᴰ}
use mathlib.Core.Logic.{◌⊎◌, inl, inr}
use mathlib.Core.Bool.{Bool, true, false, cond}
use native.Mathlib.Omega.{arith}
use Rattle.lists.specs.Tests.{tally}
use Rattle.lists.specs.Parts.{flatten}
use Rattle.lists.proofs.Bools.{both}
use Rattle.lists.proofs.Once.{Once, once-right, once-apart}
use Rattle.lists.proofs.Joins.{join_mem}

module _ {A : Type 0} where
  -- f a + f b + .. over the entries
  unfoldable pub total : (A → ℕ) → List A → ℕ
  total f [] = 0
  total f (a ∷ l) = f a + total f l

  pub total-append : (f : A → ℕ) (l m : List A) → total f (l ++ m) ≡ total f l + total f m
  unfolding total
  total-append f [] m = omega arith
  total-append f (a ∷ l) m = omega (arith, total-append f l m)

  -- term by term
  pub total-each : (f g : A → ℕ) (l : List A) → ((a : A) → Memᴰ a l → f a ≡ g a) → total f l ≡ total g l
  unfolding total
  total-each f g [] h = refl
  total-each f g (a ∷ l) h = ap₂ ◌+◌ (h a (Memᴰ.head refl)) (total-each f g l (λ b i. h b (Memᴰ.tail i)))

  pub total-add : (f g : A → ℕ) (l : List A) → total (λ a. f a + g a) l ≡ total f l + total g l
  unfolding total
  total-add f g [] = refl
  total-add f g (a ∷ l) = omega (arith, total-add f g l)

  -- a tally is a sum of ones
  pub tally-total : (t : A → Bool) (l : List A) → tally t l ≡ total (λ a. cond (t a) 1 0) l
  unfolding total
  tally-total t [] = refl
  tally-total t (a ∷ l) = ap (cond (t a) 1 0 +◌) (tally-total t l)

  pub tally-none : (t : A → Bool) (l : List A) → ((a : A) → Memᴰ a l → t a ≡ false) → tally t l ≡ 0
  tally-none t [] h = refl
  tally-none t (a ∷ l) h = rw (h a (Memᴰ.head refl)) (omega (arith, tally-none t l (λ b i. h b (Memᴰ.tail i))))

pub total-map : {A B : Type 0} (f : B → ℕ) (g : A → B) (l : List A) → total f (map g l) ≡ total (λ a. f (g a)) l
unfolding total
total-map f g [] = refl
total-map f g (a ∷ l) = ap (f (g a) +◌) (total-map f g l)

pub total_join : {A B : Type 0} (f : B → ℕ) (g : A → List B) (l : List A) → total f (flatten (map g l)) ≡ total (λ a. total f (g a)) l
unfolding total
total_join f g [] = refl
total_join f g (a ∷ l) = total-append f (g a) (flatten (map g l)) ∙ ap (total f (g a) +◌) (total_join f g l)

-- a list less the entry at a place
module _ {A : Type 0} (a : A) where
  without : (l : List A) → Memᴰ a l → List A
  without [] x' = elim x' [ ]
  without (b ∷ l) (Memᴰ.head e) = l
  without (b ∷ l) (Memᴰ.tail i) = b ∷ without l i

  total_without : (f : A → ℕ) (l : List A) (i : Memᴰ a l) → total f l ≡ f a + total f (without l i)
  unfolding without total
  total_without f [] i = elim i [ ]
  total_without f (b ∷ l) (Memᴰ.head e) = ap (λ (c : A). f c + total f l) (sym e)
  total_without f (b ∷ l) (Memᴰ.tail i) = omega (arith, total_without f l i)

  without_mem : (l : List A) (i : Memᴰ a l) (c : A) → Memᴰ c (without l i) → Memᴰ c l
  unfolding without
  without_mem [] i c j = elim i [ ]
  without_mem (b ∷ l) (Memᴰ.head e) c j = Memᴰ.tail j
  without_mem (b ∷ l) (Memᴰ.tail i) c (Memᴰ.head q) = Memᴰ.head q
  without_mem (b ∷ l) (Memᴰ.tail i) c (Memᴰ.tail j) = Memᴰ.tail (without_mem l i c j)

  mem_without : (l : List A) (i : Memᴰ a l) (c : A) → Memᴰ c l → (c ≡ a) ⊎ Memᴰ c (without l i)
  unfolding without
  mem_without [] i c _ = elim i [ ]
  mem_without (b ∷ l) (Memᴰ.head e) c (Memᴰ.head q) = inl (q ∙ sym e)
  mem_without (b ∷ l) (Memᴰ.head e) c (Memᴰ.tail j) = inr j
  mem_without (b ∷ l) (Memᴰ.tail i) c (Memᴰ.head q) = inr (Memᴰ.head q)
  mem_without (b ∷ l) (Memᴰ.tail i) c (Memᴰ.tail j) = go (mem_without l i c j)
    where
      go : (c ≡ a) ⊎ Memᴰ c (without l i) → (c ≡ a) ⊎ Memᴰ c (b ∷ without l i)
      go (inl q) = inl q
      go (inr k) = inr (Memᴰ.tail k)

  once_without : (l : List A) (i : Memᴰ a l) → Once l → Once (without l i) × (Memᴰ a (without l i) → ⊥)
  unfolding without
  once_without [] i o = elim i [ ]
  once_without (b ∷ l) (Memᴰ.head e) o = (o.1, λ j. o.0 (Memᴰ.cast (sym e) j))
  once_without (b ∷ l) (Memᴰ.tail i) o = let (s, n) = once_without l i o.1 in (((λ j. o.0 (without_mem l i b j)), s), λ j. go n j)
    where
      go : (Memᴰ a (without l i) → ⊥) → Memᴰ a (b ∷ without l i) → ⊥
      go n (Memᴰ.head q) = o.0 (Memᴰ.cast (sym q) i)
      go n (Memᴰ.tail j) = n j

module _ {A : Type 0} where
  -- the same entries, each once, in any order
  pub record SameEntries (l m : List A) : Type 0 where
    pub left_once : Once l
    pub right_once : Once m
    pub there : (a : A) → Memᴰ a l → Memᴰ a m
    pub back : (a : A) → Memᴰ a m → Memᴰ a l

  -- so the sums are the same
  pub total-same : (f : A → ℕ) (l m : List A) → SameEntries l m → total f l ≡ total f m
  unfolding total
  total-same f [] [] s = refl
  total-same f [] (b ∷ m) s = absurd (Memᴰ.not-nil (s.back b (Memᴰ.head refl)))
  total-same f (a ∷ l) m s =
      let i = s.there a (Memᴰ.head refl) in
      let (once, gone) = once_without a m i s.right_once in
      ap (f a +◌) (total-same f l (without a m i) (record {
        left_once = s.left_once.1;
        right_once = once;
        there = λ b j. there b j i (mem_without a m i b (s.there b (Memᴰ.tail j)));
        back = λ b j. back b i gone j (s.back b (without_mem a m i b j));
      })) ∙ sym (total_without a f m i)
    where
      there : (b : A) → Memᴰ b l → (i : Memᴰ a m) → (b ≡ a) ⊎ Memᴰ b (without a m i) → Memᴰ b (without a m i)
      there b j i (inl e) = absurd (s.left_once.0 (Memᴰ.cast (sym e) j))
      there b j i (inr k) = k

      back : (b : A) (i : Memᴰ a m) → (Memᴰ a (without a m i) → ⊥) → Memᴰ b (without a m i) → Memᴰ b (a ∷ l) → Memᴰ b l
      back b i gone j (Memᴰ.head e) = absurd (gone (Memᴰ.cast (sym e) j))
      back b i gone j (Memᴰ.tail k) = k

-- an entry of lists joined in which nothing stands twice is in exactly one of them
pub tally_join : {A B : Type 0} (f : A → List B) (b : B) (test : A → Bool) → ((a : A) → test a ≡ true → Memᴰ b (f a)) → ((a : A) → Memᴰ b (f a) → test a ≡ true)
    → (l : List A) → Once (flatten (map f l)) → Memᴰ b (flatten (map f l)) → tally test l ≡ 1
tally_join f b test says said [] o m = absurd (Memᴰ.not-nil m)
tally_join {A} f b test says said (a ∷ l) o m = go (test a) refl (tally_join f b test says said l (once-right (f a) (flatten (map f l)) o))
  where
    none : Memᴰ b (f a) → (c : A) → Memᴰ c l → (t : Bool) → test c ≡ t → t ≡ false
    none i c j true e = absurd (once-apart (f a) (flatten (map f l)) o b i (join_mem f l c b j (says c e)))
    none i c j false e = refl

    rest : Memᴰ b (f a) ⊎ Memᴰ b (flatten (map f l)) → test a ≡ false → Memᴰ b (flatten (map f l))
    rest (inl i) e = both (test a) (said a i) e
    rest (inr j) e = j

    go : (t : Bool) → test a ≡ t → (Memᴰ b (flatten (map f l)) → tally test l ≡ 1) → cond t 1 0 + tally test l ≡ 1
    go true e r = omega (arith, tally-none test l (λ c j. none (says a e) c j (test c) refl))
    go false e r = omega (arith, r (rest (Memᴰ.append_cases (f a) m) e))
