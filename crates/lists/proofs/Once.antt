-- Lists in which no entry stands twice.
use Prim.Native.Nat.{ℕ, zero, suc}
use mathlib.Core.Path.{◌≡◌, refl, sym, ap, ◌∙◌}
use mathlib.Core.List.Memᴰ
use mathlib.Core.List.{List, [], ◌∷◌, ◌++◌, map, Memᴰ}
use mathlib.Core.Logic.{◌⊎◌, inl, inr}
use mathlib.Core.Bool.{false}
use native.Mathlib.Omega.{arith}
use Rattle.lists.specs.Tests.{member, repeats}
use Rattle.lists.specs.Ranges.{from}
use Rattle.lists.specs.Parts.{flatten}
use Rattle.lists.proofs.Bools.{or_no, both}
use Rattle.lists.proofs.Tests.{mem-member}
use Rattle.lists.proofs.Ranges.{mem-from}
use Rattle.lists.proofs.Joins.{mem_join}

module _ {A : Type 0} where
  -- no entry stands again after itself
  abbrev pub Once : List A → Type 0
  Once [] = Unit {0}
  Once (a ∷ l) = (Memᴰ a l → ⊥) × Once l

  pub once-append : (l m : List A) → Once l → Once m → ((a : A) → Memᴰ a l → Memᴰ a m → ⊥) → Once (l ++ m)
  once-append [] m h k apart = k
  once-append (a ∷ l) m h k apart = ((λ i. go (Memᴰ.append_cases l i)), once-append l m h.1 k (λ b i j. apart b (Memᴰ.tail i) j))
    where
      go : Memᴰ a l ⊎ Memᴰ a m → ⊥
      go (inl i) = h.0 i
      go (inr i) = apart a (Memᴰ.head refl) i

  -- and back: two lists joined
  pub once-left : (l m : List A) → Once (l ++ m) → Once l
  once-left [] m o = tt
  once-left (a ∷ l) m o = ((λ i. o.0 (Memᴰ.append_left m i)), once-left l m o.1)

  pub once-right : (l m : List A) → Once (l ++ m) → Once m
  once-right [] m o = o
  once-right (a ∷ l) m o = once-right l m o.1

  pub once-apart : (l m : List A) → Once (l ++ m) → (a : A) → Memᴰ a l → Memᴰ a m → ⊥
  once-apart [] m o a x3 j = elim x3 [ ]
  once-apart (b ∷ l) m o a (Memᴰ.head e) j = o.0 (Memᴰ.append_right l (Memᴰ.cast (sym e) j))
  once-apart (b ∷ l) m o a (Memᴰ.tail i) j = once-apart l m o.1 a i j

-- lists made from different entries and joined, if no two of them share an entry
pub once_join : {A B : Type 0} (f : A → List B) (l : List A) → Once l → ((a : A) → Memᴰ a l → Once (f a))
    → ((a c : A) (b : B) → Memᴰ a l → Memᴰ c l → Memᴰ b (f a) → Memᴰ b (f c) → a ≡ c) → Once (flatten (map f l))
once_join f [] o h same = tt
once_join f (a ∷ l) o h same =
    once-append (f a) (flatten (map f l)) (h a (Memᴰ.head refl))
    (once_join f l o.1 (λ c i. h c (Memᴰ.tail i)) (λ c d b i j. same c d b (Memᴰ.tail i) (Memᴰ.tail j)))
    (λ b i j. let (c, m, n) = mem_join f l b j in o.0 (Memᴰ.cast (same a c b (Memᴰ.head refl) (Memᴰ.tail m) i n) m))

-- a renaming that can be undone
pub once-map : {A B : Type 0} (f : A → B) (g : B → A) (l : List A) → ((a : A) → g (f a) ≡ a) → Once l → Once (map f l)
once-map f g [] back o = tt
once-map f g (a ∷ l) back o = ((λ i. let (c, j, e) = Memᴰ.of_map f l i in o.0 (Memᴰ.cast (sym (back a) ∙ ap g (sym e) ∙ back c) j)), once-map f g l back o.1)

pub once-from : (a k : ℕ) → Once (from a k)
once-from a zero = tt
once-from a (suc k) = ((λ i. let h = mem-from (suc a) k a i in omega arith), once-from (suc a) k)

-- what the test says of numbers
pub no_repeat_once : (l : List ℕ) → repeats l ≡ false → Once l
no_repeat_once [] e = tt
no_repeat_once (a ∷ l) e = let (out, rest) = or_no (member a l) (repeats l) e in ((λ i. both (member a l) (mem-member a l i) out), no_repeat_once l rest)
