-- The entries of lists made from entries and joined.
use mathlib.Core.Path.{refl, subst}
use mathlib.Core.List.Memᴰ
use mathlib.Core.List.{List, [], ◌∷◌, map, Memᴰ}
use mathlib.Core.Logic.{◌⊎◌, inl, inr}
use Rattle.lists.specs.Parts.{flatten}

module _ {A B : Type 0} (f : A → List B) where
  pub join_mem : (l : List A) (a : A) (b : B) → Memᴰ a l → Memᴰ b (f a) → Memᴰ b (flatten (map f l))
  join_mem [] a b x'' m = elim x'' [ ]
  join_mem (c ∷ l) a b (Memᴰ.head q) m = Memᴰ.append_left (flatten (map f l)) (subst (λ (e : A). Memᴰ b (f e)) q m)
  join_mem (c ∷ l) a b (Memᴰ.tail n) m = Memᴰ.append_right (f c) (join_mem l a b n m)

  pub mem_join : (l : List A) (b : B) → Memᴰ b (flatten (map f l)) → (a : A) × Memᴰ a l × Memᴰ b (f a)
  mem_join [] b m = elim m [ ]
  mem_join (a ∷ l) b m = go (mem_join l b) (Memᴰ.append_cases (f a) m)
    where
      go : (Memᴰ b (flatten (map f l)) → (c : A) × Memᴰ c l × Memᴰ b (f c)) → Memᴰ b (f a) ⊎ Memᴰ b (flatten (map f l)) → (c : A) × Memᴰ c (a ∷ l) × Memᴰ b (f c)
      go r (inl h) = (a, Memᴰ.head refl, h)
      go r (inr h) = let (c, n, k) = r h in (c, Memᴰ.tail n, k)
