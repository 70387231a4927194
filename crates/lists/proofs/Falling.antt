-- Lists whose entries fall in some order: each entry is above all later ones.
use mathlib.Core.Path.{refl, subst}
use mathlib.Core.List.Memᴰ
use mathlib.Core.List.{List, [], ◌∷◌, ◌++◌, map, Memᴰ}
use mathlib.Core.Logic.{◌⊎◌, inl, inr}
use Prim.Native.Nat.{ℕ, zero, suc, ◌<◌}
use Rattle.lists.specs.Ranges.{countdown}
use Rattle.lists.specs.Parts.{flatten}
use Rattle.lists.proofs.Members.{mem-countdown}
use Rattle.lists.proofs.Joins.{mem_join}

module _ {A : Type 0} (Below : A → A → Type 0) where
  abbrev pub Falling : List A → Type 0
  Falling [] = Unit {0}
  Falling (a ∷ l) = ((b : A) → Memᴰ b l → Below b a) × Falling l

  pub falling_append : (l m : List A) → Falling l → Falling m → ((a b : A) → Memᴰ a l → Memᴰ b m → Below b a) → Falling (l ++ m)
  falling_append [] m h k c = k
  falling_append (a ∷ l) m h k c = (λ b n. go b (Memᴰ.append_cases l n), falling_append l m h.1 k (λ d b n. c d b (Memᴰ.tail n)))
    where
      go : (b : A) → Memᴰ b l ⊎ Memᴰ b m → Below b a
      go b (inl n) = h.0 b n
      go b (inr n) = c a b (Memᴰ.head refl) n

  -- what falls with the numbers of a countdown falls
  pub falling_countdown : (f : ℕ → A) → ((i j : ℕ) → i < j → Below (f i) (f j)) → (k : ℕ) → Falling (map f (countdown k))
  falling_countdown f h zero = tt
  falling_countdown f h (suc k) = (λ b m. let (i, n, e) = Memᴰ.of_map f (countdown k) m in subst (λ (c : A). Below c (f k)) e (h i k (mem-countdown k i n)), falling_countdown f h k)

  -- lists that each fall, joined in the order of a countdown, fall if each list is above those of lower numbers
  pub falling_rows : (f : ℕ → List A) → ((j : ℕ) → Falling (f j)) → ((i j : ℕ) (a b : A) → i < j → Memᴰ a (f j) → Memᴰ b (f i) → Below b a) → (k : ℕ) → Falling (flatten (map f (countdown k)))
  falling_rows f h c zero = tt
  falling_rows f h c (suc k) =
      falling_append (f k) (flatten (map f (countdown k))) (h k) (falling_rows f h c k) (λ a b m n. let (i, q, r) = mem_join f (countdown k) b n in c i k a b (mem-countdown k i q) m r)
