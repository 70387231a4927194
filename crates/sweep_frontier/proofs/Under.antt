-- What is below a frontier context is a part of its ring, reversed.
use Prim.Native.Nat.{ℕ, suc, ◌-◌, ◌<◌}
use mathlib.Core.Path.{◌≡◌, refl, ap, ◌∙◌}
use mathlib.Core.Logic.{◌⊎◌, inl, inr}
use mathlib.Core.List.Memᴰ
use mathlib.Core.List.{List, [], ◌∷◌, ◌++◌, reverse, reverse-append, Memᴰ}
use mathlib.Core.Bool.{Bool, true, false, cond}
use lib.ListN.{length, get_or, take, drop}
use lib.Seq.{take-suc}
use lib.Dec.{eqb}
use Rattle.lists.specs.Parts.{index_of, before}
use Rattle.lists.specs.Spans.{zero_padded}
use Rattle.lists.proofs.Members.{mem-take, mem-drop, mem-reverse, mem-before}
use Rattle.lists.proofs.Padded.{get_or-zero_padded}
use Rattle.model.specs.Plan.{Plan, ring, onward, strictly_between}
use Rattle.model.specs.Sweep.{below}
use Rattle.sweep_frontier.specs.Held.{AllBelow200, EntriesBelow200}
use Rattle.sweep_frontier.proofs.Holding.{mem-small}

-- what stands before an entry is what is taken up to its position
pub before-take : (b : ℕ) (l : List ℕ) → before b l ≡ take (index_of b l) l
before-take b [] = refl
before-take b (a ∷ l) = go (eqb b a) (before-take b l)
  where
    go : (t : Bool) → before b l ≡ take (index_of b l) l → cond t [] (a ∷ before b l) ≡ take (cond t 0 (suc (index_of b l))) (a ∷ l)
    go true e = refl
    go false e = ap {B = List ℕ} (λ x. a ∷ x) e

-- one more entry taken, the last one first
pub back_suc : (l : List ℕ) (q : ℕ) → q < length l → reverse (take (suc q) l) ≡ get_or l q 0 ∷ reverse (take q l)
back_suc l q h = ap reverse (take-suc l q 0 h) ∙ reverse-append (take q l) (get_or l q 0 ∷ [])

module _ (p : Plan) (f : List ℕ) where
  -- what is below is of the ring
  pub below-mem : (k a : ℕ) → Memᴰ a (below p f k) → Memᴰ a (ring p (get_or f k 0))
  unfolding below strictly_between onward
  below-mem k a m = go (ring p (get_or f k 0)) (index_of (get_or f (suc k) 0) (ring p (get_or f k 0))) m
    where
      split : (r : List ℕ) (x : ℕ) → Memᴰ a (drop (suc x) r) ⊎ Memᴰ a (take x r) → Memᴰ a r
      split r x (inl n) = mem-drop (suc x) r a n
      split r x (inr n) = mem-take x r a n

      go : (r : List ℕ) (x : ℕ) → Memᴰ a (reverse (before (get_or f (k - 1) 0) (drop (suc x) r ++ take x r))) → Memᴰ a r
      go r x n = let l = drop (suc x) r ++ take x r in split r x (Memᴰ.append_cases (drop (suc x) r) (mem-before (get_or f (k - 1) 0) l a (mem-reverse (before (get_or f (k - 1) 0) l) a n)))

  -- every context below is below 200
  pub small-below : EntriesBelow200 p → (k : ℕ) → AllBelow200 (below p f k)
  small-below s k = mem-small (below p f k) (λ a m. s.entry (get_or f k 0) a (below-mem k a m))

-- what is below, on the array that holds the frontier
pub below-zero_padded : (p : Plan) (f : List ℕ) (k : ℕ) → below p (zero_padded 512 f) k ≡ below p f k
unfolding below
below-zero_padded p f k = λ i. reverse (strictly_between (get_or-zero_padded 512 f (suc k) i) (get_or-zero_padded 512 f (k - 1) i) (ring p (get_or-zero_padded 512 f k i)))
