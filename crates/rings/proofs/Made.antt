-- Plans whose rings are read entry by entry, whatever they are read from: the ring of each context, and look-ups in it.
use Prim.Native.Nat.{ℕ, ◌≤◌, ◌<◌}
use mathlib.Core.Path.{◌≡◌, refl, sym, ap, ◌∙◌}
use mathlib.Core.List.{List, [], map}
use mathlib.Core.Bool.{Bool, true, false, cond}
use native.Mathlib.Omega.{arith}
use lib.ListN.{length, get_or, length-map, get_or-eq_default, get_or-map}
use lib.Dec.{ltb}
use borrow.Author.Tests.{ltb-true, ltb-false}
use Rattle.lists.specs.Ranges.{from}
use Rattle.lists.proofs.Ranges.{length-map-from, get_or-map-from}
use Rattle.model.specs.Plan.{Plan, context_count, neighbour, entries, ring}
use Rattle.rings.specs.Tables.{size_of}

-- the first k entries of u's ring are part u k; the i-th of them is item u i
pub record Reads (part : ℕ → ℕ → List ℕ) (item : ℕ → ℕ → ℕ) : Type 0 where
  pub none : (u : ℕ) → part u 0 ≡ []
  pub long : (u k : ℕ) → length (part u k) ≡ k
  pub at : (u k i : ℕ) → i < k → get_or (part u k) i 0 ≡ item u i

-- the plan of n contexts whose rings have these sizes
abbrev pub made : (ℕ → ℕ → List ℕ) → List ℕ → ℕ → Plan
made part sizes n = record { rings = map (λ (u : ℕ). part u (get_or sizes u 0)) (from 0 n) }

module _ {part : ℕ → ℕ → List ℕ} {item : ℕ → ℕ → ℕ} (reads : Reads part item) (sizes : List ℕ) (n : ℕ) where
  -- u's ring as it is given, for every u
  pub entries-made : (u : ℕ) → entries (made part sizes n) u ≡ part u (size_of sizes n u)
  unfolding entries size_of
  entries-made u = go (ltb u n) refl
    where
      f : ℕ → List ℕ
      f w = part w (get_or sizes w 0)

      go : (t : Bool) → ltb u n ≡ t → get_or (map f (from 0 n)) u [] ≡ part u (cond t (get_or sizes u 0) 0)
      go true q = get_or-map-from f 0 n u [] (ltb-true u n q) ∙ ap f (omega arith)
      go false q = get_or-eq_default (map f (from 0 n)) [] (let l = length-map-from f 0 n in let h = ltb-false u n q in omega arith) ∙ sym (reads.none u)

  pub ring-made : (u : ℕ) → ring (made part sizes n) u ≡ map neighbour (part u (size_of sizes n u))
  unfolding ring
  ring-made u = ap (map neighbour) (entries-made u)

  pub count-made : context_count (made part sizes n) ≡ n
  count-made = length-map-from (λ (u : ℕ). part u (get_or sizes u 0)) 0 n

  pub size-made : (u : ℕ) → length (ring (made part sizes n) u) ≡ size_of sizes n u
  size-made u = ap length (ring-made u) ∙ length-map (part u (size_of sizes n u)) neighbour ∙ reads.long u (size_of sizes n u)

  -- the neighbour at i; past the end there is 0
  pub past-made : (u i : ℕ) → size_of sizes n u ≤ i → get_or (ring (made part sizes n) u) i 0 ≡ 0
  past-made u i h = get_or-eq_default (ring (made part sizes n) u) 0 (let l = size-made u in omega arith)

  pub at-made : (u i : ℕ) → i < size_of sizes n u → get_or (ring (made part sizes n) u) i 0 ≡ neighbour (item u i)
  unfolding neighbour
  at-made u i h = ap (λ (r : List ℕ). get_or r i 0) (ring-made u) ∙ get_or-map neighbour (part u (size_of sizes n u)) i 0 ∙ ap neighbour (reads.at u (size_of sizes n u) i h)
