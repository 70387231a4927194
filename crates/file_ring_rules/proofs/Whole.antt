-- Rules 4, 5 and 6 of a ring of a lent file, as the code goes through it: from its first entry to its size.
use Prim.Native.Nat.{ℕ}
use mathlib.Core.Path.{◌≡◌, sym, ap}
use mathlib.Core.List.{List}
use mathlib.Core.Bool.{Bool, ◌||◌, not}
use lib.Dec.{eqb, leb}
use Rattle.std.specs.List.{list_any}
use Rattle.lists.specs.Tests.{member, repeats}
use Rattle.lists.specs.Spans.{span}
use Rattle.model.specs.Plan.{ring, adjacent, bad_entry, bad_repeat, unreturned}
use Rattle.rings.specs.Tables.{size_of}
use Rattle.rings.specs.FilePlans.{plan_in_file}
use Rattle.file_rings.proofs.Rings.{count-lent, ring_whole}

-- 4: an entry w is bad
abbrev pub bad_in : ℕ → ℕ → ℕ → Bool
bad_in n u w = leb n w || eqb w u

module _ (starts sizes file : List ℕ) (n : ℕ) where
  pub whole_entry : (u e : ℕ) → e ≡ size_of sizes n u → list_any (bad_in n u) (span (ring (plan_in_file starts sizes file n) u) 0 e) ≡ bad_entry (plan_in_file starts sizes file n) u
  unfolding bad_entry
  whole_entry u e q = λ i. list_any (bad_in (sym (count-lent starts sizes file n) i) u) (ring_whole starts sizes file n u e q i)

  pub whole_repeat : (u e : ℕ) → e ≡ size_of sizes n u → repeats (span (ring (plan_in_file starts sizes file n) u) 0 e) ≡ bad_repeat (plan_in_file starts sizes file n) u
  unfolding bad_repeat
  whole_repeat u e q = ap repeats (ring_whole starts sizes file n u e q)

  pub whole_adjacent : (u v e : ℕ) → e ≡ size_of sizes n u → member v (span (ring (plan_in_file starts sizes file n) u) 0 e) ≡ adjacent (plan_in_file starts sizes file n) u v
  unfolding adjacent
  whole_adjacent u v e q = ap (member v) (ring_whole starts sizes file n u e q)

  pub whole_return : (u e : ℕ) → e ≡ size_of sizes n u → list_any (λ (v : ℕ). not (adjacent (plan_in_file starts sizes file n) v u)) (span (ring (plan_in_file starts sizes file n) u) 0 e) ≡ unreturned (plan_in_file starts sizes file n) u
  unfolding unreturned
  whole_return u e q = ap (list_any (λ (v : ℕ). not (adjacent (plan_in_file starts sizes file n) v u))) (ring_whole starts sizes file n u e q)
