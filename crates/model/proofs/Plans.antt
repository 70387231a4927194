-- What holds of every plan, whether or not it keeps the rules.
use Prim.Native.Nat.{ℕ, suc, ◌+◌, ◌%◌, ◌≤◌, ◌<◌}
use mathlib.Core.Path.{◌≡◌, refl, ap, subst}
use mathlib.Core.List.Memᴰ
use mathlib.Core.List.{List, [], ◌∷◌, map, Memᴰ}
use mathlib.Core.Logic.{◌⊎◌, inl, inr}
use mathlib.Core.Bool.{Bool, true, false}
use lib.ListN.{get_or, take, drop, get_or-eq_default}
use lib.Dec.{eqb, ltb}
use borrow.Author.Tests.{eqb-true, eq-eqb, ltb-true, ltb-false, lt-ltb}
use Rattle.lists.specs.Parts.{index_of}
use Rattle.lists.proofs.Bools.{and_yes}
use Rattle.lists.proofs.Members.{mem-take, mem-drop}
use Rattle.lists.proofs.Tests.{mem-member, member-mem}
use Rattle.model.specs.Plan.{Plan, Dart, context_count, neighbour, entries, ring, adjacent, onward, next, outer}

-- past the last context rings are empty
pub ring_outside : (p : Plan) (u : ℕ) → context_count p ≤ u → ring p u ≡ []
unfolding ring entries
ring_outside p u h = ap (map neighbour) (get_or-eq_default p.rings [] h)

-- neighbours are ring entries
pub adjacent-mem : (p : Plan) (u v : ℕ) → adjacent p u v ≡ true → Memᴰ v (ring p u)
unfolding adjacent
adjacent-mem p u v e = member-mem v (ring p u) e

pub mem-adjacent : (p : Plan) (u v : ℕ) → Memᴰ v (ring p u) → adjacent p u v ≡ true
unfolding adjacent
mem-adjacent p u v m = mem-member v (ring p u) m

-- a context that has a neighbour is one of the n
pub adjacent-from : (p : Plan) (u v : ℕ) → adjacent p u v ≡ true → u < context_count p
adjacent-from p u v e = go (ltb u (context_count p)) refl
  where
    go : (t : Bool) → ltb u (context_count p) ≡ t → u < context_count p
    go true q = ltb-true u (context_count p) q
    go false q = absurd (Memᴰ.not-nil (subst (Memᴰ v) (ring_outside p u (ltb-false u (context_count p) q)) (adjacent-mem p u v e)))

-- ---- the four outer darts
pub outer-says : (d : Dart) → outer d ≡ true → (d.0 < 4) × (d.1 ≡ (d.0 + 1) % 4)
unfolding outer
outer-says d o = let (h, k) = and_yes (ltb d.0 4) (eqb d.1 ((d.0 + 1) % 4)) o in (ltb-true d.0 4 h, eqb-true d.1 ((d.0 + 1) % 4) k)

pub says-outer : (u v : ℕ) → u < 4 → v ≡ (u + 1) % 4 → outer (u, v) ≡ true
unfolding outer
says-outer u v h e = rw (lt-ltb u 4 h, eq-eqb v ((u + 1) % 4) e)

-- the entry after another in a ring is an entry
pub next-mem : (a : ℕ) (r : List ℕ) → Memᴰ a r → Memᴰ (next a r) r
unfolding next onward
next-mem a r m = go (onward a r) (λ b i. back b (Memᴰ.append_cases (drop (suc (index_of a r)) r) i))
  where
    back : (b : ℕ) → Memᴰ b (drop (suc (index_of a r)) r) ⊎ Memᴰ b (take (index_of a r) r) → Memᴰ b r
    back b (inl i) = mem-drop (suc (index_of a r)) r b i
    back b (inr i) = mem-take (index_of a r) r b i

    go : (l : List ℕ) → ((b : ℕ) → Memᴰ b l → Memᴰ b r) → Memᴰ (get_or l 0 a) r
    go [] h = m
    go (b ∷ l) h = h b (Memᴰ.head refl)
