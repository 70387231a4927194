-- The constraints of an array: one of them, and whether numbers meet them all.
use Prim.Native.Nat.{ℕ, zero, suc, ◌≤◌, ◌<◌}
use mathlib.Core.Path.{◌≡◌, refl, sym, ap}
use mathlib.Core.List.Memᴰ
use mathlib.Core.List.{List, [], ◌∷◌, Memᴰ}
use native.Mathlib.Omega.{arith}
use lib.ListN.{length}
use mathlib.Core.Bool.{Bool, ◌&&◌}
use lib.Dec.{eqb}
use Rattle.std.specs.List.{list_all}
use Rattle.lists.proofs.Counts.{cond-le}
use Rattle.model.specs.Chart.{Constraint, meets}
use Rattle.chart_solver.specs.declared.Constraint.{Constraint as Stored}
use Rattle.chart_solver.specs.Constraints.{rise, constraint_of, constraint_at, constraints_in}

pub rise-le : (g : ℕ) → rise g ≤ 1
unfolding rise
rise-le g = cond-le (eqb g 0) 0 1 1 (omega arith) (omega arith)

-- ---- one of them
pub mem-listed : (cs : List Stored) (k : ℕ) → k < length cs → Memᴰ (constraint_at cs k) (constraints_in cs)
unfolding constraint_at
mem-listed [] k h = absurd (omega arith)
mem-listed (c ∷ cs) zero h = Memᴰ.head refl
mem-listed (c ∷ cs) (suc k) h = Memᴰ.tail (mem-listed cs k (omega arith))

pub listed-mem : (cs : List Stored) (c : Constraint) → Memᴰ c (constraints_in cs) → (k : ℕ) × (k < length cs) × (constraint_at cs k ≡ c)
unfolding constraint_at
listed-mem [] c m = absurd (Memᴰ.not-nil m)
listed-mem (d ∷ cs) c (Memᴰ.head e) = (0, omega arith, sym e)
listed-mem (d ∷ cs) c (Memᴰ.tail m) = let (k, h, e) = listed-mem cs c m in (suc k, omega arith, e)

pub listed_small : (cs : List Stored) (c : Constraint) → Memᴰ c (constraints_in cs) → c.gap ≤ 1
unfolding constraint_of
listed_small [] c m = absurd (Memᴰ.not-nil m)
listed_small (d ∷ cs) c (Memᴰ.head e) = let q : c.gap ≡ rise d.gap = ap (λ (b : Constraint). b.gap) e in let r = rise-le d.gap in omega arith
listed_small (d ∷ cs) c (Memᴰ.tail m) = listed_small cs c m

-- ---- all of them
pub all-listed : (ks : List ℕ) (cs : List Stored) → list_all (λ (c : Stored). meets ks (constraint_of c)) cs ≡ list_all (meets ks) (constraints_in cs)
all-listed ks [] = refl
all-listed ks (c ∷ cs) = ap (λ (t : Bool). meets ks (constraint_of c) && t) (all-listed ks cs)
