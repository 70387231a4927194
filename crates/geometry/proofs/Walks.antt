-- Sums along closed walks, and how they cancel where every dart and its reverse lie on walks, each on one.
-- No number is negative: what a function of two entries sums to along a walk is held to what it sums to against it.
use Prim.Native.Nat.{ℕ, ◌+◌}
use mathlib.Core.Path.{◌≡◌, refl, sym, ap, ◌∙◌, subst}
use mathlib.Core.List.Memᴰ
use mathlib.Core.List.{List, ◌++◌, map, Memᴰ}
use Rattle.lists.specs.Parts.{flatten, cycle}
use Rattle.lists.proofs.Once.{once-map}
use Rattle.lists.proofs.Sums.{total, total-append, total-map, total_join, SameEntries, total-same}

module _ {A : Type 0} where
  abbrev reverse : A × A → A × A
  reverse d = (d.1, d.0)

  abbrev pub against : (A → A → ℕ) → A → A → ℕ
  against f a b = f b a

  abbrev on : (A → A → ℕ) → A × A → ℕ
  on f d = f d.0 d.1

  -- what f sums to along a closed walk
  abbrev pub along : (A → A → ℕ) → List A → ℕ
  along f walk = total (on f) (cycle walk)

  -- A map: with each dart its reverse, and each dart on exactly one walk, an inner or the outer one
  pub record ClosedMap (darts : List (A × A)) (inner : List (List A)) (outer : List A) : Type 0 where
    pub reverses : (d : A × A) → Memᴰ d darts → Memᴰ (reverse d) darts
    pub covered : SameEntries darts (flatten (map cycle inner) ++ cycle outer)

  module _ (darts : List (A × A)) (inner : List (List A)) (outer : List A) (m : ClosedMap darts inner outer) where
    by_walks : (f : A → A → ℕ) → total (on f) darts ≡ total (along f) inner + along f outer
    by_walks f =
        total-same (on f) darts (flatten (map cycle inner) ++ cycle outer) m.covered
        ∙ total-append (on f) (flatten (map cycle inner)) (cycle outer)
        ∙ ap (◌+ along f outer) (total_join (on f) cycle inner)

    reversed : SameEntries (map reverse darts) darts
    reversed = record {
      left_once = once-map reverse reverse darts (λ d. refl) m.covered.left_once;
      right_once = m.covered.left_once;
      there = λ d i. let (e, j, q) = Memᴰ.of_map reverse darts i in subst (λ (c : A × A). Memᴰ c darts) q (m.reverses e j);
      back = λ d i. Memᴰ.map reverse (m.reverses d i);
    }

    -- CANCELLATION: summed over all walks, along is against
    pub cancels : (f : A → A → ℕ) → total (along f) inner + along f outer ≡ total (along (against f)) inner + along (against f) outer
    cancels f =
        sym (by_walks f)
        ∙ sym (total-same (on f) (map reverse darts) darts reversed)
        ∙ total-map (on f) reverse darts
        ∙ by_walks (against f)
