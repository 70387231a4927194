-- A label put where the starts of the rings and the position of an entry say is put where the model has it.
use Prim.Native.Nat.{ℕ, ◌+◌, ◌-◌}
use mathlib.Core.Path.{◌≡◌, refl, sym, ap, ◌∙◌}
use mathlib.Core.List.{List}
use mathlib.Core.Bool.{Bool, true, false, not, ◌&&◌, false≢true}
use native.Mathlib.Omega.{arith}
use lib.ListN.{get_or, set}
use borrow.Author.Tests.{eq-eqb, ne_eqb, lt-ltb}
use Rattle.model.specs.Plan.{Plan, ring, adjacent}
use Rattle.model.specs.Labels.{put_label}
use Rattle.model.proofs.Plans.{adjacent-from, adjacent-mem}
use Rattle.labels.proofs.Darts.{put_label-at-place, put_nowhere}
use Rattle.ring_positions.specs.Positions.{has_cell, position}
use Rattle.ring_positions.proofs.Cells.{adjacent-cell, index_some}
use Rattle.sweep_labelling.specs.Edges.{Guide}

module _ {p : Plan} {starts : List ℕ} (g : Guide p starts) (u v l : ℕ) (ls : List ℕ) where
  -- the table has no cell: there is no dart
  pub put_off : has_cell u v ≡ false → ls ≡ put_label p u v l ls
  put_off off = go (adjacent p u v) refl
    where
      go : (b : Bool) → adjacent p u v ≡ b → ls ≡ put_label p u v l ls
      go true e =
          let a = adjacent-from p u v e in
          let few = g.few in
          absurd (false≢true (sym off ∙ λ i. lt-ltb u 200 (omega arith) i && lt-ltb v 200 (g.sane.entry u v (adjacent-mem p u v e)) i))
      go false e = sym (put_nowhere p u v e ls l)

  module _ {x : ℕ} (is : x ≡ position v (ring p u)) where
    -- the cell is 0: there is none
    pub put_absent : x ≡ 0 → ls ≡ put_label p u v l ls
    put_absent z = sym (put_nowhere p u v (sym (adjacent-cell p u v is) ∙ ap not (eq-eqb x 0 z)) ls l)

    -- it is not: there is one
    pub put_there : {y : ℕ} → (x ≡ 0 → ⊥) → y ≡ get_or starts u 0 → set ls (y + (x - 1)) l ≡ put_label p u v l ls
    put_there f from =
        let dart : adjacent p u v ≡ true = sym (adjacent-cell p u v is) ∙ ap not (ne_eqb x 0 f) in
        (λ i. set ls ((from ∙ g.begins u (adjacent-from p u v dart)) i + index_some p u v is f i) l) ∙ sym (put_label-at-place p u v dart ls l)
