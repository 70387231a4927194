-- A shorter table serves: with a row for each ring of a plan, and zeros read behind it, it is the plan's table of successors.
use Prim.Native.Nat.{ℕ, zero, suc, ◌+◌, ◌-◌, ◌*◌, ◌≤◌, ◌<◌, min}
use mathlib.Core.Path.{◌≡◌, refl, sym, ap, ◌∙◌}
use mathlib.Core.List.{List, [], ◌∷◌, ◌++◌}
use mathlib.Core.Bool.{Bool, true, false, cond, ◌&&◌}
use native.Mathlib.Omega.{arith}
use lib.ListN.{length, get_or, set, replicate, length-set}
use lib.Seq.{set-append_left}
use lib.Dec.{eqb, ltb}
use borrow.Author.Tests.{ltb-true}
use Rattle.lists.specs.Spans.{zeros, zero_padded}
use Rattle.lists.specs.Folds.{each}
use Rattle.lists.proofs.Bools.{and_yes}
use Rattle.lists.proofs.Spans.{length-zeros, zeros-append}
use Rattle.lists.proofs.Padded.{get_or-zero_padded}
use Rattle.model.specs.Plan.{Plan, context_count, ring}
use Rattle.ring_successors.specs.Successors.{successor_mark, cell_at, has_cell, Noted, note_at, note_ring, note_rings, successors_of, apart}
use Rattle.ring_successors.proofs.Notes.{ring_long, row}

zeros-zero_padded : (k m : ℕ) → m ≤ k → zero_padded k (zeros m) ≡ zeros k
unfolding zero_padded
zeros-zero_padded k m h =
    let l = length-zeros m in
    let e : m + (k - length (zeros m)) ≡ k = omega arith in
    zeros-append m (k - length (zeros m)) ∙ ap zeros e

-- a number put inside a list is put inside the array that holds it
set-zero_padded : (k : ℕ) (l : List ℕ) (i x : ℕ) → i < length l → set (zero_padded k l) i x ≡ zero_padded k (set l i x)
unfolding zero_padded
set-zero_padded k l i x h = set-append_left l (zeros (k - length l)) i x h ∙ ap (λ (n : ℕ). set l i x ++ zeros (k - n)) (sym (length-set l i x))

-- ---- what is noted inside a table is noted in an array of k that holds it
module _ (k : ℕ) where
  abbrev widened : Noted → Noted
  widened s = (zero_padded k s.0, s.1)

  note-widened : (u v x : ℕ) (s : Noted) → 200 * u + 200 ≤ length s.0 → note_at u v x (widened s) ≡ widened (note_at u v x s)
  unfolding note_at
  note-widened u v x s h = go (has_cell u v) refl
    where
      go : (b : Bool) → has_cell u v ≡ b
          → ◌≡◌ {A = Noted} (cond b (set (zero_padded k s.0) (cell_at u v) x) (zero_padded k s.0), b && eqb (get_or (zero_padded k s.0) (cell_at u v) 0) 0 && s.1)
          (zero_padded k (cond b (set s.0 (cell_at u v) x) s.0), b && eqb (get_or s.0 (cell_at u v) 0) 0 && s.1)
      go true e =
          let low = ltb-true v 200 (and_yes (ltb u 200) (ltb v 200) e).1 in
          λ i. (set-zero_padded k s.0 (cell_at u v) x (omega arith) i, eqb (get_or-zero_padded k s.0 (cell_at u v) i) 0 && s.1)
      go false e = refl

  ring-widened : (u z : ℕ) (l : List ℕ) (s : Noted) → 200 * u + 200 ≤ length s.0 → note_ring u z l (widened s) ≡ widened (note_ring u z l s)
  unfolding note_ring
  ring-widened u z [] s h = refl
  ring-widened u z (v ∷ l) s h =
      let long = ring_long u z l s in
      ap (note_at u v (successor_mark (get_or l 0 z))) (ring-widened u z l s h) ∙ note-widened u v (successor_mark (get_or l 0 z)) (note_ring u z l s) (omega arith)

  each-widened : (p : Plan) (i m : ℕ) (s : Noted) → 200 * (i + m) ≤ length s.0 → each (row p) i m (widened s) ≡ widened (each (row p) i m s)
  unfolding each
  each-widened p i zero s h = refl
  each-widened p i (suc m) s h =
      let long = ring_long i (get_or (ring p i) 0 0) (ring p i) s in
      ap (each (row p) (suc i) m) (ring-widened i (get_or (ring p i) 0 0) (ring p i) s (omega arith)) ∙ each-widened p (suc i) m (row p i s) (omega arith)

-- ---- a table of k cells, with a row for each ring
module _ (p : Plan) {k : ℕ} (rows : 200 * context_count p ≤ k) (most : k ≤ 40000) where
  shorter : (note_rings p (zeros 40000, true)) ≡ widened 40000 (note_rings p (zeros k, true))
  unfolding note_rings
  shorter =
      let long = length-zeros k in
      ap (λ (t : List ℕ). each (row p) 0 (min (context_count p) 200 - 0) (t, true)) (sym (zeros-zero_padded 40000 k most))
      ∙ each-widened 40000 p 0 (min (context_count p) 200 - 0) (zeros k, true) (omega arith)

  module _ {t₀ : List ℕ} (none : t₀ ≡ replicate k 0) where
    from-zeros : ◌≡◌ {A = Noted} (t₀, true) (zeros k, true)
    unfolding zeros
    from-zeros = λ i. (none i, true)

    -- the table, with zeros after it, is the table of successors
    pub successors_shorter : {t : List ℕ} → t ≡ (note_rings p (t₀, true)).0 → zero_padded 40000 t ≡ successors_of p
    unfolding successors_of
    successors_shorter e = ap (zero_padded 40000) (e ∙ ap (λ (s : Noted). (note_rings p s).0) from-zeros) ∙ sym (ap (λ (s : Noted). s.0) shorter)

    -- and every entry has a cell of its own in it where it has one there
    pub apart_shorter : {b : Bool} → b ≡ (note_rings p (t₀, true)).1 → b ≡ apart p
    unfolding apart
    apart_shorter e = e ∙ ap (λ (s : Noted). (note_rings p s).1) from-zeros ∙ sym (ap (λ (s : Noted). s.1) shorter)
