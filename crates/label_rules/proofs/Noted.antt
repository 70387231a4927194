-- A table of labels, noted entry by entry from the last of a ring to the first: what the pass keeps, and what stands in the cells then.
use Prim.Native.Nat.{ℕ, zero, suc, ◌+◌, ◌-◌, ◌*◌, ◌≤◌, ◌<◌}
use mathlib.Core.Path.{◌≡◌, refl, sym, ap, ◌∙◌}
use mathlib.Core.List.{List, map}
use mathlib.Core.Bool.{Bool, true, false, cond, ◌||◌, ◌&&◌}
use native.Mathlib.Omega.{arith}
use lib.ListN.{length, get_or, set, length-set}
use lib.Seq.{get_or-set_same, get_or-set_other}
use lib.Arith.{lt_of_le-ne}
use lib.Dec.{eqb, ltb}
use borrow.Author.Tests.{eqb-true, eqb-false, ltb-true, ltb-false, lt-ltb}
use Rattle.lists.specs.Tests.{member}
use Rattle.lists.specs.Folds.{each}
use Rattle.lists.specs.Parts.{index_of}
use Rattle.lists.specs.Spans.{stretch, zeros}
use Rattle.lists.proofs.Spans.{length-zeros}
use Rattle.lists.proofs.Padded.{get_or-zeros}
use Rattle.model.specs.Plan.{neighbour, ring}
use Rattle.model.specs.Labels.{unlabelled}
use Rattle.rings.specs.Tables.{size_of, plan_of}
use Rattle.rings.specs.declared.Rings.{Rings}
use Rattle.rings.proofs.Rows.{size_outside, ring-rows}
use Rattle.ring_positions.specs.Positions.{cell_at, has_cell}
use Rattle.label_rules.specs.LabelBy.{label_mark, note_label, note_labels, note_around, marks_filled}

-- ---- while a < i { i -= 1; .. }: the labels of the entries from i up to e are noted
pub record Back (es ls : List ℕ) (u e : ℕ) (t₀ : List ℕ) (i : ℕ) (t : List ℕ) : Type 0 where
  pub same : t ≡ note_labels es ls u i (e - i) t₀

-- none is noted yet
pub back_start : {es ls t : List ℕ} {u e : ℕ} → Back es ls u e t e t
unfolding note_labels
back_start {es} {ls} {t} {u} {e} = let z : e - e ≡ 0 = omega arith in record { same = sym (ap (λ (k : ℕ). note_labels es ls u e k t) z) }

module _ {es ls : List ℕ} {u e i : ℕ} {t₀ t : List ℕ} (inv : Back es ls u e t₀ i t) where
  -- the entry before them
  pub back_on : {i' v l : ℕ} {t' : List ℕ} → i ≡ i' + 1 → i' < e → v ≡ neighbour (get_or es i' 0) → l ≡ get_or ls i' unlabelled → t' ≡ note_label u v l t → Back es ls u e t₀ i' t'
  unfolding note_labels
  back_on {i'} p h ev el et =
      let s : i ≡ suc i' = omega arith in
      let z : e - i' ≡ suc (e - i) = omega arith in
      record {
        same = et
            ∙ (λ j. note_label u (ev j) (el j) (inv.same j))
            ∙ ap (λ (k : ℕ). note_label u (neighbour (get_or es i' 0)) (get_or ls i' unlabelled) (note_labels es ls u k (e - i) t₀)) s
            ∙ sym (ap (λ (k : ℕ). note_labels es ls u i' k t₀) z);
      }

  -- all entries of u's ring are noted
  pub back_end : (starts sizes : List ℕ) (n : ℕ) {a : ℕ} → i ≡ a → a ≡ get_or starts u 0 → e ≡ get_or starts u 0 + size_of sizes n u → t ≡ note_labels es ls u (get_or starts u 0) (size_of sizes n u) t₀
  back_end starts sizes n q p f =
      let k : e - i ≡ size_of sizes n u = omega arith in
      inv.same ∙ (λ j. note_labels es ls u ((q ∙ p) j) (k j) t₀)

-- ---- one label noted
module _ (t : List ℕ) (u v l : ℕ) where
  -- the table keeps its length
  note-long : length (note_label u v l t) ≡ length t
  unfolding note_label
  note-long = go (has_cell u v)
    where
      go : (b : Bool) → length (cond b (set t (cell_at u v) (label_mark l)) t) ≡ length t
      go true = length-set t (cell_at u v) (label_mark l)
      go false = refl

  -- in its cell stands its mark
  note_here : u < 200 → v < 200 → cell_at u v < length t → get_or (note_label u v l t) (cell_at u v) 0 ≡ label_mark l
  unfolding note_label
  note_here h k f = rw (lt-ltb u 200 h, lt-ltb v 200 k) (get_or-set_same t (cell_at u v) (label_mark l) 0 f)

  -- where there is a cell, the mark is put there
  pub note_put : u < 200 → v < 200 → {x : ℕ} → x ≡ label_mark l → set t (cell_at u v) x ≡ note_label u v l t
  unfolding note_label
  note_put h k e = ap (set t (cell_at u v)) e ∙ sym (rw (lt-ltb u 200 h, lt-ltb v 200 k))

  -- the other cells stay
  note-apart : (c : ℕ) → (v < 200 → c ≡ cell_at u v → ⊥) → get_or (note_label u v l t) c 0 ≡ get_or t c 0
  unfolding note_label
  note-apart c other = go (ltb u 200) (ltb v 200) refl
    where
      go : (x y : Bool) → ltb v 200 ≡ y → get_or (cond (x && y) (set t (cell_at u v) (label_mark l)) t) c 0 ≡ get_or t c 0
      go false y e = refl
      go true false e = refl
      go true true e = get_or-set_other t (cell_at u v) c (label_mark l) 0 (other (ltb-true v 200 e))

-- ---- the labels of a ring
module _ (es ls : List ℕ) (u : ℕ) where
  -- the table keeps its length
  labels-long : (i k : ℕ) (t : List ℕ) → length (note_labels es ls u i k t) ≡ length t
  unfolding note_labels
  labels-long i zero t = refl
  labels-long i (suc k) t = note-long (note_labels es ls u (suc i) k t) u (neighbour (get_or es i 0)) (get_or ls i unlabelled) ∙ labels-long (suc i) k t

  -- the cells of other rows stay
  labels-other : (c : ℕ) → ((w : ℕ) → w < 200 → c ≡ cell_at u w → ⊥) → (i k : ℕ) (t : List ℕ) → get_or (note_labels es ls u i k t) c 0 ≡ get_or t c 0
  unfolding note_labels
  labels-other c other i zero t = refl
  labels-other c other i (suc k) t =
      let v = neighbour (get_or es i 0) in
      note-apart (note_labels es ls u (suc i) k t) u v (get_or ls i unlabelled) c (other v) ∙ labels-other c other (suc i) k t

  -- in v's cell stands the label of the first entry that is v, and where none is, what stood there
  labels-cell : (v : ℕ) → u < 200 → v < 200 → (i k : ℕ) (t : List ℕ) → cell_at u v < length t
      → get_or (note_labels es ls u i k t) (cell_at u v) 0
      ≡ cond (member v (map neighbour (stretch es i k))) (label_mark (get_or ls (i + index_of v (map neighbour (stretch es i k))) unlabelled)) (get_or t (cell_at u v) 0)
  unfolding note_labels stretch
  labels-cell v h l i zero t f = refl
  labels-cell v h l i (suc k) t f = go (eqb v b) refl (labels-cell v h l (suc i) k t f)
    where
      b : ℕ
      b = neighbour (get_or es i 0)

      r : List ℕ
      r = map neighbour (stretch es (suc i) k)

      s : List ℕ
      s = note_labels es ls u (suc i) k t

      go : (x : Bool) → eqb v b ≡ x → get_or s (cell_at u v) 0 ≡ cond (member v r) (label_mark (get_or ls (suc i + index_of v r) unlabelled)) (get_or t (cell_at u v) 0)
          → get_or (note_label u b (get_or ls i unlabelled) s) (cell_at u v) 0 ≡ cond (x || member v r) (label_mark (get_or ls (i + cond x 0 (suc (index_of v r))) unlabelled)) (get_or t (cell_at u v) 0)
      go true e later =
          let q = eqb-true v b e in
          let z : i ≡ i + 0 = omega arith in
          let m = labels-long (suc i) k t in
          ap (λ (c : ℕ). get_or (note_label u c (get_or ls i unlabelled) s) (cell_at u v) 0) (sym q)
          ∙ note_here s u v (get_or ls i unlabelled) h l (omega arith)
          ∙ ap (λ (j : ℕ). label_mark (get_or ls j unlabelled)) z
      go false e later =
          let z : suc i + index_of v r ≡ i + suc (index_of v r) = omega arith in
          note-apart s u b (get_or ls i unlabelled) (cell_at u v) (λ m c. eqb-false v b e (omega arith))
          ∙ later
          ∙ ap (λ (j : ℕ). cond (member v r) (label_mark (get_or ls j unlabelled)) (get_or t (cell_at u v) 0)) z

-- ---- the labels of all rings
module _ (r : Rings) (ls : List ℕ) where
  -- the entries of u's ring
  abbrev Ring : ℕ → List ℕ
  Ring u = ring (plan_of r) u

  -- the table keeps its length
  pub around-long : (u : ℕ) (t : List ℕ) → length (note_around r ls u t) ≡ length t
  unfolding note_around
  around-long u t = labels-long r.entries.now ls u (get_or r.starts.now u 0) (size_of r.sizes.now r.n u) t

  -- the cells of other rows stay
  around-other : (c u : ℕ) → ((w : ℕ) → w < 200 → c ≡ cell_at u w → ⊥) → (t : List ℕ) → get_or (note_around r ls u t) c 0 ≡ get_or t c 0
  unfolding note_around
  around-other c u other t = labels-other r.entries.now ls u c other (get_or r.starts.now u 0) (size_of r.sizes.now r.n u) t

  -- what a table says of the dart from u to v, once its ring is noted: the mark of its label; 0 where there is no dart
  abbrev Says : ℕ → ℕ → ℕ
  Says u v = cond (member v (Ring u)) (label_mark (get_or ls (get_or r.starts.now u 0 + index_of v (Ring u)) unlabelled)) 0

  around-cell : (u v : ℕ) → u < 200 → v < 200 → (t : List ℕ) → cell_at u v < length t → get_or t (cell_at u v) 0 ≡ 0 → get_or (note_around r ls u t) (cell_at u v) 0 ≡ Says u v
  unfolding note_around
  around-cell u v h l t f z =
      let own = sym (ring-rows r.starts.now r.sizes.now r.entries.now r.n u) in
      labels-cell r.entries.now ls u v h l (get_or r.starts.now u 0) (size_of r.sizes.now r.n u) t f
      ∙ (λ j. cond (member v (own j)) (label_mark (get_or ls (get_or r.starts.now u 0 + index_of v (own j)) unlabelled)) (z j))

  -- a pass over the rings from i on leaves the rows of others
  each-other : (c i k : ℕ) → ((u w : ℕ) → i ≤ u → u < i + k → w < 200 → c ≡ cell_at u w → ⊥) → (t : List ℕ) → get_or (each (note_around r ls) i k t) c 0 ≡ get_or t c 0
  unfolding each
  each-other c i zero other t = refl
  each-other c i (suc k) other t =
      each-other c (suc i) k (λ u w x y. other u w (omega arith) (omega arith)) (note_around r ls i t)
      ∙ around-other c i (λ w. other i w (omega arith) (omega arith)) t

  -- and keeps the table's length
  each-long : (i k : ℕ) (t : List ℕ) → length (each (note_around r ls) i k t) ≡ length t
  unfolding each
  each-long i zero t = refl
  each-long i (suc k) t = each-long (suc i) k (note_around r ls i t) ∙ around-long i t

  pub marks_filled-long : (t : List ℕ) → length (marks_filled r ls t) ≡ length t
  unfolding marks_filled
  marks_filled-long t = each-long 0 (r.n - 0) t

  -- and notes theirs
  each-cell : (u v : ℕ) → v < 200 → (i k : ℕ) → i ≤ u → u < i + k → i + k ≤ 200 → (t : List ℕ) → cell_at u v < length t → get_or t (cell_at u v) 0 ≡ 0 → get_or (each (note_around r ls) i k t) (cell_at u v) 0 ≡ Says u v
  unfolding each
  each-cell u v l i zero x y h t f z = absurd (omega arith)
  each-cell u v l i (suc k) x y h t f z = go (eqb i u) refl (each-cell u v l (suc i) k)
    where
      go : (b : Bool) → eqb i u ≡ b
          → (suc i ≤ u → u < suc i + k → suc i + k ≤ 200 → (s : List ℕ) → cell_at u v < length s → get_or s (cell_at u v) 0 ≡ 0 → get_or (each (note_around r ls) (suc i) k s) (cell_at u v) 0 ≡ Says u v)
          → get_or (each (note_around r ls) (suc i) k (note_around r ls i t)) (cell_at u v) 0 ≡ Says u v
      go true q later =
          let e = eqb-true i u q in
          each-other (cell_at u v) (suc i) k (λ a w m n o c. omega arith) (note_around r ls i t)
          ∙ ap (λ (j : ℕ). get_or (note_around r ls j t) (cell_at u v) 0) e
          ∙ around-cell u v (omega arith) l t f z
      go false q later =
          let d = eqb-false i u q in
          let m = around-long i t in
          later (lt_of_le-ne {i = i} {k = u} x d) (omega arith) (omega arith) (note_around r ls i t) (omega arith) (around-other (cell_at u v) i (λ w o c. d (omega arith)) t ∙ z)

  -- a context that is not there has no ring
  says-none : (u v : ℕ) → r.n ≤ u → Says u v ≡ 0
  unfolding stretch
  says-none u v h =
      let e = size_outside r.sizes.now r.n u h in
      let empty = ring-rows r.starts.now r.sizes.now r.entries.now r.n u ∙ ap (λ (j : ℕ). map neighbour (stretch r.entries.now (get_or r.starts.now u 0) j)) e in
      ap (λ (s : List ℕ). cond (member v s) (label_mark (get_or ls (get_or r.starts.now u 0 + index_of v s) unlabelled)) 0) empty

  -- In a table with a row for each context, that was all zeros, each cell says this; so does what lies outside the table
  pub marks_filled_cell : r.n ≤ 200 → {k : ℕ} → 200 * r.n ≤ k → (u v : ℕ) → u < 200 → v < 200 → get_or (marks_filled r ls (zeros k)) (cell_at u v) 0 ≡ Says u v
  unfolding marks_filled
  marks_filled_cell small {k} room u v h l = go (ltb u r.n) refl
    where
      go : (b : Bool) → ltb u r.n ≡ b → get_or (each (note_around r ls) 0 (r.n - 0) (zeros k)) (cell_at u v) 0 ≡ Says u v
      go true e =
          let m = ltb-true u r.n e in
          let s = length-zeros k in
          each-cell u v l 0 (r.n - 0) (omega arith) (omega arith) (omega arith) (zeros k) (omega arith) (get_or-zeros k (cell_at u v))
      go false e =
          let m = ltb-false u r.n e in
          each-other (cell_at u v) 0 (r.n - 0) (λ a w x y o c. omega arith) (zeros k)
          ∙ get_or-zeros k (cell_at u v)
          ∙ sym (says-none u v m)
