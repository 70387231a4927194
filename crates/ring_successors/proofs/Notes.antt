-- Entries noted one by one, as the code makes it: what a pass over a ring keeps (Back).
use Prim.Native.Nat.{ℕ, zero, suc, ◌+◌, ◌-◌, ◌≤◌, ◌<◌, min}
use Rattle.std.specs.List.{slice_range}
use mathlib.Core.Path.{◌≡◌, refl, sym, ap, ◌∙◌}
use mathlib.Core.List.{List, [], ◌∷◌, map}
use mathlib.Core.Bool.{Bool, true, false, cond, ◌&&◌}
use native.Mathlib.Omega.{arith}
use lib.ListN.{length, get_or, set, take, drop, replicate, length-set}
use lib.Seq.{take_all}
use lib.Dec.{ltb}
use borrow.Author.Tests.{ltb-true, ltb-false, lt-ltb}
use Rattle.lists.specs.Spans.{stretch, span, zeros}
use Rattle.lists.specs.Folds.{through}
use Rattle.lists.proofs.Spans.{past, span_more, span_end, stretch_part, stretch-first}
use Rattle.model.specs.Plan.{Plan, neighbour, ring}
use Rattle.rings.specs.Tables.{size_of, rows}
use Rattle.rings.proofs.Rows.{ring-rows, count-rows}
use Rattle.ring_successors.specs.Successors.{successor_mark, cell_at, has_cell, Noted, note_at, note_ring, note_rings, successors_of, successor}

-- ---- a note: what it leaves, part by part
abbrev pub Leaves : List ℕ → Bool → Noted → Type 0
Leaves t b s = (t ≡ s.0) × (b ≡ s.1)

parts : {t : List ℕ} {b : Bool} {s : Noted} → s ≡ (t, b) → Leaves t b s
parts e = (sym (ap (λ (s : Noted). s.0) e), sym (ap (λ (s : Noted). s.1) e))

pub paired : {t : List ℕ} {b : Bool} {s : Noted} → t ≡ s.0 → b ≡ s.1 → (t, b) ≡ s
paired e f = λ i. (e i, f i)

-- the table keeps its length: over a note
pub note_long : (u v x : ℕ) (s : Noted) → length (note_at u v x s).0 ≡ length s.0
unfolding note_at
note_long u v x s = go (has_cell u v)
  where
    go : (b : Bool) → length (cond b (set s.0 (cell_at u v) x) s.0) ≡ length s.0
    go true = length-set s.0 (cell_at u v) x
    go false = refl

-- and over a ring
pub ring_long : (u z : ℕ) (l : List ℕ) (s : Noted) → length (note_ring u z l s).0 ≡ length s.0
unfolding note_ring
ring_long u z [] s = refl
ring_long u z (v ∷ l) s = note_long u v (successor_mark (get_or l 0 z)) (note_ring u z l s) ∙ ring_long u z l s

-- ---- while a < i { i -= 1; .. }: the entries from i on are noted, and after them comes the first of them
pub record Back (u z : ℕ) (es : List ℕ) (e : ℕ) (s₀ : Noted) (i : ℕ) (s : Noted) (after : ℕ) : Type 0 where
  pub same : s ≡ note_ring u z (map neighbour (span es i e)) s₀
  pub first : after ≡ get_or (map neighbour (span es i e)) 0 z

-- none is noted yet
pub back_start : {u z e after : ℕ} {es : List ℕ} {s : Noted} → after ≡ z → Back u z es e s e s after
unfolding note_ring
back_start {u} {z} {e} {after} {es} {s} q =
    let none : span es e e ≡ [] = span_end es e e (omega arith) in
    record { same = sym (ap (λ (l : List ℕ). note_ring u z (map neighbour l) s) none); first = q ∙ sym (ap (λ (l : List ℕ). get_or (map neighbour l) 0 z) none) }

module _ {u z e i after : ℕ} {es : List ℕ} {s₀ s : Noted} (inv : Back u z es e s₀ i s after) where
  -- the entry before them
  pub back_on : {i' v x : ℕ} {s' : Noted} → i ≡ i' + 1 → i' < e → v ≡ neighbour (get_or es i' 0) → x ≡ successor_mark after → s' ≡ note_at u v x s → Back u z es e s₀ i' s' v
  unfolding note_ring
  back_on {i'} {v} {x} {s'} ei h ev ex es' =
      let marked' = ex ∙ ap successor_mark (inv.first ∙ ap (λ (k : ℕ). get_or (map neighbour (span es k e)) 0 z) ei) in
      let rest = inv.same ∙ ap (λ (k : ℕ). note_ring u z (map neighbour (span es k e)) s₀) ei in
      record {
        same = es' ∙ (λ j. note_at u (ev j) (marked' j) (rest j)) ∙ sym (ap (λ (l : List ℕ). note_ring u z (map neighbour l) s₀) more);
        first = ev ∙ sym (ap (λ (l : List ℕ). get_or (map neighbour l) 0 z) more);
      }
    where
      more : span es i' e ≡ get_or es i' 0 ∷ span es (i' + 1) e
      more = span_more es i' e h

  -- all are noted
  pub back_end : {a : ℕ} → i ≡ a → Leaves s.0 s.1 (note_ring u z (map neighbour (span es a e)) s₀)
  back_end q = parts (sym (inv.same ∙ ap (λ (k : ℕ). note_ring u z (map neighbour (span es k e)) s₀) q))

-- ---- one ring of a plan
abbrev pub row : Plan → ℕ → Noted → Noted
row p u = note_ring u (get_or (ring p u) 0 0) (ring p u)

-- u's ring, read from the arrays that hold the plan, is noted as the plan's
heads : (u z : ℕ) (es : List ℕ) (a k : ℕ) (s : Noted) → z ≡ neighbour (get_or es a 0) → note_ring u z (map neighbour (stretch es a k)) s ≡ note_ring u (get_or (map neighbour (stretch es a k)) 0 0) (map neighbour (stretch es a k)) s
unfolding stretch note_ring
heads u z es a zero s q = refl
heads u z es a (suc k) s q = ap (λ (y : ℕ). note_ring u y (map neighbour (stretch es a (suc k))) s) q

pub row-noted : (starts sizes es : List ℕ) (n u : ℕ) {a e : ℕ} (s : Noted) → a ≡ get_or starts u 0 → e ≡ a + size_of sizes n u
    → note_ring u (neighbour (get_or es a 0)) (map neighbour (span es a e)) s ≡ row (rows starts sizes es n) u s
row-noted starts sizes es n u {a} {e} s p q =
    let k : e - a ≡ size_of sizes n u = omega arith in
    (λ i. note_ring u (neighbour (get_or es (p i) 0)) (map neighbour (stretch es (p i) (k i))) s)
    ∙ heads u (neighbour (get_or es (get_or starts u 0) 0)) es (get_or starts u 0) (size_of sizes n u) s refl
    ∙ sym (ap (λ (r : List ℕ). note_ring u (get_or r 0 0) r s) (ring-rows starts sizes es n u))

-- so u's ring is noted when the pass over it ends
pub row-end : (starts sizes es : List ℕ) (n u : ℕ) {a e i after : ℕ} {s₀ s : Noted} → Back u (neighbour (get_or es a 0)) es e s₀ i s after
    → i ≡ a → a ≡ get_or starts u 0 → e ≡ a + size_of sizes n u → Leaves s.0 s.1 (row (rows starts sizes es n) u s₀)
row-end starts sizes es n u {s₀ = s₀} inv q p e =
    let (x, y) = back_end inv q in
    let same = row-noted starts sizes es n u s₀ p e in
    (x ∙ ap (λ (t : Noted). t.0) same, y ∙ ap (λ (t : Noted). t.1) same)

-- so the entries of a list are noted when the pass over it ends
pub list-end : (u : ℕ) (es : List ℕ) {i after : ℕ} {s₀ s : Noted} → Back u (neighbour (get_or es 0 0)) es (length es) s₀ i s after → i ≡ 0 → Leaves s.0 s.1 (note_ring u (get_or (map neighbour es) 0 0) (map neighbour es) s₀)
list-end u es {s₀ = s₀} inv q =
    let (x, y) = back_end inv q in
    let size : length es - 0 ≡ length es = omega arith in
    let all : stretch es 0 (length es) ≡ es = stretch-first es (length es) (omega arith) ∙ take_all (length es) es (omega arith) in
    let first = ap (λ (k : ℕ). note_ring u (neighbour (get_or es 0 0)) (map neighbour (stretch es 0 k)) s₀) size ∙ heads u (neighbour (get_or es 0 0)) es 0 (length es) s₀ refl in
    let same = first ∙ ap (λ (l : List ℕ). note_ring u (get_or (map neighbour l) 0 0) (map neighbour l) s₀) all in
    (x ∙ ap (λ (t : Noted). t.0) same, y ∙ ap (λ (t : Noted). t.1) same)

-- u's ring as a part of the entries
pub ring-part : (starts sizes es : List ℕ) (n u : ℕ) {a e : ℕ} {l : List ℕ} → a ≡ get_or starts u 0 → e ≡ get_or starts u 0 + size_of sizes n u → e ≤ length es → l ≡ slice_range es a e → map neighbour l ≡ ring (rows starts sizes es n) u
ring-part starts sizes es n u {a} {e} p q h same =
    let k : e - a ≡ size_of sizes n u = omega arith in
    ap (map neighbour) (same ∙ (λ i. take (k i) (drop (p i) es)) ∙ sym (stretch_part es (get_or starts u 0) (size_of sizes n u) (omega arith))) ∙ sym (ring-rows starts sizes es n u)

-- all rings of the plan
pub rows-noted : (starts sizes es : List ℕ) (n : ℕ) (s₀ : Noted) {m : ℕ} {s : Noted} → m ≡ min n 200 → s ≡ through (row (rows starts sizes es n)) 0 m s₀ → Leaves s.0 s.1 (note_rings (rows starts sizes es n) s₀)
unfolding note_rings
rows-noted starts sizes es n s₀ {m} {s} q e = parts (sym (e ∙ ap (λ (k : ℕ). through (row (rows starts sizes es n)) 0 k s₀) (q ∙ ap (λ (k : ℕ). min k 200) (sym (count-rows starts sizes es n)))))

-- a table of 40000 zeros becomes the table of successors
module _ (p : Plan) {t₀ : List ℕ} (none : t₀ ≡ replicate 40000 0) where
  from-zeros : ◌≡◌ {A = Noted} (t₀, true) (zeros 40000, true)
  unfolding zeros
  from-zeros = λ i. (none i, true)

  pub successors_made : {t : List ℕ} → t ≡ (note_rings p (t₀, true)).0 → t ≡ successors_of p
  unfolding successors_of
  successors_made e = e ∙ ap (λ (s : Noted). (note_rings p s).0) from-zeros

-- what is not 0 stands in a row of the table
pub row_there : (t : List ℕ) (u v : ℕ) → length t ≤ 40000 → (get_or t (cell_at u v) 0 ≡ 0 → ⊥) → u < 200
row_there t u v h f = go (ltb u 200) refl
  where
    go : (b : Bool) → ltb u 200 ≡ b → u < 200
    go true e = ltb-true u 200 e
    go false e = let l = ltb-false u 200 e in absurd (f (sym (past t (cell_at u v) (omega arith))))

-- ---- a look-up that has a cell
module _ (t : List ℕ) (u v : ℕ) where
  pub successor-cell : u < 200 → v < 200 → get_or t (cell_at u v) 0 ≡ successor t u v
  unfolding successor
  successor-cell h k = sym (rw (lt-ltb u 200 h, lt-ltb v 200 k))

  -- a look-up that says something has a cell
  pub successor_there : (successor t u v ≡ 0 → ⊥) → (u < 200) × (v < 200)
  unfolding successor
  successor_there f = go (ltb u 200) (ltb v 200) refl refl f
    where
      go : (a b : Bool) → ltb u 200 ≡ a → ltb v 200 ≡ b → (cond (a && b) (get_or t (cell_at u v) 0) 0 ≡ 0 → ⊥) → (u < 200) × (v < 200)
      go true true x y f = (ltb-true u 200 x, ltb-true v 200 y)
      go true false x y f = absurd (f refl)
      go false b x y f = absurd (f refl)
