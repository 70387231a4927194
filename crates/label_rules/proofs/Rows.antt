-- A row of a table of labels, in which the labels of a ring are noted: what the pass keeps, and that it notes them in the table.
use Prim.Native.Nat.{ℕ, zero, suc, ◌+◌, ◌-◌, ◌*◌, ◌≤◌, ◌<◌}
use mathlib.Core.Path.{◌≡◌, refl, sym, ap, ◌∙◌}
use mathlib.Core.List.{List, [], ◌∷◌, ◌++◌}
use mathlib.Core.Bool.{Bool, true, false, cond}
use native.Mathlib.Omega.{arith}
use lib.ListN.{length, get_or, set, take, drop, length-set, length-take, length-drop}
use lib.Dec.{ltb}
use lib.Seq.{set_out, set-append_left, get_or-take, get_or-drop, length-take-le}
use borrow.Author.Tests.{ltb-true, ltb-false, lt-ltb}
use borrow.Rule.Slice.PartMut.{mid_of, post_of, put_mid, put_same}
use Rattle.model.specs.Plan.{neighbour}
use Rattle.model.specs.Labels.{unlabelled}
use Rattle.rings.specs.Tables.{size_of}
use Rattle.rings.specs.declared.Rings.{Rings}
use Rattle.ring_positions.specs.Positions.{cell_at, has_cell}
use Rattle.label_rules.specs.LabelBy.{label_mark, note_label, note_marks, note_labels, note_around}

-- ---- while 0 < i { i -= 1; .. }: the labels of the entries from i on are noted
pub record Noting (es ls row₀ : List ℕ) (i : ℕ) (row : List ℕ) : Type 0 where
  pub few : i ≤ length es
  pub same : row ≡ note_marks es ls i (length es - i) row₀

-- none is noted yet
pub noting_start : {es ls row : List ℕ} → Noting es ls row (length es) row
unfolding note_marks
noting_start {es} {ls} {row} = let z : length es - length es ≡ 0 = omega arith in record { few = omega arith; same = sym (ap (λ (k : ℕ). note_marks es ls (length es) k row) z) }

module _ {es ls row₀ row : List ℕ} {i : ℕ} (inv : Noting es ls row₀ i row) where
  -- the entry before them
  noting-set : 0 < i → {v x : ℕ} → v ≡ neighbour (get_or es (i - 1) 0) → x ≡ label_mark (get_or ls (i - 1) unlabelled) → set row v x ≡ note_marks es ls (i - 1) (length es - (i - 1)) row₀
  unfolding note_marks
  noting-set h ev ex =
      let few = inv.few in
      let s : i ≡ suc (i - 1) = omega arith in
      let z : length es - (i - 1) ≡ suc (length es - i) = omega arith in
      (λ j. set (inv.same j) (ev j) (ex j))
      ∙ ap (λ (k : ℕ). set (note_marks es ls k (length es - i) row₀) (neighbour (get_or es (i - 1) 0)) (label_mark (get_or ls (i - 1) unlabelled))) s
      ∙ sym (ap (λ (k : ℕ). note_marks es ls (i - 1) k row₀) z)

  -- its context is in the row
  pub noting_on : 0 < i → {v x : ℕ} → v ≡ neighbour (get_or es (i - 1) 0) → x ≡ label_mark (get_or ls (i - 1) unlabelled) → Noting es ls row₀ (i - 1) (set row v x)
  noting_on h ev ex = record { few = let few = inv.few in omega arith; same = noting-set h ev ex }

  -- it is not
  pub noting_past : 0 < i → {v : ℕ} → v ≡ neighbour (get_or es (i - 1) 0) → length row ≤ v → Noting es ls row₀ (i - 1) row
  noting_past h {v} ev past = record { few = let few = inv.few in omega arith; same = sym (set_out row v (label_mark (get_or ls (i - 1) unlabelled)) past) ∙ noting-set h ev refl }

  -- all are noted
  pub noting_end : i ≤ 0 → row ≡ note_marks es ls 0 (length es) row₀
  noting_end h = let z : i ≡ 0 = omega arith in let k : length es - i ≡ length es = omega arith in inv.same ∙ (λ j. note_marks es ls (z j) (k j) row₀)

-- ---- noted in the row, a ring's labels are noted in the table
-- a store behind a list
set_behind : (x y : List ℕ) (i a : ℕ) → set (x ++ y) (length x + i) a ≡ x ++ set y i a
set_behind [] y i a = let z : length {A = ℕ} [] + i ≡ i = omega arith in ap (λ (k : ℕ). set y k a) z
set_behind (b ∷ x) y i a = let z : suc (length x) + i ≡ suc (length x + i) = omega arith in ap (λ (k : ℕ). set (b ∷ (x ++ y)) k a) z ∙ ap (λ (l : List ℕ). b ∷ l) (set_behind x y i a)

-- a store in a part that is put back
set-put_mid : (a k : ℕ) (t row : List ℕ) (v x : ℕ) → a ≤ length t → v < length row → set (put_mid a k t row) (a + v) x ≡ put_mid a k t (set row v x)
set-put_mid a k t row v x h l =
    let z : a + v ≡ length (take a t) + v = let m = length-take-le a t h in omega arith in
    ap (λ (i : ℕ). set (put_mid a k t row) i x) z
    ∙ set_behind (take a t) (row ++ post_of a k t) v x
    ∙ ap (λ (l : List ℕ). take a t ++ l) (set-append_left row (post_of a k t) v x l)

-- the row keeps its length
marks-long : (es ls : List ℕ) (i k : ℕ) (row : List ℕ) → length (note_marks es ls i k row) ≡ length row
unfolding note_marks
marks-long es ls i zero row = refl
marks-long es ls i (suc k) row = length-set (note_marks es ls (suc i) k row) (neighbour (get_or es i 0)) (label_mark (get_or ls i unlabelled)) ∙ marks-long es ls (suc i) k row

-- one label
one_noted : (t row : List ℕ) (u v l k : ℕ) → u < 200 → 200 * u ≤ length t → length row ≡ 200 → note_label u v l (put_mid (200 * u) k t row) ≡ put_mid (200 * u) k t (set row v (label_mark l))
unfolding note_label
one_noted t row u v l k low room size = go (ltb v 200) refl
  where
    go : (b : Bool) → ltb v 200 ≡ b → cond (has_cell u v) (set (put_mid (200 * u) k t row) (cell_at u v) (label_mark l)) (put_mid (200 * u) k t row) ≡ put_mid (200 * u) k t (set row v (label_mark l))
    go true q = let h = ltb-true v 200 q in rw (lt-ltb u 200 low, q) (set-put_mid (200 * u) k t row v (label_mark l) room (omega arith))
    go false q = let h = ltb-false v 200 q in rw (lt-ltb u 200 low, q) (sym (ap (put_mid (200 * u) k t) (set_out row v (label_mark l) (omega arith))))

-- the labels of the entries from s on, by the part of the arrays that has m of them
part_noted : (es ls : List ℕ) (u s m w : ℕ) (t : List ℕ) → u < 200 → w ≡ 200 → 200 * u + 200 ≤ length t → (i k : ℕ) → i + k ≤ m
    → put_mid (200 * u) w t (note_marks (take m (drop s es)) (take m (drop s ls)) i k (mid_of (200 * u) w t)) ≡ note_labels es ls u (s + i) k t
unfolding note_marks note_labels
part_noted es ls u s m w t low size room i zero h = put_same (200 * u) w t
part_noted es ls u s m w t low size room i (suc k) h =
    let es' = take m (drop s es) in
    let ls' = take m (drop s ls) in
    let row = mid_of (200 * u) w t in
    let from-drop = length-drop (200 * u) t in
    let from-take = length-take w (drop (200 * u) t) in
    let long = marks-long es' ls' (suc i) k row in
    let z : s + suc i ≡ suc (s + i) = omega arith in
    let e : get_or es' i 0 ≡ get_or es (s + i) 0 = get_or-take m (drop s es) i 0 (omega arith) ∙ get_or-drop s es i 0 in
    let l : get_or ls' i 5 ≡ get_or ls (s + i) 5 = get_or-take m (drop s ls) i 5 (omega arith) ∙ get_or-drop s ls i 5 in
    sym (one_noted t (note_marks es' ls' (suc i) k row) u (neighbour (get_or es' i 0)) (get_or ls' i unlabelled) w low (omega arith) (omega arith))
    ∙ ap (note_label u (neighbour (get_or es' i 0)) (get_or ls' i unlabelled)) (part_noted es ls u s m w t low size room (suc i) k (omega arith) ∙ ap (λ (j : ℕ). note_labels es ls u j k t) z)
    ∙ (λ j. note_label u (neighbour (e j)) (l j) (note_labels es ls u (suc (s + i)) k t))

-- Where the arrays have u's ring and its labels, and the table has u's row, the labels around u are noted by it
pub row_noted : (r : Rings) (ls : List ℕ) (u : ℕ) (t : List ℕ) {a e w : ℕ} → a ≡ get_or r.starts.now u 0 → e ≡ get_or r.starts.now u 0 + size_of r.sizes.now r.n u
    → u < 200 → w ≡ 200 → 200 * u + 200 ≤ length t → e ≤ length r.entries.now → {row : List ℕ}
    → row ≡ note_marks (take (e - a) (drop a r.entries.now)) (take (e - a) (drop a ls)) 0 (length (take (e - a) (drop a r.entries.now))) (mid_of (200 * u) w t)
    → put_mid (200 * u) w t row ≡ note_around r ls u t
unfolding note_around
row_noted r ls u t {a} {e} {w} from to low size room there {row} q =
    let es = r.entries.now in
    let from-drop = length-drop a es in
    let from-take = length-take (e - a) (drop a es) in
    let k : length (take (e - a) (drop a es)) ≡ size_of r.sizes.now r.n u = omega arith in
    let s : a + 0 ≡ get_or r.starts.now u 0 = omega arith in
    ap (put_mid (200 * u) w t) q
    ∙ part_noted es ls u a (e - a) w t low size room 0 (length (take (e - a) (drop a es))) (omega arith)
    ∙ (λ j. note_labels es ls u (s j) (k j) t)
