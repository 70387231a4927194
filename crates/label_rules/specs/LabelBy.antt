-- A table of labels: the mark of a label, how the table is filled, and what it then says of each dart.
use Rattle.std.specs.Prelude.{ℕ, zero, suc, ◌+◌, ◌-◌, ◌*◌, ◌%◌, ◌≤◌, ◌<◌, ◌≡◌, List, Bool, cond, ◌&&◌, ◌||◌, length, get_or, set}
use Rattle.lists.specs.Folds.{through}
use Rattle.model.specs.Plan.{Plan, neighbour, border}
use Rattle.model.specs.Labels.{unlabelled, label_of, bad_dart, not_due}
use Rattle.rings.specs.Tables.{size_of, plan_of}
use Rattle.rings.specs.declared.Rings.{Rings}
use Rattle.ring_positions.specs.Positions.{cell_at, has_cell}

-- The mark of a label, as a table holds it: 5 up, 4 right, 3 down, 2 left, 1 between border contexts, and 0, as in every cell that nothing is noted in, none
unfoldable pub label_mark : ℕ → ℕ
label_mark l = unlabelled - l

-- the mark of the label two quarters on, of one that has a direction
unfoldable pub across : ℕ → ℕ
across x = x % 4 + 2

-- the mark of a label noted for the dart from u to v, where the table has a cell for it
unfoldable pub note_label : ℕ → ℕ → ℕ → List ℕ → List ℕ
note_label u v l t = cond (has_cell u v) (set t (cell_at u v) (label_mark l)) t

-- the labels of u's k entries from i on: the last is noted first, so that of equal entries the first one counts
unfoldable pub note_labels : List ℕ → List ℕ → ℕ → ℕ → ℕ → List ℕ → List ℕ
note_labels es ls u i zero t = t
note_labels es ls u i (suc k) t = note_label u (neighbour (get_or es i 0)) (get_or ls i unlabelled) (note_labels es ls u (suc i) k t)

-- the same in a row of the table, by the entries and labels of one ring
unfoldable pub note_marks : List ℕ → List ℕ → ℕ → ℕ → List ℕ → List ℕ
note_marks es ls i zero row = row
note_marks es ls i (suc k) row = set (note_marks es ls (suc i) k row) (neighbour (get_or es i 0)) (label_mark (get_or ls i unlabelled))

-- the labels around u
unfoldable pub note_around : Rings → List ℕ → ℕ → List ℕ → List ℕ
note_around r ls u t = note_labels r.entries.now ls u (get_or r.starts.now u 0) (size_of r.sizes.now r.n u) t

-- the marks of the labels of all rings
unfoldable pub marks_filled : Rings → List ℕ → List ℕ → List ℕ
marks_filled r ls t = through (note_around r ls) 0 r.n t

-- The law of a table: it has a row for each context, and in the cell of two contexts the mark of the label of the dart between them stands
pub record Marked (r : Rings) (ls t : List ℕ) : Type 0 where
  pub room : 200 * r.n ≤ length t
  pub cells : (u v : ℕ) → u < r.n → v < r.n → get_or t (cell_at u v) 0 ≡ label_mark (label_of (plan_of r) ls u v)

-- the dart from u to v breaks the rules, or u is a border context and the label is not due
unfoldable pub wrong_dart : Plan → List ℕ → ℕ → ℕ → Bool
wrong_dart p ls u v = bad_dart p ls u v || (border u && not_due p ls u v)
