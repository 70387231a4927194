-- The labels of a plan in an array that may be longer.
use Rattle.std.specs.Prelude.{List, ℕ, ◌++◌, length, drop}
use Rattle.lists.specs.Spans.{stretch}
use Rattle.model.specs.Plan.{Plan, entry_count}

-- the labels that an array holds: one for each dart of the plan
abbrev pub labels_in_array : Plan → List ℕ → List ℕ
labels_in_array p array = stretch array 0 (entry_count p)

-- labels put into an array: behind them stands what stood there
abbrev pub put_into : List ℕ → List ℕ → List ℕ
put_into array labels = labels ++ drop (length labels) array
