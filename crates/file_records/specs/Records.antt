-- The kinds of records: 01's number for each.
use Rattle.std.specs.Prelude.{ℕ}
use Rattle.file_records.specs.declared.Record.{Record}

-- the number that stands for a kind in a file
abbrev pub kind_number : Record → ℕ
kind_number Record.Contexts = 1
kind_number Record.Ring = 2
kind_number Record.Labels = 3
kind_number Record.Chart = 4
