-- The names of the items.
use Rattle.std.specs.Prelude.{ℕ, List, codes}
use Rattle.trial_reports.specs.declared.Kind.{Kind}

-- the name that an item's line begins with
abbrev pub kind_name : Kind → List ℕ
kind_name Kind.Write = codes "write"
kind_name Kind.OpenWrite = codes "open_write"
kind_name Kind.Ring = codes "ring"
kind_name Kind.Scan = codes "scan"
kind_name Kind.Same = codes "same"
