-- The names of the items.
use Rattle.std.specs.Prelude.{ℕ, List, codes}
use Rattle.trial_calls.specs.declared.Kind.{Kind}

-- the name that an item's line begins with
abbrev pub kind_name : Kind → List ℕ
kind_name Kind.Fresh = codes "fresh"
kind_name Kind.Open = codes "open"
kind_name Kind.Offer = codes "offer"
kind_name Kind.Sweep = codes "sweep"
kind_name Kind.Turn = codes "turn"
kind_name Kind.Chart = codes "chart"
