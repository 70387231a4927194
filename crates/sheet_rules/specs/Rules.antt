-- The rules 8 to 12 of a sheet, as far as its stage has come.
use Rattle.std.specs.Prelude.{ℕ, List}
use Rattle.model.specs.Outcome.{Outcome, passed, require, rule, ◌>>=◌, ◌>>◌}
use Rattle.model.specs.Plan.{Plan, context_count, bad_border, bad_face}
use Rattle.model.specs.Labels.{label_rules}
use Rattle.model.specs.Chart.{Chart, chart, same_chart}
use Rattle.model.specs.File as file

-- 8 and 9 of a plan of n contexts
unfoldable pub flat_rules : ℕ → Plan → Outcome (Unit {0})
flat_rules n p = do
  rule 8 4 (bad_border p)
  rule 9 n (bad_face p)

-- 11 and 12
unfoldable pub chart_rules : Plan → List ℕ → Chart → Outcome (Unit {0})
chart_rules p ls c = chart p ls >>= λ (d : Chart). require (same_chart c d) 12 0

-- 8 and 9 of the plan of a sheet
unfoldable pub flat_of : file.Sheet → Outcome (Unit {0})
flat_of file.fresh = passed
flat_of (file.opened p) = flat_rules (context_count p) p
flat_of (file.labelled p ls) = flat_rules (context_count p) p
flat_of (file.charted p ls c) = flat_rules (context_count p) p

-- 10 of the labels of a sheet, then 11 and 12 of its chart
unfoldable pub rules_from_10 : file.Sheet → Outcome (Unit {0})
rules_from_10 file.fresh = passed
rules_from_10 (file.opened p) = passed
rules_from_10 (file.labelled p ls) = label_rules p ls
rules_from_10 (file.charted p ls c) = label_rules p ls >> chart_rules p ls c

-- 8 to 12 of a sheet
unfoldable pub rules_from_8 : file.Sheet → Outcome (Unit {0})
rules_from_8 s = flat_of s >> rules_from_10 s
