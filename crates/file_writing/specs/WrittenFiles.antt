-- What is written: the sheet of a plan and of what follows it, and what 01 says of an answer and of the buffer.
use Rattle.std.specs.Prelude.{ℕ, List, []}
use Rattle.model.specs.Outcome.{Outcome, accepted, refused, mapped}
use Rattle.model.specs.Plan.{Plan}
use Rattle.model.specs.File.{Sheet, opened, labelled, charted}
use Rattle.rings.specs.Tables.{table_of}
use Rattle.rings.specs.declared.Table.{Table}
use Rattle.chart_points.specs.Charts.{chart_of_points}
use Rattle.file_writing.specs.declared.Parts.{Parts}

-- the labels that are written; none where there are none
abbrev pub labels_in : Parts → List ℕ
labels_in Parts.Plan = []
labels_in (Parts.Labels ls) = ls.now
labels_in (Parts.Chart ls c) = ls.now

-- a plan of n contexts with what follows it
abbrev pub sheet_with : Plan → ℕ → Parts → Sheet
sheet_with p n Parts.Plan = opened p
sheet_with p n (Parts.Labels ls) = labelled p ls.now
sheet_with p n (Parts.Chart ls c) = charted p ls.now (chart_of_points n c)

-- The sheet that is written
abbrev pub sheet_held : Table → Parts → Sheet
sheet_held t parts = sheet_with (table_of t) t.n parts

-- the buffer after a call: what the call gives, and as it was where the call is refused
unfoldable pub buffer_after : Outcome (ℕ × List ℕ) → List ℕ → List ℕ
buffer_after (accepted (k, d)) before = d
buffer_after (refused k at) before = before

-- what a call answers, and the buffer after it
abbrev pub answered : Outcome (ℕ × List ℕ) → List ℕ → Outcome ℕ × List ℕ
answered o before = (mapped (λ (p : ℕ × List ℕ). p.0) o, buffer_after o before)
