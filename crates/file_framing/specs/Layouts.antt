-- The layout of a lent file: what it says of the file in the terms of the model.
use Rattle.std.specs.Prelude.{ℕ, ◌+◌, ◌*◌, ◌≡◌, List, [], ◌∷◌, Bool, false, cond, ◌&&◌, leb, Result, Ok, Err}
use Rattle.lists.specs.Spans.{stretch}
use Rattle.model.specs.Outcome.{Outcome, accepted, ◌>>=◌, ◌>>◌, mapped, require}
use Rattle.model.specs.Plan.{Plan, context_count, dart_count, labels_due}
use Rattle.model.specs.Chart.{Chart}
use Rattle.model.specs.File.{Sheet, opened, labelled, charted, frame_rings, Due, Part, frame_rest, optional, chart_in, sheet_of, entry_offset}
use Rattle.refusal.specs.declared.Refusal.{Refusal}
use Rattle.refusal.specs.Refusals.{outcome_of}
use Rattle.rings.specs.Tables.{start_of, starts_of}
use Rattle.rings.specs.FilePlans.{words_at, plan_in_file}
use Rattle.file_framing.specs.declared.Cursor as code
use Rattle.file_framing.specs.declared.layout.PartOffsets.{PartOffsets}
use Rattle.file_framing.specs.declared.layout.Layout.{Layout}
use Rattle.file_framing.specs.Offsets.{cursor}
use Rattle.file_framing.specs.LayoutParts as parts

-- the plan of n contexts that stands in a file
abbrev pub plan_in : List ℕ → List ℕ → ℕ → Plan
plan_in file sizes n = plan_in_file (starts_of sizes) sizes file n

-- the label bytes of a plan from an offset on
abbrev pub label_bytes_at : List ℕ → Plan → ℕ → List ℕ
label_bytes_at file p at = stretch file at (labels_due p)

-- the chart of n contexts from an offset on
abbrev pub chart_from : List ℕ → ℕ → ℕ → Chart
chart_from file n at = chart_in (words_at file at (2 + 2 * n))

-- a plan with the labels and the chart that the offsets name
abbrev pub sheet_at : List ℕ → ℕ → Plan → PartOffsets → Sheet
sheet_at file n p PartOffsets.Plan = opened p
sheet_at file n p (PartOffsets.Labels labels) = labelled p (label_bytes_at file p labels)
sheet_at file n p (PartOffsets.Chart labels chart) = charted p (label_bytes_at file p labels) (chart_from file n chart)

-- the sheet that a layout finds in its file
unfoldable pub laid : List ℕ → Layout → Sheet
laid file l = sheet_at file l.n (plan_in file l.sizes l.n) l.parts

-- The sheet that is found in a file by its layout, or the refusal
abbrev pub sheet_in : List ℕ → Result Layout Refusal → Outcome Sheet
sheet_in file r = mapped (laid file) (outcome_of r)

-- the parts behind the rings of n contexts, where the labels stand at an offset: a chart stands behind them, each behind a head of 4 bytes
abbrev pub StandAt : ℕ → ℕ → PartOffsets → Type 0
StandAt at n PartOffsets.Plan = Unit {0}
StandAt at n (PartOffsets.Labels labels) = labels ≡ at
StandAt at n (PartOffsets.Chart labels chart) = (labels ≡ at) × (chart ≡ at + dart_count n + 4)

-- Labels stand behind the rings, where an entry of one ring more would; a chart stands behind the labels
abbrev pub PartsBehind : Result Layout Refusal → Type 0
PartsBehind (Ok l) = StandAt (entry_offset l.n (start_of l.sizes l.n)) l.n l.parts
PartsBehind (Err r) = Unit {0}

-- ---- what is still to be framed, for the steps of frame_file

-- the parts that follow the rings of a plan
abbrev pub parts_in : List ℕ → Plan → PartOffsets → List Part
parts_in file p PartOffsets.Plan = []
parts_in file p (PartOffsets.Labels labels) = (3, label_bytes_at file p labels) ∷ []
parts_in file p (PartOffsets.Chart labels chart) = (3, label_bytes_at file p labels) ∷ (4, stretch file chart (4 + 4 * context_count p)) ∷ []

-- the same, by their offsets, or the refusal
abbrev pub parts_of : List ℕ → Plan → Result PartOffsets Refusal → Outcome (List Part)
parts_of file p r = mapped (parts_in file p) (outcome_of r)

-- a record that may not be skipped
abbrev pub due_row : ℕ → ℕ → Due
due_row kind size = record { kind = kind; size = size; skippable = false }

-- what stands from here on, where the first row is due: its record and what follows it, or nothing at the end
abbrev pub rest_of : code.Cursor → Due → List Due → Result Bool Refusal → Outcome (List Part)
rest_of c d due r =
    let there = do
      parts ← frame_rest due (cursor c.file.now (c.at + 4 + d.size))
      accepted ((d.kind, stretch c.file.now (c.at + 4) d.size) ∷ parts)
    in
    outcome_of r >>= λ (t : Bool). cond t there (accepted [])

-- their offsets are small numbers
abbrev pub NearParts : Result PartOffsets Refusal → Type 0
NearParts (Ok p) = parts.Near p
NearParts (Err r) = Unit {0}

-- they stand behind rings that end at an offset
abbrev pub StandBehind : ℕ → ℕ → Result PartOffsets Refusal → Type 0
StandBehind at n (Ok p) = StandAt (at + 4) n p
StandBehind at n (Err r) = Unit {0}

-- everything behind the kind 1 record, which says n
unfoldable pub plan_from : List ℕ → ℕ → Outcome Sheet
plan_from file n = do
  require (leb 5 n && leb n 200) 3 0
  (rs, d) ← frame_rings n n (cursor file 6)
  let p : Plan = record { rings = rs }
  parts ← frame_rest (optional p) d
  accepted (sheet_of p parts)
