-- The checks of each line of the checklist, counted.
use Rattle.std.specs.Prelude.{◌*◌, pos, Bool, true, false, cond, ◌&&◌, [], ◌∷◌, Option, Some, None, Ok, Err}
use Rattle.std.specs.declared.result.Result.{Result}
use Rattle.model.specs.Scan.{Triple}
use Rattle.model.specs.Calls.{scan_call, sweep_call, turn_call, chart_call}
use Rattle.refusal.specs.declared.Refusal.{Refusal}
use Rattle.refusal.specs.Refusals.{number_of, place_of}
use Rattle.sheet.specs.declared.Sheet.{Sheet}
use Rattle.sheet.specs.declared.Stage as stage
use Rattle.sheet.specs.declared.Stage.TheVariants as Stage
use Rattle.sheet.specs.Sheets.{held_plan, reads, stage_read}
use Rattle.sheet.specs.Answers.{packed_as}
use Rattle.chart_areas.specs.Corners.{points_only}
use Rattle.chart_audit.specs.Surveys.{surveyed}
use Rattle.checklist_rules.specs.declared.Tally.{Tally}
use Rattle.checklist_rules.specs.Audit.{tallied, undrawn, scanned_as_due, answered_as_due, fills_rectangle, afresh}
use Rattle.checklist_lines.specs.declared.Shown.{Shown}
use Rattle.checklist_lines.specs.declared.DrawnSheet.{DrawnSheet}
use Rattle.checklist_lines.specs.declared.Turned.{Turned}

-- what is written of an answer: 0 at 0 where it is accepted, else the refusal's number and place
abbrev pub shown_as : {A : Type 0} → Result A Refusal → Shown
shown_as (Ok a) = record { number = 0; place = 0 }
shown_as (Err r) = record { number = number_of r; place = place_of r }

-- the stage is CHARTED
abbrev pub is_charted : stage.Stage → Bool
is_charted Stage.Empty = false
is_charted Stage.Open = false
is_charted Stage.Labelled = false
is_charted Stage.Charted = true

-- opened: a sheet that is not CHARTED is undrawn
abbrev pub opened_tally : Tally → Sheet → Result Bool Refusal → Tally
opened_tally t s c = cond (is_charted (stage_read s)) t (tallied t (undrawn s c))

-- a file: where it is accepted, the two checks; scan has answered what the model's call gives of the sheet
abbrev pub file_tally : Tally → Result Sheet Refusal → Result Bool Refusal → Result (Option Triple) Refusal → Tally
file_tally t (Ok s) c f = tallied (opened_tally t s c) (scanned_as_due f (scan_call (reads s)))
file_tally t (Err r) c f = t

-- the sheet that chart leaves: the one that it answers, or the one before where it is refused
abbrev pub left_of : Result Sheet Refusal → Sheet → Sheet
left_of (Ok s) before = s
left_of (Err r) before = before

-- the same of what is seen of a drawing
abbrev pub left_by : DrawnSheet → Sheet
left_by d = left_of d.charted.now d.before.now

-- drawn: sweep has answered what the model's call gives of the sheet that was opened, and chart what it gives of the sheet before chart
abbrev pub drawn_tally : Tally → DrawnSheet → Tally
drawn_tally t d = tallied t (answered_as_due d.swept.now (packed_as (sweep_call (reads d.opened.now))) && answered_as_due d.charted.now (packed_as (chart_call (reads d.before.now))))

-- areas: those of a sheet's chart
abbrev pub areas_tally : Tally → Sheet → Tally
areas_tally t s = tallied t (fills_rectangle (surveyed (held_plan s) (points_only s.xs s.ys)) (pos (2 * s.w * s.h)))

-- a chart: drawn, and areas where the sheet is CHARTED
abbrev pub chart_tally : Tally → DrawnSheet → Tally
chart_tally t d = cond (is_charted (stage_read (left_by d))) (areas_tally (drawn_tally t d) (left_by d)) (drawn_tally t d)

-- turned: the turn has answered what the model's call gives of the sheet before it, and leaves the sheet undrawn
abbrev pub turned_tally : Tally → Turned → Tally
turned_tally t s =
    let due = packed_as (turn_call (reads s.old.now) (s.turn.u ∷ s.turn.v ∷ []) s.turn.direction) in
    tallied t (undrawn s.left.sheet.now s.left.same && answered_as_due s.answer.now due)

-- turned, and afresh: the new chart is the one drawn anew. Where no turn is handed over, which is not judged, one check that is right
abbrev pub turn_tally : Tally → Option Turned → Tally
turn_tally t (Some s) = tallied (turned_tally t s) (afresh s.new.same)
turn_tally t None = tallied t true
