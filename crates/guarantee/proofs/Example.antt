-- The guarantee speaks of something: trench B is opened, swept and drawn, a turn is refused, and its chart stands.
use Prim.Native.Nat.{ℕ}
use mathlib.Core.Path.{◌≡◌, refl, ap}
use mathlib.Core.List.{List, [], ◌∷◌}
use mathlib.Core.Bool.{true}
use Rattle.std.specs.Prelude.{Some}
use Rattle.lists.specs.Ranges.{first_from}
use Rattle.lists.specs.Tests.{tally}
use Rattle.model.specs.Outcome.{refused, passed, taken}
use Rattle.model.specs.Plan.{Plan, plan_computes, faces}
use Rattle.model.specs.Labels.{labels_computes}
use Rattle.model.specs.Chart.{Chart, chart_computes}
use Rattle.model.specs.Geometry.{Point, in_rectangle, in_face, geometry_computes}
use Rattle.model.specs.Sweep.{sweep_computes}
use Rattle.model.specs.Turn.{turn_computes}
use Rattle.model.specs.File.{fresh, opened, encode, file_computes}
use Rattle.model.specs.Calls.{calls_computes}
use Rattle.model.specs.CallLists.{Call, open_file, sweep-labels, turn_edges, draw_chart, standing, neither, both, ledger, call_lists_computes}
use Rattle.model.specs.Trenches.{B}
use Rattle.sheet.specs.Sheets.{reads}
use Rattle.sheet.specs.Answers.{answer_of}
use Rattle.guarantee.specs.Engine.{fresh_sheet, sheet_after, answers_of}
use Rattle.guarantee.specs.Guarantee.{Owed}
use Rattle.guarantee.proofs.Agreement.{answers}
use Rattle.guarantee.proofs.Sized.{fresh_good}
use Rattle.guarantee.proofs.Struct.{answers_of_same, sheet_after-reads}
use Rattle.guarantee.proofs.Guarantee.{guarantee}

pub draw_b : List Call
draw_b = open_file (encode (opened B)) ∷ sweep-labels ∷ draw_chart ∷ turn_edges (4 ∷ 5 ∷ []) 0 ∷ []

pub chart_b : Chart
chart_b = record { w = 2; h = 3; xs = 2 ∷ 2 ∷ 0 ∷ 0 ∷ 1 ∷ 1 ∷ []; ys = 3 ∷ 0 ∷ 0 ∷ 3 ∷ 1 ∷ 2 ∷ [] }

-- the turn of 4,5 is 10 at 4, so the chart stays
pub answered : answers_of fresh_sheet draw_b ≡ passed ∷ passed ∷ passed ∷ refused 10 4 ∷ []
unfolding draw_b answers answer_of taken first_from plan_computes labels_computes sweep_computes chart_computes turn_computes file_computes calls_computes call_lists_computes
answered = answers_of_same draw_b fresh fresh_good

pub stands : standing (reads (sheet_after fresh_sheet draw_b)) ≡ Some chart_b
unfolding draw_b chart_b taken first_from plan_computes labels_computes sweep_computes chart_computes turn_computes file_computes calls_computes call_lists_computes
stands = ap standing (sheet_after-reads draw_b)

-- so all that is owed of a chart holds of it
pub owed : (p : Plan) × (ls : List ℕ) × (ledger neither draw_b ≡ both p ls) × Owed p ls chart_b
owed = (guarantee draw_b).such_chart chart_b stands

-- the point (1, 1/2) is strictly inside the rectangle, and one of the inner faces holds it
pub point : Point
point = record { p = 2; q = 1; d = 2 }

pub inside : in_rectangle chart_b point ≡ true
unfolding chart_b point geometry_computes
inside = refl

pub held : tally (in_face chart_b point) (faces B) ≡ 1
unfolding chart_b point geometry_computes plan_computes
held = refl
