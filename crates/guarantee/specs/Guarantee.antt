-- Demand 3: what holds after every list of open, offer, sweep, turn and chart calls on a fresh sheet, refused calls included.
use Rattle.std.specs.Prelude.{ℕ, ◌≡◌, Some, None, is_some}
use mathlib.Core.List.{List}
use Rattle.model.specs.Plan.{Plan}
use Rattle.model.specs.Chart.{Chart, IsChart, slope}
use Rattle.model.specs.CallLists.{Call, standing, plan_and_labels, neither, both, ledger}
use Rattle.plan_theory.specs.Draws.{Draws}
use Rattle.sheet.specs.Sheets.{reads, packed}
use Rattle.guarantee.specs.Engine.{fresh_sheet, sheet_after, answers_of}
use Rattle.guarantee.specs.Verdicts.{judgements, last_accepted, draws}

-- What is owed of a chart c that stands. Lines and inner faces are those of the ledger's plan p; ls are the ledger's labels.
pub record Owed (p : Plan) (ls : List ℕ) (c : Chart) : Type 0 where
  -- The chart is, among the placements that keep the compass rules, the one in which every x, every y, w and h is least.
  pub least : IsChart slope p ls c
  -- It draws the plan: each inner face has positive doubled area, these sum to 2 × width × height, and each rational point strictly inside and on no line lies strictly inside exactly one.
  pub drawn : Draws p c

-- Demand 3 for a list of calls
pub record Guarantee (calls : List Call) : Type 0 where
  -- A call is accepted when no numbered refusal applies to it, judged by its arguments and the ledger alone. The engine accepts exactly these calls, and refuses the others by the same number and place.
  pub same_verdicts : answers_of fresh_sheet calls ≡ judgements neither calls
  -- The sheet's plan and labels, if any, are the ledger's.
  pub same_ledger : plan_and_labels (reads (sheet_after fresh_sheet calls)) ≡ ledger neither calls
  -- A chart stands exactly when the last accepted call was chart, or an open of a file that holds a chart.
  pub stands_exactly : is_some (standing (reads (sheet_after fresh_sheet calls))) ≡ draws (last_accepted None neither calls)
  -- A chart that stands is owed all of the above, for the ledger's plan and labels.
  pub such_chart : (c : Chart) → standing (reads (sheet_after fresh_sheet calls)) ≡ Some c → (p : Plan) × (ls : List ℕ) × (ledger neither calls ≡ both p ls) × Owed p ls c
  -- The struct holds nothing else: what is not in use is zero.
  pub nothing_else : sheet_after fresh_sheet calls ≡ packed (reads (sheet_after fresh_sheet calls))
