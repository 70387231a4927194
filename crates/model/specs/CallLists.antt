-- Lists of calls: what they leave on a sheet, and the ledger that 01 keeps beside it.
use Rattle.std.specs.Prelude.{ℕ, zero, suc, ◌+◌, List, [], ◌∷◌, Bool, length, drop, Option, Some, None}
use Rattle.lists.specs.Tests.{member}
use Rattle.lists.specs.Words.{word}
use Rattle.model.specs.Outcome.{Outcome, accepted, refused, ◌>>=◌, ◌>>◌, mapped, taken}
use Rattle.model.specs.Plan.{Plan}
use Rattle.model.specs.Chart.{Chart, chart}
use Rattle.model.specs.Sweep.{sweep}
use Rattle.model.specs.Turn.{turn}
use Rattle.model.specs.File.{Sheet, fresh, opened, labelled, charted}
use Rattle.model.specs.Calls.{open_call, offered, offer_call, sweep_call, turn_call, chart_call}

-- The calls that can change a sheet, with their arguments
pub data Call : Type 0 where
  open_file : List ℕ → Call
  offer_labels : List ℕ → Call
  sweep-labels : Call
  turn_edges : List ℕ → ℕ → Call
  draw_chart : Call

-- the sheet after an accepted call
unfoldable pub call : Sheet → Call → Outcome Sheet
call s (open_file b) = open_call b
call s (offer_labels ls) = offer_call s ls
call s sweep-labels = sweep_call s
call s (turn_edges items direction) = turn_call s items direction
call s draw_chart = chart_call s

-- the sheet after a list of calls, refused ones included
unfoldable pub run : Sheet → List Call → Sheet
run s [] = s
run s (c ∷ cs) = run (taken s (call s c)) cs

-- The ledger: fed with the calls' arguments only, it starts with neither plan nor labels
pub data Ledger : Type 0 where
  neither : Ledger
  plan_only : Plan → Ledger
  both : Plan → List ℕ → Ledger

-- the ledger's plan, or 13: without a plan the stage counts as EMPTY, with a plan and no labels as OPEN, else as LABELLED
unfoldable pub ledger_plan : Ledger → Outcome Plan
ledger_plan neither = refused 13 0
ledger_plan (plan_only p) = accepted p
ledger_plan (both p ls) = accepted p

-- the ledger's plan and labels, or 13
unfoldable pub ledger_labels : Ledger → Outcome (Plan × List ℕ)
ledger_labels neither = refused 13 0
ledger_labels (plan_only p) = refused 13 0
ledger_labels (both p ls) = accepted (p, ls)

-- a sheet's plan and labels, if any: what an accepted open enters
unfoldable pub plan_and_labels : Sheet → Ledger
plan_and_labels fresh = neither
plan_and_labels (opened p) = plan_only p
plan_and_labels (labelled p ls) = both p ls
plan_and_labels (charted p ls c) = both p ls

-- the ledger after an accepted call, judged by its arguments and the ledger alone
unfoldable pub enter : Ledger → Call → Outcome Ledger
enter g (open_file b) = mapped plan_and_labels (open_call b)
enter g (offer_labels ls) = do
  p ← ledger_plan g
  ms ← offered p ls
  accepted (both p ms)
enter g sweep-labels = do
  p ← ledger_plan g
  ms ← sweep p
  accepted (both p ms)
enter g (turn_edges items direction) = do
  (p, ls) ← ledger_labels g
  ms ← turn p ls items direction
  accepted (both p ms)
enter g draw_chart = do
  (p, ls) ← ledger_labels g
  chart p ls
  accepted g

-- the ledger after a list of calls; chart and refused calls enter nothing
unfoldable pub ledger : Ledger → List Call → Ledger
ledger g [] = g
ledger g (c ∷ cs) = ledger (taken g (enter g c)) cs

-- A chart stands when the stage is CHARTED; it is the stored w, h, x and y
unfoldable pub standing : Sheet → Option Chart
standing fresh = None
standing (opened p) = None
standing (labelled p ls) = None
standing (charted p ls c) = Some c

-- the kinds of a file's records, in file order
unfoldable pub kinds : ℕ → List ℕ → List ℕ
kinds zero s = []
kinds (suc fuel) [] = []
kinds (suc fuel) (a ∷ s) = word (drop 2 (a ∷ s)) ∷ kinds fuel (drop (2 + word (a ∷ s)) (a ∷ s))

-- a file holds a chart if it has a kind 4 record
unfoldable pub holds_chart : List ℕ → Bool
holds_chart b = member 4 (kinds (length b) b)

-- who unfolds this unfolds all of the above: for facts that are computed
unfoldable pub call_lists_computes : Unit {0}
unfolding call run ledger_plan ledger_labels plan_and_labels enter ledger standing kinds holds_chart
call_lists_computes = tt
