-- The calls on a sheet: open, offer, sweep, turn, chart, write, scan, same, ring. The stage comes first, then the order of 01's table.
use Rattle.std.specs.Prelude.{ℕ, ◌*◌, List, [], ◌++◌, Bool, ◌&&◌, length, take, drop, eqb, ltb, leb, Option}
use Rattle.model.specs.Outcome.{Outcome, accepted, refused, passed, ◌>>=◌, ◌>>◌, mapped, require}
use Rattle.model.specs.Plan.{Plan, context_count, entries, labels_due, plan_rules}
use Rattle.model.specs.Labels.{start, label_rules}
use Rattle.model.specs.Chart.{Chart, chart, same_chart}
use Rattle.model.specs.Sweep.{sweep}
use Rattle.model.specs.Turn.{turn}
use Rattle.model.specs.Scan.{Triple, scan}
use Rattle.model.specs.File.{Sheet, fresh, opened, labelled, charted, decode, encode, entry_offset}

-- Each sheet has a stage
pub data Stage : Type 0 where
  EMPTY OPEN LABELLED CHARTED : Stage

-- the stage of a sheet
unfoldable pub stage : Sheet → Stage
stage fresh = EMPTY
stage (opened p) = OPEN
stage (labelled p ls) = LABELLED
stage (charted p ls c) = CHARTED

-- OPEN up: the plan; 13 where the stage is too early
unfoldable pub require_plan : Sheet → Outcome Plan
require_plan fresh = refused 13 0
require_plan (opened p) = accepted p
require_plan (labelled p ls) = accepted p
require_plan (charted p ls c) = accepted p

-- LABELLED up: plan and labels
unfoldable pub require_labels : Sheet → Outcome (Plan × List ℕ)
require_labels fresh = refused 13 0
require_labels (opened p) = refused 13 0
require_labels (labelled p ls) = accepted (p, ls)
require_labels (charted p ls c) = accepted (p, ls)

-- CHARTED: plan and chart
unfoldable pub require_chart : Sheet → Outcome (Plan × Chart)
require_chart fresh = refused 13 0
require_chart (opened p) = refused 13 0
require_chart (labelled p ls) = refused 13 0
require_chart (charted p ls c) = accepted (p, c)

-- what an opened file must keep: 4 to 9, 10, then for a chart 11 and 12
unfoldable pub judge : Sheet → Outcome (Unit {0})
judge fresh = passed
judge (opened p) = plan_rules p
judge (labelled p ls) = plan_rules p >> label_rules p ls
judge (charted p ls c) = plan_rules p >> label_rules p ls >> (chart p ls >>= λ d. require (same_chart c d) 12 0)

-- open (any stage) replaces everything by a file's contents
unfoldable pub open_call : List ℕ → Outcome Sheet
open_call b = do
  s ← decode b
  judge s
  accepted s

-- the offered labels, if their count is right (2) and they keep the rules (10)
unfoldable pub offered : Plan → List ℕ → Outcome (List ℕ)
offered p ls = do
  require (eqb (length ls) (labels_due p)) 2 0
  label_rules p ls
  accepted ls

-- offer takes labels (LABELLED afterwards, the chart dropped, as after sweep and turn)
unfoldable pub offer_call : Sheet → List ℕ → Outcome Sheet
offer_call s ls = do
  p ← require_plan s
  ms ← offered p ls
  accepted (labelled p ms)

-- sweep works out labels
unfoldable pub sweep_call : Sheet → Outcome Sheet
sweep_call s = do
  p ← require_plan s
  ms ← sweep p
  accepted (labelled p ms)

-- turn changes the labels of named edges
unfoldable pub turn_call : Sheet → List ℕ → ℕ → Outcome Sheet
turn_call s items direction = do
  (p, ls) ← require_labels s
  ms ← turn p ls items direction
  accepted (labelled p ms)

-- chart stores the chart
unfoldable pub chart_call : Sheet → Outcome Sheet
chart_call s = do
  (p, ls) ← require_labels s
  c ← chart p ls
  accepted (charted p ls c)

-- write gives the file's length and the buffer afterwards: the file, then the later bytes as they were
unfoldable pub write_call : Sheet → List ℕ → Outcome (ℕ × List ℕ)
write_call s buffer =
    let b = encode s in
    do
      p ← require_plan s
      require (leb (length b) (length buffer)) 16 (length b)
      accepted (length b, b ++ drop (length b) buffer)

-- scan names the smallest triple, or says that there is none
unfoldable pub scan_call : Sheet → Outcome (Option Triple)
scan_call s = mapped scan (require_plan s)

-- same says yes exactly when n, w, h and all points are equal
unfoldable pub same_call : Sheet → Sheet → Outcome Bool
same_call s t = do
  (p, c) ← require_chart s
  (q, d) ← require_chart t
  accepted (eqb (context_count p) (context_count q) && same_chart c d)

-- where the body of u's ring begins in the file
unfoldable pub ring_start : Plan → ℕ → ℕ
ring_start p u = entry_offset u (start p u)

-- ring gives the offset and the length of the ring's body in the file; it refuses as open does, then 17
unfoldable pub ring_call : List ℕ → ℕ → Outcome (ℕ × ℕ)
ring_call b u = do
  s ← open_call b
  p ← require_plan s
  require (ltb u (context_count p)) 17 (context_count p)
  accepted (ring_start p u, 2 * length (entries p u))

-- the part of the file that it hands back: empty on a refusal
unfoldable pub ring_part : List ℕ → Outcome (ℕ × ℕ) → List ℕ
ring_part b (accepted (at, size)) = take size (drop at b)
ring_part b (refused k at) = []

-- who unfolds this unfolds all of the above: for facts that are computed
unfoldable pub calls_computes : Unit {0}
unfolding stage require_plan require_labels require_chart judge open_call offered offer_call sweep_call turn_call chart_call write_call scan_call same_call ring_start ring_call ring_part
calls_computes = tt
