-- Same: 13 for the first sheet or the second, then the comparison of n, w, h and points.
use Prim.Native.Nat.{◌≤◌, ◌<◌}
use mathlib.Core.Path.{◌≡◌, sym, ap, ◌∙◌}
use mathlib.Core.Bool.{Bool, ◌&&◌}
use lib.Dec.{eqb}
use Rattle.model.specs.Outcome.{Outcome, accepted, refused, ◌>>=◌}
use Rattle.model.specs.Plan.{Plan, context_count}
use Rattle.model.specs.Chart.{Chart, same_chart}
use Rattle.model.specs.Calls.{require_chart, same_call}
use Rattle.model.proofs.Outcomes.{bind_at, bind_off}
use Rattle.sheet.specs.declared.Sheet.{Sheet}
use Rattle.sheet.specs.Sheets.{held_plan, held_chart, reads, stage_read, rank}
use Rattle.sheet.proofs.Reading.{stage_refused, stage_missed, stage_reached, chart_early, chart_there, count_held}

module _ (a b : Sheet) where
  abbrev compared : Plan × Chart → Outcome Bool
  compared t = require_chart (reads b) >>= λ (u : Plan × Chart). accepted (eqb (context_count t.0) (context_count u.0) && same_chart t.1 u.1)

  pub same_early : rank (stage_read a) < 3 → same_call (reads a) (reads b) ≡ refused 13 0
  unfolding same_call
  same_early h = bind_off (require_chart (reads a)) 13 0 compared (chart_early a h)

  same_first : 3 ≤ rank (stage_read a) → same_call (reads a) (reads b) ≡ compared (held_plan a, held_chart a)
  unfolding same_call
  same_first h = bind_at (require_chart (reads a)) (held_plan a, held_chart a) compared (chart_there a h)

  abbrev answered : Plan × Chart → Outcome Bool
  answered u = accepted (eqb (context_count (held_plan a)) (context_count u.0) && same_chart (held_chart a) u.1)

  pub same_early_second : 3 ≤ rank (stage_read a) → rank (stage_read b) < 3 → same_call (reads a) (reads b) ≡ refused 13 0
  same_early_second h k = same_first h ∙ bind_off (require_chart (reads b)) 13 0 answered (chart_early b k)

  pub same_there : (t : Bool) → 3 ≤ rank (stage_read a) → 3 ≤ rank (stage_read b) → t ≡ (eqb a.n b.n && same_chart (held_chart a) (held_chart b)) → accepted t ≡ same_call (reads a) (reads b)
  same_there t h k e =
      ap accepted e
      ∙ sym (same_first h ∙ bind_at (require_chart (reads b)) (held_plan b, held_chart b) answered (chart_there b k) ∙ λ i. accepted (eqb (count_held a i) (count_held b i) && same_chart (held_chart a) (held_chart b)))

-- for the call itself, step by step
pub ruleset steps = (stage_refused, stage_missed, stage_reached, same_early, same_early_second, same_there)
