-- Scan: 13, then what the scan of the plan says.
use Prim.Native.Nat.{◌≤◌, ◌<◌}
use mathlib.Core.Path.{◌≡◌, sym, ap, ◌∙◌}
use Rattle.std.specs.Prelude.{Option}
use Rattle.model.specs.Outcome.{accepted, refused}
use Rattle.model.specs.Plan.{Plan}
use Rattle.model.specs.Scan.{Triple, scan}
use Rattle.model.specs.Calls.{require_plan, scan_call}
use Rattle.sheet.specs.declared.Sheet.{Sheet}
use Rattle.sheet.specs.Sheets.{held_plan, reads}
use Rattle.sheet.specs.Sheets.{rank, stage_read}
use Rattle.model.proofs.Outcomes.{mapped_at, mapped_off}
use Rattle.sheet.proofs.Reading.{fitting_refused, fitting_missed, fitting_reached, plan_early, plan_there}

module _ (s : Sheet) where
  pub scan_early : rank (stage_read s) < 1 → scan_call (reads s) ≡ refused 13 0
  unfolding scan_call
  scan_early h = mapped_off scan (require_plan (reads s)) 13 0 (plan_early s h)

  pub scan_there : {p : Plan} (r : Option Triple) → 1 ≤ rank (stage_read s) → r ≡ scan p → p ≡ held_plan s → accepted r ≡ scan_call (reads s)
  unfolding scan_call
  scan_there r h e q = ap accepted (e ∙ ap scan q) ∙ sym (mapped_at scan (require_plan (reads s)) (held_plan s) (plan_there s h))

-- for the call itself, step by step
pub ruleset steps = (fitting_refused, fitting_missed, fitting_reached, scan_early, scan_there)
