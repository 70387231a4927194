-- A sheet that calls leave, written and opened, is the same sheet.
use Prim.Native.Nat.{ℕ}
use mathlib.Core.Path.{◌≡◌, sym, ap, ◌∙◌}
use mathlib.Core.List.{List}
use lib.ListN.{take}
use Rattle.model.specs.Outcome.{accepted, passed}
use Rattle.model.specs.File as file
use Rattle.model.specs.Calls.{require_plan, open_call, write_call}
use Rattle.model.specs.CallLists.{Call, run}
use Rattle.model.proofs.Outcomes.{not-both}
use Rattle.sheet.specs.declared.Sheet.{Sheet}
use Rattle.sheet.specs.Sheets.{reads, packed}
use Rattle.sheet.specs.Answers.{answer_of, after}
use Rattle.sheet.proofs.RoundTrips.{written-opens}
use Rattle.guarantee.specs.Engine.{fresh_sheet, sheet_after}
use Rattle.guarantee.specs.ThereAndBack.{ThereAndBack}
use Rattle.guarantee.proofs.Kept.{kept_judged}
use Rattle.guarantee.proofs.Sized.{Good, fresh_good}
use Rattle.guarantee.proofs.Struct.{read_back, sheet_after-packed, run_good}

-- what a good sheet is opened to: the very struct
module _ (s : Sheet) (d d' : List ℕ) (k : ℕ) where
  abbrev Back : file.Sheet → Type 0
  Back t = (answer_of (open_call (take k d')) ≡ passed) × (after s (open_call (take k d')) ≡ packed t)

  back : (t : file.Sheet) → Good t → write_call (reads (packed t)) d ≡ accepted (k, d') → Back t
  unfolding write_call require_plan
  back file.fresh g e = not-both (sym (ap (λ (u : file.Sheet). write_call u d) (read_back file.fresh g)) ∙ e)
  back (file.opened p) g e = written-opens (file.opened p) g.sized (kept_judged _ g.kept) s d d' k e
  back (file.labelled p ls) g e = written-opens (file.labelled p ls) g.sized (kept_judged _ g.kept) s d d' k e
  back (file.charted p ls c) g e = written-opens (file.charted p ls c) g.sized (kept_judged _ g.kept) s d d' k e

-- THERE AND BACK, for every list of calls
pub there_and_back : (calls : List Call) → ThereAndBack calls
there_and_back calls = record {
  opens = λ d d' k e. (back fresh_sheet d d' k (run file.fresh calls) good (is d d' k e)).0;
  the_same = λ s d d' k e. (back s d d' k (run file.fresh calls) good (is d d' k e)).1 ∙ sym same;
}
  where
    good : Good (run file.fresh calls)
    good = run_good calls file.fresh fresh_good

    same : sheet_after fresh_sheet calls ≡ packed (run file.fresh calls)
    same = sheet_after-packed calls file.fresh fresh_good

    is : (d d' : List ℕ) (k : ℕ) → write_call (reads (sheet_after fresh_sheet calls)) d ≡ accepted (k, d') → write_call (reads (packed (run file.fresh calls))) d ≡ accepted (k, d')
    is d d' k e = ap (λ (t : Sheet). write_call (reads t) d) (sym same) ∙ e
