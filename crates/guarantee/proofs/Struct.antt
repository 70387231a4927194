-- The struct follows the sheet: after every list of calls it is the sheet's, packed, and each call is answered as on the sheet.
use mathlib.Core.Path.{◌≡◌, refl, ap, ◌∙◌}
use mathlib.Core.List.{List, [], ◌∷◌}
use Rattle.model.specs.Outcome.{Outcome, accepted, refused, taken}
use Rattle.model.specs.File.{Sheet, fresh}
use Rattle.model.specs.CallLists.{Call, call, run}
use Rattle.sheet.specs.declared.Sheet as struct
use Rattle.sheet.specs.Sheets.{reads, packed}
use Rattle.sheet.specs.Answers.{answer_of, after}
use Rattle.sheet.proofs.Packed.{reads-packed}
use Rattle.guarantee.specs.Engine.{fresh_sheet, sheet_after, answers_of}
use Rattle.guarantee.proofs.Agreement.{answers}
use Rattle.guarantee.proofs.Sized.{Good, fresh_good, leaves_good, held_sized}

-- a good sheet is read from its struct
pub read_back : (s : Sheet) → Good s → reads (packed s) ≡ s
read_back s g = reads-packed s (held_sized s g.kept g.sized)

-- the struct after one call
after-packed : (s : Sheet) (o : Outcome Sheet) → after (packed s) o ≡ packed (taken s o)
unfolding after taken
after-packed s (accepted t) = refl
after-packed s (refused k at) = refl

pub taken_good : (s : Sheet) (c : Call) → Good s → Good (taken s (call s c))
unfolding taken
taken_good s c g = go (call s c) refl
  where
    go : (o : Outcome Sheet) → call s c ≡ o → Good (taken s o)
    go (accepted t) e = leaves_good s t c g e
    go (refused k at) e = g

call-packed : (s : Sheet) (c : Call) → Good s → after (packed s) (call (reads (packed s)) c) ≡ packed (taken s (call s c))
call-packed s c g = ap (λ (t : Sheet). after (packed s) (call t c)) (read_back s g) ∙ after-packed s (call s c)

-- the struct after a list of calls
pub sheet_after-packed : (cs : List Call) (s : Sheet) → Good s → sheet_after (packed s) cs ≡ packed (run s cs)
unfolding sheet_after run
sheet_after-packed [] s g = refl
sheet_after-packed (c ∷ cs) s g = ap (λ (t : struct.Sheet). sheet_after t cs) (call-packed s c g) ∙ sheet_after-packed cs (taken s (call s c)) (taken_good s c g)

-- and the answers
pub answers_of_same : (cs : List Call) (s : Sheet) → Good s → answers_of (packed s) cs ≡ answers s cs
unfolding answers_of answers
answers_of_same [] s g = refl
answers_of_same (c ∷ cs) s g =
    let first = ap (λ (t : Sheet). answer_of (call t c)) (read_back s g) in
    let rest = ap (λ (t : struct.Sheet). answers_of t cs) (call-packed s c g) ∙ answers_of_same cs (taken s (call s c)) (taken_good s c g) in
    λ i. first i ∷ rest i

pub run_good : (cs : List Call) (s : Sheet) → Good s → Good (run s cs)
unfolding run
run_good [] s g = g
run_good (c ∷ cs) s g = run_good cs (taken s (call s c)) (taken_good s c g)

-- what the struct holds after a list of calls on a fresh sheet
pub sheet_after-reads : (cs : List Call) → reads (sheet_after fresh_sheet cs) ≡ run fresh cs
sheet_after-reads cs = ap reads (sheet_after-packed cs fresh fresh_good) ∙ read_back (run fresh cs) (run_good cs fresh fresh_good)
