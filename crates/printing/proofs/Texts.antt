-- What is printed from each call on, by what the call answers and the struct that it leaves.
use Prim.Native.Nat.{ℕ, zero, suc, ◌+◌, ◌≤◌}
use mathlib.Core.Path.{◌≡◌, refl, sym, ap, ◌∙◌}
use mathlib.Core.List.{List, [], ◌∷◌, ◌++◌}
use mathlib.Core.Bool.{true}
use native.Mathlib.Omega.{arith}
use native.Mathlib.Numerals.{add-one}
use lib.ListN.{get_or}
use Rattle.lists.proofs.Padded.{get_or-zero_padded}
use Rattle.lists.specs.Spans.{zero_padded}
use Rattle.std.specs.Prelude.{Option, Some, None}
use Rattle.std.proofs.Common.{length-append}
use Rattle.buffer.proofs.Puts.{put_join}
use Rattle.model.specs.Outcome.{Outcome, accepted, refused}
use Rattle.model.specs.Plan.{Plan, context_count}
use Rattle.model.specs.Chart.{Chart, chart}
use Rattle.model.specs.Sweep.{sweep}
use Rattle.model.specs.Scan.{Triple}
use Rattle.model.specs.File as file
use Rattle.model.specs.Calls.{require_plan, require_labels, require_chart, open_call, scan_call, sweep_call, chart_call}
use Rattle.model.proofs.Outcomes.{not-both, same-value, same-refusal, bind_accepted, then_accepted}
use Rattle.model.proofs.LabelCounts.{sweep_long}
use Rattle.model.proofs.RingPart.{open_accepted}
use Rattle.model.proofs.FileRead.{read_fits}
use Rattle.plan_bounds.specs.Fits.{fit}
use Rattle.sheet.specs.declared.Sheet.{Sheet}
use Rattle.sheet.specs.Sheets.{held_plan, fits, reads, stage_read, rank, pack, packed}
use Rattle.sheet.specs.Answers.{packed_as}
use Rattle.sheet.proofs.Reading.{plan_early, plan_there, fits_there, count_held, few}
use Rattle.sheet.proofs.Packed.{reads-packed}
use Rattle.sheet.proofs.RoundTrips.{has-plan}
use Rattle.sheet_rules.specs.Rules.{rules_from_8}
use Rattle.sheet_open.specs.Opening.{file_rules_of}
use Rattle.sheet_open.proofs.Opened.{judge-parts, sheet_held_lem}
use Rattle.text_templates.specs.Digits.{letters}
use Rattle.text_templates.specs.Forms.{filled_word}
use Rattle.text_templates.proofs.Forms.{filled-word}
use Rattle.printing.specs.Text.{plan_line, triangle_line, size_line, point_line, point_lines, chart_lines, refusal_line, or_refusal, chart_text, sweep_text, scan_text, plan_text, file_text}

-- ---- refusals
-- a refused call ends the text
or_refusal-refused : {k at : ℕ} (o : Outcome file.Sheet) (rest : file.Sheet → List ℕ) → refused k at ≡ packed_as o → refusal_line k at ≡ or_refusal o rest
unfolding or_refusal packed_as
or_refusal-refused (accepted s) rest e = not-both e
or_refusal-refused (refused j m) rest e = let (p, q) = same-refusal e in λ i. refusal_line (p i) (q i)

-- so does a refused chart
pub chart-refused : {k at : ℕ} (s : file.Sheet) → refused k at ≡ packed_as (chart_call s) → refusal_line k at ≡ chart_text s
unfolding chart_text
chart-refused s e = or_refusal-refused (chart_call s) _ e

-- a refused sweep
pub sweep-refused : {k at : ℕ} (s : file.Sheet) → refused k at ≡ packed_as (sweep_call s) → refusal_line k at ≡ sweep_text s
unfolding sweep_text
sweep-refused s e = or_refusal-refused (sweep_call s) chart_text e

-- and a refused open
pub open_refused : {k at : ℕ} (b : List ℕ) → refused k at ≡ packed_as (open_call b) → refusal_line k at ≡ file_text b
unfolding file_text
open_refused b e = or_refusal-refused (open_call b) plan_text e

-- ---- what a struct reads as
-- a plan that is read is the struct's, and fits
plan-read : (s : Sheet) (p : Plan) → require_plan (reads s) ≡ accepted p → (p ≡ held_plan s) × (fits s ≡ true)
plan-read s p e = go (rank (stage_read s)) refl
  where
    go : (k : ℕ) → rank (stage_read s) ≡ k → (p ≡ held_plan s) × (fits s ≡ true)
    go zero q = not-both (sym (plan_early s (omega arith)) ∙ e)
    go (suc k) q = (same-value (sym e ∙ plan_there s (omega arith)), fits_there s (omega arith))

-- where there are labels there is a plan
labels-plan : (s : file.Sheet) (a : Plan × List ℕ) → require_labels s ≡ accepted a → require_plan s ≡ accepted a.0
unfolding require_plan require_labels
labels-plan file.fresh a e = not-both e
labels-plan (file.opened p) a e = not-both e
labels-plan (file.labelled p ls) a e = ap (λ (b : Plan × List ℕ). accepted b.0) (same-value e)
labels-plan (file.charted p ls c) a e = ap (λ (b : Plan × List ℕ). accepted b.0) (same-value e)

-- ---- chart
-- zeros behind the numbers of a chart are not printed
points-zero_padded : (xs ys : List ℕ) (k n : ℕ) → point_lines (zero_padded k xs) (zero_padded k ys) n ≡ point_lines xs ys n
unfolding point_lines
points-zero_padded xs ys k zero = refl
points-zero_padded xs ys k (suc u) = λ i. points-zero_padded xs ys k u i ++ point_line u (get_or-zero_padded k xs u i) (get_or-zero_padded k ys u i)

-- no points, and one more
pub points_none : (xs ys : List ℕ) → point_lines xs ys 0 ≡ []
unfolding point_lines
points_none xs ys = refl

pub points-more : (xs ys : List ℕ) (u : ℕ) → point_lines xs ys (u + 1) ≡ point_lines xs ys u ++ point_line u (get_or xs u 0) (get_or ys u 0)
unfolding point_lines
points-more xs ys u = rw add-one

-- the lines of a struct's chart
abbrev drawn_text : Sheet → List ℕ
drawn_text s = size_line s.w s.h ++ point_lines s.xs s.ys s.n

-- of a packed sheet they are the lines of its chart
drawn-packed : (p : Plan) (ls : List ℕ) (c : Chart) → drawn_text (packed (file.charted p ls c)) ≡ chart_lines (context_count p) c
unfolding packed pack chart_lines
drawn-packed p ls c = ap (λ (l : List ℕ). size_line c.w c.h ++ l) (points-zero_padded c.xs c.ys 200 (context_count p))

-- and n is the number of its contexts
count-packed : (p : Plan) (ls : List ℕ) (c : Chart) → (packed (file.charted p ls c)).n ≡ context_count p
unfolding packed pack
count-packed p ls c = refl

-- an accepted chart call leaves a struct whose chart is printed
pub chart-accepted : (s t : Sheet) → accepted t ≡ packed_as (chart_call (reads s)) → (drawn_text t ≡ chart_text (reads s)) × (t.n ≤ 200)
unfolding chart_text chart_call packed_as or_refusal require_chart
chart-accepted s t e = go (chart_call (reads s)) refl e
  where
    rest : file.Sheet → List ℕ
    rest u = or_refusal (require_chart u) (λ (a : Plan × Chart). chart_lines (context_count a.0) a.1)

    go : (o : Outcome file.Sheet) → chart_call (reads s) ≡ o → accepted t ≡ packed_as o → (drawn_text t ≡ or_refusal o rest) × (t.n ≤ 200)
    go (refused k at) d f = not-both (sym f)
    go (accepted u) d f =
        let r = same-value f in
        let (a, e₁, b) = bind_accepted (require_labels (reads s)) _ u d in
        let (c, e₂, v) = bind_accepted (chart a.0 a.1) _ u b in
        let is = same-value v in
        let t-is : t ≡ packed (file.charted a.0 a.1 c) = r ∙ ap packed (sym is) in
        let (p-is, fits-it) = plan-read s a.0 (labels-plan (reads s) a e₁) in
        let n = ap (λ (x : Sheet). x.n) t-is ∙ count-packed a.0 a.1 c ∙ ap context_count p-is ∙ count_held s in
        let small = few s fits-it in
        (ap drawn_text t-is ∙ drawn-packed a.0 a.1 c ∙ ap rest is, omega arith)

-- ---- sweep
-- an accepted sweep prints nothing, and chart goes on with the struct that it leaves
pub sweep-accepted : (s t : Sheet) → accepted t ≡ packed_as (sweep_call (reads s)) → chart_text (reads t) ≡ sweep_text (reads s)
unfolding sweep_text sweep_call packed_as or_refusal fits
sweep-accepted s t e = go (sweep_call (reads s)) refl e
  where
    go : (o : Outcome file.Sheet) → sweep_call (reads s) ≡ o → accepted t ≡ packed_as o → chart_text (reads t) ≡ or_refusal o chart_text
    go (refused k at) d f = not-both (sym f)
    go (accepted u) d f =
        let r = same-value f in
        let (p, e₁, b) = bind_accepted (require_plan (reads s)) _ u d in
        let (ms, e₂, v) = bind_accepted (sweep p) _ u b in
        let is = same-value v in
        let (p-is, fits-it) = plan-read s p e₁ in
        ap (λ (x : Sheet). chart_text (reads x)) (r ∙ ap packed (sym is)) ∙ ap chart_text (reads-packed (file.labelled p ms) (ap fit p-is ∙ fits-it, sweep_long p ms e₂) ∙ is)

-- ---- scan
-- a refused scan ends the text, and what is found is printed before what follows
module _ (s : file.Sheet) where
  pub scan-refused : {k at : ℕ} → refused k at ≡ scan_call s → refusal_line k at ≡ scan_text s
  unfolding scan_text or_refusal
  scan-refused e = ap (λ (o : Outcome (Option Triple)). or_refusal o (λ (found : Option Triple). triangle_line found ++ sweep_text s)) e

  pub scan-accepted : (found : Option Triple) → accepted found ≡ scan_call s → triangle_line found ++ sweep_text s ≡ scan_text s
  unfolding scan_text or_refusal
  scan-accepted found e = ap (λ (o : Outcome (Option Triple)). or_refusal o (λ (f : Option Triple). triangle_line f ++ sweep_text s)) e

-- the two lines that a scan may print
module _ {found : Option Triple} where
  pub none_line : found ≡ None → triangle_line found ≡ letters "triangle none\n"
  unfolding triangle_line
  none_line is = ap triangle_line is

  pub found_line : {a b c : ℕ} → found ≡ Some (a, b, c) → triangle_line found ≡ filled_word "triangle # # #\n" (a ∷ b ∷ c ∷ [])
  unfolding triangle_line
  found_line is = ap triangle_line is

-- ---- open
-- where the struct's plan is read, its number of contexts is printed
plan_printed : (s : Sheet) → require_plan (reads s) ≡ accepted (held_plan s) → plan_line s.n ++ scan_text (reads s) ≡ plan_text (reads s)
unfolding plan_text or_refusal
plan_printed s e = ap (λ (n : ℕ). plan_line n ++ scan_text (reads s)) (sym (count_held s)) ∙ ap (λ (o : Outcome Plan). or_refusal o (λ (p : Plan). plan_line (context_count p) ++ scan_text (reads s))) (sym e)

-- an accepted open leaves a struct with the file's plan
open_accepted-on : (b : List ℕ) (t : Sheet) → accepted t ≡ packed_as (open_call b) → (plan_text (reads t) ≡ file_text b) × (require_plan (reads t) ≡ accepted (held_plan t))
unfolding file_text or_refusal packed_as
open_accepted-on b t e = go (open_call b) refl e
  where
    go : (o : Outcome file.Sheet) → open_call b ≡ o → accepted t ≡ packed_as o → (plan_text (reads t) ≡ or_refusal o plan_text) × (require_plan (reads t) ≡ accepted (held_plan t))
    go (refused k at) d f = not-both (sym f)
    go (accepted s) d f =
        let r = same-value f in
        let (is, ok) = open_accepted b s d in
        let fit = read_fits b s is in
        let kept = (then_accepted (file_rules_of s) (rules_from_8 s) tt (sym (judge-parts s) ∙ ok)).0 in
        let read = ap reads r ∙ reads-packed s (sheet_held_lem s fit (sym kept)) in
        let (p, plan) = has-plan s fit in
        let there = ap require_plan read ∙ plan in
        (ap plan_text read, there ∙ ap accepted (plan-read t p there).0)

-- and its text goes on with them
pub open-printed : (b : List ℕ) (t : Sheet) → accepted t ≡ packed_as (open_call b) → file_text b ≡ filled_word "plan #\n" (t.n ∷ []) ++ scan_text (reads t)
unfolding plan_line
open-printed b t e = let (is, plan) = open_accepted-on b t e in sym is ∙ sym (plan_printed t plan)

-- for what is printed from each call on
pub ruleset drawn = (chart-refused, chart-accepted)

pub ruleset swept = (sweep-refused, sweep-accepted)

pub ruleset scanned = (put_join, length-append, scan-refused, scan-accepted)

pub ruleset filed = (put_join, length-append, filled-word, open_refused, open-printed)
