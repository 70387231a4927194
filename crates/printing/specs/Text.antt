-- The text of sheetprint, as 01 has it: open, scan, sweep, chart, and a line or more for each but the sweep. In each line `#` stands for the next number.
use Rattle.std.specs.Prelude.{ℕ, zero, suc, List, [], ◌∷◌, ◌++◌, cond, length, get_or, take, drop, leb, Option, Some, None}
use Rattle.model.specs.Outcome.{Outcome, accepted, refused}
use Rattle.model.specs.Plan.{Plan, context_count}
use Rattle.model.specs.Chart.{Chart}
use Rattle.model.specs.Scan.{Triple}
use Rattle.model.specs.File.{Sheet}
use Rattle.model.specs.Calls.{require_plan, require_chart, open_call, scan_call, sweep_call, chart_call}
use Rattle.text_templates.specs.Digits.{letters}
use Rattle.text_templates.specs.Forms.{filled_word}

-- n
unfoldable pub plan_line : ℕ → List ℕ
plan_line n = filled_word "plan #\n" (n ∷ [])

-- the scan: three numbers if found
unfoldable pub triangle_line : Option Triple → List ℕ
triangle_line None = letters "triangle none\n"
triangle_line (Some (a, b, c)) = filled_word "triangle # # #\n" (a ∷ b ∷ c ∷ [])

-- w and h
unfoldable pub size_line : ℕ → ℕ → List ℕ
size_line w h = filled_word "size # #\n" (w ∷ h ∷ [])

-- number, x, y
unfoldable pub point_line : ℕ → ℕ → ℕ → List ℕ
point_line u x y = filled_word "# # #\n" (u ∷ x ∷ y ∷ [])

-- the points of the first n contexts, in their order
unfoldable pub point_lines : List ℕ → List ℕ → ℕ → List ℕ
point_lines xs ys zero = []
point_lines xs ys (suc u) = point_lines xs ys u ++ point_line u (get_or xs u 0) (get_or ys u 0)

-- the chart of n contexts
unfoldable pub chart_lines : ℕ → Chart → List ℕ
chart_lines n c = size_line c.w c.h ++ point_lines c.xs c.ys n

-- a refusal: its number and its place
unfoldable pub refusal_line : ℕ → ℕ → List ℕ
refusal_line k at = filled_word "refused # at #\n" (k ∷ at ∷ [])

-- what is printed from a call on: of an accepted one, what follows it; of a refused one, the refusal, which ends the text
unfoldable pub or_refusal : {A : Type 0} → Outcome A → (A → List ℕ) → List ℕ
or_refusal (accepted a) rest = rest a
or_refusal (refused k at) rest = refusal_line k at

-- from chart on
unfoldable pub chart_text : Sheet → List ℕ
chart_text s = or_refusal (chart_call s) (λ (t : Sheet). or_refusal (require_chart t) (λ (a : Plan × Chart). chart_lines (context_count a.0) a.1))

-- from sweep on, which prints nothing of its own
unfoldable pub sweep_text : Sheet → List ℕ
sweep_text s = or_refusal (sweep_call s) chart_text

-- from scan on
unfoldable pub scan_text : Sheet → List ℕ
scan_text s = or_refusal (scan_call s) (λ (found : Option Triple). triangle_line found ++ sweep_text s)

-- of an opened sheet
unfoldable pub plan_text : Sheet → List ℕ
plan_text s = or_refusal (require_plan s) (λ (p : Plan). plan_line (context_count p) ++ scan_text s)

-- of a plan file
unfoldable pub file_text : List ℕ → List ℕ
file_text b = or_refusal (open_call b) plan_text

-- The text for an input: its first 8,192 bytes, or all if fewer, are the plan file
unfoldable pub text : List ℕ → List ℕ
text input = file_text (take 8192 input)

-- a text at the front of a buffer, whose later bytes stay; a buffer that is too short stays as it is
unfoldable pub written : List ℕ → List ℕ → List ℕ
written t buffer = cond (leb (length t) (length buffer)) (t ++ drop (length t) buffer) buffer

-- who unfolds this unfolds all of the above: for facts that are computed
unfoldable pub text_computes : Unit {0}
unfolding plan_line triangle_line size_line point_line point_lines chart_lines refusal_line or_refusal chart_text sweep_text scan_text plan_text file_text text written
text_computes = tt
