-- The text of the four trenches, by computation: for B the one that 01 shows.
use mathlib.Core.Path.{◌≡◌, refl}
use Rattle.lists.specs.Ranges.{first_from}
use Rattle.lists.specs.Words.{word, words, bytes}
use Rattle.model.specs.Plan.{plan_computes}
use Rattle.model.specs.Labels.{labels_computes}
use Rattle.model.specs.Chart.{chart_computes}
use Rattle.model.specs.Sweep.{sweep_computes}
use Rattle.model.specs.Scan.{scan_computes}
use Rattle.model.specs.File.{opened, encode, file_computes}
use Rattle.model.specs.Calls.{calls_computes}
use Rattle.model.specs.Trenches.{A, B, C, D}
use Rattle.text_templates.specs.Digits.{letters, words_computes}
use Rattle.text_templates.specs.Forms.{forms_computes}
use Rattle.printing.specs.Text.{text, text_computes}

-- 01's example
pub b_printed : text (encode (opened B)) ≡ letters "plan 6\ntriangle none\nsize 2 3\n0 2 3\n1 2 0\n2 0 0\n3 0 3\n4 1 1\n5 1 2\n"
unfolding first_from word words bytes plan_computes labels_computes chart_computes sweep_computes scan_computes file_computes calls_computes words_computes forms_computes text_computes
b_printed = refl

-- A, the smallest trench
pub a_printed : text (encode (opened A)) ≡ letters "plan 5\ntriangle none\nsize 2 2\n0 2 2\n1 2 0\n2 0 0\n3 0 2\n4 1 1\n"
unfolding first_from word words bytes plan_computes labels_computes chart_computes sweep_computes scan_computes file_computes calls_computes words_computes forms_computes text_computes
a_printed = refl

-- C, whose sweep is refused
pub c_printed : text (encode (opened C)) ≡ letters "plan 6\ntriangle 0 1 4\nrefused 14 at 0\n"
unfolding first_from word words bytes plan_computes labels_computes chart_computes sweep_computes scan_computes file_computes calls_computes words_computes forms_computes text_computes
c_printed = refl

-- D, whose sweep breaks the label rules
pub d_printed : text (encode (opened D)) ≡ letters "plan 12\ntriangle 5 6 7\nrefused 10 at 5\n"
unfolding first_from word words bytes plan_computes labels_computes chart_computes sweep_computes scan_computes file_computes calls_computes words_computes forms_computes text_computes
d_printed = refl
