-- One item of a script on the sheet struct: the number of its kind, and what its call answers.
use Rattle.std.specs.Prelude.{ℕ, ◌<◌, ◌≡◌, Option, Some, None}
use Rattle.std.specs.Option.{option_map}
use Rattle.model.specs.Outcome.{Outcome}
use Rattle.model.specs.CallLists.{Call, call}
use Rattle.refusal.specs.Refusals.{outcome_of}
use Rattle.sheet.specs.declared.Sheet.{Sheet}
use Rattle.sheet.specs.Sheets.{reads}
use Rattle.sheet.specs.Answers.{packed_as}
use Rattle.script.specs.declared.Kind.{Kind}
use Rattle.script.specs.declared.Step.{Step}

-- the number of a kind
abbrev pub item_number : Kind → ℕ
item_number Kind.Open = 1
item_number Kind.Offer = 2
item_number Kind.Sweep = 3
item_number Kind.Turn = 4
item_number Kind.Chart = 5

-- the kind that a number stands for; those from 1 to 5 stand for one
abbrev pub IsKind : ℕ → Option Kind → Type 0
IsKind k (Some g) = k ≡ item_number g
IsKind k None = 0 < k → 5 < k

-- what an item's call answers on the sheet that a struct holds; nothing where the item is malformed
unfoldable pub item_answer : Sheet → Option Call → Option (Outcome Sheet)
item_answer s o = option_map (λ (c : Call). packed_as (call (reads s) c)) o

-- what was answered by an item that was run
abbrev pub step_ran : Option Step → Option (Outcome Sheet)
step_ran o = option_map (λ (t : Step). outcome_of t.answer) o
