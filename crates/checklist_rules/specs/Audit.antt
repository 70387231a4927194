-- What is right in the checklist, and how checks are counted.
use Rattle.std.specs.Prelude.{ℕ, ◌+◌, ◌%◌, ◌^◌, ℤ, Bool, true, false, cond, ◌&&◌, ◌==◌, nat_eq, leb, is_ok, Option, Some, None, Ok, Err}
use Rattle.std.specs.Cmp.Lexicographic.{pointwise}
use Rattle.std.specs.Ordering.{int_eq}
use Rattle.std.specs.declared.result.Result.{Result}
use Rattle.model.specs.Outcome.{Outcome, accepted, refused}
use Rattle.model.specs.Scan.{Triple}
use Rattle.refusal.specs.declared.Refusal.{Refusal}
use Rattle.refusal.specs.Refusals.{number_of, place_of}
use Rattle.sheet.specs.declared.Sheet.{Sheet}
use Rattle.sheet.specs.Sheets.{stage_read, rank}
use Rattle.chart_audit.specs.declared.Areas.{Areas}
use Rattle.comparison.specs.Bytes.{agreeing}
use Rattle.checklist_rules.specs.declared.Tally.{Tally}
use Rattle.checklist_rules.specs.declared.Filed.{Filed}

-- a tally with one more check, each count in a word of 64 bits
abbrev pub tallied : Tally → Bool → Tally
tallied t right = record { checks = (t.checks + 1) % 2 ^ 64; wrong = (t.wrong + cond right 0 1) % 2 ^ 64 }

-- a call is refused 13 at 0
abbrev pub is_early : {A : Type 0} → Result A Refusal → Bool
is_early (Ok a) = false
is_early (Err r) = number_of r == 13 && place_of r == 0

-- a sheet that is not EMPTY and has no chart: no width and no height, and same is refused 13 at 0
abbrev pub undrawn : Sheet → Result Bool Refusal → Bool
undrawn s c = s.w == 0 && (s.h == 0 && (is_early c && leb 1 (rank (stage_read s))))

-- the same three contexts, or none and none
abbrev pub same_triple : Option Triple → Option Triple → Bool
same_triple (Some x) (Some y) = let (a, b, c) = x in let (d, e, f) = y in a == d && (b == e && c == f)
same_triple (Some x) None = false
same_triple None (Some y) = false
same_triple None None = true

-- scan has answered what is due: this very triple, or none; or the refusal of this number at this place
abbrev pub scanned_as_due : Result (Option Triple) Refusal → Outcome (Option Triple) → Bool
scanned_as_due (Ok x) (accepted y) = same_triple x y
scanned_as_due (Ok x) (refused k at) = false
scanned_as_due (Err r) (accepted y) = false
scanned_as_due (Err r) (refused k at) = number_of r == k && place_of r == at

-- two structs are equal, field by field
abbrev pub same_sheets : Sheet → Sheet → Bool
same_sheets s t =
    rank s.stage == rank t.stage && s.n == t.n && pointwise nat_eq s.sizes t.sizes && pointwise nat_eq s.entries t.entries && pointwise nat_eq s.labels t.labels
    && s.w == t.w && s.h == t.h && pointwise nat_eq s.xs t.xs && pointwise nat_eq s.ys t.ys

-- a call has answered what is due: this very sheet, or the refusal of this number at this place
abbrev pub answered_as_due : Result Sheet Refusal → Outcome Sheet → Bool
answered_as_due (Ok s) (accepted t) = same_sheets s t
answered_as_due (Ok s) (refused k at) = false
answered_as_due (Err r) (accepted t) = false
answered_as_due (Err r) (refused k at) = number_of r == k && place_of r == at

-- all inner faces are positive, and they sum to the doubled area of the rectangle
abbrev pub fills_rectangle : Areas → ℤ → Bool
fills_rectangle a whole = a.positive == a.faces && int_eq a.sum whole

-- afresh: same says yes
abbrev pub afresh : Result Bool Refusal → Bool
afresh (Ok b) = b
afresh (Err r) = false

-- the length of a file; 0 where it is refused
abbrev pub file_length : Result ℕ Refusal → ℕ
file_length (Ok k) = k
file_length (Err r) = 0

-- written: both files are accepted, they are as long as each other, and every byte is equal
abbrev pub same_files : Filed → Filed → Bool
same_files a b = is_ok a.answer && is_ok b.answer && file_length a.answer == file_length b.answer && agreeing a.buffer.now b.buffer.now (file_length a.answer) == file_length a.answer
