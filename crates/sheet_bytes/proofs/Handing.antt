-- Sheets handed over, called and handed back: each step on the struct is the step on the sheet.
use Prim.Native.Nat.{ℕ}
use mathlib.Core.Path.{◌≡◌, refl, sym, ap, ◌∙◌, subst}
use mathlib.Core.List.{List, [], ◌∷◌}
use native.Mathlib.Omega.{arith}
use lib.ListN.{length}
use lib.Dec.{leb}
use Rattle.model.specs.Outcome.{Outcome, accepted, refused, passed, mapped, require, ◌>>=◌}
use Rattle.model.specs.File.{Sheet, fresh, encode}
use Rattle.model.specs.Calls.{require_plan, judge, open_call, write_call}
use Rattle.model.specs.CallLists.{Call, open_file, call}
use Rattle.model.proofs.RingPart.{open_accepted}
use Rattle.model.proofs.Outcomes.{not-both, same-value, bind_accepted, then_accepted}
use Rattle.std.specs.Prelude.{Ok, Err}
use Rattle.std.specs.declared.result.Result.{Result}
use Rattle.refusal.specs.declared.Refusal.{Refusal}
use Rattle.refusal.specs.Refusals.{outcome_of, number_of, place_of}
use Rattle.sheet.specs.declared.Sheet as struct
use Rattle.sheet.specs.declared.Judged.{Judged}
use Rattle.sheet.specs.Sheets.{reads, packed}
use Rattle.sheet.specs.Answers.{packed_as, length_of}
use Rattle.guarantee.proofs.Sized.{Good, fresh_good, leaves_good, held_sized}
use Rattle.guarantee.proofs.Struct.{read_back}
use Rattle.sheet_bytes.specs.Codes.{answer_code, wrapped}
use Rattle.sheet_bytes.specs.Exchange.{sheet_of_bytes, handed, given, bytes_back, Makes, changed_by}
use Rattle.sheet_bytes.proofs.Small.{Small, small-accepted, small-refused, small_bind}
use Rattle.sheet_bytes.proofs.Sizes.{file_short}
use Rattle.sheet_bytes.proofs.Places.{small_open, small-call, small_write}
use Rattle.sheet_bytes.proofs.Codes.{Roomy, code_whole}
use Rattle.sheet_bytes.proofs.Steps.{read-packed, given-packed, none_in, some_in}

-- ---- good sheets
-- what open leaves is good
pub opened_good : (b : List ℕ) (s : Sheet) → open_call b ≡ accepted s → Good s
unfolding call
opened_good b s e = leaves_good fresh s (open_file b) fresh_good e

-- so is what is handed over
pub handed_good : (b : List ℕ) (s : Sheet) → sheet_of_bytes b ≡ accepted s → Good s
unfolding sheet_of_bytes
handed_good [] s e = subst Good (same-value e) fresh_good
handed_good (a ∷ b) s e = opened_good (a ∷ b) s e

-- so is what a call leaves on what is handed over
pub called_good : (b : List ℕ) (c : Call) (t : Sheet) → (sheet_of_bytes b >>= λ (s : Sheet). call s c) ≡ accepted t → Good t
called_good b c t e = let (s, e₁, e₂) = bind_accepted (sheet_of_bytes b) _ t e in leaves_good s t c (handed_good b s e₁) e₂

-- ---- what results tell
-- a call on a good sheet tells what the model's call gives
pub given_called : (s : Sheet) (r : Result struct.Sheet Refusal) (c : Call) → Good s → outcome_of r ≡ packed_as (call s c) → given r ≡ call s c
given_called s r c g e = given-packed r (call s c) e (λ t d. let k = leaves_good s t c g d in held_sized t k.kept k.sized)

-- open
pub given-opened : (b : List ℕ) (r : Result struct.Sheet Refusal) → outcome_of r ≡ packed_as (open_call b) → given r ≡ open_call b
unfolding call
given-opened b r e = given_called fresh r (open_file b) fresh_good e

-- ---- what is handed over
-- a fresh struct: it keeps what an opened file must keep
pub fresh-judged : (h : struct.Sheet) → h ≡ packed fresh → judge (reads h) ≡ passed
unfolding judge
fresh-judged h e = ap (λ (s : struct.Sheet). judge (reads s)) e ∙ ap judge (read_back fresh fresh_good)

pub handed-fresh : (h : Judged) → h.sheet ≡ packed fresh → handed (Ok h) ≡ packed_as (accepted fresh)
unfolding handed packed_as
handed-fresh h e = ap accepted e

-- the struct of a file that is opened
module _ (b : List ℕ) where
  pub opened-judged : (h : struct.Sheet) → accepted h ≡ packed_as (open_call b) → judge (reads h) ≡ passed
  unfolding given
  opened-judged h e = (open_accepted b (reads h) (sym (given-opened b (Ok h) e))).1

  pub handed-opened : (h : Judged) → accepted h.sheet ≡ packed_as (open_call b) → handed (Ok h) ≡ packed_as (open_call b)
  unfolding handed
  handed-opened h e = e

  -- a file that is not opened
  pub handed-unopened : (f : Refusal) → outcome_of {A = struct.Sheet} (Err f) ≡ packed_as (open_call b) → handed (Err f) ≡ packed_as (open_call b)
  unfolding handed
  handed-unopened f e = e

  -- what is told of it: the struct reads as the sheet that the bytes hand over
  pub reads-handed : (s : struct.Sheet) → accepted s ≡ packed_as (sheet_of_bytes b) → accepted (reads s) ≡ sheet_of_bytes b
  reads-handed s e = ap (mapped reads) e ∙ read-packed (sheet_of_bytes b) (λ t d. let g = handed_good b t d in held_sized t g.kept g.sized)

  -- and the refusal is that of the bytes
  pub refusal-handed : (k at : ℕ) → refused k at ≡ packed_as (sheet_of_bytes b) → refused k at ≡ sheet_of_bytes b
  refusal-handed k at e = ap (mapped reads) e ∙ read-packed (sheet_of_bytes b) (λ t d. let g = handed_good b t d in held_sized t g.kept g.sized)

-- ---- the way of a call: what it gives on what is handed over is handed back
module _ (c : Call) (b buffer : List ℕ) (h : Result Judged Refusal) where
  -- a sheet is handed over: what a call that makes c gives on it
  pub way_on : (gives : Judged → Result struct.Sheet Refusal → Type 0) (j : Judged) (r : Result struct.Sheet Refusal)
      → Makes gives c → handed h ≡ packed_as (sheet_of_bytes b) → h ≡ Ok j → gives j r → bytes_back (given r) buffer ≡ changed_by c b buffer
  unfolding handed changed_by
  way_on gives j r makes e is k =
      let there = reads-handed b j.sheet (sym (ap handed is) ∙ e) in
      let called = given_called (reads j.sheet) r c (handed_good b (reads j.sheet) (sym there)) (makes j r k) in
      ap (λ (o : Outcome Sheet). bytes_back o buffer) (called ∙ ap (λ (o : Outcome Sheet). o >>= λ (s : Sheet). call s c) there)

  -- the bytes are refused
  pub way_off : (f : Refusal) → handed h ≡ packed_as (sheet_of_bytes b) → h ≡ Err f → refused (number_of f) (place_of f) ≡ changed_by c b buffer
  unfolding handed changed_by bytes_back
  way_off f e is = ap (λ (o : Outcome Sheet). bytes_back (o >>= λ (s : Sheet). call s c) buffer) (refusal-handed b (number_of f) (place_of f) (sym (ap handed is) ∙ e))

-- ---- room for the answers
-- what is handed over
pub small_in : (b : List ℕ) → Small (sheet_of_bytes b)
unfolding sheet_of_bytes
small_in [] = small-accepted fresh
small_in (a ∷ b) = small_open (a ∷ b)

-- the length of what is written is the file's
written-length : (t : Sheet) (buffer d : List ℕ) (k : ℕ) → write_call t buffer ≡ accepted (k, d) → k ≡ length (encode t)
unfolding write_call
written-length t buffer d k e =
    let b = encode t in
    let (p, _, f) = bind_accepted (require_plan t) _ (k, d) e in
    let (_, g) = then_accepted (require (leb (length b) (length buffer)) 16 (length b)) _ (k, d) f in
    sym (ap (λ (r : ℕ × List ℕ). r.0) (same-value g))

-- the length of the file, of a good sheet
roomy-length : (t : Sheet) (buffer : List ℕ) (o : Outcome (ℕ × List ℕ)) → Good t → write_call t buffer ≡ o → Roomy (length_of o)
unfolding length_of
roomy-length t buffer (accepted (k, d)) g e =
    let same = written-length t buffer d k e in
    let short = file_short t g in
    record { small = small-accepted k; value = λ v q. let r = same-value q in omega arith }
roomy-length t buffer (refused k at) g e =
    let (a, b) = (small_write t buffer g).says k at e in
    record { small = small-refused k at a b; value = λ v q. not-both q }

-- What a call leaves, handed back
roomy_back : (o : Outcome Sheet) (buffer : List ℕ) → Small o → ((t : Sheet) → o ≡ accepted t → Good t) → Roomy (length_of (bytes_back o buffer))
unfolding bytes_back length_of
roomy_back (accepted t) buffer s g = roomy-length t buffer (write_call t buffer) (g t refl) refl
roomy_back (refused k at) buffer s g = let (a, b) = s.says k at refl in record { small = small-refused k at a b; value = λ v q. not-both q }

-- a file that is opened
pub roomy_open : (b buffer : List ℕ) → Roomy (length_of (bytes_back (open_call b) buffer))
roomy_open b buffer = roomy_back (open_call b) buffer (small_open b) (opened_good b)

-- a call on what is handed over
pub roomy_change : (c : Call) (b buffer : List ℕ) → Roomy (length_of (changed_by c b buffer))
unfolding changed_by
roomy_change c b buffer =
    roomy_back (sheet_of_bytes b >>= λ (s : Sheet). call s c) buffer (small_bind (sheet_of_bytes b) (λ (s : Sheet). call s c) (small_in b) (λ s e. small-call s c (handed_good b s e))) (called_good b c)

-- its number in 64 bits, since it has room
pub change_code : (c : Call) (b buffer : List ℕ) (o : Outcome (ℕ × List ℕ)) → o ≡ changed_by c b buffer → wrapped (length_of o) ≡ answer_code (length_of (changed_by c b buffer))
change_code c b buffer o e = ap (λ (p : Outcome (ℕ × List ℕ)). wrapped (length_of p)) e ∙ code_whole (length_of (changed_by c b buffer)) (roomy_change c b buffer)

-- ---- for the code
-- what is handed over: a fresh sheet for no bytes, else the sheet of the file
pub ruleset hand_steps = (fresh-judged, handed-fresh, opened-judged, handed-opened, handed-unopened, none_in, some_in)

-- for who is handed it
pub ruleset read_handed = (reads-handed, refusal-handed)

-- a file that is opened: what it tells; and its number, since it has room
pub ruleset opens = (given-opened, code_whole, roomy_open)
