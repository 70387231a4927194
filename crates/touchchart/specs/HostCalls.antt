-- A host's list of calls through the C interface: each is handed the bytes of the sheet that the one before left, none at first.
use Rattle.std.specs.Prelude.{ℕ, ◌≡◌, ◌≤◌, List, [], ◌∷◌, map, length, take}
use Rattle.model.specs.Outcome.{Outcome, accepted, refused}
use Rattle.model.specs.File.{encode}
use Rattle.model.specs.CallLists.{Call, open_file, offer_labels, sweep-labels, turn_edges, draw_chart}
use Rattle.sheet.specs.Sheets.{reads}
use Rattle.sheet.specs.Answers.{answer_of}
use Rattle.guarantee.specs.Engine.{fresh_sheet, sheet_after, answers_of}
use Rattle.guarantee.specs.Guarantee.{Guarantee}
use Rattle.touchchart.specs.Interface.{opens_to, sweeps_to, offers_to, turns_to, charts_to}

-- A call, with the buffer that is lent to it as it was before
pub record HostCall : Type 0 where
  pub makes : Call
  pub out : List ℕ

-- what the C function of a call gives for the bytes of a sheet and a buffer
unfoldable pub function_of : Call → List ℕ → List ℕ → Outcome (ℕ × List ℕ)
function_of (open_file b) sheet out = opens_to b out
function_of (offer_labels ls) sheet out = offers_to sheet ls out
function_of sweep-labels sheet out = sweeps_to sheet out
function_of (turn_edges items direction) sheet out = turns_to sheet items direction out
function_of draw_chart sheet out = charts_to sheet out

-- the sheet's bytes after a call: those in the buffer, as many as it says; after a refusal those that it was handed
unfoldable pub bytes_kept : List ℕ → Outcome (ℕ × List ℕ) → List ℕ
bytes_kept sheet (accepted (k, out)) = take k out
bytes_kept sheet (refused k at) = sheet

-- the sheet's bytes after a list of calls
unfoldable pub bytes_after : List ℕ → List HostCall → List ℕ
bytes_after sheet [] = sheet
bytes_after sheet (h ∷ hs) = bytes_after (bytes_kept sheet (function_of h.makes sheet h.out)) hs

-- what each call of a list answers: that it is accepted, or its refusal
unfoldable pub answers_after : List ℕ → List HostCall → List (Outcome (Unit {0}))
answers_after sheet [] = []
answers_after sheet (h ∷ hs) =
    let o = function_of h.makes sheet h.out in
    answer_of o ∷ answers_after (bytes_kept sheet o) hs

-- Each buffer has room for every file: TOUCHCHART_FILE_MAX bytes. Of a list with a shorter one HostGuarantee says nothing.
-- There an accepted call whose file does not fit is refused by 16 (bytes_back). Then the sheet's bytes (bytes_kept) and the buffer (buffer_after) stay.
abbrev pub HaveRoom : List HostCall → Type 0
HaveRoom [] = Unit {0}
HaveRoom (h ∷ hs) = (5176 ≤ length h.out) × HaveRoom hs

-- the calls alone
abbrev pub calls_made : List HostCall → List Call
calls_made hs = map (λ (h : HostCall). h.makes) hs

-- What a host is owed of a list of calls
pub record HostGuarantee (hs : List HostCall) : Type 0 where
  -- The bytes are the file of the sheet that these calls leave on a fresh one, none while that is fresh.
  pub bytes : bytes_after [] hs ≡ encode (reads (sheet_after fresh_sheet (calls_made hs)))
  -- The functions answer what these calls answer.
  pub answers : answers_after [] hs ≡ answers_of fresh_sheet (calls_made hs)
  -- Demand 3 holds of them.
  pub demand_3 : Guarantee (calls_made hs)
