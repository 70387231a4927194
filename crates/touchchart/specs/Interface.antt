-- The C interface: what each call answers and writes, for every list of bytes.
-- A sheet is handed over and handed back as bytes; none are a fresh sheet. The refusals of what is handed over come first, then those of the call, then 16.
use Rattle.std.specs.Prelude.{ℕ, ◌+◌, ◌*◌, List, Bool, true, false, Option, Some, None}
use Rattle.model.specs.Outcome.{Outcome, ◌>>=◌, mapped}
use Rattle.model.specs.Scan.{Triple}
use Rattle.model.specs.Calls.{open_call, scan_call, same_call, ring_call}
use Rattle.model.specs.CallLists.{sweep-labels, offer_labels, turn_edges, draw_chart}
use Rattle.sheet_bytes.specs.Exchange.{sheet_of_bytes, bytes_back, changed_by}

-- touchchart_open: the sheet that the file holds, its bytes written into out
unfoldable pub opens_to : List ℕ → List ℕ → Outcome (ℕ × List ℕ)
opens_to file out = bytes_back (open_call file) out

-- touchchart_sweep: the sheet with the labels that the sweep gives
unfoldable pub sweeps_to : List ℕ → List ℕ → Outcome (ℕ × List ℕ)
sweeps_to sheet out = changed_by sweep-labels sheet out

-- touchchart_offer: the sheet with the offered labels
unfoldable pub offers_to : List ℕ → List ℕ → List ℕ → Outcome (ℕ × List ℕ)
offers_to sheet labels out = changed_by (offer_labels labels) sheet out

-- touchchart_turn: the sheet with the labels of the named edges turned
unfoldable pub turns_to : List ℕ → List ℕ → ℕ → List ℕ → Outcome (ℕ × List ℕ)
turns_to sheet items direction out = changed_by (turn_edges items direction) sheet out

-- touchchart_chart: the sheet with its chart
unfoldable pub charts_to : List ℕ → List ℕ → Outcome (ℕ × List ℕ)
charts_to sheet out = changed_by draw_chart sheet out

-- the value of a scan: 0 for none, else a × 65536 + b × 256 + c
unfoldable pub triple_value : Option Triple → ℕ
triple_value None = 0
triple_value (Some (a, b, c)) = a * 65536 + b * 256 + c

-- touchchart_scan: the smallest triple of the sheet
unfoldable pub scans_to : List ℕ → Outcome ℕ
scans_to sheet = do
  s ← sheet_of_bytes sheet
  mapped triple_value (scan_call s)

-- the value of a comparison: 1 for yes, 0 for no
unfoldable pub same_value : Bool → ℕ
same_value true = 1
same_value false = 0

-- touchchart_same: a first, then b; then the stages
unfoldable pub compares_to : List ℕ → List ℕ → Outcome ℕ
compares_to a b = do
  s ← sheet_of_bytes a
  t ← sheet_of_bytes b
  mapped same_value (same_call s t)

-- the value of a part of a file: offset × 65536 + length
unfoldable pub part_value : ℕ × ℕ → ℕ
part_value part = part.0 * 65536 + part.1

-- touchchart_ring: where the body of a context's ring stands in the file
unfoldable pub rings_to : List ℕ → ℕ → Outcome ℕ
rings_to file context = mapped part_value (ring_call file context)
