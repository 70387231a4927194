-- What a host is owed of a list of calls through the C interface: after each call the bytes that it holds are the file of the sheet that the calls leave.
use Prim.Native.Nat.{ℕ, ◌≤◌}
use mathlib.Core.Path.{◌≡◌, refl, sym, ap, ◌∙◌}
use mathlib.Core.List.{List, [], ◌∷◌}
use native.Mathlib.Omega.{arith}
use lib.ListN.{length, drop}
use lib.Seq.{take-append_seam}
use Rattle.model.specs.Outcome.{Outcome, accepted, refused, taken, ◌>>=◌}
use Rattle.model.specs.File.{Sheet, fresh, opened, labelled, charted, frame, decode, encode}
use Rattle.model.specs.Calls.{open_call}
use Rattle.model.specs.CallLists.{Call, open_file, offer_labels, sweep-labels, turn_edges, draw_chart, call, run}
use Rattle.model.proofs.Outcomes.{not-both}
use Rattle.sheet.specs.Answers.{answer_of}
use Rattle.sheet.proofs.RoundTrips.{encode-opens, write_room}
use Rattle.guarantee.proofs.Agreement.{answers}
use Rattle.guarantee.proofs.Kept.{kept_judged}
use Rattle.guarantee.proofs.Sized.{Good, fresh_good, leaves_fits, leaves_good}
use Rattle.guarantee.proofs.Struct.{taken_good, answers_of_same, sheet_after-reads}
use Rattle.guarantee.proofs.Guarantee.{guarantee}
use Rattle.sheet_bytes.specs.Exchange.{sheet_of_bytes, bytes_back, changed_by}
use Rattle.sheet_bytes.proofs.Sizes.{file_short}
use Rattle.touchchart.specs.Interface.{opens_to, sweeps_to, offers_to, turns_to, charts_to}
use Rattle.touchchart.specs.HostCalls.{HostCall, function_of, bytes_kept, bytes_after, answers_after, HaveRoom, calls_made, HostGuarantee}

-- ---- what is handed over
-- bytes that open hand over the sheet that open gives: none do not open
opened_bytes : (b : List ℕ) (s : Sheet) → open_call b ≡ accepted s → sheet_of_bytes b ≡ accepted s
unfolding sheet_of_bytes open_call decode frame
opened_bytes [] s e = not-both e
opened_bytes (a ∷ b) s e = e

-- the file of a good sheet hands the sheet over
handed_back : (s : Sheet) → Good s → sheet_of_bytes (encode s) ≡ accepted s
unfolding sheet_of_bytes encode
handed_back fresh g = refl
handed_back (opened p) g = opened_bytes _ (opened p) (encode-opens (opened p) g.sized (kept_judged (opened p) g.kept))
handed_back (labelled p ls) g = opened_bytes _ (labelled p ls) (encode-opens (labelled p ls) g.sized (kept_judged (labelled p ls) g.kept))
handed_back (charted p ls c) g = opened_bytes _ (charted p ls c) (encode-opens (charted p ls c) g.sized (kept_judged (charted p ls c) g.kept))

-- ---- one call
-- the C function of a call hands back what the call leaves
function_gives : (s : Sheet) → Good s → (c : Call) (out : List ℕ) → function_of c (encode s) out ≡ bytes_back (call s c) out
unfolding function_of opens_to sweeps_to offers_to turns_to charts_to changed_by call
function_gives s g (open_file b) out = refl
function_gives s g (offer_labels ls) out = ap (λ (o : Outcome Sheet). bytes_back (o >>= λ (t : Sheet). call t (offer_labels ls)) out) (handed_back s g)
function_gives s g sweep-labels out = ap (λ (o : Outcome Sheet). bytes_back (o >>= λ (t : Sheet). call t sweep-labels) out) (handed_back s g)
function_gives s g (turn_edges items d) out = ap (λ (o : Outcome Sheet). bytes_back (o >>= λ (t : Sheet). call t (turn_edges items d)) out) (handed_back s g)
function_gives s g draw_chart out = ap (λ (o : Outcome Sheet). bytes_back (o >>= λ (t : Sheet). call t draw_chart) out) (handed_back s g)

-- what the host holds after it, and what it was answered
record Step (s : Sheet) (c : Call) (o : Outcome (ℕ × List ℕ)) : Type 0 where
  bytes : bytes_kept (encode s) o ≡ encode (taken s (call s c))
  answer : answer_of o ≡ answer_of (call s c)

step : (s : Sheet) → Good s → (c : Call) (out : List ℕ) → 5176 ≤ length out → Step s c (function_of c (encode s) out)
unfolding bytes_back bytes_kept taken answer_of
step s g c out room = go (call s c) refl
  where
    go : (r : Outcome Sheet) → call s c ≡ r → Step s c (function_of c (encode s) out)
    go (refused k at) e =
        let gives = function_gives s g c out ∙ ap (λ (o : Outcome Sheet). bytes_back o out) e in
        record {
          bytes = ap (bytes_kept (encode s)) gives ∙ ap (λ (o : Outcome Sheet). encode (taken s o)) (sym e);
          answer = ap answer_of gives ∙ ap answer_of (sym e);
        }
    go (accepted t) e =
        let short = file_short t (leaves_good s t c g e) in
        let written = write_room t (leaves_fits s t c g.kept g.sized e) out (omega arith) in
        let gives = function_gives s g c out ∙ ap (λ (o : Outcome Sheet). bytes_back o out) e ∙ written in
        record {
          bytes = ap (bytes_kept (encode s)) gives ∙ take-append_seam (encode t) (drop (length (encode t)) out) ∙ ap (λ (o : Outcome Sheet). encode (taken s o)) (sym e);
          answer = ap answer_of gives ∙ ap answer_of (sym e);
        }

-- ---- the list
bytes_run : (hs : List HostCall) → HaveRoom hs → (s : Sheet) → Good s → bytes_after (encode s) hs ≡ encode (run s (calls_made hs))
unfolding bytes_after run
bytes_run [] room s g = refl
bytes_run (h ∷ hs) (here, later) s g =
    ap (λ (b : List ℕ). bytes_after b hs) (step s g h.makes h.out here).bytes ∙ bytes_run hs later (taken s (call s h.makes)) (taken_good s h.makes g)

answers_run : (hs : List HostCall) → HaveRoom hs → (s : Sheet) → Good s → answers_after (encode s) hs ≡ answers s (calls_made hs)
unfolding answers_after answers
answers_run [] room s g = refl
answers_run (h ∷ hs) (here, later) s g =
    let one = step s g h.makes h.out here in
    let rest = ap (λ (b : List ℕ). answers_after b hs) one.bytes ∙ answers_run hs later (taken s (call s h.makes)) (taken_good s h.makes g) in
    λ i. one.answer i ∷ rest i

-- DEMAND 3 FOR HOSTS
pub host_guarantee : (hs : List HostCall) → HaveRoom hs → HostGuarantee hs
unfolding encode
host_guarantee hs room = record {
  bytes = bytes_run hs room fresh fresh_good ∙ ap encode (sym (sheet_after-reads (calls_made hs)));
  answers = answers_run hs room fresh fresh_good ∙ sym (answers_of_same (calls_made hs) fresh fresh_good);
  demand_3 = guarantee (calls_made hs);
}
