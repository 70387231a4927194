-- Number and value can be read off every answer.
use Rattle.model.specs.CallLists.{sweep-labels, offer_labels, turn_edges, draw_chart}
use Rattle.sheet.specs.Answers.{length_of}
use Rattle.sheet_bytes.proofs.Codes.{unpacks}
use Rattle.sheet_bytes.proofs.Handing.{roomy_open, roomy_change}
use Rattle.touchchart.specs.Interface.{opens_to, sweeps_to, offers_to, turns_to, charts_to, scans_to, compares_to, rings_to}
use Rattle.touchchart.specs.ReadOff.{ReadOff}
use Rattle.touchchart.proofs.Answers.{roomy-scan, roomy-same, roomy-ring}

-- each of the eight has room in the number
pub read_off : ReadOff
unfolding opens_to sweeps_to offers_to turns_to charts_to
read_off = record {
  opens = λ file out. unpacks (length_of (opens_to file out)) (roomy_open file out);
  sweeps = λ sheet out. unpacks (length_of (sweeps_to sheet out)) (roomy_change sweep-labels sheet out);
  offers = λ sheet labels out. unpacks (length_of (offers_to sheet labels out)) (roomy_change (offer_labels labels) sheet out);
  turns = λ sheet items direction out. unpacks (length_of (turns_to sheet items direction out)) (roomy_change (turn_edges items direction) sheet out);
  charts = λ sheet out. unpacks (length_of (charts_to sheet out)) (roomy_change draw_chart sheet out);
  scans = λ sheet. unpacks (scans_to sheet) (roomy-scan sheet);
  compares = λ a b. unpacks (compares_to a b) (roomy-same a b);
  rings = λ file context. unpacks (rings_to file context) (roomy-ring file context);
}
