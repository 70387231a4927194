-- What the ledger judges of each call of a list, and which call was the last to be accepted.
use Rattle.std.specs.Prelude.{List, [], ◌∷◌, Bool, true, false, Option, Some, None}
use Rattle.model.specs.Outcome.{Outcome, accepted, refused, taken}
use Rattle.model.specs.CallLists.{Call, open_file, offer_labels, sweep-labels, turn_edges, draw_chart, Ledger, enter, holds_chart}
use Rattle.sheet.specs.Answers.{answer_of}

-- what is to be answered, judged by the call's arguments and the ledger alone
unfoldable pub judgements : Ledger → List Call → List (Outcome (Unit {0}))
judgements g [] = []
judgements g (c ∷ cs) = answer_of (enter g c) ∷ judgements (taken g (enter g c)) cs

-- the call if it is accepted, else the one before
unfoldable pub newer : {A : Type 0} → Outcome A → Call → Option Call → Option Call
newer (accepted a) c last = Some c
newer (refused k at) c last = last

-- the last accepted call of a list, judged by the ledger; before the list it was `last`
unfoldable pub last_accepted : Option Call → Ledger → List Call → Option Call
last_accepted last g [] = last
last_accepted last g (c ∷ cs) = last_accepted (newer (enter g c) c last) (taken g (enter g c)) cs

-- it was chart, or an open of a file that holds a chart
unfoldable pub draws : Option Call → Bool
draws None = false
draws (Some (open_file b)) = holds_chart b
draws (Some (offer_labels ls)) = false
draws (Some sweep-labels) = false
draws (Some (turn_edges items direction)) = false
draws (Some draw_chart) = true
