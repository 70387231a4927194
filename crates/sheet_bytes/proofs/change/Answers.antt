-- change meets its contract.
use mathlib.Core.Path.{ap, ◌∙◌}
use Rattle.std.specs.Prelude.{ℕ, List}
use Rattle.model.specs.Outcome.{Outcome, refused}
use Rattle.refusal.specs.Refusals.{number_of, place_of}
use Rattle.file_writing.specs.WrittenFiles.{buffer_after}
use Rattle.sheet.specs.Answers.{length_of}
use Rattle.sheet_bytes.specs.Exchange.{bytes_back, given}
use Rattle.sheet_bytes.proofs.Handing.{way_on, way_off, change_code}
use Rattle.sheet_bytes.proofs.change.Goals as goal

-- what the call gives is handed back
pub returns-in-Ok-clause-value : goal.returns-in-Ok-clause-value
returns-in-Ok-clause-value g c = λ k makes.
    let b = c.args.sheet.now in
    let buffer = c.args.out.now in
    let same = way_on k b buffer c.hand_over.result _ c.in-Ok.held c.call.result makes c.hand_over.ensures c.in-Ok.is c.call.ensures in
    c.hand_back.ensures.value ∙ change_code k b buffer (bytes_back (given c.call.result) buffer) same

pub returns-in-Ok-clause-out_after : goal.returns-in-Ok-clause-out_after
returns-in-Ok-clause-out_after g c = λ k makes.
    let buffer = c.args.out.now in
    let same = way_on k c.args.sheet.now buffer c.hand_over.result _ c.in-Ok.held c.call.result makes c.hand_over.ensures c.in-Ok.is c.call.ensures in
    c.hand_back.ensures.out_after ∙ ap (λ (o : Outcome (ℕ × List ℕ)). buffer_after o buffer) same

-- the bytes are refused
pub returns-in-Err-clause-value : goal.returns-in-Err-clause-value
unfolding length_of
returns-in-Err-clause-value g c = λ k makes.
    let b = c.args.sheet.now in
    let buffer = c.args.out.now in
    let f = c.in-Err.refusal in
    c.refusal_code.ensures ∙ change_code k b buffer (refused (number_of f) (place_of f)) (way_off k b buffer c.hand_over.result f c.hand_over.ensures c.in-Err.is)

pub returns-in-Err-clause-out_after : goal.returns-in-Err-clause-out_after
unfolding buffer_after
returns-in-Err-clause-out_after g c = λ k makes.
    let buffer = c.args.out.now in
    ap (λ (o : Outcome (ℕ × List ℕ)). buffer_after o buffer) (way_off k c.args.sheet.now buffer c.hand_over.result c.in-Err.refusal c.hand_over.ensures c.in-Err.is)
