-- record meets its contract.
use mathlib.Core.Path.{sym, ◌∙◌}
use Rattle.std.proofs.lemmas.Result.{err_from_is_err_and}
use Rattle.file_records.specs.Records.{kind_number}
use Rattle.file_framing.proofs.Offsets.{as_broken, as_due, as_kind, told_broken}
use Rattle.file_framing.proofs.Cursor.record.Goals as goal

pub returns-in_err-found : goal.returns-in_err-found
returns-in_err-found c = λ fits.
    let a = c.args.self.now in
    let f = c.in_err-found.ensures in
    let p = err_from_is_err_and c.from_residual.result c.from_residual.ensures.1 in
    rw (p.1, p.2) (told_broken a.at f.ok_part f.value ∙ as_broken a.file.now a.at (kind_number c.args.kind) fits c.framed.ensures f.ok_part)

pub returns-then-found-number : goal.returns-then-found-number
returns-then-found-number c = λ fits.
    let a = c.args.self.now in
    as_kind a.file.now a.at (kind_number c.args.kind) fits c.framed.ensures _ c.in_ok-found.ensures.ok_part (λ q. c.if-found-number.true (q ∙ sym c.number.ensures.value))

pub returns : goal.returns
returns c = λ fits.
    let a = c.args.self.now in
    as_due a.file.now a.at (kind_number c.args.kind) fits c.framed.ensures _ c.in_ok-found.ensures.ok_part (c.if-found-number.false ∙ c.number.ensures.value)
