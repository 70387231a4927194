-- has meets its contract.
use Prim.Native.Nat.{◌+◌}
use mathlib.Core.Path.{sym, ◌∙◌}
use mathlib.Core.List.{◌∷◌}
use Rattle.std.proofs.lemmas.Result.{err_from_is_err_and}
use Rattle.file_records.specs.Records.{kind_number}
use Rattle.lists.specs.Spans.{stretch}
use Rattle.file_framing.specs.Layouts.{due_row}
use Rattle.file_framing.proofs.Layouts.{rest_end, due-refused, due_there}
use Rattle.file_framing.proofs.Cursor.has.Goals as goal

pub returns-then-is_end : goal.returns-then-is_end
returns-then-is_end c = λ due.
    let a = c.args.self.now in
    rest_end a.file.now (due_row (kind_number c.args.kind) c.args.size ∷ due) a.at (sym c.is_end.ensures ∙ c.if-is_end.true)

pub returns-in_err-due : goal.returns-in_err-due
returns-in_err-due c = λ due.
    let a = c.args.self.now in
    let p = err_from_is_err_and c.from_residual.result c.from_residual.ensures.1 in
    rw (p.1, p.2) (due-refused a.file.now (kind_number c.args.kind) c.args.size due a.at (sym c.is_end.ensures ∙ c.if-is_end.false) _ _ c.in_err-due.ensures)

pub returns : goal.returns
returns c = λ due.
    let a = c.args.self.now in
    due_there a.file.now (kind_number c.args.kind) c.args.size due a.at (sym c.is_end.ensures ∙ c.if-is_end.false) (stretch a.file.now (a.at + 4) c.args.size) (a.at + 4 + c.args.size) c.in_ok-due.ensures
