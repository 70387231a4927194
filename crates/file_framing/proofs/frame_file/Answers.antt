-- frame_file meets its contract.
use mathlib.Core.Path.{◌∙◌}
use Rattle.std.proofs.lemmas.Result.{err_from_is_err_and}
use Rattle.file_framing.proofs.Layouts.{file_refused, file_there}
use Rattle.file_framing.proofs.frame_file.Goals as goal

pub returns-in_err-due-clause-value : goal.returns-in_err-due-clause-value
returns-in_err-due-clause-value c =
    let p = err_from_is_err_and c.from_residual.result c.from_residual.ensures.1 in
    rw (p.1, p.2) (file_refused c.args.file.now _ _ c.in_err-due.ensures)

pub returns-clause-value : goal.returns-clause-value
returns-clause-value c = c.frame_plan.ensures.value ∙ file_there c.args.file.now c.in_ok-due.ensures
