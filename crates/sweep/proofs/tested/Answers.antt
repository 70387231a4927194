-- tested meets its contract.
use mathlib.Core.Path.{sym, ap, ◌∙◌}
use Rattle.std.proofs.lemmas.Result.{err_from_is_err_and}
use Rattle.rings.specs.Tables.{table_of}
use Rattle.refusal.specs.Refusals.{outcome_of}
use Rattle.sweep.proofs.Answers.{answer_refused, answer_tested}
use Rattle.sweep.proofs.tested.Goals as goal

pub returns-in_err-labels : goal.returns-in_err-labels
returns-in_err-labels c =
    let p = err_from_is_err_and c.from_residual.result c.from_residual.ensures.1 in
    rw (p.1, p.2) (answer_refused _ (ap outcome_of (sym c.in_err-labels.was) ∙ c.swept.ensures))

pub returns-in_err-check : goal.returns-in_err-check
returns-in_err-check c =
    let f = c.args.fit.now in
    let p = err_from_is_err_and c.from_residual-in_err-check.result c.from_residual-in_err-check.ensures.1 in
    rw (p.1, p.2) (answer_tested (table_of f.plan) (ap outcome_of (sym c.in_ok-labels.was) ∙ c.swept.ensures) c.in_err-check.ensures)

pub returns : goal.returns
returns c =
    let f = c.args.fit.now in
    answer_tested (table_of f.plan) (ap outcome_of (sym c.in_ok-labels.was) ∙ c.swept.ensures) c.in_ok-check.ensures
