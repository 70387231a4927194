-- turn_labels meets its contract.
use mathlib.Core.Path.{refl}
use native.Mathlib.Omega.{arith}
use Rattle.std.proofs.lemmas.Result.{err_from_is_err_and}
use Rattle.rings.specs.Tables.{table_of}
use Rattle.turn.proofs.Answers.{answer_pair, answer_odd, answer_direction, answer_broken, answer_labelled}
use Rattle.turn.proofs.turn_labels.Goals as goal
use Rattle.turn.proofs.turn_labels.Goals.{then-items-ne0-via-then-items-ne0, then-items-ne0-via-else-items-ne0+then-direction-gt1}

pub returns-in_err-turned : goal.returns-in_err-turned
returns-in_err-turned c =
    let a = c.args in
    let f = a.fit.now in
    let long = c.well_formed in
    let p = err_from_is_err_and c.from_residual.result c.from_residual.ensures.1 in
    rw (p.1, p.2) (answer_pair (table_of f.plan) f.fits a.labels a.items.now a.direction (omega arith) c.quarters_of.result c.in_err-turned.ensures)

pub returns-then-items-ne0 : goal.returns-then-items-ne0
returns-then-items-ne0 c =
    let a = c.args in
    let f = a.fit.now in
    let long = c.well_formed in
    let q = c.quarters_of.result in
    elim c.then-items-ne0.branch [
      | then-items-ne0-via-then-items-ne0 w ↦ answer_odd (table_of f.plan) f.fits a.labels a.items.now a.direction (omega arith) q c.in_ok-turned.ensures refl w.if-items-ne0.true
      | then-items-ne0-via-else-items-ne0+then-direction-gt1 w ↦ answer_direction (table_of f.plan) f.fits a.labels a.items.now a.direction (omega arith) q c.in_ok-turned.ensures w.if-items-ne0.false refl w.if-direction-gt1.true
    ]

pub returns-in_err-check : goal.returns-in_err-check
returns-in_err-check c =
    let a = c.args in
    let f = a.fit.now in
    let long = c.well_formed in
    let p = err_from_is_err_and c.from_residual-in_err-check.result c.from_residual-in_err-check.ensures.1 in
    let q = c.quarters_of in
    rw (p.1, p.2) (answer_broken (table_of f.plan) f.fits a.labels a.items.now a.direction (omega arith) q.result c.in_ok-turned.ensures c.if-items-ne0.false c.if-direction-gt1.false q.ensures.value c.in_err-check.ensures)

pub returns : goal.returns
returns c =
    let a = c.args in
    let f = a.fit.now in
    let long = c.well_formed in
    let q = c.quarters_of in
    answer_labelled (table_of f.plan) f.fits a.labels a.items.now a.direction (omega arith) q.result c.in_ok-turned.ensures c.if-items-ne0.false c.if-direction-gt1.false q.ensures.value c.in_ok-check.ensures
