-- parts meets its contract.
use Prim.Native.Nat.{◌+◌, ◌*◌}
use mathlib.Core.Path.{refl}
use mathlib.Core.List.{[], ◌∷◌}
use native.Mathlib.Omega.{arith}
use Rattle.std.proofs.lemmas.Result.{err_from_is_err_and}
use Rattle.file_framing.specs.Layouts.{due_row}
use Rattle.file_framing.proofs.Layouts.{rest_begun, labels_then, chart_then, few_labels, all_darts}
use Rattle.file_framing.proofs.Cursor.parts.Goals as goal

pub overflow_add-behind : goal.overflow_add-behind
overflow_add-behind c = let few = few_labels c.requires.n_bound c.labels_due-due.ensures in let h = c.requires.at_bound in omega arith

pub overflow_add-chart : goal.overflow_add-chart
overflow_add-chart c = let few = few_labels c.requires.n_bound c.labels_due-due.ensures in let h = c.requires.at_bound in omega arith

pub overflow_add-last : goal.overflow_add-last
overflow_add-last c = let few = few_labels c.requires.n_bound c.labels_due-due.ensures in let h = c.requires.at_bound in let n = c.requires.n_bound in omega arith

pub returns-in_err-has-clause-value : goal.returns-in_err-has-clause-value
returns-in_err-has-clause-value c = λ p e.
    let a = c.args.self.now in
    let q = err_from_is_err_and c.from_residual.result c.from_residual.ensures.1 in
    rw (q.1, q.2) (rest_begun a.file.now a.at p e (c.labels_due-due.ensures p e) (c.in_err-has.ensures (due_row 4 (4 + 4 * c.args.n) ∷ [])))

pub returns-then-not-branch-clause-value : goal.returns-then-not-branch-clause-value
returns-then-not-branch-clause-value c = λ p e. rest_begun c.args.self.now.file.now c.args.self.now.at p e (c.labels_due-due.ensures p e) (rw c.if-not-branch.true at (c.in_ok-has.ensures (due_row 4 (4 + 4 * c.args.n) ∷ [])))

pub returns-in_err-has-2-clause-value : goal.returns-in_err-has-2-clause-value
returns-in_err-has-2-clause-value c = λ p e.
    let a = c.args.self.now in
    let first = rw c.if-not-branch.false at (c.in_ok-has.ensures (due_row 4 (4 + 4 * c.args.n) ∷ [])) in
    let r = c.from_residual-in_err-has-2 in
    let q = err_from_is_err_and r.result r.ensures.1 in
    rw (q.1, q.2) (labels_then a.file.now a.at p e (c.labels_due-due.ensures p e) first (c.in_err-has-2.ensures []))

pub returns-then-not-branch-2-clause-value : goal.returns-then-not-branch-2-clause-value
returns-then-not-branch-2-clause-value c = λ p e.
    let a = c.args.self.now in
    let first = rw c.if-not-branch.false at (c.in_ok-has.ensures (due_row 4 (4 + 4 * c.args.n) ∷ [])) in
    labels_then a.file.now a.at p e (c.labels_due-due.ensures p e) first (rw c.if-not-branch-2.true at (c.in_ok-has-2.ensures []))

pub returns-in_err-end-clause-value : goal.returns-in_err-end-clause-value
returns-in_err-end-clause-value c = λ p e.
    let a = c.args.self.now in
    let first = rw c.if-not-branch.false at (c.in_ok-has.ensures (due_row 4 (4 + 4 * c.args.n) ∷ [])) in
    let second = rw c.if-not-branch-2.false at (c.in_ok-has-2.ensures []) in
    let r = c.from_residual-in_err-end in
    let q = err_from_is_err_and r.result r.ensures.1 in
    rw (q.1, q.2) (chart_then a.file.now a.at p e (c.labels_due-due.ensures p e) first _ _ second c.in_err-end.ensures)

pub returns-clause-value : goal.returns-clause-value
returns-clause-value c = λ p e.
    let a = c.args.self.now in
    let first = rw c.if-not-branch.false at (c.in_ok-has.ensures (due_row 4 (4 + 4 * c.args.n) ∷ [])) in
    let second = rw c.if-not-branch-2.false at (c.in_ok-has-2.ensures []) in
    chart_then a.file.now a.at p e (c.labels_due-due.ensures p e) first _ _ second c.in_ok-end.ensures

pub returns-clause-near : goal.returns-clause-near
returns-clause-near c = let few = few_labels c.requires.n_bound c.labels_due-due.ensures in let h = c.requires.at_bound in (omega arith, omega arith)

pub returns-then-not-branch-2-clause-stand : goal.returns-then-not-branch-2-clause-stand
returns-then-not-branch-2-clause-stand c = refl

pub returns-clause-stand : goal.returns-clause-stand
returns-clause-stand c = let all = all_darts c.labels_due-due.ensures in (refl, omega arith)
