-- listed meets its contract.
use mathlib.Core.Path.{sym, ap, ◌∙◌}
use Prim.Native.Nat.{ℕ}
use Rattle.std.specs.Prelude.{Result, Err, is_ok}
use Rattle.std.proofs.lemmas.Result.{err_from_is_err_and}
use Rattle.rings.specs.Tables.{plan_of}
use Rattle.sweep_frontier.specs.Frontiers.{lent_frontier}
use Rattle.sweep_frontier.proofs.Fails.{folds_up-kept}
use Rattle.sweep_by_definition.specs.Lists as run
use Rattle.sweep_by_definition.proofs.Moves.{below-off, folds_up_next}
use Rattle.sweep_by_definition.proofs.list.listed.Goals as goal

pub returns-in_err-len : goal.returns-in_err-len
unfolding run.listing
returns-in_err-len c =
    let s = c.args.front.now in
    let p = plan_of s.located.rings in
    let l = c.loop-k in
    let b = c.add_below.new in
    let (_, e, same) = err_from_is_err_and c.from_residual.result c.from_residual.ensures.1 in
    ap (λ (r : Result ℕ ℕ). lent_frontier r b.at b.marks) (e ∙ ap Err same ∙ sym c.in_err-len.was)
    ∙ folds_up-kept (run.below_added p s.f.now) (below-off p s.f.now) (folds_up_next l.invariant.1 l.invariant.0 c.in-Some.ensures.steps c.add_below.ensures) (ap is_ok c.in_err-len.was)
