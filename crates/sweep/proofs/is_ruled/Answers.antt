-- is_ruled meets its contract.
use mathlib.Core.Path.{sym, ◌∙◌}
use mathlib.Core.Bool.{false≢true}
use native.Mathlib.Omega.{arith}
use borrow.Author.Tests.{ne_eqb}
use Rattle.plan_bounds.proofs.Bounds.{fit_few}
use Rattle.sweep.proofs.Ruled.{ruled-sound}
use Rattle.sweep.proofs.is_ruled.Goals as goal

pub overflow_cast-plan : goal.overflow_cast-plan
overflow_cast-plan c = let few = fit_few c.args.fit.now.plan c.args.fit.now.fits in omega arith

pub returns-then-total_of-dart_count : goal.returns-then-total_of-dart_count
returns-then-total_of-dart_count c = λ quick.
    let f = c.args.fit.now in
    ruled-sound f.plan f.fits c.total_of.ensures.value c.dart_count.ensures c.if-total_of-dart_count.true (sym c.is_sound.ensures ∙ quick)

pub returns-else-total_of-dart_count : goal.returns-else-total_of-dart_count
returns-else-total_of-dart_count c = λ same. absurd (false≢true (sym (ne_eqb _ _ c.if-total_of-dart_count.false) ∙ same))
