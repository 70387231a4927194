-- plan_length meets its contract.
use native.Mathlib.Omega.{arith}
use Rattle.plan_bounds.proofs.Bounds.{fit_few, fit_room, fit_counted}
use Rattle.file_writing.proofs.Lengths.{length-plan}
use Rattle.file_writing.proofs.plan_length.Goals as goal

pub overflow_mul-result : goal.overflow_mul-result
overflow_mul-result c = let f = c.args.fit.now in let few = fit_few f.plan f.fits in omega arith

pub overflow_add-result : goal.overflow_add-result
overflow_add-result c = let f = c.args.fit.now in let few = fit_few f.plan f.fits in omega arith

pub overflow_add-result-2 : goal.overflow_add-result-2
overflow_add-result-2 c = let f = c.args.fit.now in let few = fit_few f.plan f.fits in let m = c.total_of.ensures.upper_bound in omega arith

pub returns-clause-value : goal.returns-clause-value
returns-clause-value c = length-plan c.args.fit.now c.total_of.ensures.value

pub returns-clause-upper_bound : goal.returns-clause-upper_bound
returns-clause-upper_bound c =
    let f = c.args.fit.now in
    let few = fit_few f.plan f.fits in
    let room = fit_room f.plan f.fits in
    let m = fit_counted f.plan f.fits c.total_of.ensures.value in
    omega arith
