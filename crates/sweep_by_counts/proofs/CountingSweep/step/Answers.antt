-- step meets its contract.
use native.Mathlib.Omega.{arith}
use Rattle.sweep_by_counts.proofs.Runs.{take_inside, take_steps, take_runs, take_resumes}
use Rattle.sweep_by_counts.proofs.CountingSweep.step.Goals as goal

pub slice_bounds-advance-end : goal.slice_bounds-advance-end
slice_bounds-advance-end c = let q = c.requires.1.lists.few in omega arith

pub advance-requires : goal.advance-requires
advance-requires c =
    let t = c.requires.1 in
    (t.running.state, t.running.counters, take_steps c.args.self.now.sound t)

pub overflow_add-found : goal.overflow_add-found
overflow_add-found c = let (a, b, d, e) = take_inside c.args.self.now.sound c.requires.1 in omega arith

pub overflow_add-found-2 : goal.overflow_add-found-2
overflow_add-found-2 c = let (a, b, d, e) = take_inside c.args.self.now.sound c.requires.1 in let q = c.requires.1.lists.few in omega arith

pub limit_from-requires : goal.limit_from-requires
limit_from-requires c = let (a, b, d, e) = take_inside c.args.self.now.sound c.requires.1 in let q = c.requires.1.lists.few in omega arith

pub returns : goal.returns
returns c = λ k t.
    let h = c.advance.ensures.so t.running.state t.running.counters (take_steps c.args.self.now.sound t) in
    let few = t.lists.few in
    take_runs c.args.self.now.sound t h (take_resumes c.args.self.now.sound t (omega arith) (c.limit_from.ensures _ _ h))
