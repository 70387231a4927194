-- raise meets its contract.
use Rattle.chart_solver.proofs.Relax.{taken-past, taken_off, taken_still, taken-none, taken_up}
use Rattle.chart_solver.proofs.System.raise.Goals as goal

pub returns-in_default : goal.returns-in_default
returns-in_default c = taken-past c.args.self.now c.args.k c.requires c.in_default.ensures.lookup.3

pub returns-then-high-self : goal.returns-then-high-self
returns-then-high-self c =
    let there = c.in-Some.ensures.lookup in
    taken_off c.args.self.now c.args.k c.requires there.3.0 (there.3.1 _) c.from-high.ensures c.if-high-self.true

pub returns-then-from-due : goal.returns-then-from-due
returns-then-from-due c =
    let there = c.in-Some.ensures.lookup in
    taken_still c.args.self.now c.args.k c.requires there.3.0 (there.3.1 _) c.from-high.ensures c.due-due.ensures.value c.from.ensures c.if-from-due.true

pub returns-then-due-self : goal.returns-then-due-self
returns-then-due-self c =
    let there = c.in-Some.ensures.lookup in
    taken-none c.args.self.now c.args.k c.requires there.3.0 (there.3.1 _) c.from-high.ensures c.due-due.ensures.value c.from.ensures c.if-high-self.false c.if-due-self.true

pub returns : goal.returns
returns c =
    let there = c.in-Some.ensures.lookup in
    taken_up c.args.self.now c.args.k c.requires there.3.0 (there.3.1 _) c.from-high.ensures c.due-due.ensures.value c.from.ensures c.if-high-self.false c.if-from-due.false c.if-due-self.false
