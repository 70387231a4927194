-- show_part meets its contract.
use mathlib.Core.Path.{sym, ◌∙◌}
use Rattle.console.proofs.Marks.{behind-mark, behind-on, behind_all}
use native.Mathlib.Omega.{arith}
use Rattle.console.proofs.show_part.Goals as goal

pub returns-then-text-i-eq35 : goal.returns-then-text-i-eq35
returns-then-text-i-eq35 c = sym (c.loop-i.invariant ∙ behind-mark c.args.text.now c.loop-i.i (omega arith) c.if-text-i-eq35.true)

pub loop-i-preserved : goal.loop-i-preserved
loop-i-preserved c = c.loop-i.invariant ∙ behind-on c.args.text.now c.loop-i.i (omega arith) c.if-text-i-eq35.false

pub returns : goal.returns
returns c = c.max.ensures ∙ behind_all c.args.text.now c.args.from c.loop-i.i c.loop-i.invariant c.loop-i-test.false c.loop-i.auto.i-end
