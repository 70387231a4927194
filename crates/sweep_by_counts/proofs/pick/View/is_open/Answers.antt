-- is_open meets its contract.
use native.Mathlib.Omega.{arith}
use Rattle.rings.specs.Tables.{plan_of}
use Rattle.sweep_by_counts.proofs.Singles.{open_low, open_last, open_held}
use Rattle.sweep_by_counts.proofs.pick.View.is_open.Goals as goal

pub returns-then-j-lt2 : goal.returns-then-j-lt2
returns-then-j-lt2 c = λ f r. open_low (plan_of c.args.self.now.located.rings) f c.args.j c.if-j-lt2.true

pub returns-then-j-saturating_sub : goal.returns-then-j-saturating_sub
returns-then-j-saturating_sub c = λ f r. let z = r.len in open_last (plan_of c.args.self.now.located.rings) f c.args.j (omega arith) (omega arith)

pub returns : goal.returns
returns c = λ f r. open_held (plan_of c.args.self.now.located.rings) r c.args.j c.is_single.ensures (omega arith) (omega arith)
