-- is_outer meets its contract.
use Rattle.faces.proofs.FaceTests.{outer-border, outer_inner}
use Rattle.faces.proofs.is_outer.Goals as goal

pub returns-then-u-lt4 : goal.returns-then-u-lt4
returns-then-u-lt4 c = outer-border c.args.u c.args.v c.if-u-lt4.true

pub returns : goal.returns
returns c = outer_inner c.args.u c.args.v c.if-u-lt4.false
