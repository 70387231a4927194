-- words meets its contract.
use mathlib.Core.Path.{refl}
use Prim.Native.Nat.{◌*◌}
use Rattle.lists.proofs.Loops.{fills_start, fills_on}
use Rattle.arrays.proofs.Parts.{words_filled, word_stopped}
use native.Mathlib.Omega.{arith}
use Rattle.arrays.proofs.words.Goals as goal

pub loop-i-init : goal.loop-i-init
loop-i-init g c = fills_start refl

pub loop-i-preserved : goal.loop-i-preserved
loop-i-preserved g c =
    let stopped = word_stopped c.args.a.now c.args.from (c.args.step * c.loop-i.i) (omega arith) c.saturating_mul.ensures c.saturating_add.ensures c.word_at.ensures in
    fills_on c.loop-i.invariant (omega arith) (omega arith) stopped refl

pub returns : goal.returns
returns g c = words_filled c.args.a.now c.args.from c.args.step c.loop-i.invariant (omega arith)
