-- copy_words meets its contract.
use Prim.Native.Nat.{◌+◌, ◌*◌}
use mathlib.Core.Path.{◌≡◌, refl, ◌∙◌}
use native.Mathlib.Omega.{arith}
use Rattle.arrays.specs.ArrayParts.{word_of}
use Rattle.sheet_open.proofs.Copies.{copied_start, copied_on, word_in_rest}
use Rattle.sheet_open.proofs.bounded.copy_words.Goals as goal

pub loop-i-init : goal.loop-i-init
loop-i-init c = copied_start

pub loop-i-preserved : goal.loop-i-preserved
loop-i-preserved c =
    let there = word_in_rest c.args.file.now c.args.from (2 * c.loop-i.i) c.min.ensures in
    let read : c.from_le_bytes.result ≡ word_of c.args.file.now (c.args.from + 2 * c.loop-i.i) = omega (arith, c.from_le_bytes.ensures) in
    copied_on c.loop-i.invariant (omega arith) (omega arith) read refl

pub loop-i-2-preserved : goal.loop-i-2-preserved
loop-i-2-preserved c = copied_on c.loop-i-2.invariant (omega arith) (omega arith) (c.word_at.ensures ∙ word_in_rest c.args.file.now c.args.from (2 * c.loop-i-2.i) c.min.ensures) refl
