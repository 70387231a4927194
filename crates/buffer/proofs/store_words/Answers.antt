-- store_words meets its contract.
use mathlib.Core.Path.{◌≡◌, ap, ◌∙◌}
use mathlib.Core.List.{List}
use Prim.Native.Nat.{ℕ, ◌+◌, ◌*◌, ◌/◌, ◌%◌}
use native.Mathlib.Omega.{arith}
use lib.ListN.{get_or, set}
use lib.Seq.{sets, take_all}
use Rattle.lists.specs.Words.{bytes}
use Rattle.buffer.proofs.Puts.{stored_more, stored_all}
use Rattle.buffer.proofs.store_words.Goals as goal

pub loop-i-preserved : goal.loop-i-preserved
loop-i-preserved c =
    let l : List ℕ = c.args.numbers.now in
    let i : ℕ = c.loop-i.i in
    let e = c.to_le_bytes.ensures in
    let small = c.type_inv.numbers i in
    let high : get_or l i 0 / 256 % 256 ≡ get_or l i 0 / 256 = omega arith in
    ap (λ (d : List ℕ). set (set d (2 * i) (get_or c.to_le_bytes.result 0 0)) (2 * i + 1) (get_or c.to_le_bytes.result 1 0)) c.loop-i.invariant
    ∙ stored_more c.args.to.now l i c.requires c.loop-i-test.true (omega arith) (ap (λ (b : List ℕ). get_or b 0 0) e) (ap (λ (b : List ℕ). get_or b 1 0) e ∙ high)

pub returns : goal.returns
returns c =
    let l : List ℕ = c.args.numbers.now in
    c.loop-i.invariant ∙ ap (λ (m : List ℕ). sets c.args.to.now 0 (bytes m)) (take_all c.loop-i.i l (omega arith)) ∙ stored_all c.args.to.now l c.requires
