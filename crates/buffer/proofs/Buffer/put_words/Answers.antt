-- put_words meets its contract.
use Prim.Native.Nat.{ℕ}
use mathlib.Core.Path.{sym, ap, ◌∙◌}
use mathlib.Core.List.{List, [], ◌∷◌}
use native.Mathlib.Omega.{arith}
use lib.ListN.{get_or, take}
use Rattle.lists.specs.Words.{bytes}
use Rattle.lists.proofs.Words.{length-bytes}
use Rattle.buffer.specs.declared.Buffer.{Buffer}
use Rattle.buffer.specs.Puts.{put}
use Rattle.buffer.proofs.Puts.{bytes_more, put_join, put_whole}
use Rattle.buffer.proofs.Buffer.put_words.Goals as goal

pub loop-x-preserved : goal.loop-x-preserved
loop-x-preserved c =
    let l : List ℕ = c.args.numbers.now in
    let k : ℕ = c.loop-x.x-index in
    let one : List ℕ = bytes (get_or l k 0 ∷ []) in
    c.put_word.ensures
    ∙ ap (λ (b : Buffer). put b one) c.loop-x.invariant
    ∙ put_join c.args.self.now (bytes (take k l)) one
    ∙ ap (put c.args.self.now) (bytes_more l k c.loop-x-test.true (omega arith))

pub returns-then-size-self : goal.returns-then-size-self
returns-then-size-self c = put_whole c.args.self.now _ (sym (length-bytes c.args.numbers.now)) (omega arith) c.store_words.ensures
