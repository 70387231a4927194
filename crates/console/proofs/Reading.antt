-- What a read into the start of a space leaves of it.
use Prim.Native.Nat.{ℕ, ◌+◌, ◌-◌, ◌<◌, ◌^◌}
use mathlib.Core.Path.{◌≡◌, sym, ap, ◌∙◌}
use mathlib.Core.List.{List}
use native.Mathlib.Omega.{arith}
use lib.ListN.{drop}
use Rattle.std.specs.Prelude.{Option, Some, None, IfNone}
use Rattle.std.proofs.lemmas.List.{drop-drop}

-- what stands behind the longest argument stays, as what stands behind the bytes that are read does
behind_longest : (old new : List ℕ) (size : ℕ) → drop size new ≡ drop size old → size < 2 ^ 24 → drop (2 ^ 24 - 1) new ≡ drop (2 ^ 24 - 1) old
behind_longest old new size e h =
    let most : size + (2 ^ 24 - 1 - size) ≡ 2 ^ 24 - 1 = omega arith in
    let apart = λ (l : List ℕ). drop-drop (2 ^ 24 - 1 - size) size l ∙ ap (λ (k : ℕ). drop k l) most in
    sym (apart new) ∙ ap (drop (2 ^ 24 - 1 - size)) e ∙ apart old

-- the same where there is no item
pub none_read : {A : Type 0} (r : Option A) (old new : List ℕ) (size : ℕ) → drop size new ≡ drop size old → size < 2 ^ 24 → IfNone r (drop (2 ^ 24 - 1) new ≡ drop (2 ^ 24 - 1) old)
none_read None old new size e h = behind_longest old new size e h
none_read (Some a) old new size e h = tt
