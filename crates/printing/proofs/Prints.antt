-- What stands at the front of an input and of a buffer, and what the lines are put together by.
use Prim.Native.Nat.{ℕ, min}
use mathlib.Core.Path.{◌≡◌, ap, ◌∙◌}
use mathlib.Core.List.{List}
use native.Mathlib.Omega.{arith}
use lib.ListN.{length, take}
use Rattle.std.proofs.Common.{length-append}
use Rattle.std.proofs.lemmas.List.{take_min}
use Rattle.buffer.proofs.Puts.{put-none, put_join, put-size, put_long, put_front, put_same}
use Rattle.text_templates.proofs.Forms.{filled_wide, filled-word}
use Rattle.printing.proofs.Texts.{points_none, points-more, none_line, found_line}

-- the part of an input that is taken
pub taken : (s : List ℕ) (k : ℕ) → k ≡ min (length s) 8192 → take k s ≡ take 8192 s
taken s k e = let same : k ≡ min 8192 (length s) = omega arith in ap (λ (n : ℕ). take n s) same ∙ take_min 8192 s

-- for what puts lines
pub ruleset lines = (put-none, put_join, length-append, filled_wide, filled-word, points_none, points-more, none_line, found_line)

-- for a text at the front of a buffer
pub ruleset fronts = (put-size, put_long, put_front, put_same)
