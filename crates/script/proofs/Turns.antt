-- The argument of a turn: its numbers of two bytes, copied into an array and read from its front, and which arguments are malformed.
use Prim.Native.Nat.{ℕ, ◌+◌, ◌-◌, ◌*◌, ◌%◌, ◌≤◌, ◌<◌, min}
use mathlib.Core.Path.{◌≡◌, refl, sym, ap, ◌∙◌}
use mathlib.Core.List.{List, map}
use native.Mathlib.Omega.{arith}
use lib.ListN.{length, get_or, take, drop, length-drop}
use lib.Seq.{ext_get_or, take_all, take_at}
use borrow.Author.Tests.{le-leb, eq-eqb}
use Rattle.std.specs.Prelude.{Some}
use Rattle.lists.specs.Ranges.{from}
use Rattle.lists.specs.Words.{words}
use Rattle.lists.specs.Spans.{zeros, zero_padded}
use Rattle.lists.proofs.Ranges.{length-map-from, get_or-map-from}
use Rattle.lists.proofs.Spans.{stretch_part}
use Rattle.model.specs.CallLists.{turn_edges}
use Rattle.rings.specs.FilePlans.{words_at}
use Rattle.file_rings.proofs.Rings.{length-words-at, get_or-words-at}
use Rattle.arrays.specs.ArrayParts.{word_of, words_every}
use Rattle.file_framing.proofs.Offsets.{words-stretch}
use Rattle.script.specs.Scripts.{turn_item}

-- numbers of two bytes, one by one
words-every : (s : List ℕ) (at k : ℕ) → words_every s at 2 k ≡ words_at s at k
unfolding words_every
words-every s at k =
    let f : ℕ → ℕ = λ (i : ℕ). word_of s (at + 2 * i) in
    ext_get_or 0 (map f (from 0 k)) (words_at s at k) (length-map-from f 0 k ∙ sym (length-words-at s at k))
    (λ i h.
    let b : i < k = let q = length-map-from f 0 k in omega arith in
    let z : 0 + i ≡ i = omega arith in
    get_or-map-from f 0 k i 0 b ∙ ap f z ∙ sym (get_or-words-at s at k i b))

-- all numbers behind the direction
words-behind : (a : List ℕ) (k : ℕ) → length a ≡ 1 + 2 * k → words (drop 1 a) ≡ words_at a 1 k
words-behind a k e =
    let long = length-drop 1 a in
    ap words (sym (take_all (2 * k) (drop 1 a) (omega arith)) ∙ sym (stretch_part a 1 (2 * k) (omega arith))) ∙ words-stretch a 1 k (2 * k) refl

-- the front of the array is the list of all numbers
pub numbers_front : (a b : List ℕ) (k : ℕ) → k ≤ 1200 → length a ≡ 1 + 2 * k → b ≡ zero_padded 1200 (words_every a 1 2 (min k 1200)) → take k b ≡ words (drop 1 a)
unfolding zero_padded
numbers_front a b k h e f =
    let all : min k 1200 ≡ k = omega arith in
    let array : b ≡ zero_padded 1200 (words_at a 1 k) = f ∙ ap (λ (j : ℕ). zero_padded 1200 (words_every a 1 2 j)) all ∙ ap (zero_padded 1200) (words-every a 1 k) in
    ap (take k) array ∙ take_at (words_at a 1 k) (zeros (1200 - length (words_at a 1 k))) k (length-words-at a 1 k) ∙ sym (words-behind a k e)

-- a direction and whole numbers
pub turn_whole : (a : List ℕ) → length a % 2 ≡ 1 → length a ≤ 2401 → turn_item a ≡ Some (turn_edges (words (drop 1 a)) (get_or a 0 0))
unfolding turn_item
turn_whole a h l = rw (eq-eqb (length a % 2) 1 h, le-leb (length a) 2401 l)
