-- Parts of an array: where one fits, where it does not, and numbers with bytes between them.
use Prim.Native.Nat.{ℕ, ◌+◌, ◌*◌, ◌-◌, ◌^◌, ◌≤◌, ◌<◌, min}
use mathlib.Core.Path.{◌≡◌, refl, sym, ap, ◌∙◌}
use mathlib.Core.List.{List, [], map}
use mathlib.Core.Bool.{Bool, true, false, cond}
use native.Mathlib.Omega.{arith}
use lib.ListN.{length, take, drop, length-take, length-drop}
use lib.Dec.{leb}
use borrow.Author.Tests.{leb-true, leb-false, le-leb, lt-leb}
use Rattle.std.specs.List.{slice_range}
use Rattle.std.proofs.lemmas.List.{take_rest}
use Rattle.lists.specs.Ranges.{from}
use Rattle.lists.specs.Spans.{zero_padded}
use Rattle.lists.proofs.Spans.{past_word}
use Rattle.lists.proofs.Loops.{Fills}
use Rattle.arrays.specs.ArrayParts.{part_at, word_of, words_every}

pub part_fits : (s : List ℕ) (at k : ℕ) → at + k ≤ length s → take k (drop at s) ≡ part_at s at k
unfolding part_at
part_fits s at k h = rw (le-leb (at + k) (length s) h)

-- the front of all that stands from an index on
pub part_of_rest : (s : List ℕ) (at k : ℕ) {r : List ℕ} → r ≡ slice_range s at (length s) → length r + at ≡ length s → k ≤ length r → take k r ≡ part_at s at k
part_of_rest s at k {r} e l h = ap (take k) (e ∙ take_rest s at) ∙ part_fits s at k (omega arith)

pub part_past : (s : List ℕ) (at k : ℕ) → length s < at + k → [] ≡ part_at s at k
unfolding part_at
part_past s at k h = rw (lt-leb (at + k) (length s) h)

-- a part that has its whole size
pub part_whole : (s : List ℕ) (at k : ℕ) → length (take k (drop at s)) ≡ k → take k (drop at s) ≡ part_at s at k
unfolding part_at
part_whole s at k h = go (leb (at + k) (length s)) refl
  where
    none : k ≡ 0 → take k (drop at s) ≡ []
    none z = rw z

    go : (t : Bool) → leb (at + k) (length s) ≡ t → take k (drop at s) ≡ cond t (take k (drop at s)) []
    go true q = refl
    go false q = none (let l = leb-false (at + k) (length s) q in omega (arith, length-take k (drop at s), length-drop at s))

-- an array of zeros into which the numbers were put one by one
pub words_filled : (a : List ℕ) (at step : ℕ) {m k i : ℕ} {b : List ℕ} → Fills m (λ (t : ℕ). word_of a (at + step * t)) i b → i ≡ k → b ≡ zero_padded m (words_every a at step k)
unfolding words_every
words_filled a at step {m} f e = f.same ∙ ap (λ (j : ℕ). zero_padded m (map (λ (t : ℕ). word_of a (at + step * t)) (from 0 j))) e

-- the number at an offset that stops at the last address is the number at the offset: what lies past the array reads as 0 both ways
pub word_stopped : (a : List ℕ) (at t : ℕ) {w m i : ℕ} → length a < 2 ^ 64 → m ≡ min t (2 ^ 64 - 1) → i ≡ min (at + m) (2 ^ 64 - 1) → w ≡ word_of a i → w ≡ word_of a (at + t)
word_stopped a at t {w} {m} {i} h p q e = go (leb (at + t) (2 ^ 64 - 1)) refl
  where
    go : (b : Bool) → leb (at + t) (2 ^ 64 - 1) ≡ b → w ≡ word_of a (at + t)
    go true k = let same : i ≡ at + t = (let l = leb-true (at + t) (2 ^ 64 - 1) k in omega arith) in e ∙ ap (word_of a) same
    go false k = let l = leb-false (at + t) (2 ^ 64 - 1) k in e ∙ sym (past_word a i (omega arith)) ∙ past_word a (at + t) (omega arith)
