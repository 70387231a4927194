-- The ring of a context as it stands in a lent file, look-ups in it, and how many entries all rings have.
use Prim.Native.Nat.{ℕ, zero, suc, ◌+◌, ◌-◌, ◌*◌, ◌^◌, min, ◌≤◌, ◌<◌}
use mathlib.Core.Path.{◌≡◌, refl, sym, ap, ◌∙◌}
use mathlib.Core.List.{List}
use mathlib.Core.Logic.{◌⊎◌, inl, inr}
use native.Mathlib.Omega.{arith}
use lib.ListN.{length, get_or}
use Rattle.lists.specs.Spans.{span}
use Rattle.lists.proofs.Ranges.{lt-or-le}
use Rattle.lists.proofs.Spans.{past_word}
use Rattle.lists.proofs.Stretches.{span_whole}
use Rattle.model.specs.Plan.{context_count, neighbour, ring}
use Rattle.rings.specs.Tables.{size_of}
use Rattle.rings.specs.FilePlans.{words_at, body_at, plan_in_file}
use Rattle.rings.proofs.Made.{Reads, count-made, size-made, past-made, at-made}

-- the number of two bytes at an offset
abbrev pub word_of : List ℕ → ℕ → ℕ
word_of file at = get_or file at 0 + 256 * get_or file (at + 1) 0

pub length-words-at : (file : List ℕ) (at k : ℕ) → length (words_at file at k) ≡ k
unfolding words_at
length-words-at file at zero = refl
length-words-at file at (suc k) = ap suc (length-words-at file (at + 2) k)

pub get_or-words-at : (file : List ℕ) (at k i : ℕ) → i < k → get_or (words_at file at k) i 0 ≡ word_of file (at + 2 * i)
unfolding words_at
get_or-words-at file at zero i h = absurd (omega arith)
get_or-words-at file at (suc k) zero h = ap (word_of file) (omega arith)
get_or-words-at file at (suc k) (suc i) h = get_or-words-at file (at + 2) k i (omega arith) ∙ ap (word_of file) (omega arith)

-- a number past the file's end is read as 0, so that its offset may be cut at the highest number
pub word-near : (file : List ℕ) (at k : ℕ) → at ≡ min k (2 ^ 64 - 1) → length file < 2 ^ 64 - 1 → word_of file at ≡ word_of file k
word-near file at k e h = go (lt-or-le k (2 ^ 64 - 1))
  where
    go : (k < 2 ^ 64 - 1) ⊎ (2 ^ 64 - 1 ≤ k) → word_of file at ≡ word_of file k
    go (inl l) = ap (word_of file) (omega arith)
    go (inr l) = sym (past_word file at (omega arith)) ∙ past_word file k (omega arith)

-- the words from each body on
pub lent_reads : (starts file : List ℕ) → Reads (λ (u k : ℕ). words_at file (body_at starts u) k) (λ (u i : ℕ). word_of file (body_at starts u + 2 * i))
unfolding words_at
lent_reads starts file = record { none = λ u. refl; long = λ u k. length-words-at file (body_at starts u) k; at = λ u k i h. get_or-words-at file (body_at starts u) k i h }

module _ (starts sizes file : List ℕ) (n : ℕ) where
  pub count-lent : context_count (plan_in_file starts sizes file n) ≡ n
  unfolding plan_in_file
  count-lent = count-made (lent_reads starts file) sizes n

  pub lent-size : (u : ℕ) → length (ring (plan_in_file starts sizes file n) u) ≡ size_of sizes n u
  unfolding plan_in_file
  lent-size u = size-made (lent_reads starts file) sizes n u

  -- the neighbour at i; past the end there is 0
  pub lent-past : (u i : ℕ) → size_of sizes n u ≤ i → get_or (ring (plan_in_file starts sizes file n) u) i 0 ≡ 0
  unfolding plan_in_file
  lent-past u i h = past-made (lent_reads starts file) sizes n u i h

  pub lent_at : (u i : ℕ) → i < size_of sizes n u → get_or (ring (plan_in_file starts sizes file n) u) i 0 ≡ neighbour (word_of file (body_at starts u + 2 * i))
  unfolding plan_in_file
  lent_at u i h = at-made (lent_reads starts file) sizes n u i h

  -- ---- a ring gone through from 0 to its size is the ring
  pub ring_whole : (u e : ℕ) → e ≡ size_of sizes n u → span (ring (plan_in_file starts sizes file n) u) 0 e ≡ ring (plan_in_file starts sizes file n) u
  ring_whole u e q = span_whole (ring (plan_in_file starts sizes file n) u) e (q ∙ sym (lent-size u))

-- for the look-ups
pub ruleset look_ups = (count-lent, lent-size, lent_at, lent-past)
