-- Numbers and their two bytes: each way and back.
use Prim.Native.Nat.{ℕ, ◌+◌, ◌*◌, ◌/◌, ◌%◌, ◌<◌}
use mathlib.Core.Path.{◌≡◌, refl}
use mathlib.Core.List.Memᴰ
use mathlib.Core.List.{List, [], ◌∷◌, ◌++◌, Memᴰ}
use native.Mathlib.Omega.{arith}
use native.Mathlib.Nat.{div-add-mod'}
use lib.ListN.{length}
use Rattle.lists.specs.Words.{word, words, bytes}

-- a list of bytes
abbrev pub Bytes : List ℕ → Type 0
Bytes l = (a : ℕ) → Memᴰ a l → a < 256

pub bytes_left : (l m : List ℕ) → Bytes (l ++ m) → Bytes l
bytes_left l m h a i = h a (Memᴰ.append_left m i)

pub bytes-right : (l m : List ℕ) → Bytes (l ++ m) → Bytes m
bytes-right l m h a i = h a (Memᴰ.append_right l i)

pub rejoined : (e : ℕ) → e % 256 + 256 * (e / 256) ≡ e
rejoined e = omega (arith, div-add-mod' e 256)

pub words-bytes : (l : List ℕ) → words (bytes l) ≡ l
unfolding words bytes
words-bytes [] = refl
words-bytes (e ∷ l) = rw (rejoined e, words-bytes l)

pub word_bytes : (e : ℕ) (l : List ℕ) → word (bytes (e ∷ l)) ≡ e
unfolding word bytes
word_bytes e l = rejoined e

pub length-words : (l : List ℕ) → length (words l) ≡ length l / 2
unfolding words
length-words [] = refl
length-words (a ∷ []) = refl
length-words (a ∷ b ∷ l) = omega (arith, length-words l)

pub length-bytes : (l : List ℕ) → length (bytes l) ≡ 2 * length l
unfolding bytes
length-bytes [] = refl
length-bytes (e ∷ l) = omega (arith, length-bytes l)

-- two bytes make a number that comes apart into them
pub low_byte : (a b : ℕ) → a < 256 → (a + 256 * b) % 256 ≡ a
low_byte a b h = omega arith

pub high_byte : (a b : ℕ) → a < 256 → (a + 256 * b) / 256 ≡ b
high_byte a b h = omega arith

pub bytes-words : (l : List ℕ) → Bytes l → length l % 2 ≡ 0 → bytes (words l) ≡ l
unfolding words bytes
bytes-words [] h e = refl
bytes-words (a ∷ []) h e = absurd (omega arith)
bytes-words (a ∷ b ∷ l) h e =
    let ha = h a (Memᴰ.head refl) in
    rw (low_byte a b ha, high_byte a b ha, bytes-words l (λ c m. h c (Memᴰ.tail (Memᴰ.tail m))) (omega arith))

-- two bytes are those of the number that they make
pub bytes_word : (l : List ℕ) → Bytes l → 2 ≡ length l → bytes (word l ∷ []) ≡ l
unfolding word bytes
bytes_word [] h e = absurd (omega arith)
bytes_word (a ∷ []) h e = absurd (omega arith)
bytes_word (a ∷ b ∷ []) h e = let ha = h a (Memᴰ.head refl) in rw (low_byte a b ha, high_byte a b ha)
bytes_word (a ∷ b ∷ c ∷ l) h e = absurd (omega arith)
