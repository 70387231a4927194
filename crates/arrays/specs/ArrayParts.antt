-- Parts of an array.
use Rattle.std.specs.Prelude.{ℕ, ◌+◌, ◌*◌, List, [], map, cond, length, take, drop, leb, get_or}
use Rattle.lists.specs.Ranges.{from}

-- the part of l from an index on, of a size; empty where it does not fit
unfoldable pub part_at : List ℕ → ℕ → ℕ → List ℕ
part_at l at size = cond (leb (at + size) (length l)) (take size (drop at l)) []

-- the number of two bytes, little-endian, at i; what lies outside l reads as 0
abbrev pub word_of : List ℕ → ℕ → ℕ
word_of l i = get_or l i 0 + 256 * get_or l (i + 1) 0

-- k of these numbers from an index on, one every so many bytes
unfoldable pub words_every : List ℕ → ℕ → ℕ → ℕ → List ℕ
words_every l at step k = map (λ (i : ℕ). word_of l (at + step * i)) (from 0 k)
