-- How many bytes a text has that is written.
use Rattle.std.specs.Prelude.{ℕ, ◌%◌, ◌^◌, ◌≡◌, List, length, Option, Some, None}

-- where the text is written, this many bytes, in a word of 64 bits; a text whose type does not say what it is can have any number
abbrev pub Counts : Option (List ℕ) → Option ℕ → Type 0
Counts (Some t) (Some k) = k ≡ length t % 2 ^ 64
Counts (Some t) None = Unit {0}
Counts None r = Unit {0}
