-- Numbers of two bytes, little-endian.
use Rattle.std.specs.Prelude.{ℕ, ◌+◌, ◌*◌, ◌/◌, ◌%◌, List, [], ◌∷◌, get_or}

-- the number at a list's beginning
unfoldable pub word : List ℕ → ℕ
word s = get_or s 0 0 + 256 * get_or s 1 0

-- the numbers of a list of bytes; a byte left over is dropped
unfoldable pub words : List ℕ → List ℕ
words [] = []
words (a ∷ []) = []
words (a ∷ b ∷ s) = (a + 256 * b) ∷ words s

-- the bytes of a list of numbers
unfoldable pub bytes : List ℕ → List ℕ
bytes [] = []
bytes (e ∷ l) = e % 256 ∷ e / 256 ∷ bytes l
