-- The length that a file stands behind.
use Rattle.std.specs.Prelude.{ℕ, ◌+◌, ◌*◌, List, get_or}

-- the length in two bytes that the first file of an input stands behind
abbrev pub size_at : List ℕ → ℕ
size_at t = get_or t 0 0 + 256 * get_or t 1 0
