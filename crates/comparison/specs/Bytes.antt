-- The checksum of bytes, how far bytes agree.
use Rattle.std.specs.Prelude.{ℕ, ◌+◌, ◌*◌, ◌%◌, List, not, length, get_or, eqb}
use Rattle.lists.specs.Folds.{through}
use Rattle.lists.specs.Ranges.{lowest}

-- the checksum of some bytes and one more
unfoldable pub checksum_step : ℕ → ℕ → ℕ
checksum_step sum byte = (sum * 1000003 + byte + 1) % 4294967291

-- the checksum of bytes
unfoldable pub checksum : List ℕ → ℕ
checksum bytes = through (λ i sum. checksum_step sum (get_or bytes i 0)) 0 (length bytes) 0

-- how many of the first k bytes are the same in both, up to the first that differs
unfoldable pub agreeing : List ℕ → List ℕ → ℕ → ℕ
agreeing a b k = lowest (λ i. not (eqb (get_or a i 0) (get_or b i 0))) k
