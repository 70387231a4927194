-- Asked of a file: where a ring stands in it, and the file written again.
use Rattle.std.specs.Prelude.{ℕ, List, ◌++◌, length, drop, leb}
use Rattle.std.specs.declared.result.Result.{Result}
use Rattle.model.specs.Outcome as model
use Rattle.model.specs.Outcome.{require, ◌>>=◌, ◌>>◌}
use Rattle.model.specs.File as file
use Rattle.model.specs.Calls.{open_call}
use Rattle.refusal.specs.declared.Refusal.{Refusal}
use Rattle.refusal.specs.Refusals.{outcome_of}
use Rattle.file_queries.specs.declared.ByteRange.{ByteRange}

-- what ring answers: the offset and the length of a part, or the refusal
abbrev pub part_of : Result ByteRange Refusal → model.Outcome (ℕ × ℕ)
part_of r = model.mapped (λ (p : ByteRange). (p.at, p.size)) (outcome_of r)

-- a file of its own length at the front of a buffer, whose later bytes stay; 16 where the buffer is short
abbrev pub copied : List ℕ → List ℕ → model.Outcome (ℕ × List ℕ)
copied b buffer = do
  require (leb (length b) (length buffer)) 16 (length b)
  model.accepted (length b, b ++ drop (length b) buffer)

-- A file that is opened and written again: the very file
unfoldable pub copied_back : List ℕ → List ℕ → model.Outcome (ℕ × List ℕ)
copied_back b buffer = open_call b >>= λ (s : file.Sheet). copied b buffer
