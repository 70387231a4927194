-- What the loop of put_rings keeps.
use mathlib.Core.Path.{◌≡◌}
use Rattle.buffer.specs.Puts.{put}
use Rattle.model.specs.File.{rings_out}
use Rattle.rings.specs.Tables.{start_of, table}
use Rattle.file_writing.proofs.put_rings.Given as goal

abbrev pub invariant-loop-u : goal.invariant-loop-u
invariant-loop-u l = let t = l.plan in (l.i ≡ start_of t.sizes.now l.u) × (l.to ≡ put l.initial.to (rings_out (table t.sizes.now t.entries.now l.u).rings))
