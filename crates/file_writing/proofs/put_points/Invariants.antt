-- What the loop of put_points keeps.
use mathlib.Core.Path.{◌≡◌}
use Rattle.lists.specs.Spans.{stretch}
use Rattle.lists.specs.Words.{bytes}
use Rattle.model.specs.File.{points}
use Rattle.buffer.specs.Puts.{put}
use Rattle.file_writing.proofs.put_points.Given as goal

abbrev pub invariant-loop-j : goal.invariant-loop-j
invariant-loop-j l = l.to ≡ put l.initial.to (bytes (points (stretch l.drawn.xs.now 0 l.j) (stretch l.drawn.ys.now 0 l.j)))
