-- What the loop of put_points keeps.
use Rattle.std.proofs.Common.{◌*◌, ◌≡◌, ◌≤◌, length}
use Rattle.buffer.specs.Puts.{put}
use Rattle.printing.specs.Text.{point_lines}
use Rattle.printing.proofs.put_points.Given as goal

abbrev pub invariant-loop-u : goal.invariant-loop-u
invariant-loop-u l = (l.to ≡ put l.initial.to (point_lines l.points.xs.now l.points.ys.now l.u)) × (length (point_lines l.points.xs.now l.points.ys.now l.u) ≤ 18 * l.u)
