-- replaced meets its contract.
use Rattle.sweep_frontier.specs.Frontiers.{frontier_of}
use mathlib.Core.Bool.{true}
use Rattle.sweep_by_definition.proofs.Moves.{replaced_parts}
use Rattle.sweep_by_definition.proofs.list.replaced.Goals as goal

pub returns : goal.returns
returns c =
    let a = c.args in
    λ marks. replaced_parts (frontier_of true 0 a.at.now marks) a.f.now a.m a.a a.j a.list.now a.q (c.append-left.ensures marks) (c.append-middle.ensures marks) (c.append.ensures marks)
