-- What the loops of is_chorded keep.
use Rattle.rings.specs.Tables.{plan_of}
use Rattle.sweep_by_definition.proofs.Chords.{Chords}
use Rattle.sweep_by_definition.proofs.choice.is_chorded.Given as goal

abbrev pub invariant-loop-k : goal.invariant-loop-k
invariant-loop-k l = Chords (plan_of l.located.rings) l.list l.k
