-- What the loop of entries keeps.
use Rattle.sheet_open.proofs.Copies.{Copies}
use Rattle.sheet_open.proofs.bounded.Bounded.entries.Given as goal

abbrev pub invariant-loop-u : goal.invariant-loop-u
invariant-loop-u l = Copies l.self.file.now l.self.layout.now.sizes l.self.layout.now.n l.u l.at l.entries
