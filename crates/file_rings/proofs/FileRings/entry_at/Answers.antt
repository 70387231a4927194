-- entry_at meets its contract.
use mathlib.Core.Path.{◌≡◌, ap, ◌∙◌}
use Prim.Native.Nat.{◌+◌, ◌*◌}
use Rattle.model.specs.File.{entry_offset}
use Rattle.rings.specs.FilePlans.{body_at}
use Rattle.file_rings.proofs.Rings.{word_of, word-near}
use native.Mathlib.Omega.{arith}
use Rattle.file_rings.proofs.FileRings.entry_at.Goals as goal

pub returns : goal.returns
unfolding body_at
returns c =
    let a = c.args in
    let s = c.number_at.ensures.value in
    let at : entry_offset a.u (c.number_at.result + a.i) ≡ body_at a.self.now.starts.now a.u + 2 * a.i = omega arith in
    c.word_at.ensures ∙ word-near a.self.now.file.now c.entry_offset-at.result (entry_offset a.u (c.number_at.result + a.i)) c.entry_offset-at.ensures (let l = c.well_formed in omega arith) ∙ ap (word_of a.self.now.file.now) at
