-- labels meets its contract.
use Prim.Native.Nat.{ℕ, ◌-◌, min}
use mathlib.Core.Path.{refl, ap, ◌∙◌}
use native.Mathlib.Omega.{arith}
use lib.ListN.{length, take, drop}
use Rattle.model.specs.Plan.{labels_due}
use Rattle.rings.specs.Tables.{starts_of}
use Rattle.file_rings.proofs.Rings.{count-lent}
use Rattle.file_framing.specs.Layouts.{plan_in}
use Rattle.sheet_open.proofs.Copies.{rest-from, labels-lent}
use Rattle.sheet_open.proofs.bounded.Bounded.labels.Goals as goal

pub returns : goal.returns
returns c =
    let a = c.args.self.now in
    let l = a.layout.now in
    let few = l.few in
    let p = plan_in a.file.now l.sizes l.n in
    let size = count-lent (starts_of l.sizes) l.sizes a.file.now l.n in
    let rest = take (length a.file.now - c.min.result) (drop c.min.result a.file.now) in
    let (fits, there) = labels-lent a.file.now c.args.at (labels_due p) 1186 (omega arith) (rest-from a.file.now c.args.at c.min.ensures) (c.min-2.ensures ∙ ap (λ (k : ℕ). min k (length rest)) (c.labels_due.ensures.value p size)) refl in
    record { fits = fits; there = there }
