-- ring meets its contract.
use Prim.Native.Nat.{◌+◌, ◌*◌, ◌/◌}
use mathlib.Core.Path.{◌≡◌, ◌∙◌}
use native.Mathlib.Omega.{arith}
use Rattle.lists.specs.Spans.{stretch}
use Rattle.model.specs.Outcome.{accepted}
use Rattle.model.specs.File.{fits_ring}
use Rattle.file_framing.specs.Offsets.{cursor}
use Rattle.file_framing.proofs.Offsets.{ring_odd, ring_many, ring-fits}
use Rattle.file_framing.proofs.Cursor.ring.Goals as goal
use Rattle.file_framing.proofs.Cursor.ring.Goals.{then-size-ne0-via-then-size-ne0, then-size-ne0-via-else-size-ne0+then-n-size}

pub returns-then-size-ne0-clause-result_value : goal.returns-then-size-ne0-clause-result_value
returns-then-size-ne0-clause-result_value c =
    let n = c.args.n in
    let is = c.in_ok-size.ensures (fits_ring n) in
    elim c.then-size-ne0.branch [
      | then-size-ne0-via-then-size-ne0 w ↦ rw (ring_odd n _ w.if-size-ne0.true) at is
      | then-size-ne0-via-else-size-ne0+then-n-size w ↦ rw (ring_many n _ (omega arith) w.if-size-ne0.false w.if-n-size.true) at is
    ]

pub returns-clause-result_value : goal.returns-clause-result_value
returns-clause-result_value c =
    let n = c.args.n in
    let a = c.args.self.now in
    let is = c.in_ok-size.ensures (fits_ring n) in
    let size = c.in_ok-size.size in
    let whole : 2 * (size / 2) ≡ size = let h = c.if-size-ne0.false in omega arith in
    (λ i. accepted (stretch a.file.now (a.at + 4) (whole i), cursor a.file.now (a.at + 4 + whole i))) ∙ rw (ring-fits n _ c.if-size-ne0.false c.if-n-size.false) at is
