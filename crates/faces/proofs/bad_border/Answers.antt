-- bad_border meets its contract.
use Rattle.rings.specs.Tables.{plan_of}
use Rattle.faces.proofs.FaceTests.{ring_long, border-is_empty, border-first, border_last, border_across}
use native.Mathlib.Omega.{arith}
use Rattle.faces.proofs.bad_border.Goals as goal

pub returns-then-k-eq0 : goal.returns-then-k-eq0
returns-then-k-eq0 c =
    let a = c.args in
    let p = plan_of a.rings.now in
    let long = ring_long a.rings.now.starts.now a.rings.now.sizes.now a.rings.now.entries.now a.rings.now.n a.u c.size_of-k.ensures.value in
    border-is_empty p a.u _ c.requires long c.if-k-eq0.true

pub returns-then-neighbour_at-u : goal.returns-then-neighbour_at-u
returns-then-neighbour_at-u c =
    let a = c.args in
    let p = plan_of a.rings.now in
    let long = ring_long a.rings.now.starts.now a.rings.now.sizes.now a.rings.now.entries.now a.rings.now.n a.u c.size_of-k.ensures.value in
    border-first p a.u _ c.requires long (omega arith) _ c.neighbour_at.ensures c.if-neighbour_at-u.true

pub returns-then-neighbour_at-u-2 : goal.returns-then-neighbour_at-u-2
returns-then-neighbour_at-u-2 c =
    let a = c.args in
    let p = plan_of a.rings.now in
    let long = ring_long a.rings.now.starts.now a.rings.now.sizes.now a.rings.now.entries.now a.rings.now.n a.u c.size_of-k.ensures.value in
    border_last p a.u _ c.requires long (omega arith) _ c.neighbour_at.ensures c.if-neighbour_at-u.false _ c.neighbour_at-2.ensures c.if-neighbour_at-u-2.true

pub returns : goal.returns
returns c =
    let a = c.args in
    let p = plan_of a.rings.now in
    let long = ring_long a.rings.now.starts.now a.rings.now.sizes.now a.rings.now.entries.now a.rings.now.n a.u c.size_of-k.ensures.value in
    border_across p a.u _ c.requires long (omega arith) _ c.neighbour_at.ensures c.if-neighbour_at-u.false _ c.neighbour_at-2.ensures c.is_adjacent.ensures c.if-neighbour_at-u-2.false
