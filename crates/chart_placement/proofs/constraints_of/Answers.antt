-- constraints_of meets its contract.
use Prim.Native.Nat.{ℕ, ◌+◌}
use mathlib.Core.Path.{refl, sym, ap, ◌∙◌}
use Rattle.plan_bounds.proofs.Bounds.{fit_few, fit_room, fit_entry}
use Rattle.model.specs.Plan.{neighbour}
use Rattle.chart_placement.specs.DartConstraints.{dart_constraint}
use Rattle.chart_placement.proofs.DartConstraints.{neighbour_is}
use Rattle.chart_placement.proofs.Walk.{walks_start, walks_room_x, walks_room_y, walks_near, walks_at, walks_dart, walks_next, walks_x, walks_y, walks_fit_x, walks_fit_y}
use mathlib.Core.Bool.{true, false}
use native.Mathlib.Omega.{arith}
use Rattle.chart_placement.proofs.constraints_of.Goals as goal

pub loop-u-init : goal.loop-u-init
loop-u-init c =
    let t = c.args.fit.now.plan in
    walks_start t.sizes.now t.entries.now t.n c.args.labels.now c.args.x.now c.args.y.now c.requires.room_x c.requires.room_y c.level.ensures c.level-2.ensures c.level-3.ensures c.level-4.ensures

pub label_position-at-requires-clause-low : goal.label_position-at-requires-clause-low
label_position-at-requires-clause-low c =
    let f = c.args.fit.now in
    let t = f.plan in
    let near = c.neighbour_of-v.ensures ∙ ap neighbour c.from.ensures in
    let dart = walks_at t.sizes.now t.entries.now t.n c.args.labels.now c.loop-i.invariant c.number_at-k.ensures.value (omega arith) (omega arith) (fit_few t f.fits) c.at-entry.ensures near in
    let low = fit_entry t f.fits c.loop-u.u c.loop-i.i dart.inside in
    let same = dart.entry in
    omega arith

pub label_position-at-requires-clause-small : goal.label_position-at-requires-clause-small
label_position-at-requires-clause-small c =
    let f = c.args.fit.now in
    let t = f.plan in
    walks_near t.sizes.now t.entries.now t.n c.args.labels.now c.loop-i.invariant c.number_at-k.ensures.value (omega arith) (omega arith) (fit_room t f.fits)

pub overflow_cast-s : goal.overflow_cast-s
overflow_cast-s c = let f = c.args.fit.now in let few = fit_few f.plan f.fits in omega arith

pub bounds-x-count : goal.bounds-x-count
bounds-x-count c =
    let t = c.args.fit.now.plan in
    walks_room_x t.sizes.now t.entries.now t.n c.args.labels.now c.loop-i.invariant c.number_at-k.ensures.value (omega arith) (omega arith)

pub bounds-y-count : goal.bounds-y-count
bounds-y-count c =
    let t = c.args.fit.now.plan in
    walks_room_y t.sizes.now t.entries.now t.n c.args.labels.now c.loop-i.invariant c.number_at-k.ensures.value (omega arith) (omega arith)

pub loop-i-preserved : goal.loop-i-preserved
loop-i-preserved c =
    let f = c.args.fit.now in
    let t = f.plan in
    let few = fit_few t f.fits in
    let inv = c.loop-i.invariant in
    let size = c.number_at-k.ensures.value in
    let near = c.neighbour_of-v.ensures ∙ ap neighbour c.from.ensures in
    let dart = walks_at t.sizes.now t.entries.now t.n c.args.labels.now inv size (omega arith) (omega arith) few c.at-entry.ensures near in
    let same = sym (c.neighbour_of-v.ensures ∙ neighbour_is c.from.result ∙ c.from.ensures) in
    let place = c.label_position-at.ensures.value _ inv.marked dart in
    let marked = c.label_position-at.ensures.marked _ inv.marked dart in
    let x-ask = c.dart_constraint.ensures ∙ ap (dart_constraint false c.label_at-label.result c.loop-u.u) same in
    let y-ask = c.dart_constraint-in-loop-i.ensures ∙ ap (dart_constraint true c.label_at-label.result c.loop-u.u) same in
    walks_dart t.sizes.now t.entries.now t.n c.args.labels.now inv size (omega arith) (omega arith) few c.at-entry.ensures near refl place marked c.label_at-label.ensures x-ask y-ask
    (ap (λ (k : ℕ). c.loop-i.count + k) c.constraint_count-count.ensures.value)

pub loop-u-preserved : goal.loop-u-preserved
loop-u-preserved c =
    let f = c.args.fit.now in
    let t = f.plan in
    walks_next t.sizes.now t.entries.now t.n c.args.labels.now c.loop-i.invariant c.number_at-k.ensures.value (omega arith) (omega arith) refl (omega arith) (fit_room t f.fits)

pub returns-clause-x : goal.returns-clause-x
returns-clause-x c = let t = c.args.fit.now.plan in walks_x t.sizes.now t.entries.now t.n c.args.labels.now c.loop-u.invariant (omega arith)

pub returns-clause-y : goal.returns-clause-y
returns-clause-y c = let t = c.args.fit.now.plan in walks_y t.sizes.now t.entries.now t.n c.args.labels.now c.loop-u.invariant (omega arith)

pub returns-clause-fits_x : goal.returns-clause-fits_x
returns-clause-fits_x c = let t = c.args.fit.now.plan in walks_fit_x t.sizes.now t.entries.now t.n c.args.labels.now c.loop-u.invariant

pub returns-clause-fits_y : goal.returns-clause-fits_y
returns-clause-fits_y c = let t = c.args.fit.now.plan in walks_fit_y t.sizes.now t.entries.now t.n c.args.labels.now c.loop-u.invariant
