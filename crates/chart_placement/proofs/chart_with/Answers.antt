-- chart_with meets its contract.
use mathlib.Core.Path.{refl, sym, ◌∙◌}
use mathlib.Core.Bool.{true, false}
use lib.ListN.{take}
use Rattle.rings.specs.Tables.{table_of}
use Rattle.plan_bounds.proofs.Bounds.{table_count, fit_few}
use Rattle.chart_placement.proofs.Draw.{chart-joined, axis-is}
use Rattle.chart_placement.proofs.chart_with.Goals as goal

pub returns-in_default : goal.returns-in_default
returns-in_default c =
    let f = c.args.fit.now in
    let asked = c.constraints_of-count in
    let p = table_of f.plan in
    let x = c.in_default.ensures ∙ axis-is p c.args.labels.now (take asked.result asked.new.x) false (fit_few f.plan f.fits) (sym (table_count f.plan)) asked.ensures.x in
    chart-joined p c.args.labels.now x refl

pub returns-in_default-solve : goal.returns-in_default-solve
returns-in_default-solve c =
    let f = c.args.fit.now in
    let asked = c.constraints_of-count in
    let p = table_of f.plan in
    let x = c.in-Some.ensures ∙ axis-is p c.args.labels.now (take asked.result asked.new.x) false (fit_few f.plan f.fits) (sym (table_count f.plan)) asked.ensures.x in
    let y = c.in_default-solve.ensures ∙ axis-is p c.args.labels.now (take asked.result asked.new.y) true (fit_few f.plan f.fits) (sym (table_count f.plan)) asked.ensures.y in
    chart-joined p c.args.labels.now x y

pub returns : goal.returns
returns c =
    let f = c.args.fit.now in
    let asked = c.constraints_of-count in
    let p = table_of f.plan in
    let x = c.in-Some.ensures ∙ axis-is p c.args.labels.now (take asked.result asked.new.x) false (fit_few f.plan f.fits) (sym (table_count f.plan)) asked.ensures.x in
    let y = c.in-Some-solve.ensures ∙ axis-is p c.args.labels.now (take asked.result asked.new.y) true (fit_few f.plan f.fits) (sym (table_count f.plan)) asked.ensures.y in
    c.with_corners.ensures ∙ chart-joined p c.args.labels.now x y
