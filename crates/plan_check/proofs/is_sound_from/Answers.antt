-- is_sound_from meets its contract.
use mathlib.Core.Path.{refl, sym, ◌∙◌}
use native.Mathlib.Omega.{arith}
use Rattle.rings.specs.Tables.{plan_of}
use Rattle.rings.proofs.Rows.{count-rows}
use Rattle.plan_check.proofs.Confirming.{sound_many, sound-side, sound_by}
use Rattle.plan_check.proofs.is_sound_from.Goals as goal

pub returns-then-rings-gt200 : goal.returns-then-rings-gt200
returns-then-rings-gt200 c =
    let r = c.args.rings.now in
    sound_many (plan_of r) (count-rows r.starts.now r.sizes.now r.entries.now r.n) c.if-rings-gt200.true

pub returns-then-is_err : goal.returns-then-is_err
returns-then-is_err c =
    let r = c.args.rings.now in
    sound-side (plan_of r) (count-rows r.starts.now r.sizes.now r.entries.now r.n) c.if-rings-gt200.false c.rule8.result c.rule8.ensures (sym c.is_err.ensures.value ∙ c.if-is_err.true)

pub returns-then-rings-le-FEW_CONTEXTS : goal.returns-then-rings-le-FEW_CONTEXTS
returns-then-rings-le-FEW_CONTEXTS c =
    let r = c.args.rings.now in
    let size = count-rows r.starts.now r.sizes.now r.entries.now r.n in
    let kept = sym c.is_err.ensures.value ∙ c.if-is_err.false in
    sound_by (plan_of r) size c.if-rings-gt200.false c.rule8.result c.rule8.ensures kept 4000 (omega arith) (omega arith) refl c.is_confirmed.ensures

pub returns-then-rings-le-SOME_CONTEXTS : goal.returns-then-rings-le-SOME_CONTEXTS
returns-then-rings-le-SOME_CONTEXTS c =
    let r = c.args.rings.now in
    let size = count-rows r.starts.now r.sizes.now r.entries.now r.n in
    let kept = sym c.is_err.ensures.value ∙ c.if-is_err.false in
    sound_by (plan_of r) size c.if-rings-gt200.false c.rule8.result c.rule8.ensures kept 12000 (omega arith) (omega arith) refl c.is_confirmed-then-rings-le-SOME_CONTEXTS.ensures

pub returns : goal.returns
returns c =
    let r = c.args.rings.now in
    let size = count-rows r.starts.now r.sizes.now r.entries.now r.n in
    let kept = sym c.is_err.ensures.value ∙ c.if-is_err.false in
    sound_by (plan_of r) size c.if-rings-gt200.false c.rule8.result c.rule8.ensures kept 40000 (omega arith) (omega arith) refl c.is_confirmed-2.ensures
