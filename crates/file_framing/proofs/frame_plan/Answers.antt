-- frame_plan meets its contract.
use Prim.Native.Nat.{◌<◌}
use mathlib.Core.Path.{ap, ◌∙◌}
use mathlib.Core.Logic.{◌⊎◌}
use Rattle.std.proofs.Common.{rules}
use Rattle.std.proofs.lemmas.Result.{err_from_is_err_and}
use Rattle.file_framing.specs.Layouts.{laid, plan_from}
use Rattle.file_framing.proofs.Layouts.{plan-out, plan-refused, plan_count, plan-cut, plan_there, parts_behind}
use Rattle.file_framing.proofs.frame_plan.Goals as goal

pub returns-then-not-contains-clause-value : goal.returns-then-not-contains-clause-value
returns-then-not-contains-clause-value c =
    let n = c.from-n.result in
    let out : (n < 5) ⊎ (200 < n) = search rules in
    plan-out c.args.file.now n out ∙ ap (plan_from c.args.file.now) (c.from-n.ensures ∙ c.word_at.ensures)

pub returns-in_err-sizes-clause-value : goal.returns-in_err-sizes-clause-value
returns-in_err-sizes-clause-value c =
    let f = c.args.file.now in
    let is = ap (plan_from f) (c.from-n.ensures ∙ c.word_at.ensures) in
    let p = err_from_is_err_and c.from_residual.result c.from_residual.ensures.1 in
    rw (p.1, p.2) (plan-refused f c.from-n.result _ _ (search rules) (search rules) c.in_err-sizes.ensures.result_value ∙ is)

pub returns-in_err-parts-clause-value : goal.returns-in_err-parts-clause-value
returns-in_err-parts-clause-value c =
    let f = c.args.file.now in
    let is = ap (plan_from f) (c.from-n.ensures ∙ c.word_at.ensures) in
    let w = c.in_ok-sizes.field-0 in
    let e = c.from_residual-in_err-parts in
    let p = err_from_is_err_and e.result e.ensures.1 in
    let all = plan_count f c.from-n.result w.sizes in
    rw (p.1, p.2) (plan-cut f c.from-n.result w.sizes w.at (search rules) (search rules) c.in_ok-sizes.ensures.result_value _ _ (c.in_err-parts.ensures.value _ all) ∙ is)

pub returns-clause-value : goal.returns-clause-value
unfolding laid
returns-clause-value c =
    let f = c.args.file.now in
    let w = c.in_ok-sizes.field-0 in
    let all = plan_count f c.from-n.result w.sizes in
    plan_there f c.from-n.result w.sizes w.at (search rules) (search rules) c.in_ok-sizes.ensures.result_value c.in_ok-parts.parts (c.in_ok-parts.ensures.value _ all) ∙ ap (plan_from f) (c.from-n.ensures ∙ c.word_at.ensures)

pub returns-clause-offsets : goal.returns-clause-offsets
returns-clause-offsets c = parts_behind c.from-n.result _ c.in_ok-parts.parts c.in_ok-sizes.ensures.walk_bounds.2 c.in_ok-parts.ensures.stand
