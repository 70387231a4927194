-- touches meets its contract.
use mathlib.Core.Path.{ap, ◌∙◌}
use mathlib.Core.Bool.{Bool}
use Prim.Native.Nat.{ℕ, ◌-◌}
use lib.ListN.{length, get_or}
use borrow.Author.Tests.{tests}
use borrow.Author.Rules.{rules}
use Rattle.std.specs.List.{list_any}
use Rattle.lists.proofs.Chains.{any_in_range, any_entry}
use Rattle.model.specs.Plan.{adjacent}
use Rattle.rings.specs.Tables.{plan_of}
use Rattle.sweep_by_definition.proofs.Chords.{stretch-rest}
use Rattle.sweep_by_definition.proofs.choice.touches.Goals as goal

pub returns : goal.returns
returns c =
    let l = c.args.list.now in
    let a = c.args.a in
    let p = plan_of c.args.located.now.rings in
    let q : ℕ → Bool = adjacent p c.args.u in
    any_in_range (λ (t : ℕ). q (get_or l t 0)) a (length l) c.any.ensures.ran (λ x b f k. search (rules, tests))
    ∙ any_entry l q a (length l - a) ∙ ap (list_any q) (stretch-rest l a)
