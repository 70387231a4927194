-- show meets its contract.
use mathlib.Core.Path.{ap, ◌∙◌}
use Rattle.console.specs.Lines.{behind, shown}
use Rattle.console.proofs.show.Goals as goal

pub returns : goal.returns
unfolding shown
returns c =
    let on = behind c.args.text.now in
    let two = c.show_part-after_b.ensures ∙ ap on c.show_part-after_a.ensures in
    let three = c.show_part-after_c.ensures ∙ ap on two in
    let four = c.show_part-after_d.ensures ∙ ap on three in
    let five = c.show_part-after_e.ensures ∙ ap on four in
    c.show_part.ensures ∙ ap on five
