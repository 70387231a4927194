-- is_sound meets its contract.
use mathlib.Core.Path.{◌∙◌}
use Rattle.rings.specs.Tables.{rows, table}
use Rattle.plan_check.specs.Sound.{sound}
use Rattle.plan_check.proofs.is_sound.Goals as goal

pub returns : goal.returns
unfolding table
returns c =
    let r = c.rings.ensures in
    let starts = r.starts ∙ c.starts_of-starts.ensures in
    c.is_sound_from.ensures ∙ (λ i. sound (rows (starts i) (r.sizes i) (r.entries i) (r.n i)))
