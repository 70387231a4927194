-- What the loop of put keeps.
use mathlib.Core.Path.{◌≡◌}
use lib.ListN.{drop}
use Rattle.text_templates.specs.Forms.{filled}
use Rattle.buffer.specs.Puts.{put}
use Rattle.text_templates.proofs.put.Given as goal

abbrev pub invariant-loop-sign : goal.invariant-loop-sign
invariant-loop-sign l = put l.to (filled (drop l.sign-index l.form) l.numbers.rest.now) ≡ put l.initial.to (filled l.form l.numbers-2)
