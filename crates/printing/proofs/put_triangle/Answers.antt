-- put_triangle meets its contract.
use Rattle.text_templates.specs.Digits.{letters}
use Rattle.printing.proofs.Texts.{none_line}
use Rattle.printing.proofs.put_triangle.Goals as goal

pub returns-in-None-clause-value : goal.returns-in-None-clause-value
unfolding letters
returns-in-None-clause-value c = rw (none_line c.in-None.is) c.put_bytes.ensures
