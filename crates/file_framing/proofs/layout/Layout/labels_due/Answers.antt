-- labels_due meets its contract.
use Rattle.file_framing.proofs.Layouts.{few_labels}
use Rattle.file_framing.proofs.layout.Layout.labels_due.Goals as goal

pub returns-clause-upper_bound : goal.returns-clause-upper_bound
returns-clause-upper_bound c = few_labels c.args.self.now.few c.labels_due.ensures
