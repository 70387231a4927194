-- parts_of meets its contract.
use Rattle.sheet_queries.proofs.Writes.{labels_few}
use Rattle.sheet_queries.proofs.parts_of.Goals as goal

pub returns-in-Labelled-clause-few : goal.returns-in-Labelled-clause-few
returns-in-Labelled-clause-few c = let f = c.args.fitting.now in labels_few f.sheet.now f.fits c.labels.ensures

pub returns-in-Charted-clause-few : goal.returns-in-Charted-clause-few
returns-in-Charted-clause-few c = let f = c.args.fitting.now in labels_few f.sheet.now f.fits c.labels-in-Charted.ensures
