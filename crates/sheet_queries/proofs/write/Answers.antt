-- write meets its contract.
use Rattle.sheet.specs.Sheets.{rank}
use Rattle.sheet.proofs.Reading.{fitting_reached}
use Rattle.sheet_queries.proofs.Writes.{length-written, buffer_written}
use Rattle.sheet_queries.proofs.write.Goals as goal

pub returns-clause-result_value : goal.returns-clause-result_value
unfolding rank
returns-clause-result_value c =
    let s = c.args.sheet.now in
    let p = c.in_ok-fitting in
    let reached = fitting_reached s 1 c.require_fitting.result c.require_fitting.ensures.answer p.fitting p.was in
    length-written s c.args.out.now reached p.ensures.lent c.held_of.ensures c.write_file.ensures

pub returns-clause-out_after : goal.returns-clause-out_after
unfolding rank
returns-clause-out_after c =
    let s = c.args.sheet.now in
    let p = c.in_ok-fitting in
    let reached = fitting_reached s 1 c.require_fitting.result c.require_fitting.ensures.answer p.fitting p.was in
    buffer_written s c.args.out.now reached p.ensures.lent c.held_of.ensures c.write_file.ensures
