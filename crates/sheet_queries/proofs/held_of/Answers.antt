-- held_of meets its contract.
use Rattle.sheet_queries.proofs.held_of.Goals as goal

pub invariant_of-result-2-clause-few : goal.invariant_of-result-2-clause-few
invariant_of-result-2-clause-few c = c.parts_of.ensures.few
