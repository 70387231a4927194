-- The plan of rings in a lent file.
use Rattle.model.specs.Plan.{Plan}
use Rattle.rings.specs.FilePlans.{plan_in_file}
use Rattle.file_rings.specs.declared.FileRings.{FileRings}

-- the plan that the file holds where the rings begin at these starts and have these sizes
abbrev pub plan_of_file : FileRings → Plan
plan_of_file r = plan_in_file r.starts.now r.sizes.now r.file.now r.n
