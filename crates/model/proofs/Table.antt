-- Every row of the table of the four trenches holds, by computation.
use mathlib.Core.Path.{refl}
use Rattle.lists.specs.Ranges.{first_from}
use Rattle.model.specs.Plan.{plan_computes}
use Rattle.model.specs.Labels.{labels_computes}
use Rattle.model.specs.Chart.{chart_computes}
use Rattle.model.specs.Geometry.{geometry_computes}
use Rattle.model.specs.Sweep.{sweep_computes}
use Rattle.model.specs.Turn.{turn_computes}
use Rattle.model.specs.Scan.{scan_computes}
use Rattle.model.specs.Trenches.{Holds, worked_table}

pub shown : Holds worked_table
unfolding worked_table first_from plan_computes labels_computes chart_computes geometry_computes sweep_computes turn_computes scan_computes
shown = (refl, (refl, (refl, (refl, (refl, (refl, (refl, (refl, (refl, (refl, (refl, (refl, (refl, tt)))))))))))))
