-- Changes of label around a ring, weighed: four runs are four changes to the next label, and no other change.
use Rattle.std.specs.Prelude.{ℕ, cond, eqb, ltb}
use Rattle.model.specs.Labels.{turned}

-- what a change from label a to label b weighs: 0 where there is none, 1 to the next label clockwise, 5 otherwise
unfoldable pub change_weight : ℕ → ℕ → ℕ
change_weight a b = cond (eqb a b) 0 (cond (ltb a 4) (cond (eqb b (turned a 1)) 1 5) 5)
