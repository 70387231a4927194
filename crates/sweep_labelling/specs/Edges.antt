-- What is needed to put labels on edges where the model has them.
use Rattle.std.specs.Prelude.{ℕ, ◌≤◌, ◌<◌, ◌≡◌, List, map, get_or}
use Rattle.model.specs.Plan.{Plan, Dart, context_count}
use Rattle.model.specs.Labels.{start}
use Rattle.sweep_frontier.specs.Held.{EntriesBelow200}

-- the darts from u
unfoldable pub darts_to : ℕ → List ℕ → List Dart
darts_to u vs = map (λ (v : ℕ). (u, v)) vs

-- the rings of a plan begin at these starts; its contexts are at most 200, and its entries are below 200
pub record Guide (p : Plan) (starts : List ℕ) : Type 0 where
  pub begins : (u : ℕ) → u < context_count p → get_or starts u 0 ≡ start p u
  pub few : context_count p ≤ 200
  pub sane : EntriesBelow200 p
