-- What holds of a plan that keeps the rules 4 to 9, as statements and not as a test. The test `plan_rules` passes exactly where they hold (proofs, PlanRules).
use Rattle.std.specs.Prelude.{ℕ, ◌+◌, ◌-◌, ◌%◌, ◌<◌, ◌≡◌, ◌≢◌, true, false, length, get_or}
use Rattle.lists.specs.Tests.{repeats}
use Rattle.model.specs.Plan.{Plan, context_count, ring, adjacent, outer, closes, entry_count, dart_count}

-- What the plan rules say of neighbours and rings
pub record Sound (p : Plan) : Type 0 where
  -- 4: neighbours are contexts, and no context is its own neighbour
  pub inside : (u v : ℕ) → adjacent p u v ≡ true → v < context_count p
  pub other : (u v : ℕ) → adjacent p u v ≡ true → u ≢ v
  -- 5: no ring repeats an entry
  pub no_repeat : (u : ℕ) → repeats (ring p u) ≡ false
  -- 6: whoever is listed lists back
  pub returned : (u v : ℕ) → adjacent p u v ≡ true → adjacent p v u ≡ true
  -- 7: all rings together have 6n − 14 entries
  pub total : entry_count p ≡ dart_count (context_count p)
  -- 8: a border ring begins with the next border context, ends with the one before, and lacks the one across
  pub begins : (u : ℕ) → u < 4 → get_or (ring p u) 0 u ≡ (u + 1) % 4
  pub ends : (u : ℕ) → u < 4 → get_or (ring p u) (length (ring p u) - 1) u ≡ (u + 3) % 4
  pub apart : (u : ℕ) → u < 4 → adjacent p u ((u + 2) % 4) ≡ false
  -- 9: every dart that is not outer comes back to itself after three face steps
  pub closed : (u v : ℕ) → adjacent p u v ≡ true → outer (u, v) ≡ false → closes p (u, v) ≡ true
