-- The frontier as the engine keeps it, on arrays: what the functions of src/ compute.
use Rattle.std.specs.Prelude.{ℕ, suc, ◌+◌, ◌-◌, List, ◌++◌, Option, Some, None, Result, Ok, Err, is_some, is_ok, Bool, true, false, cond, get_or, set, take, drop, ltb}
use Rattle.std.specs.Option.{unwrap_or}
use Rattle.lists.specs.Parts.{index_of}
use Rattle.lists.specs.Spans.{zeros}
use Rattle.model.specs.Plan.{ring}
use Rattle.rings.specs.declared.Rings.{Rings}
use Rattle.rings.specs.Tables.{plan_of}
use Rattle.sweep_frontier.specs.declared.below.Below.{Below}
use Rattle.sweep_frontier.specs.declared.Frontier as held

-- ---- frontiers
-- a frontier, which is not ok where it failed: its contexts, and a mark for each context that is or was on the frontier
pub record Frontier : Type 0 where
  pub ok : Bool
  pub len : ℕ
  pub at : List ℕ
  pub marks : List ℕ

-- a frontier of these parts
abbrev pub frontier_of : Bool → ℕ → List ℕ → List ℕ → Frontier
frontier_of ok len at marks = record { ok = ok; len = len; at = at; marks = marks }

-- a frontier of the code, which has not failed
abbrev pub whole : held.Frontier → Frontier
whole v = frontier_of true v.len v.at v.marks

-- a frontier of len contexts on lent arrays after something was tried that may fail: it has as many as is told then, and len where it failed
abbrev pub tried : Option ℕ → ℕ → List ℕ → List ℕ → Frontier
tried r len at marks = frontier_of (is_some r) (unwrap_or r len) at marks

-- a frontier for the code; none where it failed
unfoldable pub unless_failed : Frontier → Option held.Frontier
unless_failed v = cond v.ok (Some (record { len = v.len; at = v.at; marks = v.marks })) None

-- how many contexts a frontier has of which this is told, whether it failed or not
abbrev pub len_of : Result ℕ ℕ → ℕ
len_of (Ok len) = len
len_of (Err len) = len

-- the frontier on lent arrays of which this is told: one of so many contexts where it is Ok, and one of so many that failed where it is Err
abbrev pub lent_frontier : Result ℕ ℕ → List ℕ → List ℕ → Frontier
lent_frontier r at marks = frontier_of (is_ok r) (len_of r) at marks

-- the frontier with x at its end; it fails where it is full
unfoldable pub pushed : Frontier → ℕ → Frontier
pushed v x = cond (ltb v.len 512) (frontier_of v.ok (v.len + 1) (set v.at v.len x) v.marks) (frontier_of false v.len v.at v.marks)

-- a frontier with nothing on it, and these marks
unfoldable pub empty_frontier : List ℕ → Frontier
empty_frontier marks = frontier_of true 0 (zeros 512) marks

-- ---- what is below
-- a ring read from the entry after position x round to the entry before it
unfoldable pub rotated_at : ℕ → List ℕ → List ℕ
rotated_at x r = drop (suc x) r ++ take x r

-- what is below position k: the ring of position k is read from the entry after its right frontier neighbour on, up to its left frontier neighbour
abbrev pub below_of : Rings → List ℕ → ℕ → Below
below_of r f k = record { rings = r; u = get_or f k 0; x = index_of (get_or f (suc k) 0) (ring (plan_of r) (get_or f k 0)); left = get_or f (k - 1) 0 }

-- what is read there
abbrev pub entries_read : Below → List ℕ
entries_read b = rotated_at b.x (ring (plan_of b.rings) b.u)

-- how many entries of it are below
abbrev pub depth_of : Below → ℕ
depth_of b = index_of b.left (entries_read b)
