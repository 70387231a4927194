-- What the walk over the darts keeps of the entries of a ring. Nothing here has to be believed: no contract of another crate names it.
use Rattle.std.specs.Prelude.{ℕ, suc, ◌+◌, ◌-◌, ◌≤◌, ◌<◌, ◌≡◌, List, length, get_or, cond, ltb, Option, Some, None}
use Rattle.lists.specs.Parts.{index_of}

-- the position that v's mark names in the ring that begins at a
unfoldable pub marked_position : List ℕ → ℕ → ℕ → Option ℕ
marked_position marks v a = cond (ltb a (get_or marks v 0)) (Some (get_or marks v 0 - 1)) None

-- marks of the first i entries of a ring that begins at a: one more than the position where each stands first; a mark of any other context is at most a
pub record MarkedUpTo (marks r : List ℕ) (a i : ℕ) : Type 0 where
  pub size : length marks ≡ 200
  pub seen : (v : ℕ) → v < 200 → index_of v r < i → get_or marks v 0 ≡ suc (a + index_of v r)
  pub fresh : (v : ℕ) → v < 200 → i ≤ index_of v r → get_or marks v 0 ≤ a

-- v is the entry at i of a ring
pub record DartAt (r : List ℕ) (i v : ℕ) : Type 0 where
  pub inside : i < length r
  pub entry : v ≡ get_or r i 0
