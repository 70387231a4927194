-- What the code of the frontier computes, step by step: rings read onward, frontiers that grow.
use Prim.Native.Nat.{ℕ, zero, suc, ◌+◌, ◌-◌, ◌≤◌, ◌<◌, min}
use mathlib.Core.Path.{◌≡◌, refl, ap, sym, ◌∙◌}
use mathlib.Core.List.{List, [], ◌∷◌, ◌++◌}
use mathlib.Core.Bool.{Bool, true, false, cond}
use lib.Dec.{eqb}
use native.Mathlib.Omega.{arith}
use lib.ListN.{length, get_or, take, drop, length-append, length-drop, length-take, get_or-append, get_or-eq_default}
use lib.Seq.{get_or-append-add, get_or-drop, get_or-take}
use Rattle.lists.specs.Parts.{index_of}
use Rattle.lists.specs.Ranges.{first_from, lowest}
use Rattle.model.specs.Plan.{neighbour, ring}
use Rattle.rings.specs.Tables.{plan_of, size_of}
use Rattle.rings.proofs.Rows.{ring-size, ring-at}
use Rattle.sweep_frontier.specs.declared.below.Below.{Below}
use Rattle.sweep_frontier.specs.Frontiers.{rotated_at, entries_read}

-- ---- a ring read from a position on
module _ (x : ℕ) (r : List ℕ) {q d : ℕ} (size : q ≡ length r) (rest : d ≡ q - (x + 1)) where
  -- an entry after the position
  pub rotated-first : (t : ℕ) → t < d → get_or r (x + 1 + t) 0 ≡ get_or (rotated_at x r) t 0
  unfolding rotated_at
  rotated-first t h =
      let z : x + 1 + t ≡ suc x + t = omega arith in
      ap (λ (k : ℕ). get_or r k 0) z ∙ sym (get_or-append (drop (suc x) r) (take x r) 0 t (let l = length-drop (suc x) r in omega arith) ∙ get_or-drop (suc x) r t 0)

  -- an entry before the position
  pub rotated-later : (t : ℕ) → d ≤ t → t - d < x → get_or r (t - d) 0 ≡ get_or (rotated_at x r) t 0
  unfolding rotated_at
  rotated-later t h k =
      let l = length-drop (suc x) r in
      let z : t ≡ length (drop (suc x) r) + (t - d) = omega arith in
      sym (ap (λ (i : ℕ). get_or (drop (suc x) r ++ take x r) i 0) z ∙ get_or-append-add (drop (suc x) r) (take x r) (t - d) 0 ∙ get_or-take x r (t - d) 0 k)

  -- past the end
  pub rotated-past : (t : ℕ) → d ≤ t → min x q ≤ t - d → 0 ≡ get_or (rotated_at x r) t 0
  unfolding rotated_at
  rotated-past t h k =
      sym (get_or-eq_default (drop (suc x) r ++ take x r) 0 (let a = length-append (drop (suc x) r) (take x r) in let b = length-drop (suc x) r in let c = length-take x r in omega arith))

-- how long a ring read from a position on is
pub rotated_long : (x : ℕ) (r : List ℕ) {q d e : ℕ} → q ≡ length r → d ≡ q - 1 - x → e ≡ min x q → d + e ≡ length (rotated_at x r)
unfolding rotated_at
rotated_long x r s g h =
    let b = length-append (drop (suc x) r) (take x r) in
    let c = length-drop (suc x) r in
    let l = length-take x r in
    omega arith

-- what is read of what is below a position, as the code reads it
module _ (b : Below) {q : ℕ} (size : q ≡ size_of b.rings.sizes.now b.rings.n b.u) where
  -- the size is that of the ring
  whole_ring : q ≡ length (ring (plan_of b.rings) b.u)
  whole_ring = size ∙ sym (ring-size b.rings.starts.now b.rings.sizes.now b.rings.entries.now b.rings.n b.u)

  -- an entry of the ring, where the rings' entries stand
  stands : {o : ℕ} → o ≡ get_or b.rings.starts.now b.u 0 → (i : ℕ) → i < q → get_or b.rings.entries.now (o + i) 0 ≡ get_or (ring (plan_of b.rings) b.u) i 0
  unfolding neighbour
  stands from i h = ap (λ (s : ℕ). get_or b.rings.entries.now (s + i) 0) from ∙ sym (ring-at b.rings.starts.now b.rings.sizes.now b.rings.entries.now b.rings.n b.u i (omega arith))

  module _ {w d : ℕ} (less : w ≡ q - 1) (rest : d ≡ w - b.x) where
    -- how many entries stand behind the position
    behind : d ≡ q - (b.x + 1)
    behind = omega arith

    -- an entry behind the position
    pub read_first : {o t e : ℕ} → o ≡ get_or b.rings.starts.now b.u 0 → t < d → e ≡ get_or b.rings.entries.now (o + (b.x + 1 + t)) 0 → e ≡ get_or (entries_read b) t 0
    read_first {t = t} from h is = is ∙ stands from (b.x + 1 + t) (omega arith) ∙ rotated-first b.x (ring (plan_of b.rings) b.u) whole_ring behind t h

    -- an entry before the position
    pub read_later : {o t e m : ℕ} → o ≡ get_or b.rings.starts.now b.u 0 → (t < d → ⊥) → m ≡ min b.x q → t - d < m → e ≡ get_or b.rings.entries.now (o + (t - d)) 0 → e ≡ get_or (entries_read b) t 0
    read_later {t = t} from h low k is = is ∙ stands from (t - d) (omega arith) ∙ rotated-later b.x (ring (plan_of b.rings) b.u) whole_ring behind t (omega arith) (omega arith)

    -- past the end
    pub read_past : {t m : ℕ} → (t < d → ⊥) → m ≡ min b.x q → (t - d < m → ⊥) → 0 ≡ get_or (entries_read b) t 0
    read_past {t} h low k = rotated-past b.x (ring (plan_of b.rings) b.u) whole_ring behind t (omega arith) (omega arith)

    -- how many entries are read
    pub read_all : {e : ℕ} → e ≡ min b.x q → d + e ≡ length (entries_read b)
    read_all h = rotated_long b.x (ring (plan_of b.rings) b.u) whole_ring (rest ∙ ap (λ (i : ℕ). i - b.x) less) h

-- ---- (0..e).find(|t| b == l[t]).unwrap_or(e)
-- of the k numbers from suc a on, the first that passes is one more than of those from a on the first whose next passes
first_after : (f : ℕ → Bool) (a k : ℕ) → first_from f (suc a) k ≡ suc (first_from (λ (t : ℕ). f (suc t)) a k)
unfolding first_from
first_after f a zero = refl
first_after f a (suc k) = go (f (suc a)) (first_after f (suc a) k)
  where
    go : (b : Bool) → {x y : ℕ} → x ≡ suc y → cond b (suc a) x ≡ suc (cond b a y)
    go true e = refl
    go false e = e

-- where b stands is the lowest position at which it does
pub lowest-index : (b : ℕ) (l : List ℕ) → lowest (λ (t : ℕ). eqb b (get_or l t 0)) (length l) ≡ index_of b l
unfolding first_from
lowest-index b [] = refl
lowest-index b (a ∷ l) = ap (cond (eqb b a) 0) (first_after (λ (t : ℕ). eqb b (get_or (a ∷ l) t 0)) 0 (length l) ∙ ap suc (lowest-index b l))
