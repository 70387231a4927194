-- What is put on the front of a list from its last entry on: the part of a ring that is read, reversed.
use Prim.Native.Nat.{ℕ, zero, suc, ◌+◌, ◌-◌, ◌≤◌, ◌<◌}
use mathlib.Core.Path.{◌≡◌, refl, sym, ap, ◌∙◌}
use mathlib.Core.List.{List, [], ◌∷◌, ◌++◌, reverse}
use native.Mathlib.Omega.{arith}
use lib.ListN.{length, get_or, set, take, drop, length-take}
use lib.Seq.{take-append_seam}
use Rattle.std.proofs.lemmas.List.{length-reverse}
use Rattle.model.specs.Plan.{ring, onward, strictly_between}
use Rattle.model.specs.Sweep.{below}
use Rattle.rings.specs.declared.Rings.{Rings}
use Rattle.rings.specs.Tables.{plan_of}
use Rattle.rings.proofs.Rows.{index_le}
use Rattle.sweep_frontier.specs.declared.below.Below.{Below}
use Rattle.sweep_frontier.specs.Frontiers.{rotated_at, below_of, entries_read, depth_of}
use Rattle.sweep_frontier.proofs.Under.{back_suc, before-take}

-- the last of the entries taken, set to x
set-taken : (l m : List ℕ) (k x : ℕ) → k < length l → set (take (suc k) l ++ m) k x ≡ take k l ++ (x ∷ m)
set-taken [] m k x h = absurd (omega arith)
set-taken (a ∷ l) m zero x h = refl
set-taken (a ∷ l) m (suc k) x h = ap {B = List ℕ} (λ r. a ∷ r) (set-taken l m k x (omega arith))

-- ---- for t in 0..q { list[q - 1 - t] = l[t]; }
pub record Puts (q : ℕ) (old l : List ℕ) (t : ℕ) (list : List ℕ) : Type 0 where
  pub same : list ≡ take (q - t) old ++ (reverse (take t l) ++ drop q old)

-- after a turn of the loop
pub puts_on : {q : ℕ} {old l : List ℕ} {t : ℕ} {list : List ℕ} → Puts q old l t list
    → {list' : List ℕ} {k x : ℕ} → t < q → q ≤ length old → t < length l → k ≡ q - 1 - t → x ≡ get_or l t 0 → list' ≡ set list k x → Puts q old l (t + 1) list'
puts_on {q} {old} {l} {t} {list} inv {k = k} {x} h room long at is e =
    let w : q - t ≡ suc k = omega arith in
    let v : k ≡ q - (t + 1) = omega arith in
    let u : suc t ≡ t + 1 = omega arith in
    let rest : List ℕ = reverse (take t l) ++ drop q old in
    record {
      same = e ∙ ap (λ (m : List ℕ). set m k x) (inv.same ∙ ap (λ (n : ℕ). take n old ++ rest) w) ∙ set-taken old rest k x (omega arith)
          ∙ (λ i. take (v i) old ++ (is i ∷ rest)) ∙ ap (λ (m : List ℕ). take (q - (t + 1)) old ++ (m ++ drop q old)) (sym (back_suc l t long) ∙ ap (λ (n : ℕ). reverse (take n l)) u);
    }

-- ---- what then stands in the list
module _ (l m : List ℕ) {q : ℕ} {list : List ℕ} (put : list ≡ reverse (take q l) ++ m) (room : q ≤ length l) where
  -- its front
  pub put_front : take q list ≡ reverse (take q l)
  put_front =
      let a = length-take q l in
      let z : q ≡ length (reverse (take q l)) = omega (arith, length-reverse (take q l)) in
      ap (take q) put ∙ ap (λ (n : ℕ). take n (reverse (take q l) ++ m)) z ∙ take-append_seam (reverse (take q l)) m

-- what is read of what is below a position of the frontier is the model's list of it
module _ (r : Rings) (f : List ℕ) (k : ℕ) {b : Below} (is : b ≡ below_of r f k) where
  pub below_read : reverse (take (depth_of b) (entries_read b)) ≡ below (plan_of r) f k
  unfolding rotated_at below strictly_between onward
  below_read = ap (λ (b : Below). reverse (take (depth_of b) (entries_read b))) is ∙ ap reverse (sym (before-take (get_or f (k - 1) 0) (onward (get_or f (suc k) 0) (ring (plan_of r) (get_or f k 0)))))

  -- how many that are
  pub deep_below : depth_of b ≡ length (below (plan_of r) f k)
  deep_below =
      let z = length-take (depth_of b) (entries_read b) in
      let h = index_le b.left (entries_read b) in
      omega (arith, length-reverse (take (depth_of b) (entries_read b)), ap length below_read)

  -- it stands in the front of a list on which it was put
  pub put_below : (m : List ℕ) {q : ℕ} {list : List ℕ} → q ≡ depth_of b → list ≡ reverse (take (depth_of b) (entries_read b)) ++ m → take q list ≡ below (plan_of r) f k
  put_below m {q} {list} e put = ap (λ (n : ℕ). take n list) e ∙ put_front (entries_read b) m put (index_le b.left (entries_read b)) ∙ below_read
