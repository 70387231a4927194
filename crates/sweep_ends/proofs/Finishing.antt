-- The engine's finishing test is the model's.
use Prim.Native.Nat.{ℕ, zero, suc, ◌-◌, ◌≤◌}
use mathlib.Core.Path.{◌≡◌, refl, ap, sym, ◌∙◌}
use mathlib.Core.List.{List, [], ◌∷◌, reverse}
use mathlib.Core.Bool.{Bool, true, false, cond, not, and-false, and-true}
use native.Mathlib.Omega.{arith}
use lib.ListN.{length, get_or, take}
use lib.Dec.{eqb}
use borrow.Author.Tests.{ne_eqb}
use Rattle.std.specs.List.{list_all}
use Rattle.lists.specs.Tests.{same_list}
use Rattle.lists.specs.Ranges.{from}
use Rattle.lists.specs.Spans.{zero_padded}
use Rattle.model.specs.Plan.{Plan, south}
use Rattle.model.specs.Sweep.{below, finished, State}
use Rattle.rings.specs.declared.Rings.{Rings}
use Rattle.rings.specs.Tables.{plan_of}
use Rattle.rings.proofs.Rows.{index_le}
use Rattle.sweep_frontier.specs.Held.{HoldsFrontier}
use Rattle.sweep_frontier.specs.declared.below.Below.{Below}
use Rattle.sweep_frontier.specs.Frontiers.{Frontier, below_of, entries_read, depth_of}
use Rattle.sweep_frontier.proofs.Puts.{below_read}
use Rattle.sweep_frontier.proofs.Under.{back_suc, below-zero_padded}
use Rattle.sweep_ends.specs.Ends.{unfinished}
use Rattle.lists.proofs.Folds.{all_from, some_same}

-- what is taken of a list is South alone
same_two : (l : List ℕ) (q : ℕ) → q ≤ length l → same_list (reverse (take q l)) (south ∷ []) ≡ cond (eqb q 1) (eqb (get_or l 0 0) south) false
same_two l zero h = refl
same_two [] (suc q) h = absurd (omega arith)
same_two (x ∷ l) (suc zero) h = and-true (eqb x south)
same_two (x ∷ l) (suc (suc q)) h =
    let y = get_or (x ∷ l) (suc q) 0 in
    let e : reverse (take (suc (suc q)) (x ∷ l)) ≡ y ∷ get_or (x ∷ l) q 0 ∷ reverse (take q (x ∷ l)) = back_suc (x ∷ l) (suc q) h ∙ ap {B = List ℕ} (λ m. y ∷ m) (back_suc (x ∷ l) q (omega arith)) in
    rw (ne_eqb (suc (suc q)) 1 (λ z. omega arith)) (ap (λ (m : List ℕ). same_list m (south ∷ [])) e ∙ and-false (eqb y south))

-- what the code tells of a position, by whether one context is below it
module _ (r : Rings) (f : List ℕ) (k : ℕ) {b : Below} {t : Bool} (is : b ≡ below_of r f k) (is-one : t ≡ eqb (depth_of b) 1) where
  -- South alone is below it where the first that is read is South, too
  told : cond t (eqb (get_or (entries_read b) 0 0) south) false ≡ same_list (below (plan_of r) f k) (south ∷ [])
  told =
      let two = same_two (entries_read b) (depth_of b) (index_le b.left (entries_read b)) in
      ap (λ (t : Bool). cond t (eqb (get_or (entries_read b) 0 0) south) false) is-one ∙ sym two ∙ ap (λ (m : List ℕ). same_list m (south ∷ [])) (below_read r f k is)

  -- one context is
  pub done_yes : {y : ℕ} → t ≡ true → y ≡ get_or (entries_read b) 0 0 → eqb y south ≡ same_list (below (plan_of r) f k) (south ∷ [])
  done_yes one read = (λ i. cond (sym one i) (eqb (read i) south) false) ∙ told

  -- none, or more
  pub done_no : t ≡ false → t ≡ same_list (below (plan_of r) f k) (south ∷ [])
  done_no other = other ∙ ap (λ (t : Bool). cond t (eqb (get_or (entries_read b) 0 0) south) false) (sym other) ∙ told

-- The engine's finishing test on the arrays that hold a frontier is the model's
pub open_is : (p : Plan) (s : State) (v : Frontier) → HoldsFrontier s v → unfinished p v.at v.len ≡ not (finished p s.frontier)
unfolding unfinished finished
open_is p s v fr =
    let f = s.frontier in
    let z : length f - 1 - 1 ≡ length f - 2 = omega arith in
    let done : ℕ → Bool = λ k. same_list (below p f k) (south ∷ []) in
    (λ t. unfinished p (fr.rep.at t) (fr.rep.len t))
    ∙ some_same (λ (k : ℕ). not (same_list (below p (zero_padded 512 f) k) (south ∷ []))) (λ (k : ℕ). not (done k)) 1 (length f - 1 - 1) (λ k. ap (λ (m : List ℕ). not (same_list m (south ∷ []))) (below-zero_padded p f k))
    ∙ all_from done 1 (length f - 1 - 1)
    ∙ ap (λ (n : ℕ). not (list_all done (from 1 n))) z
