-- Frontiers that fail: what is put on a frontier that failed leaves it so; and what the code comes to, which stops where something fails.
use Prim.Native.Nat.{ℕ, zero, suc, ◌+◌, ◌-◌}
use mathlib.Core.Path.{◌≡◌, refl, ap, sym, ◌∙◌}
use mathlib.Core.List.{List}
use mathlib.Core.Bool.{Bool, true, false, cond}
use Rattle.std.specs.Prelude.{Option, Some, None, is_some}
use lib.ListN.{set}
use lib.Dec.{ltb}
use Rattle.lists.specs.Folds.{each, through, each_down}
use Rattle.lists.proofs.Folds.{FoldsUp, FoldsDown, folds_down_on}
use Rattle.sweep_frontier.specs.declared.Frontier as held
use Rattle.sweep_frontier.specs.Frontiers.{Frontier, frontier_of, whole, tried, unless_failed, pushed}

-- ---- a frontier that failed stays failed
-- when a context is put at its end
pub pushed-off : (v : Frontier) (c : ℕ) → v.ok ≡ false → (pushed v c).ok ≡ false
unfolding pushed
pushed-off v c e = go (ltb v.len 512)
  where
    go : (u : Bool) → (cond u (frontier_of v.ok (v.len + 1) (set v.at v.len c) v.marks) (frontier_of false v.len v.at v.marks)).ok ≡ false
    go true = e
    go false = refl

module _ (step : ℕ → Frontier → Frontier) (stays : (i : ℕ) (v : Frontier) → v.ok ≡ false → (step i v).ok ≡ false) where
  -- when something is done at each of several numbers, from the last on
  pub down-failed : (k : ℕ) (v : Frontier) → v.ok ≡ false → (each_down step k v).ok ≡ false
  unfolding each_down
  down-failed zero v e = e
  down-failed (suc k) v e = down-failed k (step k v) (stays k v e)

  -- a loop in which a step fails
  pub folds_down-failed : {n k k' : ℕ} {v w : Frontier} → FoldsDown step n v k w → k ≡ suc k' → (step k' w).ok ≡ false → (each_down step n v).ok ≡ false
  folds_down-failed {n} {k} {k'} {v} {w} inv z f = ap (λ (u : Frontier). u.ok) (folds_down_on inv z refl).same ∙ down-failed k' (step k' w) f

module _ (step : ℕ → Frontier → Frontier) (keeps : (i : ℕ) (v : Frontier) → v.ok ≡ false → step i v ≡ v) where
  -- a frontier that failed is kept where something is done at each of several numbers that leaves it as it is
  pub each-kept : (a k : ℕ) (v : Frontier) → v.ok ≡ false → each step a k v ≡ v
  unfolding each
  each-kept a zero v e = refl
  each-kept a (suc k) v e = ap (each step (suc a) k) (keeps a v e) ∙ each-kept (suc a) k v e

  -- a loop that stops where a step failed
  pub folds_up-kept : {a e i : ℕ} {v w : Frontier} → FoldsUp step a e v i w → w.ok ≡ false → w ≡ through step a e v
  folds_up-kept {e = e} {i = i} {w = w} inv f = sym (inv.same ∙ each-kept i (e - i) w f)

-- ---- what the code comes to on lent arrays
module _ {r : Option ℕ} {at marks : List ℕ} {w : Frontier} where
  -- what was tried did not fail
  pub tried_yes : (len : ℕ) {k : ℕ} → tried r len at marks ≡ w → r ≡ Some k → frontier_of true k at marks ≡ w
  tried_yes len e q = ap (λ (s : Option ℕ). tried s len at marks) (sym q) ∙ e

  -- it failed
  pub tried_no : (len : ℕ) → tried r len at marks ≡ w → r ≡ None → w.ok ≡ false
  tried_no len e q = ap (λ (u : Frontier). u.ok) (sym e) ∙ ap is_some q

-- ---- what the code keeps
-- a frontier that did not fail is kept
pub unless_failed_yes : {v : held.Frontier} {w : Frontier} → whole v ≡ w → Some v ≡ unless_failed w
unfolding unless_failed
unless_failed_yes e = ap unless_failed e

-- one that failed is not
pub unless_failed_no : (w : Frontier) {r : Option held.Frontier} → r ≡ None → w.ok ≡ false → r ≡ unless_failed w
unfolding unless_failed
unless_failed_no w q e = q ∙ sym (ap (λ (b : Bool). cond b (Some (record { len = w.len; at = w.at; marks = w.marks })) None) e)

-- what it is of what is kept
module _ (w : Frontier) where
  -- the frontier for the code, where it did not fail
  abbrev parts : held.Frontier
  parts = record { len = w.len; at = w.at; marks = w.marks }

  -- a frontier that is kept did not fail
  pub unless_failed_is : {v : held.Frontier} → unless_failed w ≡ Some v → w ≡ whole v
  unfolding unless_failed
  unless_failed_is {v} e = go w.ok refl e
    where
      go : (b : Bool) → w.ok ≡ b → cond {A = Option held.Frontier} b (Some parts) None ≡ Some v → w ≡ whole v
      go true q f = let a : parts ≡ v = cc in λ i. frontier_of (q i) (a i).len (a i).at (a i).marks
      go false q f = absurd (cc)

  -- where none is kept it failed
  pub unless_failed_none : unless_failed w ≡ None → w.ok ≡ false
  unfolding unless_failed
  unless_failed_none e = go w.ok refl e
    where
      go : (b : Bool) → w.ok ≡ b → cond {A = Option held.Frontier} b (Some parts) None ≡ None → w.ok ≡ false
      go true q f = absurd (cc)
      go false q f = q
