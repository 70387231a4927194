-- The search for a pair, from the limit down.
use Prim.Native.Nat.{ℕ, zero, suc, ◌+◌, ◌-◌, ◌≤◌, ◌<◌}
use mathlib.Core.Path.{◌≡◌, refl, sym, ap, ◌∙◌}
use mathlib.Core.List.{List}
use mathlib.Core.Bool.{Bool, true, false, cond, ◌&&◌, and-false}
use native.Mathlib.Omega.{arith}
use lib.ListN.{length}
use lib.Dec.{leb}
use borrow.Author.Tests.{lt-ltb}
use Rattle.std.specs.Prelude.{Some, None}
use Rattle.model.specs.Outcome.{accepted, refused}
use Rattle.model.specs.Plan.{Plan}
use Rattle.model.specs.Sweep.{State}
use Rattle.sweep_theory.specs.Quick.{single, candidate, candidate_from, open_at}
use Rattle.sweep_theory.specs.Counter.{local_by, pick_by}
use Rattle.sweep_by_counts.specs.declared.pick.Found.{Found}
use Rattle.sweep_by_counts.specs.Picks.{picked_as}

-- ---- positions that are passed over
module _ (cnt : List ℕ) (p : Plan) (s : State) where
  -- one with one context alone below, short of East's
  over : (k : ℕ) → suc k < length s.frontier → single p s.frontier k ≡ true → pick_by cnt p s (suc k) ≡ pick_by cnt p s k
  unfolding pick_by open_at
  over k h e = rw (lt-ltb (suc k) (length s.frontier) h, e) (ap (λ (t : Bool). cond (t && local_by cnt p s k) (accepted (candidate p s.frontier k, k)) (pick_by cnt p s k)) (and-false (leb 2 k)))

  -- all down to a candidate
  down : (m : ℕ) → suc m < length s.frontier → pick_by cnt p s (suc m) ≡ pick_by cnt p s (suc (candidate_from p s.frontier m))
  unfolding candidate_from
  down zero h = refl
  down (suc m) h = go (down m (omega arith)) (single p s.frontier (suc m)) refl
    where
      go : pick_by cnt p s (suc m) ≡ pick_by cnt p s (suc (candidate_from p s.frontier m)) → (t : Bool) → single p s.frontier (suc m) ≡ t
          → pick_by cnt p s (suc (suc m)) ≡ pick_by cnt p s (suc (cond t (candidate_from p s.frontier m) (suc m)))
      go low true e = over (suc m) h e ∙ low
      go low false e = refl

  -- those between the candidate of j and j, where the one before j is such
  passed : (j : ℕ) → 0 < j → j < length s.frontier → single p s.frontier (j - 1) ≡ true → pick_by cnt p s j ≡ pick_by cnt p s (suc (candidate p s.frontier j))
  unfolding candidate candidate_from
  passed j h k e = go (j - 1) (omega arith)
    where
      go : (m : ℕ) → j ≡ suc m → pick_by cnt p s j ≡ pick_by cnt p s (suc (candidate_from p s.frontier (j - 2)))
      go zero z = let y : 0 ≡ j - 2 = omega arith in ap (pick_by cnt p s) z ∙ ap (λ (n : ℕ). pick_by cnt p s (suc (candidate_from p s.frontier n))) y
      go (suc m) z =
          let x : suc m ≡ j - 1 = omega arith in
          let y : m ≡ j - 2 = omega arith in
          ap (pick_by cnt p s) z ∙ over (suc m) (omega arith) (ap (single p s.frontier) x ∙ e) ∙ down m (omega arith) ∙ ap (λ (n : ℕ). pick_by cnt p s (suc (candidate_from p s.frontier n))) y

  -- the first, which is not open
  none : (j : ℕ) → j ≤ 1 → pick_by cnt p s j ≡ refused 14 0
  unfolding pick_by open_at
  none zero h = refl
  none (suc zero) h = refl
  none (suc (suc j)) h = absurd (omega arith)

-- ---- while j > 1 { j -= 1; if open(j) { if good(j) { return Some(j and its candidate); } if single(j - 1) { j = candidate(j) + 1; } } } None
pub record Picking (cnt : List ℕ) (p : Plan) (s : State) (n j : ℕ) : Type 0 where
  pub low : j ≤ n
  pub same : pick_by cnt p s n ≡ pick_by cnt p s j

-- before the loop
pub picking_from : {cnt : List ℕ} {p : Plan} {s : State} {n j : ℕ} → j ≡ n → Picking cnt p s n j
picking_from {cnt} {p} {s} e = record { low = omega arith; same = ap (pick_by cnt p s) (sym e) }

module _ {cnt : List ℕ} {p : Plan} {s : State} {n j : ℕ} (inv : Picking cnt p s n j) where
  module _ {k : ℕ} (z : j ≡ suc k) where
    -- the next position apart from those below
    apart : pick_by cnt p s n ≡ cond (open_at p s.frontier k && local_by cnt p s k) (accepted (candidate p s.frontier k, k)) (pick_by cnt p s k)
    unfolding pick_by
    apart = inv.same ∙ ap (pick_by cnt p s) z

    -- it is not open
    pub picking_shut : open_at p s.frontier k ≡ false → Picking cnt p s n k
    picking_shut e = let h = inv.low in record { low = omega arith; same = apart ∙ rw e refl }

    -- it does not pass
    pub picking_over : open_at p s.frontier k ≡ true → local_by cnt p s k ≡ false → Picking cnt p s n k
    picking_over o e = let h = inv.low in record { low = omega arith; same = apart ∙ rw (o, e) refl }

    -- it passes
    pub picking_hit : (d : Found) → d.j ≡ k → d.i ≡ candidate p s.frontier k → open_at p s.frontier k ≡ true → local_by cnt p s k ≡ true → picked_as (Some d) ≡ pick_by cnt p s n
    unfolding picked_as
    picking_hit d at is o e = (λ t. accepted (is t, at t)) ∙ sym (apart ∙ rw (o, e) refl)

  -- where one context alone is below the position before j, those between its candidate and it are passed over
  pub picking_skip : {i : ℕ} → 0 < j → j < length s.frontier → i ≤ j - 2 → single p s.frontier (j - 1) ≡ true → i ≡ candidate p s.frontier j → Picking cnt p s n (i + 1)
  picking_skip {i} h k l e is = let z : suc i ≡ i + 1 = omega arith in let r = inv.low in record { low = omega arith; same = inv.same ∙ passed cnt p s j h k e ∙ ap (pick_by cnt p s) (ap suc (sym is) ∙ z) }

  -- after the loop
  pub picking_end : j ≤ 1 → picked_as None ≡ pick_by cnt p s n
  unfolding picked_as
  picking_end z = sym (inv.same ∙ none cnt p s j z)
