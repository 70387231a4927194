-- Positions with one context alone below: how the code finds them, down to a candidate and up to where a search resumes.
use Prim.Native.Nat.{ℕ, zero, suc, ◌+◌, ◌-◌, ◌≤◌, ◌<◌, min, max}
use mathlib.Core.Path.{◌≡◌, refl, sym, ap, ◌∙◌}
use mathlib.Core.List.{List}
use mathlib.Core.Bool.{Bool, true, false, cond, not, ◌&&◌}
use native.Mathlib.Omega.{arith}
use lib.ListN.{length}
use lib.Dec.{eqb, ltb}
use borrow.Author.Tests.{lt-ltb, le-ltb, lt-leb, le-leb}
use Rattle.lists.specs.Ranges.{first_from}
use Rattle.lists.specs.Spans.{zero_padded}
use Rattle.model.specs.Plan.{Plan}
use Rattle.rings.specs.declared.Rings.{Rings}
use Rattle.rings.specs.Tables.{plan_of}
use Rattle.sweep_frontier.specs.declared.below.Below.{Below}
use Rattle.sweep_frontier.specs.Held.{HoldsList}
use Rattle.sweep_frontier.specs.Frontiers.{Frontier, below_of, depth_of}
use Rattle.sweep_frontier.proofs.Under.{below-zero_padded}
use Rattle.sweep_frontier.proofs.Puts.{deep_below}
use Rattle.sweep_theory.specs.Quick.{single, candidate_from, candidate, open_at, reach}

-- whether one entry alone is below, by what is read there
pub single_told : (r : Rings) (f : List ℕ) (k : ℕ) {b : Below} {t : Bool} → b ≡ below_of r f k → t ≡ eqb (depth_of b) 1 → t ≡ single (plan_of r) f k
unfolding single
single_told r f k is e = e ∙ ap (λ (n : ℕ). eqb n 1) (deep_below r f k is)

-- the same on the array that holds the frontier
pub single-zero_padded : (p : Plan) (f : List ℕ) (k : ℕ) → single p (zero_padded 512 f) k ≡ single p f k
unfolding single
single-zero_padded p f k = ap (λ (l : List ℕ). eqb (length l) 1) (below-zero_padded p f k)

-- so is what is found down from a position
pub candidate-zero_padded : (p : Plan) (f : List ℕ) (k : ℕ) → candidate_from p (zero_padded 512 f) k ≡ candidate_from p f k
unfolding candidate_from
candidate-zero_padded p f zero = refl
candidate-zero_padded p f (suc k) = λ i. cond (single-zero_padded p f (suc k) i) (candidate-zero_padded p f k i) (suc k)

-- ---- for k in (1..n).rev() { if !single(k) { return k; } } 0
pub record Falls (p : Plan) (f : List ℕ) (n k : ℕ) : Type 0 where
  pub same : candidate_from p f (n - 1) ≡ candidate_from p f (k - 1)

module _ {p : Plan} {f : List ℕ} {n k : ℕ} (inv : Falls p f n k) (j : ℕ) (from : n ≡ j - 1) where
  -- the numbers begin two below j
  begins : candidate_from p f (j - 2) ≡ candidate_from p f (k - 1)
  begins = let z : j - 2 ≡ n - 1 = omega arith in ap (candidate_from p f) z ∙ inv.same

  -- a position that has not one context below
  pub falls_hit : 1 < k → single p f (k - 1) ≡ false → k - 1 ≡ candidate_from p f (j - 2)
  unfolding candidate_from
  falls_hit h e = sym (begins ∙ go (k - 1) refl e)
    where
      go : (t : ℕ) → k - 1 ≡ t → single p f t ≡ false → candidate_from p f t ≡ t
      go zero z e = refl
      go (suc t) z e = rw e refl

  -- after the loop
  pub falls_end : k ≤ 1 → 0 ≡ candidate_from p f (j - 2)
  unfolding candidate_from
  falls_end h = let z : k - 1 ≡ 0 = omega arith in sym (begins ∙ ap (candidate_from p f) z)

module _ {p : Plan} {f : List ℕ} {n k : ℕ} (inv : Falls p f n k) where
  -- one that has
  pub falls_on : 1 < k → single p f (k - 1) ≡ true → Falls p f n (k - 1)
  unfolding candidate_from
  falls_on h e = record { same = inv.same ∙ go (k - 1) (omega arith) e }
    where
      go : (t : ℕ) → 0 < t → single p f t ≡ true → candidate_from p f t ≡ candidate_from p f (t - 1)
      go zero z e = absurd (omega arith)
      go (suc t) z e = let y : suc t - 1 ≡ t = omega arith in rw e (ap (candidate_from p f) (sym y))

-- ---- positions that are open
module _ (p : Plan) (f : List ℕ) (j : ℕ) where
  -- too low a position
  pub open_low : j < 2 → false ≡ open_at p f j
  unfolding open_at
  open_low h = sym (ap (λ (t : Bool). t && not (ltb (suc j) (length f) && single p f j)) (lt-leb 2 j h))

  -- East's position
  pub open_last : 2 ≤ j → length f - 1 ≤ j → true ≡ open_at p f j
  unfolding open_at
  open_last h k = sym (rw (le-leb 2 j h, le-ltb (suc j) (length f) (omega arith)))

  -- another
  pub open_by : 2 ≤ j → j < length f - 1 → not (single p f j) ≡ open_at p f j
  unfolding open_at
  open_by h k = sym (rw (le-leb 2 j h, lt-ltb (suc j) (length f) (omega arith)))

-- ---- for t in k..m { if !single(t) { return t + 2; } } k.max(m) + 2
pub record Rises (p : Plan) (f : List ℕ) (k m t : ℕ) : Type 0 where
  pub same : first_from (λ (i : ℕ). not (single p f i)) k (m - k) ≡ first_from (λ (i : ℕ). not (single p f i)) t (m - t)
  pub reached : t ≤ max k m

module _ {p : Plan} {f : List ℕ} {k m t : ℕ} (inv : Rises p f k m t) where
  -- one context alone is below
  pub rises_on : t < m → single p f t ≡ true → Rises p f k m (t + 1)
  unfolding first_from
  rises_on h e =
      let q : ℕ → Bool = λ i. not (single p f i) in
      let z : m - t ≡ suc (m - (t + 1)) = omega arith in
      let y : suc t ≡ t + 1 = omega arith in
      record { same = inv.same ∙ ap (first_from q t) z ∙ rw e (ap (λ (n : ℕ). first_from q n (m - (t + 1))) y); reached = omega arith }

  -- it is not
  pub rises_hit : t < m → single p f t ≡ false → t ≡ first_from (λ (i : ℕ). not (single p f i)) k (m - k)
  unfolding first_from
  rises_hit h e =
      let q : ℕ → Bool = λ i. not (single p f i) in
      let z : m - t ≡ suc (m - (t + 1)) = omega arith in
      sym (inv.same ∙ ap (first_from q t) z ∙ rw e refl)

  -- after the loop
  pub rises_end : m ≤ t → k ≤ t → max k m ≡ first_from (λ (i : ℕ). not (single p f i)) k (m - k)
  unfolding first_from
  rises_end h l =
      let z : m - t ≡ 0 = omega arith in
      let r = inv.reached in
      let y : max k m ≡ t = omega arith in
      y ∙ sym (inv.same ∙ ap (first_from (λ (i : ℕ). not (single p f i)) t) z)

-- ---- on an array that holds the frontier
module _ (p : Plan) {v : Frontier} {f : List ℕ} (r : HoldsList v f) where
  -- a position with one context alone below
  pub single_held : (k : ℕ) → single p v.at k ≡ single p f k
  single_held k = ap (λ (m : List ℕ). single p m k) r.at ∙ single-zero_padded p f k

  -- the candidate of a position
  pub candidate_held : (j : ℕ) → candidate p v.at j ≡ candidate p f j
  unfolding candidate
  candidate_held j = ap (λ (m : List ℕ). candidate p m j) r.at ∙ candidate-zero_padded p f (j - 2)

  -- a position that is open
  pub open_held : {b : Bool} (j : ℕ) → b ≡ single p v.at j → 2 ≤ j → j < v.len - 1 → not b ≡ open_at p f j
  open_held j e h k = let z = r.len in ap not (e ∙ single_held j) ∙ open_by p f j h (omega arith)

  -- where a search resumes
  pub reach_held : (k : ℕ) {m t : ℕ} → m ≡ min v.len 512 → t ≡ first_from (λ (i : ℕ). not (single p v.at i)) k (m - k) → t ≡ reach p f k
  unfolding reach
  reach_held k {m} {t} q e =
      let z = r.len in
      let s = r.short in
      let y : m - k ≡ length f - k = omega arith in
      e ∙ (λ i. first_from (λ (t : ℕ). not (single_held t i)) k (y i))
