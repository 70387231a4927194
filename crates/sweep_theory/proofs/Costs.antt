-- The sweep with counters tests at most four positions for each context of the plan.
use Prim.Native.Nat.{ℕ, zero, suc, ◌+◌, ◌-◌, ◌*◌, ◌≤◌, ◌<◌, min}
use mathlib.Core.Path.{◌≡◌, refl, sym, ap, ◌∙◌, subst}
use mathlib.Core.List.{List, reverse}
use mathlib.Core.Bool.{Bool, true, false, cond, not, ◌&&◌}
use mathlib.Core.Logic.{◌⊎◌, inl, inr}
use native.Mathlib.Omega.{arith}
use lib.ListN.{length, length-append}
use lib.Dec.{eqb, ltb, leb}
use borrow.Author.Tests.{lt-ltb, not-false}
use Rattle.lists.specs.Ranges.{first_from}
use Rattle.lists.specs.Spans.{zeros}
use Rattle.lists.proofs.Ranges.{lt-or-le, first_found, first-none, none_first}
use Rattle.model.specs.Outcome.{Outcome, accepted, refused}
use Rattle.model.specs.Plan.{Plan, context_count, ring, strictly_between}
use Rattle.model.specs.Sound.{Sound}
use Rattle.model.specs.Sweep.{State, first_state, below, listed, chordless, advance}
use Rattle.model.specs.SweepStates.{Chosen}
use Rattle.model.proofs.Eligible.{replaced-left, replaced-length}
use Rattle.model.proofs.SweepEnds.{seen-short}
use Rattle.sweep_theory.specs.Quick.{single, candidate, open_at, landing, reach, resume}
use Rattle.sweep_theory.specs.Counter.{counted, local_by, pick_by}
use Rattle.sweep_theory.specs.Cost.{test_count_below, after_pair, test_count_from, test_count}
use Rattle.sweep_theory.specs.Ready.{Ready}
use Rattle.sweep_theory.proofs.Trails.{at}
use Rattle.sweep_theory.proofs.CountSweep.{ready_first, picked_chosen, ready_on}
use Rattle.sweep_theory.proofs.FirstTrail.{first-frontier}
use Rattle.sweep_theory.proofs.Eligibility.{listed_some}

-- ---- open positions
-- how many there are below n
unfoldable opens : Plan → List ℕ → ℕ → ℕ
opens p f zero = 0
opens p f (suc n) = cond (open_at p f n) 1 0 + opens p f n

module _ (p : Plan) (f : List ℕ) where
  one_most : (t : Bool) → cond {A = ℕ} t 1 0 ≤ 1
  one_most true = omega arith
  one_most false = omega arith

  opens_most : (a b : ℕ) → opens p f (a + b) ≤ opens p f a + b
  unfolding opens
  opens_most a zero = let e : a + 0 ≡ a = omega arith in subst (λ (k : ℕ). opens p f k ≤ opens p f a + 0) (sym e) (omega arith)
  opens_most a (suc b) =
      let e : suc (a + b) ≡ a + suc b = omega arith in
      let x = opens_most a b in
      let y = one_most (open_at p f (a + b)) in
      subst (λ (k : ℕ). opens p f k ≤ opens p f a + suc b) e (omega arith)

  opens_rise : (a b : ℕ) → opens p f a ≤ opens p f (a + b)
  unfolding opens
  opens_rise a zero = let e : a ≡ a + 0 = omega arith in subst (λ (k : ℕ). opens p f a ≤ opens p f k) e (omega arith)
  opens_rise a (suc b) = let e : suc (a + b) ≡ a + suc b = omega arith in let x = opens_rise a b in subst (λ (k : ℕ). opens p f a ≤ opens p f k) e (omega arith)

  -- between positions that are not open there is none
  opens_closed : (a b : ℕ) → ((t : ℕ) → a ≤ t → t < a + b → open_at p f t ≡ false) → opens p f (a + b) ≡ opens p f a
  unfolding opens
  opens_closed a zero h = let e : a + 0 ≡ a = omega arith in ap (opens p f) e
  opens_closed a (suc b) h =
      let e : a + suc b ≡ suc (a + b) = omega arith in
      let x : ◌≡◌ {A = ℕ} (cond (open_at p f (a + b)) 1 0) 0 = ap (λ (t : Bool). cond {A = ℕ} t 1 0) (h (a + b) (omega arith) (omega arith)) in
      let y = opens_closed a b (λ t c d. h t c (omega arith)) in
      ap (opens p f) e ∙ omega arith

  -- a single one that is not the last is not open
  single_closed : (t : ℕ) → suc t < length f → single p f t ≡ true → open_at p f t ≡ false
  unfolding open_at
  single_closed t h e = let x : ltb (suc t) (length f) ≡ true = lt-ltb (suc t) (length f) h in rw (x, e) (off (leb 2 t))
    where
      off : (v : Bool) → (v && false) ≡ false
      off true = refl
      off false = refl

-- the same positions of two frontiers
opens_same : (p : Plan) (f g : List ℕ) (n : ℕ) → ((t : ℕ) → t < n → open_at p g t ≡ open_at p f t) → opens p g n ≡ opens p f n
unfolding opens
opens_same p f g zero h = refl
opens_same p f g (suc n) h = λ i. cond (h n (omega arith) i) 1 0 + opens_same p f g n (λ t b. h t (omega arith)) i

-- ---- the tests of one step
module _ (p : Plan) (cnt : List ℕ) (s : State) where
  abbrev f : List ℕ
  f = s.frontier

  -- those down to the position that is picked, or all
  Looked : ℕ → ℕ → Outcome (ℕ × ℕ) → Type 0
  Looked n k (accepted d) = (d.1 < n) × (k + opens p f d.1 ≤ opens p f n)
  Looked n k (refused a b) = k ≤ opens p f n

  looked : (n : ℕ) → Looked n (test_count_below cnt p s n) (pick_by cnt p s n)
  unfolding Looked test_count_below pick_by opens
  looked zero = omega arith
  looked (suc n) = go (open_at p f n) refl (local_by cnt p s n) refl (pick_by cnt p s n) (looked n)
    where
      one : open_at p f n ≡ true → ◌≡◌ {A = ℕ} (cond (open_at p f n) 1 0) 1
      one e = ap (λ (t : Bool). cond {A = ℕ} t 1 0) e

      -- what is said past position n, by its two tests
      Next : Bool → Bool → Outcome (ℕ × ℕ) → Type 0
      Next t v o = Looked (suc n) (cond t (suc (cond v 0 (test_count_below cnt p s n))) (test_count_below cnt p s n)) (cond (t && v) (accepted (candidate p f n, n)) o)

      down : (t : Bool) → open_at p f n ≡ t → (v : Bool) → (o : Outcome (ℕ × ℕ)) → Looked n (test_count_below cnt p s n) o → Next t v o
      down false a v (accepted d) h = let x = h.0 in let y = h.1 in omega arith
      down false a v (refused k c) h = omega arith
      down true a true o h = let w = one a in omega arith
      down true a false (accepted d) h = let w = one a in let x = h.0 in let y = h.1 in omega arith
      down true a false (refused k c) h = let w = one a in omega arith

      go : (t : Bool) → open_at p f n ≡ t → (v : Bool) → local_by cnt p s n ≡ v → (o : Outcome (ℕ × ℕ)) → Looked n (test_count_below cnt p s n) o → Next (open_at p f n) (local_by cnt p s n) o
      go t a v b o h = subst (λ (x : Bool). Next x (local_by cnt p s n) o) (sym a) (subst (λ (x : Bool). Next t x o) (sym b) (down t a v o h))

-- ---- the open positions after a step
module _ (p : Plan) (s : State) (i j : ℕ) (c : Chosen p s i j) where
  abbrev fr : List ℕ
  fr = s.frontier

  abbrev l : List ℕ
  l = listed p fr i j

  abbrev g : List ℕ
  g = (advance p s i j).frontier

  two : i + 2 ≤ j
  two = c.positions.apart

  inside : j < length fr
  inside = c.positions.inside

  size : length g ≡ suc i + length l + (length fr - j)
  unfolding advance
  size = replaced-length fr l i j two inside

  same_left : (t : ℕ) → t ≤ i → at g t ≡ at fr t
  unfolding advance
  same_left t b = replaced-left fr l i j two inside t b

  -- left of position i nothing changes
  below_left : (t : ℕ) → t < i → below p g t ≡ below p fr t
  unfolding below
  below_left t b = λ d. reverse (strictly_between (same_left (suc t) (omega arith) d) (same_left (t - 1) (omega arith) d) (ring p (same_left t (omega arith) d)))

  open_left : (t : ℕ) → t < i → open_at p g t ≡ open_at p fr t
  unfolding open_at single
  open_left t b =
      let x : ltb (suc t) (length g) ≡ true = lt-ltb (suc t) (length g) (let n = size in omega arith) in
      let y : ltb (suc t) (length fr) ≡ true = lt-ltb (suc t) (length fr) (let n = inside in let m = two in omega arith) in
      (λ d. leb 2 t && not ((x ∙ sym y) d && eqb (length (below_left t b d)) 1))

  -- from where the context of j lands, up to the limit, at most two are open
  abbrev J : ℕ
  J = landing p s i j

  landing_is : J ≡ suc i + length l
  unfolding landing
  landing_is = refl

  R : ℕ
  R = reach p g J

  reached : (J ≤ R) × (R ≤ length g) × ((t : ℕ) → J ≤ t → t < R → single p g t ≡ true)
  unfolding R reach
  reached = go (lt-or-le (first_from q J (length g - J)) (J + (length g - J)))
    where
      q : ℕ → Bool
      q t = not (single p g t)

      in_g : J ≤ length g
      in_g = let x = size in let y = landing_is in omega arith

      u : ℕ
      u = first_from q J (length g - J)

      go : (u < J + (length g - J)) ⊎ (J + (length g - J) ≤ u) → (J ≤ u) × (u ≤ length g) × ((t : ℕ) → J ≤ t → t < u → single p g t ≡ true)
      go (inl b) = let it = first_found q J (length g - J) b in let x = in_g in (it.reached, omega arith, λ t v w. not-false (single p g t) (it.none_before t v w))
      go (inr b) =
          let none = first-none q J (length g - J) b in
          let it = none_first q J (length g - J) none in
          let x = in_g in
          (omega arith, omega arith, λ t v w. not-false (single p g t) (none t v (omega arith)))

  opens_past : opens p g (min (suc (suc R)) (length g)) ≤ opens p g J + 2
  opens_past = go (lt-or-le R (length g))
    where
      go : (R < length g) ⊎ (length g ≤ R) → opens p g (min (suc (suc R)) (length g)) ≤ opens p g J + 2
      go (inl b) =
          let (low, high, one) = reached in
          let none = opens_closed p g J (R - J) (λ t v w. single_closed p g t (omega arith) (one t v (omega arith))) in
          let x : J + (R - J) ≡ R = omega arith in
          let none' : opens p g R ≡ opens p g J = ap (opens p g) (sym x) ∙ none in
          let m : ℕ = min (suc (suc R)) (length g) in
          let y : R + (m - R) ≡ m = omega arith in
          let most = subst (λ (k : ℕ). opens p g k ≤ opens p g R + (m - R)) y (opens_most p g R (m - R)) in
          omega arith
      go (inr b) =
          let (low, high, one) = reached in
          let n : ℕ = length g - 1 in
          let sz = size in
          let w = inside in
          let la = landing_is in
          let none = opens_closed p g J (n - J) (λ t v w. single_closed p g t (omega arith) (one t v (omega arith))) in
          let x : J + (n - J) ≡ n = omega arith in
          let none' : opens p g n ≡ opens p g J = ap (opens p g) (sym x) ∙ none in
          let y : n + 1 ≡ min (suc (suc R)) (length g) = omega arith in
          let most = subst (λ (k : ℕ). opens p g k ≤ opens p g n + 1) y (opens_most p g n 1) in
          omega arith

  -- A STEP OPENS AT MOST THREE POSITIONS BESIDES THOSE OF ITS LIST
  opens_on : opens p g (min (resume p s i j) (length g)) ≤ opens p fr j + length l + 3
  unfolding resume R
  opens_on =
      let a = opens_past in
      let b = opens_same p fr g i open_left in
      let la = landing_is in
      let x : i + suc (length l) ≡ J = omega arith in
      let d = subst (λ (k : ℕ). opens p g k ≤ opens p g i + suc (length l)) x (opens_most p g i (suc (length l))) in
      let w = two in
      let y : i + (j - i) ≡ j = omega arith in
      let e = subst (λ (k : ℕ). opens p fr i ≤ opens p fr k) y (opens_rise p fr i (j - i)) in
      omega arith

  -- what is seen grows by it
  seen_more : length (advance p s i j).seen ≡ length l + length s.seen
  unfolding advance
  seen_more = length-append l s.seen

-- ---- the tests of all steps
module _ (p : Plan) (rules : Sound p) where
  abbrev Bound : ℕ → Type 0
  Bound fuel = (limit : ℕ) (cnt : List ℕ) (s : State) → Ready p limit cnt s → test_count_from p fuel limit cnt s + 4 * length s.seen ≤ opens p s.frontier (min limit (length s.frontier)) + 4 * context_count p

  bound : (fuel : ℕ) → Bound fuel
  unfolding test_count_from after_pair Looked
  bound zero limit cnt s r = let x = seen-short p rules s r.reached in omega arith
  bound (suc fuel) limit cnt s r = go (bound fuel) (pick_by cnt p s n) refl (looked p cnt s n)
    where
      n : ℕ
      n = min limit (length s.frontier)

      more : ℕ × ℕ → ℕ
      more d = test_count_from p fuel (resume p s d.0 d.1) (counted p (below p s.frontier (d.1 - 1)) cnt) (advance p s d.0 d.1)

      go : Bound fuel → (o : Outcome (ℕ × ℕ)) → pick_by cnt p s n ≡ o → Looked p cnt s n (test_count_below cnt p s n) o → test_count_below cnt p s n + after_pair more o + 4 * length s.seen ≤ opens p s.frontier n + 4 * context_count p
      go rest (refused a b) e h = let x = seen-short p rules s r.reached in omega arith
      go rest (accepted d) e h =
          let c = picked_chosen p rules limit cnt s r d e in
          let x = rest (resume p s d.0 d.1) (counted p (below p s.frontier (d.1 - 1)) cnt) (advance p s d.0 d.1) (ready_on p rules limit cnt s r d e) in
          let y = opens_on p s d.0 d.1 c in
          let z = listed_some p s d.0 d.1 c.positions c.fits in
          let v = seen_more p s d.0 d.1 c in
          let w = h.1 in
          omega arith

  -- AT MOST FOUR TESTS FOR EACH CONTEXT
  pub few_tests : test_count p ≤ 4 * context_count p
  unfolding test_count opens
  few_tests =
      let f = (first_state p).frontier in
      let limit : ℕ = cond (chordless p f) (length f) 0 in
      let n : ℕ = min limit (length f) in
      let x = bound (context_count p) limit (counted p f (zeros (context_count p))) (first_state p) (ready_first p rules) in
      let y = opens_most p f 0 n in
      let z = ap length (first-frontier p) in
      let w : 0 + n ≡ n = omega arith in
      let v = ap (opens p f) w in
      omega arith
