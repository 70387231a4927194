-- Difference constraints with gaps 0 and 1: the numbers that `least_numbers` gives are the least that meet them, and it refuses exactly where none do.
use Prim.Native.Nat.{ℕ, zero, suc, ◌+◌, ◌*◌, ◌≤◌, ◌<◌, max}
use mathlib.Core.Path.{◌≡◌, refl, sym, ap, ◌∙◌, subst}
use mathlib.Core.List.{List, [], ◌∷◌, Memᴰ}
use mathlib.Core.Logic.{◌≢◌, ◌⊎◌, inl, inr}
use mathlib.Core.Bool.{Bool, true, false, cond, false≢true}
use native.Mathlib.Omega.{arith}
use lib.ListN.{length, get_or, replicate, length-set, length-replicate, get_or-eq_default}
use lib.Seq.{ext_get_or, get_or-set_same, get_or-set_other, set_out}
use lib.Dec.{eqb, ltb}
use borrow.Author.Tests.{eqb-true, eqb-false, ltb-true, ltb-false, lt-ltb, le-ltb}
use Rattle.lists.specs.Tests.{same_list}
use Rattle.lists.proofs.Tests.{same-eq, same_refl}
use Rattle.lists.proofs.Counts.{sum_below, sum_below_mono, sum_below_equal, sum_below_bound, count_below, count_below-le, count_below_mono, count_below_strict}
use Rattle.model.specs.Outcome.{Outcome, accepted, refused}
use Rattle.model.specs.Chart.{Constraint, raise, pass, settle, least_numbers}
use Rattle.model.proofs.Outcomes.{not-both, same-value, same-refusal}

-- the number at u; past the end it is 0
abbrev at : List ℕ → ℕ → ℕ
at ks u = get_or ks u 0

-- numbers, given as a function, that meet every constraint on one of the first n
abbrev pub Meets : ℕ → List Constraint → (ℕ → ℕ) → Type 0
Meets n cs d = (c : Constraint) → Memᴰ c cs → c.high < n → d c.low + c.gap ≤ d c.high

-- no number of the list is above the function's
abbrev Under : List ℕ → (ℕ → ℕ) → Type 0
Under ks d = (u : ℕ) → at ks u ≤ d u

-- ---- one constraint
module _ (c : Constraint) (ks : List ℕ) where
  raised : ℕ
  raised = max (at ks c.high) (at ks c.low + c.gap)

  raise-at : (u : ℕ) → u ≡ c.high → u < length ks → at (raise c ks) u ≡ raised
  unfolding raise raised
  raise-at u e h = ap (at (raise c ks)) e ∙ get_or-set_same ks c.high raised 0 (omega arith)

  raise_other : (u : ℕ) → (u ≢ c.high) ⊎ (length ks ≤ c.high) → at (raise c ks) u ≡ at ks u
  unfolding raise raised
  raise_other u (inl n) = get_or-set_other ks c.high u raised 0 n
  raise_other u (inr h) = ap (λ (l : List ℕ). at l u) (set_out ks c.high raised h)

  raise_cases : (u : ℕ) → ((u ≡ c.high) × (u < length ks)) ⊎ ((u ≢ c.high) ⊎ (length ks ≤ c.high))
  raise_cases u = go (eqb u c.high) refl (ltb u (length ks)) refl
    where
      go : (s : Bool) → eqb u c.high ≡ s → (t : Bool) → ltb u (length ks) ≡ t → ((u ≡ c.high) × (u < length ks)) ⊎ ((u ≢ c.high) ⊎ (length ks ≤ c.high))
      go false e t f = inr (inl (eqb-false u c.high e))
      go true e true f = inl (eqb-true u c.high e, ltb-true u (length ks) f)
      go true e false f = inr (inr (let q = eqb-true u c.high e in let h = ltb-false u (length ks) f in omega arith))

  raise_rises : (u : ℕ) → at ks u ≤ at (raise c ks) u
  unfolding raised
  raise_rises u = go (raise_cases u)
    where
      go : ((u ≡ c.high) × (u < length ks)) ⊎ ((u ≢ c.high) ⊎ (length ks ≤ c.high)) → at ks u ≤ at (raise c ks) u
      go (inl h) = let e = raise-at u h.0 h.1 in let f : at ks u ≡ at ks c.high = ap (at ks) h.0 in omega arith
      go (inr h) = let e = raise_other u h in omega arith

  raise-under : (d : ℕ → ℕ) → (c.high < length ks → d c.low + c.gap ≤ d c.high) → Under ks d → Under (raise c ks) d
  unfolding raised
  raise-under d m b u = go (raise_cases u)
    where
      go : ((u ≡ c.high) × (u < length ks)) ⊎ ((u ≢ c.high) ⊎ (length ks ≤ c.high)) → at (raise c ks) u ≤ d u
      go (inl h) = let e = raise-at u h.0 h.1 in let f : d u ≡ d c.high = ap d h.0 in let k = m (let q = h.0 in let l = h.1 in omega arith) in let x = b c.high in let y = b c.low in omega arith
      go (inr h) = let e = raise_other u h in let x = b u in omega arith

  raise-length : length (raise c ks) ≡ length ks
  unfolding raise raised
  raise-length = length-set ks c.high raised

-- ---- a pass over all constraints
pass-length : (cs : List Constraint) (ks : List ℕ) → length (pass cs ks) ≡ length ks
unfolding pass
pass-length [] ks = refl
pass-length (c ∷ cs) ks = pass-length cs (raise c ks) ∙ raise-length c ks

pass_rises : (cs : List Constraint) (ks : List ℕ) (u : ℕ) → at ks u ≤ at (pass cs ks) u
unfolding pass
pass_rises [] ks u = omega arith
pass_rises (c ∷ cs) ks u = let x = raise_rises c ks u in let y = pass_rises cs (raise c ks) u in omega arith

pass-under : (n : ℕ) (cs : List Constraint) (ks : List ℕ) (d : ℕ → ℕ) → length ks ≡ n → Meets n cs d → Under ks d → Under (pass cs ks) d
unfolding pass
pass-under n [] ks d l m b = b
pass-under n (c ∷ cs) ks d l m b =
    pass-under n cs (raise c ks) d (raise-length c ks ∙ l) (λ e i. m e (Memᴰ.tail i)) (raise-under c ks d (λ h. m c (Memᴰ.head refl) (omega arith)) b)

-- where a pass raises nothing, every constraint on a number of the list is met
pass-still : (cs : List Constraint) (ks : List ℕ) → ((u : ℕ) → at (pass cs ks) u ≤ at ks u) → (c : Constraint) → Memᴰ c cs → c.high < length ks → at ks c.low + c.gap ≤ at ks c.high
unfolding pass raised
pass-still [] ks s c x3 h = elim x3 [ ]
pass-still (e ∷ cs) ks s c (Memᴰ.head q) h = rw q (
    let x = raise-at e ks e.high refl (rw q at h) in
    let y = pass_rises cs (raise e ks) e.high in
    let z = s e.high in
    omega arith)
pass-still (e ∷ cs) ks s c (Memᴰ.tail m) h =
    let same : (u : ℕ) → at (raise e ks) u ≡ at ks u = λ u. let x = raise_rises e ks u in let y = pass_rises cs (raise e ks) u in let z = s u in omega arith in
    let r = pass-still cs (raise e ks) (λ u. let x = raise_rises e ks u in let z = s u in omega arith) c m (let l = raise-length e ks in omega arith) in
    let x = same c.low in
    let y = same c.high in
    omega arith

-- ---- passes until nothing rises
module _ (cs : List Constraint) where
  -- what holds at the start and after each pass holds of what has settled, and a pass leaves that as it is
  settle-accepted : (P : List ℕ → Type 0) → ((ks : List ℕ) → P ks → P (pass cs ks)) → (fuel : ℕ) (ks bs : List ℕ) → P ks → settle cs fuel ks ≡ accepted bs → P bs × (pass cs bs ≡ bs)
  unfolding settle
  settle-accepted P s zero ks bs h e = not-both e
  settle-accepted P s (suc fuel) ks bs h e = go (settle-accepted P s fuel (pass cs ks) bs (s ks h)) (same_list (pass cs ks) ks) refl e
    where
      go : (settle cs fuel (pass cs ks) ≡ accepted bs → P bs × (pass cs bs ≡ bs)) → (t : Bool) → same_list (pass cs ks) ks ≡ t
          → cond t (accepted ks) (settle cs fuel (pass cs ks)) ≡ accepted bs → P bs × (pass cs bs ≡ bs)
      go r true q e = let k = same-value e in (subst P k h, subst (λ (l : List ℕ). pass cs l ≡ l) k (same-eq (pass cs ks) ks q))
      go r false q e = r e

  -- each pass that changes something adds to the sum, and numbers that meet the constraints bound it
  settle-refused : (n : ℕ) (d : ℕ → ℕ) → Meets n cs d → (fuel : ℕ) (ks : List ℕ) (k place : ℕ) → length ks ≡ n → Under ks d → settle cs fuel ks ≡ refused k place → sum_below (at ks) n + fuel ≤ sum_below d n
  unfolding settle
  settle-refused n d m zero ks k place l b e = let x = sum_below_mono (at ks) d n b in omega arith
  settle-refused n d m (suc fuel) ks k place l b e =
      go (settle-refused n d m fuel (pass cs ks) k place (pass-length cs ks ∙ l) (pass-under n cs ks d l m b)) (same_list (pass cs ks) ks) refl e
    where
      old : ℕ
      old = sum_below (at ks) n

      new : ℕ
      new = sum_below (at (pass cs ks)) n

      grows : same_list (pass cs ks) ks ≡ false → (t : Bool) → ltb old new ≡ t → old < new
      grows q true e = ltb-true old new e
      grows q false e =
          let same = sum_below_equal (at ks) (at (pass cs ks)) n (pass_rises cs ks) (ltb-false old new e) in
          let eq : ks ≡ pass cs ks = ext_get_or 0 ks (pass cs ks) (sym (pass-length cs ks)) (λ u h. same u (omega arith)) in
          absurd (false≢true (sym q ∙ ap (λ (r : List ℕ). same_list r ks) (sym eq) ∙ same_refl ks))

      go : (settle cs fuel (pass cs ks) ≡ refused k place → new + fuel ≤ sum_below d n) → (t : Bool) → same_list (pass cs ks) ks ≡ t
          → cond t (accepted ks) (settle cs fuel (pass cs ks)) ≡ refused k place → old + suc fuel ≤ sum_below d n
      go r true q e = not-both (sym e)
      go r false q e = let x = grows q (ltb old new) refl in let y = r e in omega arith

  -- the only refusal is 11 at 0
  settle_11 : (fuel : ℕ) (ks : List ℕ) (k place : ℕ) → settle cs fuel ks ≡ refused k place → (k ≡ 11) × (place ≡ 0)
  unfolding settle
  settle_11 zero ks k place e = let (a, b) = same-refusal e in (sym a, sym b)
  settle_11 (suc fuel) ks k place e = go (settle_11 fuel (pass cs ks) k place) (same_list (pass cs ks) ks) e
    where
      go : (settle cs fuel (pass cs ks) ≡ refused k place → (k ≡ 11) × (place ≡ 0)) → (t : Bool) → cond t (accepted ks) (settle cs fuel (pass cs ks)) ≡ refused k place → (k ≡ 11) × (place ≡ 0)
      go r true e = not-both (sym e)
      go r false e = r e

-- ---- ranks: numbers that meet the constraints, none of them large
module _ (d : ℕ → ℕ) (n : ℕ) where
  -- how many of the first n + 1 numbers are smaller
  rank : ℕ → ℕ
  rank u = count_below (λ (w : ℕ). ltb (d w) (d u)) (suc n)

  widen : (u v : ℕ) → d v ≤ d u → (w : ℕ) → ltb (d w) (d v) ≡ true → ltb (d w) (d u) ≡ true
  widen u v h w e = let x = ltb-true (d w) (d v) e in lt-ltb (d w) (d u) (omega arith)

  rank_mono : (u v : ℕ) → d v ≤ d u → rank v ≤ rank u
  unfolding rank
  rank_mono u v h = count_below_mono (λ (w : ℕ). ltb (d w) (d v)) (λ (w : ℕ). ltb (d w) (d u)) (suc n) (widen u v h)

  rank_strict : (u v w : ℕ) → w < suc n → d w ≡ d v → d v < d u → rank v < rank u
  unfolding rank
  rank_strict u v w q e h =
      count_below_strict (λ (k : ℕ). ltb (d k) (d v)) (λ (k : ℕ). ltb (d k) (d u)) (suc n) w (widen u v (omega arith)) q (le-ltb (d w) (d v) (omega arith)) (lt-ltb (d w) (d u) (omega arith))

  rank-le : (u : ℕ) → u < suc n → rank u ≤ n
  unfolding rank
  rank-le u h =
      let x = count_below_strict (λ (w : ℕ). ltb (d w) (d u)) (λ (w : ℕ). true) (suc n) u (λ w e. refl) h (le-ltb (d u) (d u) (omega arith)) refl in
      let y = count_below-le (λ (w : ℕ). true) (suc n) in
      omega arith

-- ---- the theorem
-- numbers for n contexts that meet every constraint
pub record Solves (n : ℕ) (cs : List Constraint) (ks : List ℕ) : Type 0 where
  pub for_all : length ks ≡ n
  pub met : (c : Constraint) → Memᴰ c cs → get_or ks c.low 0 + c.gap ≤ get_or ks c.high 0

zeros-under : (n : ℕ) (d : ℕ → ℕ) → Under (replicate n 0) d
zeros-under zero d u = omega arith
zeros-under (suc n) d zero = omega arith
zeros-under (suc n) d (suc u) = zeros-under n (λ (w : ℕ). d (suc w)) u

-- numbers for n contexts that meet every constraint on one of them
pub record Fits (n : ℕ) (cs : List Constraint) (ks : List ℕ) : Type 0 where
  pub for_all : length ks ≡ n
  pub met : (c : Constraint) → Memᴰ c cs → c.high < n → get_or ks c.low 0 + c.gap ≤ get_or ks c.high 0

pub solves_fits : {n : ℕ} {cs : List Constraint} {ks : List ℕ} → Solves n cs ks → Fits n cs ks
solves_fits s = record { for_all = s.for_all; met = λ c m _. s.met c m }

-- where numbers meet constraints with gaps 0 and 1, so do their ranks, and none of those is above n
pub record Low (n : ℕ) (cs : List Constraint) : Type 0 where
  pub low : ℕ → ℕ
  pub low_meets : Meets n cs low
  pub low_most : (u : ℕ) → low u ≤ n

pub fits_low : (n : ℕ) (cs : List Constraint) → ((c : Constraint) → Memᴰ c cs → c.gap ≤ 1) → (ds : List ℕ) → Fits n cs ds → Low n cs
fits_low n cs small ds s = record { low = ranks; low_meets = ranks_meet; low_most = most }
  where
    ranks : ℕ → ℕ
    ranks = rank (at ds) n

    -- a number past the end is 0, as the one at n is
    past : (u : ℕ) → n ≤ u → at ds u ≡ at ds n
    past u h = let l = s.for_all in get_or-eq_default ds 0 {n = u} (omega arith) ∙ sym (get_or-eq_default ds 0 {n = n} (omega arith))

    inside : (u : ℕ) → (w : ℕ) × (w < suc n) × (at ds w ≡ at ds u)
    inside u = go (ltb u n) refl
      where
        go : (t : Bool) → ltb u n ≡ t → (w : ℕ) × (w < suc n) × (at ds w ≡ at ds u)
        go true q = (u, (let h = ltb-true u n q in omega arith), refl)
        go false q = (n, omega arith, sym (past u (ltb-false u n q)))

    most : (u : ℕ) → ranks u ≤ n
    most u = let (w, h, q) = inside u in let x = rank-le (at ds) n w h in let y = rank_mono (at ds) n w u (omega arith) in omega arith

    ranks_meet : Meets n cs ranks
    ranks_meet c m i = go c.gap refl (small c m)
      where
        go : (g : ℕ) → c.gap ≡ g → g ≤ 1 → ranks c.low + g ≤ ranks c.high
        go zero q h = let x = s.met c m i in let y = rank_mono (at ds) n c.high c.low (omega arith) in omega arith
        go (suc zero) q h = let x = s.met c m i in let (w, b, z) = inside c.low in let y = rank_strict (at ds) n c.high c.low w b z (omega arith) in omega arith
        go (suc (suc g)) q h = absurd (omega arith)

module _ (n : ℕ) (cs : List Constraint) where
  -- the numbers given are at most all numbers that meet the constraints on the first n
  pub least-below : (ks : List ℕ) → least_numbers n cs ≡ accepted ks → (d : ℕ → ℕ) → Meets n cs d → (u : ℕ) → get_or ks u 0 ≤ d u
  unfolding least_numbers
  least-below ks e d m =
      (settle-accepted cs (λ l. (length l ≡ n) × Under l d) (λ l h. (pass-length cs l ∙ h.0, pass-under n cs l d h.0 m h.1))
      (suc (n * n)) (replicate n 0) ks (length-replicate n 0, zeros-under n d) e).0.1

  -- and at most those of every solution
  pub least_under : (ks : List ℕ) → least_numbers n cs ≡ accepted ks → (ds : List ℕ) → Solves n cs ds → (u : ℕ) → get_or ks u 0 ≤ get_or ds u 0
  least_under ks e ds s = least-below ks e (at ds) (λ c m _. s.met c m)

  pub least-length : (ks : List ℕ) → least_numbers n cs ≡ accepted ks → length ks ≡ n
  unfolding least_numbers
  least-length ks e = (settle-accepted cs (λ l. length l ≡ n) (λ l h. pass-length cs l ∙ h) (suc (n * n)) (replicate n 0) ks (length-replicate n 0) e).0

  -- they meet every constraint on one of the first n
  pub least_fits : (ks : List ℕ) → least_numbers n cs ≡ accepted ks → Fits n cs ks
  unfolding least_numbers
  least_fits ks e = record { for_all = least-length ks e; met = λ c m h. pass-still cs ks (λ u. let x : at (pass cs ks) u ≡ at ks u = ap (λ (l : List ℕ). at l u) still in omega arith) c m (let l = least-length ks e in omega arith) }
    where
      still : pass cs ks ≡ ks
      still = (settle-accepted cs (λ _. Unit {0}) (λ _ _. tt) (suc (n * n)) (replicate n 0) ks tt e).1

  -- if there is a solution at all, they are one
  pub least_solves : (ks : List ℕ) → least_numbers n cs ≡ accepted ks → (ds : List ℕ) → Solves n cs ds → Solves n cs ks
  least_solves ks e ds s = record { for_all = least-length ks e; met = λ c m. go c m (ltb c.high n) refl }
    where
      go : (c : Constraint) → Memᴰ c cs → (t : Bool) → ltb c.high n ≡ t → at ks c.low + c.gap ≤ at ks c.high
      go c m true q = (least_fits ks e).met c m (ltb-true c.high n q)
      go c m false q =
          let k = s.for_all in
          let x = s.met c m in
          let y = least_under ks e ds s c.low in
          let z = get_or-eq_default ds 0 {n = c.high} (let h = ltb-false c.high n q in omega arith) in
          omega arith

  pub least_11 : (k place : ℕ) → least_numbers n cs ≡ refused k place → (k ≡ 11) × (place ≡ 0)
  unfolding least_numbers
  least_11 k place e = settle_11 cs (suc (n * n)) (replicate n 0) k place e

  module _ (small : (c : Constraint) → Memᴰ c cs → c.gap ≤ 1) where
    -- where it refuses, no numbers meet the constraints on the first n
    pub least_nowhere : (k place : ℕ) → least_numbers n cs ≡ refused k place → (ds : List ℕ) → Fits n cs ds → ⊥
    unfolding least_numbers
    least_nowhere k place e ds s =
        let r = fits_low n cs small ds s in
        let x = settle-refused cs n r.low r.low_meets (suc (n * n)) (replicate n 0) k place (length-replicate n 0) (zeros-under n r.low) e in
        let y = sum_below_bound r.low n n r.low_most in
        omega arith

    -- so there is no solution
    pub least-none : (k place : ℕ) → least_numbers n cs ≡ refused k place → (ds : List ℕ) → Solves n cs ds → ⊥
    least-none k place e ds s = least_nowhere k place e ds (solves_fits s)

    -- what meets the constraints on the first n and is at most all that does is what is given
    pub least-is : (ks : List ℕ) → Fits n cs ks → ((ds : List ℕ) → Fits n cs ds → (u : ℕ) → get_or ks u 0 ≤ get_or ds u 0) → least_numbers n cs ≡ accepted ks
    least-is ks f least = go (least_numbers n cs) refl
      where
        go : (o : Outcome (List ℕ)) → least_numbers n cs ≡ o → o ≡ accepted ks
        go (refused k place) e = absurd (least_nowhere k place e ks f)
        go (accepted ds) e =
            ap accepted (ext_get_or 0 ds ks (least-length ds e ∙ sym f.for_all) (λ u _. let x = least ds (least_fits ds e) u in let y = least-below ds e (at ks) f.met u in omega arith))

    -- and where nothing does, it refuses
    pub least_refuses : ((ds : List ℕ) → Fits n cs ds → ⊥) → least_numbers n cs ≡ refused 11 0
    least_refuses none = go (least_numbers n cs) refl
      where
        go : (o : Outcome (List ℕ)) → least_numbers n cs ≡ o → o ≡ refused 11 0
        go (accepted ds) e = absurd (none ds (least_fits ds e))
        go (refused k place) e = let (a, b) = least_11 k place e in λ i. refused (a i) (b i)
