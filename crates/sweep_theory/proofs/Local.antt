-- A position is eligible with its candidate exactly where the local test says so: by what is below the position before it, and by counts.
use Prim.Native.Nat.{ℕ, zero, suc, ◌+◌, ◌-◌, ◌≤◌, ◌<◌}
use mathlib.Core.Path.{◌≡◌, refl, sym, ap, ◌∙◌, subst}
use mathlib.Core.List.{List, [], ◌∷◌, ◌++◌, Memᴰ}
use mathlib.Core.Bool.{Bool, true, false, cond, not, ◌&&◌}
use mathlib.Core.Logic.{◌⊎◌, inl, inr, ◌≢◌}
use native.Mathlib.Omega.{arith}
use lib.ListN.{length, length-append}
use lib.Seq.{get_or-append_seam}
use lib.Dec.{eqb}
use borrow.Author.Tests.{eqb-true, eqb-false, eq-eqb, ne_eqb, not-true}
use Rattle.std.specs.List.{list_all}
use Rattle.lists.specs.Tests.{is_empty, member, repeats}
use Rattle.lists.proofs.Bools.{both, and_yes, yes_and, yes-not, no_or}
use Rattle.lists.proofs.Ranges.{lt-or-le}
use Rattle.lists.proofs.Tests.{list_all_of, of_list_all, member-mem}
use Rattle.lists.proofs.Once.{Once}
use Rattle.model.specs.Plan.{Plan, adjacent, border}
use Rattle.model.specs.Sound.{Sound}
use Rattle.model.specs.Sweep.{State, below, listed, chordless, eligible}
use Rattle.model.specs.SweepStates.{Positions}
use Rattle.model.proofs.Eligible.{get_or-mem}
use Rattle.sweep_theory.specs.Quick.{candidate}
use Rattle.sweep_theory.specs.Local.{touching, low_due, high_due, positions_due, fair, good, local}
use Rattle.sweep_theory.proofs.Faces.{Fan}
use Rattle.sweep_theory.proofs.Trails.{at, below_near, fan_at, once-below}
use Rattle.sweep_theory.proofs.Eligibility.{some_in, not_empty, Fits, fits, fits_eligible}
use Rattle.sweep_theory.proofs.Frontiers.{Above, Flat, new_below}
use Rattle.sweep_theory.proofs.Cuts.{Ended, fan_end}
use Rattle.sweep_theory.proofs.Candidates.{candidate-below, candidate_past}
use Rattle.sweep_theory.proofs.Runs.{same_run, run_listed}
use Rattle.sweep_theory.proofs.Touches.{none_count, count_none}

once_no_repeat : (l : List ℕ) → Once l → repeats l ≡ false
once_no_repeat [] o = refl
once_no_repeat (a ∷ l) o = no_or (member a l) (repeats l) (go (member a l) refl) (once_no_repeat l o.1)
  where
    go : (t : Bool) → member a l ≡ t → t ≡ false
    go false e = refl
    go true e = absurd (o.0 (member-mem a l e))

last_at : (m : List ℕ) (c : ℕ) → at (m ++ (c ∷ [])) (length (m ++ (c ∷ [])) - 1) ≡ c
last_at m c = let e = length-append m (c ∷ []) in let x : length (m ++ (c ∷ [])) - 1 ≡ length m = omega arith in ap (at (m ++ (c ∷ []))) x ∙ get_or-append_seam m c [] 0

module _ (p : Plan) (sound : Sound p) (s : State) (h : Flat p s) (clean : chordless p s.frontier ≡ true) (j : ℕ) (two : 2 ≤ j) (inside : j < length s.frontier) where
  abbrev f : List ℕ
  f = s.frontier

  abbrev i : ℕ
  i = candidate p f j

  -- what is below the position before j
  abbrev l : List ℕ
  l = below p f (j - 1)

  low : i + 2 ≤ j
  low = candidate-below p f j two

  positions : Positions s i j
  positions = record { apart = low; inside = inside }

  one : (t : ℕ) → i < t → t < j - 1 → length (below p f t) ≡ 1
  one t a b = candidate_past p f j t a (omega arith)

  swap : (a b : ℕ) → adjacent p a b ≡ false → adjacent p b a ≡ false
  swap a b e = go (adjacent p b a) refl
    where
      go : (t : Bool) → adjacent p b a ≡ t → t ≡ false
      go false q = refl
      go true q = both (adjacent p a b) (sound.returned b a q) e

  module _ (some : 0 < length l) where
    -- the list is what is below the position before j
    list_is : listed p f i j ≡ l
    list_is = run_listed p sound (Above s) f h.trail i j low inside one some

    once_l : Once l
    once_l = go (j - 1) refl
      where
        go : (k : ℕ) → j - 1 ≡ k → Once l
        go zero q = let x = low in absurd (omega arith)
        go (suc k) q = subst (λ (t : ℕ). Once (below p f t)) (sym q) (once-below p sound (Above s) f h.trail k (omega arith))

    -- its last context touches j
    end : Ended p (at f (j - 1)) l (at f j)
    end = go (j - 1) refl
      where
        go : (k : ℕ) → j - 1 ≡ k → Ended p (at f (j - 1)) l (at f j)
        go zero q = let x = low in absurd (omega arith)
        go (suc k) q =
            let x : j ≡ suc (suc k) = omega arith in
            subst (λ (t : ℕ). Ended p (at f (j - 1)) l (at f t)) (sym x) (subst (λ (t : ℕ). Ended p (at f t) (below p f t) (at f (suc (suc k)))) (sym q)
            (fan_end p (at f (suc k)) (at f k) (below p f (suc k)) (at f (suc (suc k))) (fan_at p sound (Above s) f h.trail k (omega arith)) (subst (λ (t : ℕ). 0 < length (below p f t)) q some)))

    last_is : at l (length l - 1) ≡ end.end
    last_is = ap (λ (v : List ℕ). at v (length v - 1)) end.is ∙ last_at end.most end.end

    -- each position between has something below
    something : (t : ℕ) → i < t → t < j → 0 < length (below p f t)
    something t a b = go (lt-or-le t (j - 1))
      where
        go : (t < j - 1) ⊎ (j - 1 ≤ t) → 0 < length (below p f t)
        go (inl x) = let y = one t a x in omega arith
        go (inr x) = let y : j - 1 ≡ t = omega arith in subst (λ (k : ℕ). 0 < length (below p f k)) y some

    -- and the first of it is the first of the list
    first_same : (d t : ℕ) → t + d ≡ j - 1 → i < t → at (below p f t) 0 ≡ at l 0
    first_same zero t e a = let x : t ≡ j - 1 = omega arith in ap (λ (k : ℕ). at (below p f k) 0) x
    first_same (suc d) zero e a = absurd (omega arith)
    first_same (suc d) (suc k) e a = go (below p f (suc k)) refl (below p f (suc (suc k))) refl ∙ first_same d (suc (suc k)) (omega arith) (omega arith)
      where
        go : (u : List ℕ) → below p f (suc k) ≡ u → (v : List ℕ) → below p f (suc (suc k)) ≡ v → at (below p f (suc k)) 0 ≡ at (below p f (suc (suc k))) 0
        go [] q v r = let x = one (suc k) a (omega arith) in let y = ap length q in absurd (omega arith)
        go (c ∷ b ∷ u) q v r = let x = one (suc k) a (omega arith) in let y = ap length q in absurd (omega arith)
        go (c ∷ []) q [] r = let x = something (suc (suc k)) (omega arith) (omega arith) in let y = ap length r in absurd (omega arith)
        go (c ∷ []) q (b ∷ v) r = ap (λ (w : List ℕ). at w 0) q ∙ same_run p sound (Above s) f h.trail k c b v (omega arith) q r ∙ ap (λ (w : List ℕ). at w 0) (sym r)

    first_of : (t : ℕ) → i < t → t < j → at (below p f t) 0 ≡ at l 0
    first_of t a b = first_same (j - 1 - t) t (omega arith) a

    -- where a context of the list touches for sure
    first_touch : (t : ℕ) → i ≤ t → t < j → adjacent p (at f t) (at l 0) ≡ true
    first_touch t a b = go (lt-or-le i t)
      where
        go : (i < t) ⊎ (t ≤ i) → adjacent p (at f t) (at l 0) ≡ true
        go (inl x) = ap (adjacent p (at f t)) (sym (first_of t x b)) ∙ below_near p f t (at (below p f t) 0) (get_or-mem (below p f t) 0 (something t x b))
        go (inr x) =
            let y = low in
            let z : t ≡ i = omega arith in
            ap (λ (k : ℕ). adjacent p (at f k) (at l 0)) z ∙ ap (adjacent p (at f i)) (sym (first_of (suc i) (omega arith) (omega arith))) ∙ under (below p f (suc i)) refl
          where
            under : (v : List ℕ) → below p f (suc i) ≡ v → adjacent p (at f i) (at (below p f (suc i)) 0) ≡ true
            under [] q = let y = low in let x = something (suc i) (omega arith) (omega arith) in let w = ap length q in absurd (omega arith)
            under (c ∷ v) q =
                let y = low in
                let fans = subst (λ (w : List ℕ). Fan p (at f (suc i)) (at f i ∷ w ++ (at f (suc (suc i)) ∷ []))) q (fan_at p sound (Above s) f h.trail i (omega arith)) in
                ap (λ (w : List ℕ). adjacent p (at f i) (at w 0)) q ∙ fans.0.near

    module _ (c : ℕ) (on : Memᴰ c l) where
      here : adjacent p (at f (j - 1)) c ≡ true
      here = below_near p f (j - 1) c on

      -- the range by which c is judged
      lo : ℕ
      lo = low_due i j l c

      hi : ℕ
      hi = high_due j l c

      low_first : c ≡ at l 0 → lo ≡ i
      unfolding lo low_due
      low_first e = ap (λ (t : Bool). cond t i (j - 1)) (eq-eqb c (at l 0) e)

      low_other : c ≢ at l 0 → lo ≡ j - 1
      unfolding lo low_due
      low_other n = ap (λ (t : Bool). cond t i (j - 1)) (ne_eqb c (at l 0) n)

      high_last : c ≡ at l (length l - 1) → hi ≡ j
      unfolding hi high_due
      high_last e = ap (λ (t : Bool). cond t j (j - 1)) (eq-eqb c (at l (length l - 1)) e)

      high_other : c ≢ at l (length l - 1) → hi ≡ j - 1
      unfolding hi high_due
      high_other n = ap (λ (t : Bool). cond t j (j - 1)) (ne_eqb c (at l (length l - 1)) n)

      abbrev Lows : Type 0
      Lows = ((c ≡ at l 0) × (lo ≡ i)) ⊎ ((c ≢ at l 0) × (lo ≡ j - 1))

      abbrev Highs : Type 0
      Highs = ((c ≡ at l (length l - 1)) × (hi ≡ j)) ⊎ ((c ≢ at l (length l - 1)) × (hi ≡ j - 1))

      lows : Lows
      lows = go (eqb c (at l 0)) refl
        where
          go : (t : Bool) → eqb c (at l 0) ≡ t → Lows
          go true q = let e = eqb-true c (at l 0) q in inl (e, low_first e)
          go false q = let n = eqb-false c (at l 0) q in inr (n, low_other n)

      highs : Highs
      highs = go (eqb c (at l (length l - 1))) refl
        where
          go : (t : Bool) → eqb c (at l (length l - 1)) ≡ t → Highs
          go true q = let e = eqb-true c (at l (length l - 1)) q in inl (e, high_last e)
          go false q = let n = eqb-false c (at l (length l - 1)) q in inr (n, high_other n)

      order : (lo ≤ j - 1) × (j - 1 ≤ hi) × (hi ≤ j)
      order = go lows highs
        where
          go : Lows → Highs → (lo ≤ j - 1) × (j - 1 ≤ hi) × (hi ≤ j)
          go (inl a) (inl b) = let x = low in let y = a.1 in let z = b.1 in omega arith
          go (inl a) (inr b) = let x = low in let y = a.1 in let z = b.1 in omega arith
          go (inr a) (inl b) = let x = low in let y = a.1 in let z = b.1 in omega arith
          go (inr a) (inr b) = let x = low in let y = a.1 in let z = b.1 in omega arith

      touch : (t : ℕ) → lo ≤ t → t ≤ hi → adjacent p (at f t) c ≡ true
      touch t a b = go (lt-or-le t (j - 1)) (lt-or-le (j - 1) t) lows highs
        where
          go : (t < j - 1) ⊎ (j - 1 ≤ t) → (j - 1 < t) ⊎ (t ≤ j - 1) → Lows → Highs → adjacent p (at f t) c ≡ true
          go (inl x) y (inl u) v = let z = u.1 in ap (adjacent p (at f t)) u.0 ∙ first_touch t (omega arith) (omega arith)
          go (inl x) y (inr u) v = let z = u.1 in absurd (omega arith)
          go (inr x) (inr y) u v = let z : t ≡ j - 1 = omega arith in ap (λ (k : ℕ). adjacent p (at f k) c) z ∙ here
          go (inr x) (inl y) u (inl v) =
              let z = v.1 in
              let w : t ≡ j = omega arith in
              ap (λ (k : ℕ). adjacent p (at f k) c) w ∙ sound.returned c (at f j) (ap (λ (k : ℕ). adjacent p k (at f j)) (v.0 ∙ last_is) ∙ end.near)
          go (inr x) (inl y) u (inr v) = let z = v.1 in absurd (omega arith)

      abbrev Outside : Type 0
      Outside = (t : ℕ) → t < length f → (t < lo) ⊎ (hi < t) → adjacent p (at f t) c ≡ false

      outside_count : Outside → touching p f c ≡ positions_due i j l c
      unfolding touching positions_due lo hi
      outside_count n = let (a, b, d) = order in none_count (λ (u : ℕ). adjacent p u c) f lo hi (omega arith) (omega arith) touch n

      count_outside : touching p f c ≡ positions_due i j l c → Outside
      unfolding touching positions_due lo hi
      count_outside e = let (a, b, d) = order in count_none (λ (u : ℕ). adjacent p u c) f lo hi (omega arith) (omega arith) touch e

      -- a pair that fits: c touches nothing outside
      fits_outside : Fits p f s.seen i j l → Outside
      fits_outside t k q w = go lows highs (lt-or-le k i) (lt-or-le i k) (lt-or-le j k) w (adjacent p (at f k) c) refl
        where
          go : Lows → Highs → (k < i) ⊎ (i ≤ k) → (i < k) ⊎ (k ≤ i) → (j < k) ⊎ (k ≤ j) → (k < lo) ⊎ (hi < k) → (v : Bool) → adjacent p (at f k) c ≡ v → v ≡ false
          go u v x y z w false e = refl
          go u v (inl x) y z w true e = both (adjacent p (at f k) c) e (t.left k c x on)
          go u v (inr x) y (inl z) w true e = both (adjacent p (at f k) c) e (swap c (at f k) (t.right k c z q on))
          go (inl u) v (inr x) y (inr z) (inl w) true e = let a = u.1 in absurd (omega arith)
          go (inr u) v (inr x) (inr y) (inr z) (inl w) true e = let a : k ≡ i = omega arith in both (adjacent p (at f k) c) e (ap (λ (b : ℕ). adjacent p (at f b) c) a ∙ t.first c on u.0)
          go (inr u) v (inr x) (inl y) (inr z) (inl w) true e =
              let a = u.1 in
              let under = new_below p sound s h k c (omega arith) (omega arith) e (t.inner c on) (t.new c on) in
              absurd (u.0 (single_is (below p f k) under (one k y (omega arith)) ∙ first_of k y (omega arith)))
            where
              single_is : (v : List ℕ) → Memᴰ c v → length v ≡ 1 → c ≡ at v 0
              single_is [] m n = elim m [ ]
              single_is (a ∷ []) (Memᴰ.tail r) n = elim r [ ]
              single_is (a ∷ v) (Memᴰ.head r) n = r
              single_is (a ∷ b ∷ v) (Memᴰ.tail r) n = absurd (omega arith)
          go u (inl v) (inr x) y (inr z) (inr w) true e = let a = v.1 in absurd (omega arith)
          go u (inr v) (inr x) y (inr z) (inr w) true e = let a = v.1 in let b : k ≡ j = omega arith in both (adjacent p (at f k) c) e (ap (λ (d : ℕ). adjacent p (at f d) c) b ∙ swap c (at f j) (t.last c on v.0))

    -- ---- the test and the parts of eligibility
    fits_good : Fits p f s.seen i j l → good p s i j l ≡ true
    unfolding good fair
    fits_good t =
        yes_and (not (is_empty l)) (list_all (fair p s i j l) l && chordless p l) (yes-not (is_empty l) (not_empty l some))
        (yes_and (list_all (fair p s i j l) l) (chordless p l)
        (of_list_all (fair p s i j l) l
        (λ c on.
        yes_and (not (border c)) (not (member c s.seen) && eqb (touching p f c) (positions_due i j l c)) (yes-not (border c) (t.inner c on))
        (yes_and (not (member c s.seen)) (eqb (touching p f c) (positions_due i j l c)) (yes-not (member c s.seen) (t.new c on)) (eq-eqb (touching p f c) (positions_due i j l c) (outside_count c on (fits_outside c on t))))))
        t.among)

    -- what the test says of each context
    record Fair (c : ℕ) : Type 0 where
      inner : border c ≡ false
      new : member c s.seen ≡ false
      count : touching p f c ≡ positions_due i j l c

    good_fair : good p s i j l ≡ true → (c : ℕ) → Memᴰ c l → Fair c
    unfolding good fair
    good_fair g c on =
        let (a, b) = and_yes (not (is_empty l)) (list_all (fair p s i j l) l && chordless p l) g in
        let (d, e) = and_yes (list_all (fair p s i j l) l) (chordless p l) b in
        let (x, y) = and_yes (not (border c)) (not (member c s.seen) && eqb (touching p f c) (positions_due i j l c)) (list_all_of (fair p s i j l) l d c on) in
        let (z, w) = and_yes (not (member c s.seen)) (eqb (touching p f c) (positions_due i j l c)) y in
        record { inner = not-true (border c) x; new = not-true (member c s.seen) z; count = eqb-true (touching p f c) (positions_due i j l c) w }

    good_among : good p s i j l ≡ true → chordless p l ≡ true
    unfolding good
    good_among g = (and_yes (list_all (fair p s i j l) l) (chordless p l) (and_yes (not (is_empty l)) (list_all (fair p s i j l) l && chordless p l) g).1).1

    good_fits : good p s i j l ≡ true → Fits p f s.seen i j l
    good_fits g =
        let out : (c : ℕ) (on : Memᴰ c l) → (t : ℕ) → t < length f → (t < lo c on) ⊎ (hi c on < t) → adjacent p (at f t) c ≡ false = λ c on. count_outside c on (good_fair g c on).count in
        record {
          full = λ t a b. not_empty (below p f t) (something t a b);
          once = once_no_repeat l once_l;
          inner = λ c on. (good_fair g c on).inner;
          new = λ c on. (good_fair g c on).new;
          among = good_among g;
          left = λ a c b on. out c on a (let x = low in let y = inside in omega arith) (inl (less c on (lows c on) a b));
          first = λ c on n. out c on i (let x = low in let y = inside in omega arith) (inl (let x = low in let y = low_other c on n in omega arith));
          right = λ b c a d on. swap (at f b) c (out c on b d (inr (let x = order c on in let (y, z, w) = x in omega arith)));
          last = λ c on n. swap (at f j) c (out c on j inside (inr (let x = low in let y = high_other c on n in omega arith)));
        }
      where
        less : (c : ℕ) (on : Memᴰ c l) → Lows c on → (a : ℕ) → a < i → a < lo c on
        less c on (inl u) a b = let x = u.1 in omega arith
        less c on (inr u) a b = let x = u.1 in let y = low in omega arith

  -- what passes the test has something below the position before j
  local_some : local p s j ≡ true → 0 < length l
  unfolding local good
  local_some g = some_in l (not-true (is_empty l) (and_yes (not (is_empty l)) (list_all (fair p s i j l) l && chordless p l) g).0)

  -- THE LIST OF A POSITION THAT PASSES IS WHAT IS BELOW THE POSITION BEFORE IT
  pub local-listed : local p s j ≡ true → listed p f i j ≡ below p f (j - 1)
  local-listed g = list_is (local_some g)

  -- ELIGIBLE WITH THE CANDIDATE, BY THE LOCAL TEST
  eligible-local : eligible p s i j ≡ true → local p s j ≡ true
  unfolding local
  eligible-local e =
      let t = fits p s i j positions e in
      let some = some_in l (t.full (j - 1) (let x = low in omega arith) (let x = low in omega arith)) in
      fits_good some (subst (λ (v : List ℕ). Fits p f s.seen i j v) (list_is some) t)

  local-eligible : local p s j ≡ true → eligible p s i j ≡ true
  unfolding local
  local-eligible g = let some = local_some g in fits_eligible p s i j positions clean (subst (λ (v : List ℕ). Fits p f s.seen i j v) (sym (list_is some)) (good_fits some g))

  pub local_is : local p s j ≡ eligible p s i j
  local_is = go (local p s j) refl (eligible p s i j) refl
    where
      go : (t : Bool) → local p s j ≡ t → (v : Bool) → eligible p s i j ≡ v → t ≡ v
      go true a true b = refl
      go false a false b = refl
      go true a false b = both (eligible p s i j) (local-eligible a) b
      go false a true b = both (local p s j) (eligible-local b) a
