-- An eligible pair can be cut at any position between with two contexts or more below: that position is eligible with j. And position i of an eligible pair has itself not one context below. So for each j there is one candidate for i.
use Prim.Native.Nat.{ℕ, zero, suc, ◌+◌, ◌-◌, ◌≤◌, ◌<◌}
use mathlib.Core.Path.{◌≡◌, refl, sym, ap, ◌∙◌, subst}
use mathlib.Core.List.Memᴰ
use mathlib.Core.List.{List, [], ◌∷◌, ◌++◌, append_assoc, Memᴰ}
use mathlib.Core.Bool.{Bool, true, false}
use mathlib.Core.Logic.{◌⊎◌, inl, inr, ◌≢◌}
use native.Mathlib.Omega.{arith}
use lib.ListN.{length}
use lib.Dec.{eqb}
use borrow.Author.Tests.{eqb-true, eqb-false}
use Rattle.lists.specs.Tests.{is_empty, repeats}
use Rattle.lists.specs.Ranges.{from}
use Rattle.lists.specs.Parts.{squeeze}
use Rattle.lists.proofs.Bools.{both}
use Rattle.lists.proofs.Ranges.{lt-or-le, from-mem}
use Rattle.lists.proofs.Joins.{join_mem}
use Rattle.lists.proofs.Members.{mem-squeeze}
use Rattle.lists.proofs.Once.{Once, once-apart, no_repeat_once}
use Rattle.lists.proofs.Parts.{squeeze-before}
use Rattle.lists.proofs.Tests.{repeats-right}
use Rattle.model.specs.Plan.{Plan, ring, adjacent, next}
use Rattle.model.specs.Sound.{Sound}
use Rattle.model.specs.Sweep.{State, below, listed, chordless, eligible}
use Rattle.model.specs.SweepStates.{Positions}
use Rattle.model.proofs.Eligible.{get_or-mem, below-listed}
use Rattle.sweep_theory.proofs.Faces.{Fan}
use Rattle.sweep_theory.proofs.Trails.{at, fan_at, once-below}
use Rattle.sweep_theory.proofs.Strips.{raw, Listed, strip_of}
use Rattle.sweep_theory.proofs.Eligibility.{some_in, Fits, fits, fits_eligible}
use Rattle.sweep_theory.proofs.Squeezes.{raw_split, apart, chordless_end, last_end}
use Rattle.sweep_theory.proofs.Frontiers.{Above, Flat, new_below}

-- a list of one or more, up to its last entry, and what precedes b in a fan
pub record Ended (p : Plan) (u : ℕ) (l : List ℕ) (b : ℕ) : Type 0 where
  pub most : List ℕ
  pub end : ℕ
  pub is : l ≡ most ++ (end ∷ [])
  pub turn : next b (ring p u) ≡ end
  pub near : adjacent p end b ≡ true

pub fan_end : (p : Plan) (u a : ℕ) (l : List ℕ) (b : ℕ) → Fan p u (a ∷ l ++ (b ∷ [])) → 0 < length l → Ended p u l b
fan_end p u a [] b t h = absurd (omega arith)
fan_end p u a (c ∷ []) b t h = record { most = []; end = c; is = refl; turn = t.1.0.at_u; near = t.1.0.near }
fan_end p u a (c ∷ d ∷ l) b t h = let e = fan_end p u c (d ∷ l) b t.1 (omega arith) in record { most = c ∷ e.most; end = e.end; is = ap {B = List ℕ} (λ k. c ∷ k) e.is; turn = e.turn; near = e.near }

module _ (p : Plan) (sound : Sound p) (s : State) (h : Flat p s) (i j : ℕ) (o : Positions s i j) (e : eligible p s i j ≡ true) where
  abbrev f : List ℕ
  f = s.frontier

  abbrev l : List ℕ
  l = listed p f i j

  own : (k : ℕ) → k < length f → Above s (at f k)
  own k b = inr (h.seen (at f k) (get_or-mem f k b))

  t : Fits p f s.seen i j l
  t = fits p s i j o e

  -- POSITION i HAS NOT ONE CONTEXT BELOW
  pub end_not_single : 0 < i → length (below p f i) ≡ 1 → ⊥
  end_not_single z one = go i refl (below p f i) refl
    where
      go : (k : ℕ) → i ≡ k → (v : List ℕ) → below p f i ≡ v → ⊥
      go zero q v r = absurd (omega arith)
      go (suc k) q [] r = let x = ap length r in absurd (omega arith)
      go (suc k) q (c ∷ d ∷ v) r = let x = ap length r in absurd (omega arith)
      go (suc k) q (c ∷ []) r =
          let a = o.apart in
          let b = o.inside in
          let under = subst (λ (w : List ℕ). Fan p (at f (suc k)) (at f k ∷ w ++ (at f (suc (suc k)) ∷ []))) (sym (ap (below p f) q) ∙ r) (fan_at p sound (Above s) f h.trail k (omega arith)) in
          let g = strip_of p sound (Above s) f h.trail own i j a b t.full in
          let same : g.first ≡ c = sym g.turn ∙ ap (λ (x : ℕ). next (at f (suc x)) (ring p (at f x))) q ∙ under.1.0.at_u in
          let on : Memᴰ c l = subst (Memᴰ c) (sym g.is) (Memᴰ.head (sym same)) in
          both (adjacent p (at f k) c) under.0.near (t.left k c (omega arith) on)

  -- NOR HAS POSITION j
  pub right_end_not_single : suc j < length f → length (below p f j) ≡ 1 → ⊥
  right_end_not_single z one = go (j - 1) (let a = o.apart in omega arith) (below p f j) refl
    where
      last_below : (k : ℕ) → j ≡ suc k → 0 < length (below p f k) → Ended p (at f k) (below p f k) (at f (suc k))
      last_below zero q b = let a = o.apart in absurd (omega arith)
      last_below (suc k) q b = let c = o.inside in fan_end p (at f (suc k)) (at f k) (below p f (suc k)) (at f (suc (suc k))) (fan_at p sound (Above s) f h.trail k (omega arith)) b

      go : (k : ℕ) → j ≡ suc k → (v : List ℕ) → below p f j ≡ v → ⊥
      go k q [] r = let x = ap length r in absurd (omega arith)
      go k q (c ∷ d ∷ v) r = let x = ap length r in absurd (omega arith)
      go k q (c ∷ []) r =
          let a = o.apart in
          let under = subst (λ (w : List ℕ). Fan p (at f (suc k)) (at f k ∷ w ++ (at f (suc (suc k)) ∷ []))) (sym (ap (below p f) q) ∙ r) (fan_at p sound (Above s) f h.trail k (omega arith)) in
          let x = last_below k q (some_in (below p f k) (t.full k (omega arith) (omega arith))) in
          let same : c ≡ x.end = sym under.0.at_x ∙ x.turn in
          let here : Memᴰ c (below p f k) = subst (Memᴰ c) (sym x.is) (Memᴰ.append_right x.most (Memᴰ.head same)) in
          both (adjacent p c (at f (suc (suc k)))) under.1.0.near (t.right (suc (suc k)) c (omega arith) (omega arith) (below-listed p s i j o e k c (omega arith) (omega arith) here))

  module _ (k : ℕ) (low : i < k) (high : k + 2 ≤ j) (many : length (below p f k) ≡ 1 → ⊥) where
    -- the list from k on
    abbrev m : List ℕ
    m = listed p f k j

    -- what is below, before k and after k
    abbrev A : List ℕ
    A = raw p f (suc i) (k - suc i)

    abbrev B : List ℕ
    B = raw p f (suc k) (j - suc k)

    inside : j < length f
    inside = o.inside

    whole : raw p f (suc i) (j - suc i) ≡ A ++ (below p f k ++ B)
    whole =
        let x : j - suc i ≡ (k - suc i) + suc (j - suc k) = omega arith in
        let y : suc i + (k - suc i) ≡ k = omega arith in
        ap (raw p f (suc i)) x ∙ raw_split p f (suc i) (k - suc i) (suc (j - suc k)) ∙ ap (λ (w : ℕ). A ++ raw p f w (suc (j - suc k))) y

    once_l : Once (squeeze (A ++ (below p f k ++ B)))
    unfolding listed
    once_l = subst Once (ap squeeze whole) (no_repeat_once l t.once)

    -- the list ends with the list from k on
    ends : (r : List ℕ) × (l ≡ r ++ m)
    unfolding listed
    ends = let (r, q) = squeeze-before (A ++ below p f k) B in (r, ap squeeze (whole ∙ sym (append_assoc A (below p f k) B)) ∙ q)

    m_l : (c : ℕ) → Memᴰ c m → Memᴰ c l
    m_l c i = let (r, q) = ends in subst (Memᴰ c) (sym q) (Memᴰ.append_right r i)

    m_B : (c : ℕ) → Memᴰ c m → Memᴰ c B
    unfolding listed
    m_B c i = mem-squeeze B c i

    full : (v : ℕ) → k < v → v < j → is_empty (below p f v) ≡ false
    full v a b = t.full v (omega arith) b

    -- the strip from k on
    it : Listed p sound (Above s) f h.trail own k j
    it = strip_of p sound (Above s) f h.trail own k j high inside full

    some : 0 < length m
    some = let z = ap length it.is in omega arith

    -- what is below k: two or more, the last of which begins the list from k on
    two : 2 ≤ length (below p f k)
    two = go (below p f k) refl
      where
        go : (v : List ℕ) → below p f k ≡ v → 2 ≤ length v
        go [] q = both (is_empty (below p f k)) (ap is_empty q) (t.full k low (omega arith))
        go (c ∷ []) q = absurd (many (ap length q))
        go (c ∷ d ∷ v) q = omega arith

    end : Ended p (at f k) (below p f k) (at f (suc k))
    end = go k refl
      where
        go : (x : ℕ) → k ≡ x → Ended p (at f k) (below p f k) (at f (suc k))
        go zero q = absurd (omega arith)
        go (suc x) q =
            let w = two in
            let under : Fan p (at f k) (at f x ∷ below p f k ++ (at f (suc k) ∷ [])) =
            subst (λ (y : ℕ). Fan p (at f y) (at f x ∷ below p f y ++ (at f (suc y) ∷ []))) (sym q) (fan_at p sound (Above s) f h.trail x (let z = inside in omega arith)) in
            fan_end p (at f k) (at f x) (below p f k) (at f (suc k)) under (omega arith)

    once_k : Once (below p f k)
    once_k = go k refl
      where
        go : (x : ℕ) → k ≡ x → Once (below p f k)
        go zero q = absurd (omega arith)
        go (suc x) q = subst (λ (y : ℕ). Once (below p f y)) (sym q) (once-below p sound (Above s) f h.trail x (let z = inside in omega arith))

    abbrev most : List ℕ
    most = end.most

    abbrev z : ℕ
    z = end.end

    first_z : at m 0 ≡ z
    first_z = ap (λ (v : List ℕ). at v 0) it.is ∙ sym it.turn ∙ end.turn

    -- most is not empty, and does not have z
    z_out : Memᴰ z most → ⊥
    z_out i = once-apart most (z ∷ []) (subst Once end.is once_k) z i (Memᴰ.head refl)

    -- nothing of what is below before z comes again after k
    no_more : (c : ℕ) → Memᴰ c (A ++ most) → Memᴰ c B → ⊥
    no_more c i n = go (eqb z c) refl
      where
        shape : A ++ (below p f k ++ B) ≡ (A ++ most) ++ (z ∷ B)
        shape = ap (λ (v : List ℕ). A ++ (v ++ B)) end.is ∙ ap (A ++◌) (append_assoc most (z ∷ []) B) ∙ sym (append_assoc A most (z ∷ B))

        -- z itself: the first context below k stands between
        split : (v : List ℕ) → most ≡ v → z ≡ c → Memᴰ c A ⊎ Memᴰ c most → ⊥
        split v q w (inr x) = z_out (subst (λ (y : ℕ). Memᴰ y most) (sym w) x)
        split [] q w (inl x) = let g = two in let d = ap length (end.is ∙ ap (◌++ (z ∷ [])) q) in absurd (omega arith)
        split (d ∷ v) q w (inl x) =
            let shape' : A ++ (below p f k ++ B) ≡ A ++ (d ∷ v ++ (z ∷ []) ++ B) = ap (λ (y : List ℕ). A ++ (y ++ B)) (end.is ∙ ap (◌++ (z ∷ [])) q) in
            let other : d ≢ c = λ y. z_out (subst (Memᴰ z) (sym q) (Memᴰ.head (w ∙ sym y))) in
            apart A d (v ++ (z ∷ []) ++ B) c (subst (λ (y : List ℕ). Once (squeeze y)) shape' once_l) x other (Memᴰ.append_right (v ++ (z ∷ [])) n)

        go : (b : Bool) → eqb z c ≡ b → ⊥
        go true q = split most refl (eqb-true z c q) (Memᴰ.append_cases A i)
        go false q = apart (A ++ most) z B c (subst (λ (y : List ℕ). Once (squeeze y)) shape once_l) i (eqb-false z c q) n

    -- the list begins with one of these
    head_early : Memᴰ (at l 0) (A ++ most)
    unfolding listed
    head_early = go A refl most refl
      where
        go : (v : List ℕ) → A ≡ v → (y : List ℕ) → most ≡ y → Memᴰ (at l 0) (A ++ most)
        go (c ∷ v) q y w = subst (λ (x : List ℕ). Memᴰ (at l 0) (x ++ most)) (sym q) (Memᴰ.head (ap (λ (x : List ℕ). at (squeeze x) 0) (whole ∙ ap (◌++ (below p f k ++ B)) q)))
        go [] q (d ∷ y) w =
            let shape : raw p f (suc i) (j - suc i) ≡ (d ∷ y) ++ (z ∷ []) ++ B = whole ∙ ap (◌++ (below p f k ++ B)) q ∙ ap (◌++ B) end.is ∙ ap (λ (x : List ℕ). x ++ (z ∷ []) ++ B) w in
            subst (λ (x : List ℕ). Memᴰ (at l 0) (x ++ most)) (sym q) (subst (Memᴰ (at l 0)) (sym w) (Memᴰ.head (ap (λ (x : List ℕ). at (squeeze x) 0) shape)))
        go [] q [] w = let g = two in let d = ap length (end.is ∙ ap (◌++ (z ∷ [])) w) in absurd (omega arith)

    -- a neighbour of position v, of the list, lies below it
    under : (v c : ℕ) → 0 < v → v < j → Memᴰ c l → adjacent p (at f v) c ≡ true → Memᴰ c (below p f v)
    under v c a b i near = let w = inside in new_below p sound s h v c a (omega arith) near (t.inner c i) (t.new c i)

    left : (a c : ℕ) → a < k → Memᴰ c m → adjacent p (at f a) c ≡ false
    left a c b n = go (lt-or-le a i) (lt-or-le i a) (adjacent p (at f a) c) refl
      where
        go : (a < i) ⊎ (i ≤ a) → (i < a) ⊎ (a ≤ i) → (q : Bool) → adjacent p (at f a) c ≡ q → q ≡ false
        go x y false q = refl
        go (inl x) y true q = both (adjacent p (at f a) c) q (t.left a c x (m_l c n))
        go (inr x) (inl y) true q =
            let early : Memᴰ c A = join_mem (below p f) (from (suc i) (k - suc i)) a c (from-mem (suc i) (k - suc i) a (omega arith) (omega arith)) (under a c (omega arith) (omega arith) (m_l c n) q) in
            absurd (no_more c (Memᴰ.append_left most early) (m_B c n))
        go (inr x) (inr y) true q =
            let w : a ≡ i = omega arith in
            both (adjacent p (at f a) c) q (ap (λ (v : ℕ). adjacent p (at f v) c) w ∙ t.first c (m_l c n) (λ v. no_more c (subst (λ (u : ℕ). Memᴰ u (A ++ most)) (sym v) head_early) (m_B c n)))

    first : (c : ℕ) → Memᴰ c m → c ≢ at m 0 → adjacent p (at f k) c ≡ false
    first c n ne = go (adjacent p (at f k) c) refl
      where
        early : Memᴰ c most ⊎ Memᴰ c (z ∷ []) → Memᴰ c most
        early (inl x) = x
        early (inr (Memᴰ.tail m)) = elim m [ ]
        early (inr (Memᴰ.head x)) = absurd (ne (x ∙ sym first_z))

        go : (q : Bool) → adjacent p (at f k) c ≡ q → q ≡ false
        go false q = refl
        go true q = absurd (no_more c (Memᴰ.append_right A (early (Memᴰ.append_cases most (subst (Memᴰ c) end.is (under k c (omega arith) (omega arith) (m_l c n) q))))) (m_B c n))

    -- A PAIR CUT IN TWO
    pub cut_fits : Fits p f s.seen k j m
    cut_fits =
        let (r, q) = ends in
        record {
          full = full;
          once = repeats-right r m (ap repeats (sym q) ∙ t.once);
          inner = λ c n. t.inner c (m_l c n);
          new = λ c n. t.new c (m_l c n);
          among = chordless_end p r m (ap (chordless p) (sym q) ∙ t.among);
          left = left;
          first = first;
          right = λ b c x y n. t.right b c x y (m_l c n);
          last = λ c n ne. t.last c (m_l c n) (λ x. ne (x ∙ ap (λ (v : List ℕ). at v (length v - 1)) q ∙ last_end r m some));
        }

    pub cut_eligible : chordless p f ≡ true → eligible p s k j ≡ true
    cut_eligible clean = fits_eligible p s k j (record { apart = high; inside = inside }) clean cut_fits
