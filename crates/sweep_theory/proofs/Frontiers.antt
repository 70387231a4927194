-- The frontier of every state that the sweep reaches is a trail: above it are North and what was on the frontier, and every neighbour that never was on it lies below.
-- A first frontier with a chord has no eligible pair; later frontiers have no chord.
use Prim.Native.Nat.{ℕ, zero, suc, ◌+◌, ◌-◌, ◌≤◌, ◌<◌}
use mathlib.Core.Path.{◌≡◌, refl, sym, ap, ◌∙◌, subst}
use mathlib.Core.List.Memᴰ
use mathlib.Core.List.{List, ◌++◌, Memᴰ}
use mathlib.Core.Bool.{Bool, true, false}
use mathlib.Core.Logic.{◌⊎◌, inl, inr, ◌≢◌}
use native.Mathlib.Omega.{arith}
use lib.ListN.{length, take, drop}
use Rattle.lists.specs.Tests.{member}
use Rattle.lists.proofs.Bools.{both}
use Rattle.lists.proofs.Ranges.{lt-or-le}
use Rattle.lists.proofs.Tests.{mem-member}
use Rattle.lists.proofs.Members.{mem-take, mem-drop}
use Rattle.model.specs.Plan.{Plan, adjacent, border, north}
use Rattle.model.specs.Sound.{Sound}
use Rattle.model.specs.Sweep.{State, first_state, below, listed, replaced, chordless, eligible, advance}
use Rattle.model.specs.SweepStates.{Positions, NoneEligible, Reached, first, further}
use Rattle.model.proofs.Eligible.{get_or-mem, chordless-apart, replaced-left, replaced-right, replaced-length, below-listed}
use Rattle.sweep_theory.proofs.Around.{over_wide}
use Rattle.sweep_theory.proofs.Trails.{Trail, at, other_below}
use Rattle.sweep_theory.proofs.Steps.{trail_on}
use Rattle.sweep_theory.proofs.FirstTrail.{first-frontier, once_first, first_near, first-trail}
use Rattle.sweep_theory.proofs.Eligibility.{Chord, chord_found, same_position, fits, listed_some, no_chord}

-- what may be above the frontier: North, and what is or was on it
abbrev pub Above : State → ℕ → Type 0
Above s c = (c ≡ north) ⊎ Memᴰ c s.seen

-- The frontier of a state is a trail, and all of it is seen
pub record Flat (p : Plan) (s : State) : Type 0 where
  pub trail : Trail p (Above s) s.frontier
  pub seen : (c : ℕ) → Memᴰ c s.frontier → Memᴰ c s.seen

-- the same trail, with a wider kind above
trail_wide : {p : Plan} {S T : ℕ → Type 0} {f : List ℕ} → ((c : ℕ) → S c → T c) → Trail p S f → Trail p T f
trail_wide h w = record { link = w.link; over = λ k b. over_wide h (w.over k b); inner = w.inner }

module _ (p : Plan) (sound : Sound p) where
  -- ---- every frontier is a trail
  flat_first : Flat p (first_state p)
  flat_first = record { trail = trail_wide (λ c e. inl e) (first-trail p sound); seen = λ c m. subst (Memᴰ c) (first-frontier p) m }

  flat_further : (s : State) (i j : ℕ) → Flat p s → Positions s i j → eligible p s i j ≡ true → Flat p (advance p s i j)
  unfolding advance replaced
  flat_further s i j h o e =
      let t = fits p s i j o e in
      let f = s.frontier in
      record {
        trail = trail_wide wider (trail_on p sound (Above s) f h.trail (λ k b. inr (h.seen (at f k) (get_or-mem f k b))) i j o.apart o.inside t.full t.inner);
        seen = λ c m. go c (Memᴰ.append_cases (take (suc i) f ++ listed p f i j) m);
      }
    where
      wider : (c : ℕ) → Above s c → Above (advance p s i j) c
      wider c (inl q) = inl q
      wider c (inr m) = inr (Memᴰ.append_right (listed p s.frontier i j) m)

      front : (c : ℕ) → Memᴰ c (take (suc i) s.frontier) ⊎ Memᴰ c (listed p s.frontier i j) → Memᴰ c (listed p s.frontier i j ++ s.seen)
      front c (inl m) = Memᴰ.append_right (listed p s.frontier i j) (h.seen c (mem-take (suc i) s.frontier c m))
      front c (inr m) = Memᴰ.append_left s.seen m

      go : (c : ℕ) → Memᴰ c (take (suc i) s.frontier ++ listed p s.frontier i j) ⊎ Memᴰ c (drop j s.frontier) → Memᴰ c (listed p s.frontier i j ++ s.seen)
      go c (inl m) = front c (Memᴰ.append_cases (take (suc i) s.frontier) m)
      go c (inr m) = Memᴰ.append_right (listed p s.frontier i j) (h.seen c (mem-drop j s.frontier c m))

  pub flat : (s : State) → Reached p s → Flat p s
  flat s first = flat_first
  flat s (further t i j r u c) = flat_further t i j (flat t r) c.positions c.fits

  -- A NEIGHBOUR OF A FRONTIER CONTEXT THAT NEVER WAS ON THE FRONTIER LIES BELOW IT
  pub new_below : (s : State) → Flat p s → (k c : ℕ) → 0 < k → suc k < length s.frontier → adjacent p (at s.frontier k) c ≡ true → border c ≡ false → member c s.seen ≡ false → Memᴰ c (below p s.frontier k)
  new_below s h zero c z b near inner new = absurd (omega arith)
  new_below s h (suc k) c z b near inner new =
      let f = s.frontier in
      let unseen : Memᴰ c s.seen → ⊥ = λ m. both (member c s.seen) (mem-member c s.seen m) new in
      let off : (t : ℕ) → t < length f → c ≢ at f t = λ t q e. unseen (subst (λ (x : ℕ). Memᴰ x s.seen) (sym e) (h.seen (at f t) (get_or-mem f t q))) in
      other_below p sound (Above s) f h.trail k b c near (off k (omega arith)) (off (suc (suc k)) b) (kind unseen)
    where
      kind : (Memᴰ c s.seen → ⊥) → Above s c → ⊥
      kind u (inl e) = both (border c) (ap border e) inner
      kind u (inr m) = u m

  -- ---- chords of the first frontier
  module _ (ch : Chord p (first_state p).frontier) (i j : ℕ) (o : Positions (first_state p) i j) (e : eligible p (first_state p) i j ≡ true) where
    abbrev s₀ : State
    s₀ = first_state p

    abbrev f : List ℕ
    f = s₀.frontier

    -- an end of the chord that is replaced has the other below, which is seen
    replaced_end : (a b : ℕ) → i < a → a < j → b < length f → (b ≡ a - 1 → ⊥) → (b ≡ a + 1 → ⊥) → adjacent p (at f a) (at f b) ≡ true → ⊥
    replaced_end zero b h k inside na nb near = absurd (omega arith)
    replaced_end (suc a) b h k inside na nb near =
        let q = o.inside in
        let w = o.apart in
        let on = once_first p sound in
        let m : Memᴰ (at f b) f = get_or-mem f b inside in
        let under = other_below p sound (λ c. c ≡ north) f (first-trail p sound) a (omega arith) (at f b) near
        (λ x. na (let y = same_position f on b a inside (omega arith) x in omega arith)) (λ x. nb (let y = same_position f on b (suc (suc a)) inside (omega arith) x in omega arith))
        (λ x. sound.other north (at f b) (first_near p sound (at f b) m) (sym x)) in
        both (member (at f b) s₀.seen) (mem-member (at f b) s₀.seen (subst (Memᴰ (at f b)) (first-frontier p) m)) ((fits p s₀ i j o e).new (at f b) (below-listed p s₀ i j o e (suc a) (at f b) h k under))

    -- and where both stay, the chord does
    abbrev l : List ℕ
    l = listed p f i j

    stays : (a b a' b' : ℕ) → at (replaced f i j l) a' ≡ at f a → at (replaced f i j l) b' ≡ at f b → a' + 2 ≤ b' → b' < length (replaced f i j l) → adjacent p (at f a) (at f b) ≡ true → ⊥
    stays a b a' b' x y two inside near = both (adjacent p (at f a) (at f b)) near (sym (λ d. adjacent p (x d) (y d)) ∙ chordless-apart p (replaced f i j l) (no_chord p s₀ i j o e) a' b' two inside)

    some : 0 < length l
    some = listed_some p s₀ i j o e

    chord_stuck : ⊥
    chord_stuck = go (lt-or-le i ch.from) (lt-or-le ch.from j) (lt-or-le i ch.to) (lt-or-le ch.to j)
      where
        go : (i < ch.from) ⊎ (ch.from ≤ i) → (ch.from < j) ⊎ (j ≤ ch.from) → (i < ch.to) ⊎ (ch.to ≤ i) → (ch.to < j) ⊎ (j ≤ ch.to) → ⊥
        go (inl x) (inl y) z w = let h = ch.apart in replaced_end ch.from ch.to x y ch.inside (λ e. absurd (omega arith)) (λ e. absurd (omega arith)) ch.near
        go (inr x) y (inl z) (inl w) = let h = ch.apart in let q = ch.inside in replaced_end ch.to ch.from z w (omega arith) (λ e. absurd (omega arith)) (λ e. absurd (omega arith)) (sound.returned (at f ch.from) (at f ch.to) ch.near)
        go (inr x) y (inr z) w =
            let h = ch.apart in let q = o.apart in let r = o.inside in let n = replaced-length f l i j q r in
            stays ch.from ch.to ch.from ch.to (replaced-left f l i j q r ch.from x) (replaced-left f l i j q r ch.to z) h (omega arith) ch.near
        go (inr x) y (inl z) (inr w) =
            let h = ch.apart in let q = o.apart in let r = o.inside in let n = replaced-length f l i j q r in let m = some in let k = ch.inside in
            let d : ℕ = ch.to - j in
            let back : j + d ≡ ch.to = omega arith in
            stays ch.from ch.to ch.from (suc i + length l + d) (replaced-left f l i j q r ch.from x) (replaced-right f l i j q r d ∙ ap (at f) back) (omega arith) (omega arith) ch.near
        go (inl x) (inr y) z w =
            let h = ch.apart in let q = o.apart in let r = o.inside in let n = replaced-length f l i j q r in let k = ch.inside in
            let d : ℕ = ch.from - j in
            let t : ℕ = ch.to - j in
            let back : j + d ≡ ch.from = omega arith in
            let back' : j + t ≡ ch.to = omega arith in
            stays ch.from ch.to (suc i + length l + d) (suc i + length l + t) (replaced-right f l i j q r d ∙ ap (at f) back) (replaced-right f l i j q r t ∙ ap (at f) back') (omega arith) (omega arith) ch.near

  -- A FIRST FRONTIER WITH A CHORD HAS NO ELIGIBLE PAIR
  pub first_chord : chordless p (first_state p).frontier ≡ false → NoneEligible p (first_state p)
  first_chord e i j o = go (eligible p (first_state p) i j) refl
    where
      go : (t : Bool) → eligible p (first_state p) i j ≡ t → t ≡ false
      go false q = refl
      go true q = absurd (chord_stuck (chord_found p (first_state p).frontier e) i j o q)

  -- so the frontier of a state that has an eligible pair has no chord
  pub clean : (s : State) → Reached p s → (i j : ℕ) → Positions s i j → eligible p s i j ≡ true → chordless p s.frontier ≡ true
  unfolding advance
  clean s first i j o e = go (chordless p (first_state p).frontier) refl
    where
      go : (t : Bool) → chordless p (first_state p).frontier ≡ t → t ≡ true
      go true q = refl
      go false q = both (eligible p (first_state p) i j) e (first_chord q i j o)
  clean s (further t a b r u c) i j o e = no_chord p t a b c.positions c.fits
