-- The strip between a trail and the list of a pair of its positions: seen from each context of the list, the contexts of the trail above it follow each other from its left neighbour on the list to its right one.
use Prim.Native.Nat.{ℕ, zero, suc, ◌+◌, ◌-◌, ◌≤◌, ◌<◌}
use mathlib.Core.Path.{◌≡◌, refl, sym, ap, ◌∙◌, subst}
use mathlib.Core.List.{List, [], ◌∷◌, ◌++◌, map}
use mathlib.Core.Bool.{Bool, true, false, cond}
use native.Mathlib.Omega.{arith}
use lib.ListN.{length, get_or}
use lib.Dec.{eqb}
use borrow.Author.Tests.{eq-eqb, ne_eqb}
use Rattle.lists.specs.Tests.{is_empty}
use Rattle.lists.specs.Ranges.{from}
use Rattle.lists.specs.Parts.{flatten, squeeze, squeeze_after}
use Rattle.lists.proofs.Bools.{both}
use Rattle.model.specs.Plan.{Plan, ring, adjacent, next}
use Rattle.model.specs.Sound.{Sound}
use Rattle.model.specs.Sweep.{below, listed}
use Rattle.sweep_theory.proofs.Faces.{Face, Fan}
use Rattle.sweep_theory.proofs.Around.{Over, one, over_join}
use Rattle.sweep_theory.proofs.Trails.{Trail, at, fan_at}

-- a list of neighbours, with the kind S above each
abbrev pub Laid : Plan → (ℕ → Type 0) → List ℕ → Type 0
Laid p S [] = Unit {0}
Laid p S (a ∷ []) = Unit {0}
Laid p S (a ∷ b ∷ []) = adjacent p a b ≡ true
Laid p S (a ∷ b ∷ c ∷ l) = (adjacent p a b ≡ true) × Over S (ring p b) a c × Laid p S (b ∷ c ∷ l)

-- what is below d positions from k on
abbrev pub raw : Plan → List ℕ → ℕ → ℕ → List ℕ
raw p f k d = flatten (map (below p f) (from k d))

-- the list e, m between a and b: it is laid, and in b's ring z follows its last context
pub record Strip (p : Plan) (S : ℕ → Type 0) (a e : ℕ) (m : List ℕ) (b z : ℕ) : Type 0 where
  pub laid : Laid p S (a ∷ e ∷ m ++ (b ∷ []))
  pub last : next (get_or (e ∷ m) (length m) 0) (ring p b) ≡ z

module _ (p : Plan) (s : Sound p) (S : ℕ → Type 0) (f : List ℕ) (w : Trail p S f) (own : (k : ℕ) → k < length f → S (at f k)) where
  -- the same with positions that are called otherwise
  strip_at : {a e : ℕ} {m : List ℕ} {j k j′ k′ : ℕ} → j ≡ j′ → k ≡ k′ → Strip p S a e m (at f j) (at f k) → Strip p S a e m (at f j′) (at f k′)
  strip_at {a} {e} {m} {j} {k} {j′} {k′} x y h = subst (λ (v : ℕ). Strip p S a e m (at f j′) (at f v)) y (subst (λ (v : ℕ). Strip p S a e m (at f v) (at f k)) x h)

  -- from the context e below position k on, which has a on its left, to the position after the d next ones
  abbrev StripFrom : ℕ → ℕ → ℕ → ℕ → List ℕ → Type 0
  StripFrom d k a e l = Strip p S a e (squeeze_after e (l ++ raw p f (suc k) d)) (at f (suc k + d)) (at f (k + d))

  module _ (k : ℕ) (here : k < length f) where
    -- the rest of what is below position k
    within : (d : ℕ) (l : List ℕ) (a e : ℕ) → adjacent p a e ≡ true → Over S (ring p e) a (at f k) → Fan p (at f k) (e ∷ l ++ (at f (suc k) ∷ []))
        → ((a e : ℕ) → adjacent p a e ≡ true → Over S (ring p e) a (at f k) → Face p (at f k) e (at f (suc k)) → StripFrom d k a e []) → StripFrom d k a e l
    within d [] a e near o fans end = end a e near o fans.0
    within d (c ∷ l) a e near o fans end =
        let t = fans.0 in
        let other : eqb e c ≡ false = ne_eqb e c (s.other e c t.near) in
        let more = within d l e c t.near (one t.at_y) fans.1 end in
        subst (λ (q : Bool). Strip p S a e (cond q (squeeze_after e (l ++ raw p f (suc k) d)) (c ∷ squeeze_after c (l ++ raw p f (suc k) d))) (at f (suc k + d)) (at f (k + d))) (sym other)
        (record { laid = (near, over_join o (own k here) (one t.at_x), more.laid); last = more.last })

  -- position after position
  abbrev Along : ℕ → ℕ → Type 0
  Along d k =
      suc k + d < length f → ((t : ℕ) → k < t → t < suc k + d → is_empty (below p f t) ≡ false)
      → (a e : ℕ) (l : List ℕ) → adjacent p a e ≡ true → Over S (ring p e) a (at f k) → Fan p (at f k) (e ∷ l ++ (at f (suc k) ∷ [])) → StripFrom d k a e l

  along : (d k : ℕ) → Along d k
  along zero k h full a e l near o fans = within k (omega arith) zero l a e near o fans end
    where
      end : (a e : ℕ) → adjacent p a e ≡ true → Over S (ring p e) a (at f k) → Face p (at f k) e (at f (suc k)) → StripFrom zero k a e []
      end a e near o t =
          let x : suc k ≡ suc k + 0 = omega arith in
          let y : k ≡ k + 0 = omega arith in
          strip_at x y (record { laid = (near, over_join o (own k (omega arith)) (one t.at_x), t.near); last = t.at_y })
  along (suc d) k h full a e l near o fans = within k (omega arith) (suc d) l a e near o fans (λ a e near o t. end (along d (suc k)) a e near o t (below p f (suc k)) refl)
    where
      first : Along d (suc k) → (a e : ℕ) → adjacent p a e ≡ true → Over S (ring p e) a (at f k) → Face p (at f k) e (at f (suc k)) → (c : ℕ) (m : List ℕ) → below p f (suc k) ≡ c ∷ m → StripFrom (suc d) k a e []
      first next_one a e near o t c m q =
          let under = subst (λ (x : List ℕ). Fan p (at f (suc k)) (at f k ∷ x ++ (at f (suc (suc k)) ∷ []))) q (fan_at p s S f w k (omega arith)) in
          let same : e ≡ c = sym t.at_u ∙ under.0.at_x in
          let x : suc (suc k) + d ≡ suc k + suc d = omega arith in
          let y : suc k + d ≡ k + suc d = omega arith in
          let fans = subst (λ (v : ℕ). Fan p (at f (suc k)) (v ∷ m ++ (at f (suc (suc k)) ∷ []))) (sym same) under.1 in
          let more = next_one (omega arith) (λ v g b. full v (omega arith) (omega arith)) a e m near (over_join o (own k (omega arith)) (one t.at_x)) fans in
          let tail : List ℕ = m ++ raw p f (suc (suc k)) d in
          let dropped : cond (eqb e c) (squeeze_after e tail) (c ∷ squeeze_after c tail) ≡ squeeze_after e tail = ap (λ (g : Bool). cond g (squeeze_after e tail) (c ∷ squeeze_after c tail)) (eq-eqb e c same) in
          let rest : squeeze_after e tail ≡ squeeze_after e (below p f (suc k) ++ raw p f (suc (suc k)) d) = sym dropped ∙ ap (λ (v : List ℕ). squeeze_after e (v ++ raw p f (suc (suc k)) d)) (sym q) in
          subst (λ (v : List ℕ). Strip p S a e v (at f (suc k + suc d)) (at f (k + suc d))) rest (strip_at x y more)

      end : Along d (suc k) → (a e : ℕ) → adjacent p a e ≡ true → Over S (ring p e) a (at f k) → Face p (at f k) e (at f (suc k)) → (v : List ℕ) → below p f (suc k) ≡ v → StripFrom (suc d) k a e []
      end r a e near o t [] q = both (is_empty (below p f (suc k))) (ap is_empty q) (full (suc k) (omega arith) (omega arith))
      end r a e near o t (c ∷ m) q = first r a e near o t c m q

  -- the list of a pair that has something below each position between
  pub record Listed (i j : ℕ) : Type 0 where
    pub first : ℕ
    pub rest : List ℕ
    pub is : listed p f i j ≡ first ∷ rest
    -- it follows the replaced context in the ring of position i
    pub turn : next (at f (suc i)) (ring p (at f i)) ≡ first
    pub strip : Strip p S (at f i) first rest (at f j) (at f (j - 1))

  -- THE STRIP OF A PAIR
  pub strip_of : (i j : ℕ) → i + 2 ≤ j → j < length f → ((t : ℕ) → i < t → t < j → is_empty (below p f t) ≡ false) → Listed i j
  unfolding listed
  strip_of i j two inside full = go (below p f (suc i)) refl
    where
      d : ℕ
      d = j - suc (suc i)

      go : (v : List ℕ) → below p f (suc i) ≡ v → Listed i j
      go [] q = both (is_empty (below p f (suc i))) (ap is_empty q) (full (suc i) (omega arith) (omega arith))
      go (e ∷ m) q =
          let x : suc (suc i) + d ≡ j = omega arith in
          let y : suc i + d ≡ j - 1 = omega arith in
          let z : j - suc i ≡ suc d = omega arith in
          let under = subst (λ (x : List ℕ). Fan p (at f (suc i)) (at f i ∷ x ++ (at f (suc (suc i)) ∷ []))) q (fan_at p s S f w i (omega arith)) in
          let t = under.0 in
          let more = along d (suc i) (omega arith) (λ v g b. full v (omega arith) (omega arith)) (at f i) e m t.near (one t.at_y) under.1 in
          record {
            first = e;
            rest = squeeze_after e (m ++ raw p f (suc (suc i)) d);
            is = ap (λ (n : ℕ). squeeze (raw p f (suc i) n)) z ∙ ap (λ (v : List ℕ). squeeze (v ++ raw p f (suc (suc i)) d)) q;
            turn = t.at_x;
            strip = strip_at x y more;
          }
