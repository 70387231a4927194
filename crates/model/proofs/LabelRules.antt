-- The label test passes exactly where the labels are a transversal structure, as source 001's C1 and C2 and 01 have it.
use Prim.Native.Nat.{ℕ, zero, suc, ◌≤◌, ◌<◌, max}
use mathlib.Core.Path.{◌≡◌, refl, sym, ap, ◌∙◌, subst}
use mathlib.Core.List.{List, [], ◌∷◌, ◌++◌, Memᴰ, cons-ne-nil}
use mathlib.Core.Logic.{◌↔◌}
use mathlib.Core.Bool.{Bool, true, false, cond, not, ◌&&◌, ◌||◌}
use native.Mathlib.Omega.{arith}
use lib.ListN.{length, get_or, take, drop, replicate}
use lib.Dec.{eqb, ltb}
use borrow.Author.Tests.{eqb-true, eq-eqb, ltb-true, ltb-false, lt-ltb, le-ltb, not-false}
use Rattle.std.specs.List.{list_any}
use Rattle.lists.specs.Tests.{same_list}
use Rattle.lists.specs.Ranges.{from}
use Rattle.lists.specs.Parts.{squeeze_after, squeeze}
use Rattle.lists.proofs.Bools.{or_no, no_or, and_yes, yes_and, no-not}
use Rattle.lists.proofs.Tests.{list_any_of, of_list_any, none_of, of_none, list_any-map, same-eq, eq-same}
use Rattle.lists.proofs.Ranges.{from-mem, mem-from}
use Rattle.model.specs.Outcome.{passed}
use Rattle.model.specs.Plan.{Plan, context_count, ring, border, adjacent, north, east, south, west}
use Rattle.model.specs.Labels.{up, right, down, left, border_label, label_of, labels_around, turned, due, bad_dart, not_due, four_runs, bad_ring, breaks, label_rules}
use Rattle.model.specs.Transversal.{FourRuns, Transversal}
use Rattle.model.proofs.Outcomes.{rule-passes}
use Rattle.model.proofs.Plans.{adjacent-from, adjacent-mem, mem-adjacent}

-- ---- runs: what is squeezed to nothing repeats a; what is squeezed to b and more repeats a and goes on with b
head_eq : {a b : ℕ} {l m : List ℕ} → (a ∷ l) ≡ (b ∷ m) → a ≡ b
head_eq e = ap (λ (l : List ℕ). get_or l 0 0) e

tail_eq : {a b : ℕ} {l m : List ℕ} → (a ∷ l) ≡ (b ∷ m) → l ≡ m
tail_eq e = ap (drop 1) e

peel_end : (a : ℕ) (l : List ℕ) → squeeze_after a l ≡ [] → (k : ℕ) × (l ≡ replicate k a)
peel_end a [] e = (0, refl)
peel_end a (x ∷ l) e = go (peel_end a l) (eqb a x) refl e
  where
    go : (squeeze_after a l ≡ [] → (k : ℕ) × (l ≡ replicate k a)) → (t : Bool) → eqb a x ≡ t → cond t (squeeze_after a l) (x ∷ squeeze_after x l) ≡ [] → (k : ℕ) × ((x ∷ l) ≡ replicate k a)
    go r true q e = let (k, h) = r e in (suc k, λ i. sym (eqb-true a x q) i ∷ h i)
    go r false q e = absurd (cons-ne-nil _ _ e)

peel : (a b : ℕ) (l m : List ℕ) → squeeze_after a l ≡ b ∷ m → (k : ℕ) × (rest : List ℕ) × (l ≡ replicate k a ++ b ∷ rest) × (squeeze_after b rest ≡ m)
peel a b [] m e = absurd (cons-ne-nil _ _ (sym e))
peel a b (x ∷ l) m e = go (peel a b l m) (eqb a x) refl e
  where
    go : (squeeze_after a l ≡ b ∷ m → (k : ℕ) × (rest : List ℕ) × (l ≡ replicate k a ++ b ∷ rest) × (squeeze_after b rest ≡ m))
        → (t : Bool) → eqb a x ≡ t → cond t (squeeze_after a l) (x ∷ squeeze_after x l) ≡ b ∷ m
        → (k : ℕ) × (rest : List ℕ) × ((x ∷ l) ≡ replicate k a ++ b ∷ rest) × (squeeze_after b rest ≡ m)
    go r true q e = let (k, rest, h, s) = r e in (suc k, rest, (λ i. sym (eqb-true a x q) i ∷ h i), s)
    go r false q e = (0, l, (λ i. head_eq e i ∷ l), rw (head_eq e) at (tail_eq e))

-- four runs, the first to the last
abbrev Runs : ℕ → ℕ → ℕ → ℕ → List ℕ
Runs a b c d = replicate a up ++ (replicate b right ++ (replicate c down ++ replicate d left))

joined : (x : ℕ) (l₀ l₁ l₂ l₃ : List ℕ) (a b c d : ℕ) → x ≡ 0 → l₀ ≡ replicate a 0 ++ 1 ∷ l₁ → l₁ ≡ replicate b 1 ++ 2 ∷ l₂ → l₂ ≡ replicate c 2 ++ 3 ∷ l₃ → l₃ ≡ replicate d 3
    → (x ∷ l₀) ≡ Runs (suc a) (suc b) (suc c) (suc d)
joined x l₀ l₁ l₂ l₃ a b c d e e₀ e₁ e₂ e₃ = rw (e, e₀, e₁, e₂, e₃)

squeezed_runs : (t : List ℕ) → squeeze t ≡ up ∷ right ∷ down ∷ left ∷ [] → (a : ℕ) × (b : ℕ) × (c : ℕ) × (d : ℕ) × (t ≡ Runs (suc a) (suc b) (suc c) (suc d))
squeezed_runs [] e = absurd (cons-ne-nil _ _ (sym e))
squeezed_runs (x ∷ l) e =
    let (a, l₁, e₁, s₁) = peel 0 1 l (2 ∷ 3 ∷ []) (subst (λ (k : ℕ). squeeze_after k l ≡ 1 ∷ 2 ∷ 3 ∷ []) (head_eq e) (tail_eq e)) in
    let (b, l₂, e₂, s₂) = peel 1 2 l₁ (3 ∷ []) s₁ in
    let (c, l₃, e₃, s₃) = peel 2 3 l₂ [] s₂ in
    let (d, e₄) = peel_end 3 l₃ s₃ in
    (a, b, c, d, joined x l l₁ l₂ l₃ a b c d (head_eq e) e₁ e₂ e₃ e₄)

unpeel : (a k : ℕ) (l : List ℕ) → squeeze_after a (replicate k a ++ l) ≡ squeeze_after a l
unpeel a zero l = refl
unpeel a (suc k) l = rw (eq-eqb a a refl) (unpeel a k l)

unpeel_end : (a k : ℕ) → squeeze_after a (replicate k a) ≡ []
unpeel_end a zero = refl
unpeel_end a (suc k) = rw (eq-eqb a a refl) (unpeel_end a k)

runs_squeezed : (a b c d : ℕ) → squeeze (Runs (suc a) (suc b) (suc c) (suc d)) ≡ up ∷ right ∷ down ∷ left ∷ []
runs_squeezed a b c d =
    let at-3 : List ℕ = replicate (suc d) 3 in
    let at-2 : List ℕ = replicate (suc c) 2 ++ at-3 in
    let at_1 : List ℕ = replicate (suc b) 1 ++ at-2 in
    ap (λ (l : List ℕ). 0 ∷ l) (unpeel 0 a at_1
    ∙ ap (λ (l : List ℕ). 1 ∷ l) (unpeel 1 b at-2
    ∙ ap (λ (l : List ℕ). 2 ∷ l) (unpeel 2 c at-3
    ∙ ap (λ (l : List ℕ). 3 ∷ l) (unpeel_end 3 d))))

-- the ring begun at its entry k reads up, right, down, left
reads : List ℕ → ℕ → Bool
reads r k = same_list (squeeze (drop k r ++ take k r)) (up ∷ right ∷ down ∷ left ∷ [])

pub runs-said : (r : List ℕ) → four_runs r ≡ true → FourRuns r
unfolding reads four_runs
runs-said r e =
    let (k, m, q) = list_any_of (reads r) (from 0 (length r)) (list_any-map _ _ (from 0 (length r)) ∙ e) in
    let (a, b, c, d, runs) = squeezed_runs (drop k r ++ take k r) (same-eq _ _ q) in
    record {
      begins = k;
      a = suc a;
      b = suc b;
      c = suc c;
      d = suc d;
      within = (let h = mem-from 0 (length r) k m in omega arith);
      a_some = omega arith;
      b_some = omega arith;
      c_some = omega arith;
      d_some = omega arith;
      runs = runs;
    }

-- a number above 0 is a successor
above : (k : ℕ) → 0 < k → (j : ℕ) × (k ≡ suc j)
above zero h = absurd (omega arith)
above (suc j) h = (j, refl)

pub said-runs : (r : List ℕ) → FourRuns r → four_runs r ≡ true
unfolding reads four_runs
said-runs r w =
    let (a, ea) = above w.a w.a_some in
    let (b, eb) = above w.b w.b_some in
    let (c, ec) = above w.c w.c_some in
    let (d, ed) = above w.d w.d_some in
    let runs : drop w.begins r ++ take w.begins r ≡ Runs (suc a) (suc b) (suc c) (suc d) = w.runs ∙ (λ i. Runs (ea i) (eb i) (ec i) (ed i)) in
    sym (list_any-map _ _ (from 0 (length r)))
    ∙ of_list_any (reads r) (from 0 (length r)) w.begins (from-mem 0 (length r) w.begins (omega arith) (let h = w.within in omega arith))
    (eq-same _ (up ∷ right ∷ down ∷ left ∷ []) (ap squeeze runs ∙ runs_squeezed a b c d))

-- ---- a dart's test, in its two cases
not-border : (u v : ℕ) → 4 ≤ max u v → (border u && border v) ≡ false
not-border u v h = go (ltb u 4) refl (ltb v 4) refl
  where
    go : (s : Bool) → ltb u 4 ≡ s → (t : Bool) → ltb v 4 ≡ t → (s && t) ≡ false
    go true p true q = let a = ltb-true u 4 p in let b = ltb-true v 4 q in absurd (omega arith)
    go true p false q = refl
    go false p t q = refl

module _ (p : Plan) (ls : List ℕ) where
  abbrev BorderDart : ℕ → ℕ → Type 0
  BorderDart u v = u < 4 → v < 4 → label_of p ls u v ≡ border_label

  abbrev InnerDart : ℕ → ℕ → Type 0
  InnerDart u v = 4 ≤ max u v → (label_of p ls u v < 4) × (label_of p ls v u ≡ turned (label_of p ls u v) 2)

  dart-says : (u v : ℕ) → bad_dart p ls u v ≡ false → BorderDart u v × InnerDart u v
  unfolding bad_dart
  dart-says u v f = (
    λ hu hv. eqb-true _ _ (not-false _ (simp (lt-ltb u 4 hu, lt-ltb v 4 hv) at f)),
    λ h. let q = and_yes _ _ (not-false _ (rw (not-border u v h) at f)) in (ltb-true _ _ q.0, eqb-true _ _ q.1),
  )

  says-dart : (u v : ℕ) → BorderDart u v → InnerDart u v → bad_dart p ls u v ≡ false
  unfolding bad_dart
  says-dart u v f g = no-not _ (go (ltb u 4) refl (ltb v 4) refl)
    where
      inner : 4 ≤ max u v → (ltb (label_of p ls u v) 4 && eqb (label_of p ls v u) (turned (label_of p ls u v) 2)) ≡ true
      inner h = let q = g h in yes_and _ _ (lt-ltb _ _ q.0) (eq-eqb _ _ q.1)

      go : (s : Bool) → ltb u 4 ≡ s → (t : Bool) → ltb v 4 ≡ t → cond (s && t) (eqb (label_of p ls u v) border_label) (ltb (label_of p ls u v) 4 && eqb (label_of p ls v u) (turned (label_of p ls u v) 2)) ≡ true
      go true a true b = eq-eqb _ _ (f (ltb-true u 4 a) (ltb-true v 4 b))
      go true a false b = inner (let h = ltb-false v 4 b in omega arith)
      go false a t b = inner (let h = ltb-false u 4 a in omega arith)

  -- ---- what the rules ask of one context
  pub record Keeps (u : ℕ) : Type 0 where
    pub border_dart : (v : ℕ) → adjacent p u v ≡ true → BorderDart u v
    pub inner_dart : (v : ℕ) → adjacent p u v ≡ true → InnerDart u v
    pub border_ring : u < 4 → (v : ℕ) → adjacent p u v ≡ true → 4 ≤ v → label_of p ls u v ≡ due u
    pub inner_ring : 4 ≤ u → FourRuns (labels_around p ls u)

  keeps : (u : ℕ) → breaks p ls u ≡ false → Keeps u
  unfolding breaks bad_ring not_due
  keeps u e =
      let (d, r) = or_no (list_any (bad_dart p ls u) (ring p u)) (bad_ring p ls u) e in
      let dart : (v : ℕ) → adjacent p u v ≡ true → bad_dart p ls u v ≡ false = λ v m. none_of (bad_dart p ls u) (ring p u) d v (adjacent-mem p u v m) in
      record {
        border_dart = λ v m. (dart-says u v (dart v m)).0;
        inner_dart = λ v m. (dart-says u v (dart v m)).1;
        border_ring = λ hu v m hv.
            let o = none_of (not_due p ls u) (ring p u) (rw (lt-ltb u 4 hu) at r) v (adjacent-mem p u v m) in
            eqb-true _ _ (not-false _ (rw (le-ltb v 4 hv) at o));
        inner_ring = λ hu. runs-said _ (not-false _ (rw (le-ltb u 4 hu) at r));
      }

  kept : (u : ℕ) → Keeps u → breaks p ls u ≡ false
  unfolding breaks bad_ring not_due
  kept u h =
      no_or (list_any (bad_dart p ls u) (ring p u)) (bad_ring p ls u)
      (of_none (bad_dart p ls u) (ring p u) (λ v m. says-dart u v (h.border_dart v (mem-adjacent p u v m)) (h.inner_dart v (mem-adjacent p u v m))))
      (go (ltb u 4) refl)
    where
      due-at : u < 4 → (v : ℕ) → Memᴰ v (ring p u) → (t : Bool) → ltb v 4 ≡ t → not (t || eqb (label_of p ls u v) (due u)) ≡ false
      due-at hu v m true e = refl
      due-at hu v m false e = no-not _ (eq-eqb _ _ (h.border_ring hu v (mem-adjacent p u v m) (ltb-false v 4 e)))

      go : (t : Bool) → ltb u 4 ≡ t → cond t (list_any (not_due p ls u) (ring p u)) (not (four_runs (labels_around p ls u))) ≡ false
      go true e = of_none (not_due p ls u) (ring p u) (λ v m. due-at (ltb-true u 4 e) v m (ltb v 4) refl)
      go false e = no-not _ (said-runs _ (h.inner_ring (ltb-false u 4 e)))

  each_keeps : Transversal p ls → (u : ℕ) → u < context_count p → Keeps u
  unfolding due
  each_keeps t u h = record {
    border_dart = λ v m hu hv. t.border_darts u v hu hv m;
    inner_dart = λ v m k. (t.inner_darts u v h m k, t.reverses u v h m k);
    border_ring = λ hu v m hv. at-border u hu v m hv;
    inner_ring = λ hu. t.inner_rings u h hu;
  }
    where
      at-border : (u : ℕ) → u < 4 → (v : ℕ) → adjacent p u v ≡ true → 4 ≤ v → label_of p ls u v ≡ due u
      at-border zero hu v m hv = t.border_rings.from_north v m hv
      at-border (suc zero) hu v m hv = t.border_rings.from_east v m hv
      at-border (suc (suc zero)) hu v m hv = t.border_rings.from_south v m hv
      at-border (suc (suc (suc zero))) hu v m hv = t.border_rings.from_west v m hv
      at-border (suc (suc (suc (suc u)))) hu v m hv = absurd (omega arith)

  keeps-all : ((u : ℕ) → u < context_count p → Keeps u) → Transversal p ls
  unfolding due
  keeps-all k = record {
    border_darts = λ u v hu hv m. (k u (adjacent-from p u v m)).border_dart v m hu hv;
    inner_darts = λ u v h m i. ((k u h).inner_dart v m i).0;
    reverses = λ u v h m i. ((k u h).inner_dart v m i).1;
    inner_rings = λ u h i. (k u h).inner_ring i;
    border_rings = record {
      from_north = λ v m hv. (k north (adjacent-from p north v m)).border_ring (omega arith) v m hv;
      from_east = λ v m hv. (k east (adjacent-from p east v m)).border_ring (omega arith) v m hv;
      from_south = λ v m hv. (k south (adjacent-from p south v m)).border_ring (omega arith) v m hv;
      from_west = λ v m hv. (k west (adjacent-from p west v m)).border_ring (omega arith) v m hv;
    };
  }

  -- Labels pass the test exactly when they are a transversal structure
  pub labels_exactly : (label_rules p ls ≡ passed) ↔ Transversal p ls
  unfolding label_rules
  labels_exactly = (
    λ e. keeps-all (λ u h. keeps u ((rule-passes 10 (context_count p) (breaks p ls)).0 e u h)),
    λ t. (rule-passes 10 (context_count p) (breaks p ls)).1 (λ u h. kept u (each_keeps t u h)),
  )
