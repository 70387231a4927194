-- The darts of a plan that keeps the rules, and the face step on them.
use Prim.Native.Nat.{ℕ, zero, suc, ◌+◌, ◌%◌, ◌<◌}
use mathlib.Core.Path.{◌≡◌, refl, sym, ap, ◌∙◌, subst}
use mathlib.Core.List.{List, [], ◌∷◌, ◌++◌, map, Memᴰ}
use mathlib.Core.Bool.{Bool, true, false}
use native.Mathlib.Omega.{arith}
use lib.Dec.{eqb}
use borrow.Author.Tests.{eqb-true, eq-eqb}
use Rattle.lists.specs.Parts.{cycle}
use Rattle.lists.proofs.Bools.{and_yes, both}
use Rattle.lists.proofs.Once.{Once, once-apart, once_join, once-map, once-from, no_repeat_once}
use Rattle.model.specs.Plan.{Plan, Dart, context_count, contexts, ring, adjacent, darts_from, darts, same_dart, next, step, outer, closes}
use Rattle.model.specs.Sound.{Sound}
use Rattle.model.proofs.Plans.{next-mem, adjacent-mem, mem-adjacent, outer-says, says-outer}
use Rattle.model.proofs.PlanRules.{inner_ring, border_ring}
use Rattle.plan_theory.proofs.Rings.{next_last}

-- a dart, and when two are the same
abbrev pub dart : ℕ → ℕ → Dart
dart u v = (u, v)

pub same-dart : (d e : Dart) → same_dart d e ≡ true → d ≡ e
same-dart d e h = let (a, b) = and_yes (eqb d.0 e.0) (eqb d.1 e.1) h in λ i. (eqb-true d.0 e.0 a i, eqb-true d.1 e.1 b i)

pub dart-same : (d e : Dart) → d ≡ e → same_dart d e ≡ true
dart-same d e h = rw (eq-eqb d.0 e.0 (ap (λ (c : Dart). c.0) h), eq-eqb d.1 e.1 (ap (λ (c : Dart). c.1) h))

-- a fact about the numbers below 4
pub below_four : (P : ℕ → Type 0) → P 0 → P 1 → P 2 → P 3 → (k : ℕ) → k < 4 → P k
below_four P a b c d zero h = a
below_four P a b c d (suc zero) h = b
below_four P a b c d (suc (suc zero)) h = c
below_four P a b c d (suc (suc (suc zero))) h = d
below_four P a b c d (suc (suc (suc (suc k)))) h = absurd (omega arith)

-- the walk around the border, clockwise
abbrev pub border-walk : List ℕ
border-walk = 0 ∷ 1 ∷ 2 ∷ 3 ∷ []

pub outer-on-border : (d : Dart) → outer d ≡ true → Memᴰ d (cycle border-walk)
outer-on-border d o =
    let (h, e) = outer-says d o in
    let same : dart d.0 ((d.0 + 1) % 4) ≡ d = ap (dart d.0) (sym e) in
    subst (λ (c : Dart). Memᴰ c (cycle border-walk)) same
    (below_four (λ u. Memᴰ (dart u ((u + 1) % 4)) (cycle border-walk))
    (mathlib.Core.List.Memᴰ.head refl)
    (mathlib.Core.List.Memᴰ.tail (mathlib.Core.List.Memᴰ.head refl))
    (mathlib.Core.List.Memᴰ.tail (mathlib.Core.List.Memᴰ.tail (mathlib.Core.List.Memᴰ.head refl)))
    (mathlib.Core.List.Memᴰ.tail (mathlib.Core.List.Memᴰ.tail (mathlib.Core.List.Memᴰ.tail (mathlib.Core.List.Memᴰ.head refl))))
    d.0 h)

pub border-is-outer : (d : Dart) → Memᴰ d (cycle border-walk) → outer d ≡ true
unfolding outer
border-is-outer d (mathlib.Core.List.Memᴰ.head e) = ap outer e
border-is-outer d (mathlib.Core.List.Memᴰ.tail (mathlib.Core.List.Memᴰ.head e)) = ap outer e
border-is-outer d (mathlib.Core.List.Memᴰ.tail (mathlib.Core.List.Memᴰ.tail (mathlib.Core.List.Memᴰ.tail (mathlib.Core.List.Memᴰ.tail x16)))) = elim x16 [ ]
border-is-outer d (mathlib.Core.List.Memᴰ.tail (mathlib.Core.List.Memᴰ.tail (mathlib.Core.List.Memᴰ.head e))) = ap outer e
border-is-outer d (mathlib.Core.List.Memᴰ.tail (mathlib.Core.List.Memᴰ.tail (mathlib.Core.List.Memᴰ.tail (mathlib.Core.List.Memᴰ.head e)))) = ap outer e

module _ (p : Plan) (s : Sound p) where
  -- the face step
  abbrev S : Dart → Dart
  S d = step p d

  abbrev IsDart : Dart → Type 0
  IsDart d = adjacent p d.0 d.1 ≡ true

  pub once-ring : (u : ℕ) → Once (ring p u)
  once-ring u = no_repeat_once (ring p u) (s.no_repeat u)

  -- no dart stands twice in the list of darts
  pub once-darts : Once (darts p)
  unfolding darts darts_from
  once-darts =
      once_join (darts_from p) (contexts p) (once-from 0 (context_count p)) (λ u i. once-map (dart u) (λ (d : Dart). d.1) (ring p u) (λ v. refl) (once-ring u))
      (λ u v d i j k l. sym (leaves u d k) ∙ leaves v d l)
    where
      leaves : (u : ℕ) (d : Dart) → Memᴰ d (map (dart u) (ring p u)) → d.0 ≡ u
      leaves u d k = let (v, i, e) = mathlib.Core.List.Memᴰ.of_map (dart u) (ring p u) k in ap (λ (c : Dart). c.0) (sym e)

  -- the face step leads from a dart to a dart
  pub step-is-dart : (d : Dart) → IsDart d → IsDart (S d)
  unfolding step
  step-is-dart d a = mem-adjacent p d.1 (next d.0 (ring p d.1)) (next-mem d.0 (ring p d.1) (adjacent-mem p d.1 d.0 (s.returned d.0 d.1 a)))

  -- from an outer dart the face step leads to an outer one
  step-outer : (d : Dart) → outer d ≡ true → outer (S d) ≡ true
  unfolding step
  step-outer d o =
      let (h, e) = outer-says d o in
      let v = d.1 in
      let low : v < 4 = omega arith in
      let back : (v + 3) % 4 ≡ d.0 = omega arith in
      let l = (v + 1) % 4 ∷ inner_ring p v in
      let r : ring p v ≡ l ++ (d.0 ∷ []) = border_ring p s v low ∙ ap (λ (k : ℕ). l ++ (k ∷ [])) back in
      let out : Memᴰ d.0 l → ⊥ = λ i. once-apart l (d.0 ∷ []) (subst Once r (once-ring v)) d.0 i (mathlib.Core.List.Memᴰ.head refl) in
      says-outer v (next d.0 (ring p v)) low (ap (next d.0) r ∙ next_last d.0 l out)

  -- ---- inner darts: those that are not outer
  pub record Inner (d : Dart) : Type 0 where
    pub is_dart : IsDart d
    pub not_outer : outer d ≡ false

  pub three-steps : (d : Dart) → Inner d → S (S (S d)) ≡ d
  unfolding closes
  three-steps d i = same-dart (S (S (S d))) d (s.closed d.0 d.1 i.is_dart i.not_outer)

  -- and from an inner dart to an inner one
  pub step_inner : (d : Dart) → Inner d → Inner (S d)
  step_inner d i = record { is_dart = step-is-dart d i.is_dart; not_outer = go (outer (S d)) refl }
    where
      go : (t : Bool) → outer (S d) ≡ t → t ≡ false
      go true o = both (outer d) (ap outer (sym (three-steps d i)) ∙ step-outer (S (S d)) (step-outer (S d) o)) i.not_outer
      go false o = refl

  -- the third dart of the walk leads back to where the first begins
  pub third-dart : (d : Dart) → Inner d → S (S d) ≡ dart (S d).1 d.0
  unfolding step
  third-dart d i = ap (dart (S d).1) (ap (λ (c : Dart). c.0) (three-steps d i))
