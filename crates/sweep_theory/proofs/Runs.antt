-- The list of a pair with one context below each position between but the last is what is below the last.
use Prim.Native.Nat.{ℕ, zero, suc, ◌+◌, ◌-◌, ◌≤◌, ◌<◌}
use mathlib.Core.Path.{◌≡◌, refl, sym, ap, ◌∙◌, subst}
use mathlib.Core.List.Memᴰ
use mathlib.Core.List.{List, [], ◌∷◌, ◌++◌, append-nil}
use mathlib.Core.Bool.{Bool, cond}
use native.Mathlib.Omega.{arith}
use lib.ListN.{length}
use borrow.Author.Tests.{eq-eqb, ne_eqb}
use Rattle.lists.specs.Parts.{squeeze, squeeze_after}
use Rattle.lists.proofs.Once.{Once}
use Rattle.model.specs.Plan.{Plan}
use Rattle.model.specs.Sound.{Sound}
use Rattle.model.specs.Sweep.{below, listed}
use Rattle.sweep_theory.proofs.Faces.{Fan}
use Rattle.sweep_theory.proofs.Trails.{Trail, at, fan_at, once-below}
use Rattle.sweep_theory.proofs.Strips.{raw}

-- a list without repeats is not squeezed
squeeze-after-once : (a : ℕ) (l : List ℕ) → Once (a ∷ l) → squeeze_after a l ≡ l
squeeze-after-once a [] o = refl
squeeze-after-once a (b ∷ l) o = rw (ne_eqb a b (λ e. o.0 (Memᴰ.head e))) (ap {B = List ℕ} (λ k. b ∷ k) (squeeze-after-once b l o.1))

squeeze-once : (l : List ℕ) → Once l → squeeze l ≡ l
squeeze-once [] o = refl
squeeze-once (a ∷ l) o = ap {B = List ℕ} (λ k. a ∷ k) (squeeze-after-once a l o)

module _ (p : Plan) (s : Sound p) (S : ℕ → Type 0) (f : List ℕ) (w : Trail p S f) where
  -- the single context below a position is the first below the next
  pub same_run : (k c d : ℕ) (l : List ℕ) → suc (suc (suc k)) < length f → below p f (suc k) ≡ c ∷ [] → below p f (suc (suc k)) ≡ d ∷ l → c ≡ d
  same_run k c d l h q r =
      let one = subst (λ (v : List ℕ). Fan p (at f (suc k)) (at f k ∷ v ++ (at f (suc (suc k)) ∷ []))) q (fan_at p s S f w k (omega arith)) in
      let two = subst (λ (v : List ℕ). Fan p (at f (suc (suc k))) (at f (suc k) ∷ v ++ (at f (suc (suc (suc k))) ∷ []))) r (fan_at p s S f w (suc k) h) in
      sym one.1.0.at_u ∙ two.0.at_x

  -- THE LIST OF A RUN
  run : (d k : ℕ) → suc (suc k) + d < length f → ((t : ℕ) → k < t → t < suc k + d → length (below p f t) ≡ 1) → 0 < length (below p f (suc k + d)) → squeeze (raw p f (suc k) (suc d)) ≡ below p f (suc k + d)
  run zero k h one some =
      let x : suc k ≡ suc k + 0 = omega arith in
      ap squeeze (append-nil (below p f (suc k))) ∙ squeeze-once (below p f (suc k)) (once-below p s S f w k (omega arith)) ∙ ap (below p f) x
  run (suc d) k h one some = go (below p f (suc k)) refl (below p f (suc (suc k))) refl (run d (suc k) (omega arith) (λ t a b. one t (omega arith) (omega arith)) (subst (λ (t : ℕ). 0 < length (below p f t)) y some))
    where
      y : suc k + suc d ≡ suc (suc k) + d
      y = omega arith

      -- the next position has something below
      next_some : 0 < length (below p f (suc (suc k)))
      next_some = first d refl
        where
          first : (e : ℕ) → d ≡ e → 0 < length (below p f (suc (suc k)))
          first zero q = let z : suc k + suc d ≡ suc (suc k) = omega arith in subst (λ (t : ℕ). 0 < length (below p f t)) z some
          first (suc e) q = let z = one (suc (suc k)) (omega arith) (omega arith) in omega arith

      go : (u : List ℕ) → below p f (suc k) ≡ u → (v : List ℕ) → below p f (suc (suc k)) ≡ v → squeeze (raw p f (suc (suc k)) (suc d)) ≡ below p f (suc (suc k) + d) → squeeze (raw p f (suc k) (suc (suc d))) ≡ below p f (suc k + suc d)
      go [] q v r rest = let z = one (suc k) (omega arith) (omega arith) in let x = ap length q in absurd (omega arith)
      go (a ∷ b ∷ u) q v r rest = let z = one (suc k) (omega arith) (omega arith) in let x = ap length q in absurd (omega arith)
      go (a ∷ []) q [] r rest = let z = next_some in let x = ap length r in absurd (omega arith)
      go (a ∷ []) q (b ∷ v) r rest =
          let same : a ≡ b = same_run k a b v (omega arith) q r in
          let m : List ℕ = v ++ raw p f (suc (suc (suc k))) d in
          let one_more : squeeze (raw p f (suc k) (suc (suc d))) ≡ squeeze (a ∷ b ∷ m) = λ i. squeeze (q i ++ (r i ++ raw p f (suc (suc (suc k))) d)) in
          let dropped : squeeze (a ∷ b ∷ m) ≡ squeeze (b ∷ m) = ap (λ (t : Bool). a ∷ cond t (squeeze_after a m) (b ∷ squeeze_after b m)) (eq-eqb a b same) ∙ (λ i. same i ∷ squeeze_after (same i) m) in
          one_more ∙ dropped ∙ ap (λ (x : List ℕ). squeeze (x ++ raw p f (suc (suc (suc k))) d)) (sym r) ∙ rest ∙ ap (below p f) (sym y)

  -- of a pair of positions
  pub run_listed : (i j : ℕ) → i + 2 ≤ j → j < length f → ((t : ℕ) → i < t → t < j - 1 → length (below p f t) ≡ 1) → 0 < length (below p f (j - 1)) → listed p f i j ≡ below p f (j - 1)
  unfolding listed
  run_listed i j two inside one some =
      let d : ℕ = j - suc (suc i) in
      let x : j - suc i ≡ suc d = omega arith in
      let y : suc i + d ≡ j - 1 = omega arith in
      ap (λ (n : ℕ). squeeze (raw p f (suc i) n)) x ∙ run d i (omega arith) (λ t a b. one t a (omega arith)) (subst (λ (n : ℕ). 0 < length (below p f n)) (sym y) some) ∙ ap (below p f) y
