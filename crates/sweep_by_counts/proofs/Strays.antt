-- The first frontier of a plan that keeps the rules has a chord exactly where one of its contexts lists another than those beside it.
use Prim.Native.Nat.{ℕ, suc, ◌+◌, ◌-◌, ◌≤◌, ◌<◌}
use mathlib.Core.Path.{◌≡◌, refl, sym, ap, ◌∙◌}
use mathlib.Core.List.{List, Memᴰ}
use mathlib.Core.Bool.{Bool, true, false, not, ◌&&◌, not-not}
use mathlib.Core.Logic.{◌⊎◌, inl, inr}
use native.Mathlib.Omega.{arith}
use lib.ListN.{length, get_or}
use lib.Dec.{eqb}
use borrow.Author.Tests.{eqb-false, ne_eqb, not-true}
use Rattle.lists.specs.Tests.{member}
use Rattle.lists.specs.Spans.{zero_padded}
use Rattle.lists.proofs.Bools.{both, and_yes, yes_and, yes-not}
use Rattle.lists.proofs.Ranges.{lt-or-le}
use Rattle.lists.proofs.Once.{Once}
use Rattle.lists.specs.Folds.{some_within}
use Rattle.lists.proofs.Folds.{some-none, some_one, some_same}
use Rattle.lists.proofs.Padded.{get_or-zero_padded}
use Rattle.lists.proofs.Tests.{list_any_of, of_list_any, member-mem, mem-member}
use Rattle.model.specs.Plan.{Plan, ring, adjacent}
use Rattle.model.specs.Sound.{Sound}
use Rattle.model.specs.Sweep.{chordless}
use Rattle.model.proofs.Plans.{adjacent-mem, mem-adjacent}
use Rattle.model.proofs.Eligible.{get_or-mem, mem-get_or, chordless-apart}
use Rattle.sweep_theory.proofs.Eligibility.{Chord, chord_found, same_position}
use Rattle.sweep_frontier.specs.Held.{Marks}
use Rattle.sweep_by_counts.specs.Strays.{stray, lists_stray, chord_at, chorded}

-- marks that tell what is on a frontier
module _ (p : Plan) (rules : Sound p) (f marks : List ℕ) (once : Once f) (small : (u a : ℕ) → Memᴰ a (ring p u) → a < 256) (on : Marks marks (λ (c : ℕ). member c f)) where
  -- a context of the ring is one of the frontier exactly where it is marked
  marked : (u w : ℕ) → Memᴰ w (ring p u) → not (eqb (get_or marks w 0) 0) ≡ member w f
  marked u w m = ap not (on.mark w (small u w m)) ∙ not-not (member w f)

  abbrev at : ℕ → ℕ
  at k = get_or f k 0

  -- a context that lists another than those beside it is an end of a chord
  stray-chord : (k : ℕ) → k < length f → chord_at p marks f k ≡ true → chordless p f ≡ true → ⊥
  unfolding chord_at lists_stray stray
  stray-chord k h e clean =
      let (w, m, t) = list_any_of (stray marks (at (k - 1)) (at (suc k))) (ring p (at k)) e in
      let (a, b) = and_yes (not (eqb (get_or marks w 0) 0)) (not (eqb w (at (k - 1))) && not (eqb w (at (suc k)))) t in
      let (x, y) = and_yes (not (eqb w (at (k - 1)))) (not (eqb w (at (suc k)))) b in
      let near = mem-adjacent p (at k) w m in
      let (l, inside, is) = mem-get_or f w (member-mem w f (sym (marked (at k) w m) ∙ a)) in
      go l inside is near (eqb-false w (at (k - 1)) (not-true (eqb w (at (k - 1))) x)) (eqb-false w (at (suc k)) (not-true (eqb w (at (suc k))) y)) (lt-or-le (k + 1) l) (lt-or-le (l + 1) k)
    where
      go : (l : ℕ) {w : ℕ} → l < length f → at l ≡ w → adjacent p (at k) w ≡ true → (w ≡ at (k - 1) → ⊥) → (w ≡ at (suc k) → ⊥) → (k + 1 < l) ⊎ (l ≤ k + 1) → (l + 1 < k) ⊎ (k ≤ l + 1) → ⊥
      go l {w} q is near left right (inl far) s = both (adjacent p (at k) w) near (ap (adjacent p (at k)) (sym is) ∙ chordless-apart p f clean k l (omega arith) q)
      go l {w} q is near left right (inr low) (inl far) = both (adjacent p w (at k)) (rules.returned (at k) w near) (ap (λ (c : ℕ). adjacent p c (at k)) (sym is) ∙ chordless-apart p f clean l k (omega arith) h)
      go l {w} q is near left right (inr low) (inr high) = beside (lt-or-le k l) (lt-or-le l k)
        where
          beside : (k < l) ⊎ (l ≤ k) → (l < k) ⊎ (k ≤ l) → ⊥
          beside (inl r) s = let z : l ≡ suc k = omega arith in right (sym is ∙ ap at z)
          beside (inr r) (inl s) = let z : l ≡ k - 1 = omega arith in left (sym is ∙ ap at z)
          beside (inr r) (inr s) = let z : l ≡ k = omega arith in rules.other (at k) w near (ap at (sym z) ∙ is)

  -- an end of a chord lists another than those beside it
  chord-stray : (c : Chord p f) → chord_at p marks f c.from ≡ true
  unfolding chord_at lists_stray stray
  chord-stray c =
      let u = at c.from in
      let w = at c.to in
      let near = c.near in
      let m = adjacent-mem p u w near in
      let x = c.apart in
      let y = c.inside in
      of_list_any (stray marks (at (c.from - 1)) (at (suc c.from))) (ring p u) w m
      (yes_and (not (eqb (get_or marks w 0) 0)) (not (eqb w (at (c.from - 1))) && not (eqb w (at (suc c.from))))
      (marked u w m ∙ mem-member w f (get_or-mem f c.to y))
      (yes_and (not (eqb w (at (c.from - 1)))) (not (eqb w (at (suc c.from))))
      (yes-not (eqb w (at (c.from - 1))) (ne_eqb w (at (c.from - 1)) (λ q. let z = same_position f once c.to (c.from - 1) y (omega arith) q in absurd (omega arith))))
      (yes-not (eqb w (at (suc c.from))) (ne_eqb w (at (suc c.from)) (λ q. let z = same_position f once c.to (suc c.from) y (omega arith) q in absurd (omega arith))))))

  -- THE TEST OF THE FIRST FRONTIER
  pub chorded_is : {at' : List ℕ} {m : ℕ} → at' ≡ zero_padded 512 f → m ≡ length f → chorded p marks at' m ≡ not (chordless p f)
  unfolding chorded chord_at
  chorded_is {at'} {m} is long =
      (λ i. some_within (chord_at p marks (is i)) 0 (long i))
      ∙ some_same (chord_at p marks (zero_padded 512 f)) (chord_at p marks f) 0 (length f - 0) (λ k. same k)
      ∙ go (some_within (chord_at p marks f) 0 (length f)) refl (chordless p f) refl
    where
      same : (k : ℕ) → chord_at p marks (zero_padded 512 f) k ≡ chord_at p marks f k
      same k = λ i. lists_stray p marks (get_or-zero_padded 512 f k i) (get_or-zero_padded 512 f (k - 1) i) (get_or-zero_padded 512 f (suc k) i)

      go : (a : Bool) → some_within (chord_at p marks f) 0 (length f) ≡ a → (b : Bool) → chordless p f ≡ b → a ≡ not b
      go true e true c = let (k, low, high, t) = some_one (chord_at p marks f) 0 (length f - 0) e in absurd (stray-chord k (omega arith) t c)
      go true e false c = refl
      go false e true c = refl
      go false e false c = let h = chord_found p f c in let x = h.inside in let y = h.apart in both (chord_at p marks f h.from) (chord-stray h) (some-none (chord_at p marks f) 0 (length f - 0) e h.from (omega arith) (omega arith))
