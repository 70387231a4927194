-- The quick test as the code makes it, test by test.
use Rattle.std.specs.Prelude.{Ok, Err, is_err}
use Rattle.std.specs.List.{slice_range}
use Rattle.std.specs.declared.result.Result.{Result}
use Prim.Native.Nat.{ℕ, ◌+◌, ◌-◌, ◌*◌, ◌≤◌, ◌<◌, ◌^◌}
use mathlib.Core.Path.{◌≡◌, refl, sym, ap, ◌∙◌}
use mathlib.Core.List.{List, [], ◌∷◌, map}
use mathlib.Core.Bool.{Bool, true, false, not, ◌&&◌, ◌||◌}
use native.Mathlib.Omega.{arith}
use lib.ListN.{length, get_or, replicate}
use lib.Seq.{take_all}
use lib.Dec.{eqb, leb}
use borrow.Author.Tests.{eq-eqb, ne_eqb, le-leb, lt-leb}
use Rattle.lists.specs.Ranges.{lowest}
use Rattle.lists.specs.Folds.{some_within}
use Rattle.lists.specs.Spans.{stretch, span, zero_padded}
use Rattle.lists.proofs.Spans.{span_more, span_end, stretch_part, stretch-first}
use Rattle.lists.proofs.Padded.{get_or-zero_padded}
use Rattle.model.specs.Outcome.{rule}
use Rattle.model.specs.Plan.{Plan, context_count, neighbour, ring, outer, bad_border}
use Rattle.model.proofs.Outcomes.{require-passed, require-refused}
use Rattle.refusal.specs.Refusals as refusals
use Rattle.refusal.specs.declared.Refusal.{Refusal}
use Rattle.rings.specs.Tables.{size_of, rows}
use Rattle.rings.proofs.Rows.{ring-rows, ring-size, ring-at}
use Rattle.ring_successors.specs.Successors.{Noted, cell_at, note_rings, successors_of, apart}
use Rattle.ring_successors.proofs.Shorter.{successors_shorter, apart_shorter}
use Rattle.plan_check.specs.Sound.{unconfirmed, some_unconfirmed, has_unconfirmed, confirmed, sound}

-- ---- one dart
module _ (t : List ℕ) (u w v : ℕ) where
  pub unconfirmed_self : u ≡ v → true ≡ unconfirmed t u w v
  unfolding unconfirmed
  unconfirmed_self e = sym (rw (eq-eqb u v e))

  module _ (other : u ≡ v → ⊥) {x : ℕ} (is : x ≡ get_or t (cell_at v u) 0) where
    pub unconfirmed_turned : x ≡ w + 1 → false ≡ unconfirmed t u w v
    unfolding unconfirmed
    unconfirmed_turned h = sym (rw (ne_eqb u v other, eq-eqb (get_or t (cell_at v u) 0) (w + 1) (sym is ∙ h)))

    pub unconfirmed_outer : {d : Bool} → (x ≡ w + 1 → ⊥) → d ≡ outer (u, v) → not d ≡ unconfirmed t u w v
    unfolding unconfirmed
    unconfirmed_outer f e = ap not e ∙ sym (rw (ne_eqb u v other, ne_eqb (get_or t (cell_at v u) 0) (w + 1) (λ z. f (is ∙ z))))

-- ---- for v in ring { if is_unconfirmed(before, v) { return true; } before = v; }
pub record Round (t : List ℕ) (u : ℕ) (es : List ℕ) (e : ℕ) (all : Bool) (i before : ℕ) : Type 0 where
  pub near : before < 2 ^ 16
  pub same : all ≡ some_unconfirmed t u before (map neighbour (span es i e))

-- an entry is a number of two bytes
pub entry-near : {v x : ℕ} → v ≡ neighbour x → x < 2 ^ 16 → v < 2 ^ 16
unfolding neighbour
entry-near e h = omega arith

-- before the first entry
pub round_start : {t es : List ℕ} {u e a w before : ℕ} → before ≡ w → before < 2 ^ 16 → Round t u es e (some_unconfirmed t u w (map neighbour (span es a e))) a before
round_start {t} {es} {u} {e} {a} q h = record { near = h; same = ap (λ (w : ℕ). some_unconfirmed t u w (map neighbour (span es a e))) (sym q) }

-- the same over a whole list
pub round_all : {t es : List ℕ} {u w : ℕ} → w < 2 ^ 16 → Round t u es (length es) (some_unconfirmed t u w (map neighbour es)) 0 w
round_all {t} {es} {u} {w} h =
    let size : length es - 0 ≡ length es = omega arith in
    let whole = ap (stretch es 0) size ∙ stretch-first es (length es) (omega arith) ∙ take_all (length es) es (omega arith) in
    record { near = h; same = ap (λ (l : List ℕ). some_unconfirmed t u w (map neighbour l)) (sym whole) }

module _ {t es : List ℕ} {u e i before : ℕ} {all : Bool} (inv : Round t u es e all i before) {v : ℕ} (is : v ≡ neighbour (get_or es i 0)) {b : Bool} (says : b ≡ unconfirmed t u before v) (more : i < e) where
  round-step : all ≡ (b || some_unconfirmed t u v (map neighbour (span es (i + 1) e)))
  unfolding some_unconfirmed
  round-step =
      inv.same
      ∙ ap (λ (l : List ℕ). some_unconfirmed t u before (map neighbour l)) (span_more es i e more)
      ∙ (λ j. unconfirmed t u before (sym is j) || some_unconfirmed t u (sym is j) (map neighbour (span es (i + 1) e)))
      ∙ ap (λ (d : Bool). d || some_unconfirmed t u v (map neighbour (span es (i + 1) e))) (sym says)

  -- where the dart is in doubt
  pub round_hit : b ≡ true → true ≡ all
  round_hit h = sym (round-step ∙ rw h)

  -- where it is not
  pub round_on : v < 2 ^ 16 → b ≡ false → Round t u es e all (i + 1) v
  round_on near h = record { near = near; same = round-step ∙ rw h }

-- after the last entry
pub round_end : {t es : List ℕ} {u e i before : ℕ} {all : Bool} → Round t u es e all i before → e ≤ i → false ≡ all
unfolding some_unconfirmed
round_end {t} {es} {u} {e} {i} {before} inv h = sym (inv.same ∙ ap (λ (l : List ℕ). some_unconfirmed t u before (map neighbour l)) (span_end es i e h))

-- ---- the darts that leave u, by the entries of its ring
-- what stands before a list matters only where it has an entry
before-any : (t : List ℕ) (u w x : ℕ) (r : List ℕ) → (0 < length r → w ≡ x) → some_unconfirmed t u w r ≡ some_unconfirmed t u x r
unfolding some_unconfirmed
before-any t u w x [] h = refl
before-any t u w x (v ∷ l) h = ap (λ (y : ℕ). some_unconfirmed t u y (v ∷ l)) (h (omega arith))

module _ (t starts sizes es : List ℕ) (n u : ℕ) {a e : ℕ} (start : a ≡ get_or starts u 0) (end : e ≡ get_or starts u 0 + size_of sizes n u) where
  pub ring-has_unconfirmed : some_unconfirmed t u (neighbour (get_or es (e - 1) 0)) (map neighbour (span es a e)) ≡ has_unconfirmed t (rows starts sizes es n) u
  unfolding has_unconfirmed
  ring-has_unconfirmed =
      let k : e - a ≡ size_of sizes n u = omega arith in
      (λ i. some_unconfirmed t u (neighbour (get_or es (e - 1) 0)) (map neighbour (stretch es (start i) (k i))))
      ∙ ap (some_unconfirmed t u (neighbour (get_or es (e - 1) 0))) (sym (ring-rows starts sizes es n u))
      ∙ before-any t u (neighbour (get_or es (e - 1) 0)) (get_or (ring (rows starts sizes es n) u) (length (ring (rows starts sizes es n) u) - 1) 0) (ring (rows starts sizes es n) u) last
    where
      last : 0 < length (ring (rows starts sizes es n) u) → neighbour (get_or es (e - 1) 0) ≡ get_or (ring (rows starts sizes es n) u) (length (ring (rows starts sizes es n) u) - 1) 0
      last h =
          let size = ring-size starts sizes es n u in
          let at : e - 1 ≡ get_or starts u 0 + (length (ring (rows starts sizes es n) u) - 1) = omega arith in
          ap (λ (j : ℕ). neighbour (get_or es j 0)) at ∙ sym (ring-at starts sizes es n u (length (ring (rows starts sizes es n) u) - 1) (omega arith))

  -- where its entries are all there
  pub part-has_unconfirmed : {l : List ℕ} {w : ℕ} {b : Bool} → a ≤ e → e ≤ length es → l ≡ slice_range es a e → w ≡ neighbour (get_or es (e - 1) 0)
      → b ≡ some_unconfirmed t u w (map neighbour l) → b ≡ has_unconfirmed t (rows starts sizes es n) u
  part-has_unconfirmed h k same is says = says ∙ (λ i. some_unconfirmed t u (is i) (map neighbour ((same ∙ sym (stretch_part es a (e - a) (omega arith))) i))) ∙ ring-has_unconfirmed

-- ---- all darts, by what is noted
module _ (p : Plan) (s : Noted) {b : Bool} (clear : b ≡ s.1) where
  -- some entry has no cell of its own
  pub shared : b ≡ false → b ≡ confirmed s p
  unfolding confirmed
  shared h = h ∙ sym (rw (sym clear ∙ h))

  -- every entry has
  pub told_by : {n : ℕ} → context_count p ≡ n → {t : List ℕ} {d : Bool} → t ≡ s.0 → b ≡ true → d ≡ some_within (has_unconfirmed t p) 0 n → not d ≡ confirmed s p
  unfolding confirmed
  told_by size made h e = ap not (e ∙ (λ i. some_within (has_unconfirmed (made i) p) 0 (sym size i))) ∙ sym (rw (sym clear ∙ h))

-- ---- a table and an array that holds it leave the same darts in doubt
module _ (k : ℕ) (t : List ℕ) where
  some-zero_padded : (u w : ℕ) (l : List ℕ) → some_unconfirmed (zero_padded k t) u w l ≡ some_unconfirmed t u w l
  unfolding some_unconfirmed unconfirmed
  some-zero_padded u w [] = refl
  some-zero_padded u w (v ∷ l) = λ i. (eqb u v || (not (eqb (get_or-zero_padded k t (cell_at v u) i) (w + 1)) && not (outer (u, v)))) || some-zero_padded u v l i

  has_unconfirmed-zero_padded : (p : Plan) (u : ℕ) → has_unconfirmed (zero_padded k t) p u ≡ has_unconfirmed t p u
  unfolding has_unconfirmed
  has_unconfirmed-zero_padded p u = some-zero_padded u (get_or (ring p u) (length (ring p u) - 1) 0) (ring p u)

-- so it does not matter of how many zeros the table is made
module _ (p : Plan) {k : ℕ} (rows : 200 * context_count p ≤ k) (most : k ≤ 40000) {t : List ℕ} (none : t ≡ replicate k 0) where
  confirmed-made : confirmed (note_rings p (t, true)) p ≡ confirmed (successors_of p, apart p) p
  unfolding confirmed
  confirmed-made =
      let s : Noted = note_rings p (t, true) in
      let own = successors_shorter p rows most none refl in
      let same : has_unconfirmed s.0 p ≡ has_unconfirmed (successors_of p) p = (λ i u. sym (has_unconfirmed-zero_padded 40000 s.0 p u) i) ∙ ap (λ (x : List ℕ). has_unconfirmed x p) own in
      λ i. apart_shorter p rows most none refl i && not (some_within (same i) 0 (context_count p))

-- ---- the plan
-- a rule's test, by whether the rule is refused
module _ (k n : ℕ) (bad : ℕ → Bool) where
  rule_kept : (r : Result (Unit {0}) Refusal) → refusals.outcome_of r ≡ rule k n bad → is_err r ≡ false → leb n (lowest bad n) ≡ true
  rule_kept (Ok a) e h = require-passed (leb n (lowest bad n)) k (lowest bad n) (sym e)
  rule_kept (Err x) e h = cc

  rule_broken : (r : Result (Unit {0}) Refusal) → refusals.outcome_of r ≡ rule k n bad → is_err r ≡ true → leb n (lowest bad n) ≡ false
  rule_broken (Ok a) e h = cc
  rule_broken (Err x) e h = (require-refused (leb n (lowest bad n)) k _ (lowest bad n) _ (sym e)).0

module _ (p : Plan) {n : ℕ} (size : context_count p ≡ n) where
  pub sound_many : 200 < n → false ≡ sound p
  unfolding sound
  sound_many h = sym (rw (lt-leb (context_count p) 200 (omega arith)))

  module _ (few : n ≤ 200) (r : Result (Unit {0}) Refusal) (eight : refusals.outcome_of r ≡ rule 8 4 (bad_border p)) where
    pub sound-side : is_err r ≡ true → false ≡ sound p
    unfolding sound
    sound-side h = sym (rw (le-leb (context_count p) 200 (omega arith), rule_broken 8 4 (bad_border p) r eight h))

    -- by a table of k zeros, with a row for each ring
    pub sound_by : is_err r ≡ false → (k : ℕ) → 200 * n ≤ k → k ≤ 40000 → {t : List ℕ} {b : Bool} → t ≡ replicate k 0 → b ≡ confirmed (note_rings p (t, true)) p → b ≡ sound p
    unfolding sound
    sound_by kept k rows most none e = e ∙ confirmed-made p (omega arith) most none ∙ sym (rw (le-leb (context_count p) 200 (omega arith), rule_kept 8 4 (bad_border p) r eight kept))
