-- Turn refuses a list at a small place only: pairs before the first bad one are different edges of the plan, and a plan has few.
use Prim.Native.Nat.{ℕ, zero, suc, ◌+◌, ◌*◌, ◌%◌, ◌≤◌, ◌<◌}
use mathlib.Core.Path.{◌≡◌, refl, sym, ap, ◌∙◌, subst}
use mathlib.Core.List.Memᴰ
use mathlib.Core.List.{List, [], ◌∷◌, ◌++◌, map, Memᴰ}
use mathlib.Core.Bool.{Bool, true, false, cond, not, ◌&&◌}
use mathlib.Core.Logic.{◌≢◌, ◌⊎◌, inl, inr}
use native.Mathlib.Omega.{arith}
use lib.ListN.{length, get_or, take, length-map}
use lib.Seq.{take-suc, length-take-le}
use lib.Dec.{eqb, leb, ltb}
use borrow.Author.Tests.{eqb-true, eq-eqb, ne_eqb, leb-true, not-false}
use Rattle.std.specs.List.{list_any}
use Rattle.lists.specs.Tests.{member, repeats}
use Rattle.lists.specs.Ranges.{first_from, lowest}
use Rattle.lists.specs.Parts.{pairs}
use Rattle.lists.proofs.Bools.{or_no, no_or, and_yes, yes_and, both}
use Rattle.lists.proofs.Tests.{none_of, of_none, list_any-map, repeats-append}
use Rattle.lists.proofs.Concats.{map-append}
use Rattle.lists.proofs.Counts.{count_below-le, length-count_below}
use Rattle.model.specs.Outcome.{require, rule}
use Rattle.model.specs.Plan.{Plan, Dart, context_count, adjacent, border, inner_edge, same_dart}
use Rattle.model.specs.Sound.{Sound}
use Rattle.model.specs.Labels.{label_rules, breaks}
use Rattle.model.specs.Turn.{same_edge, reverse_dart, bad_pair, turned_edges, quarters, turn}
use Rattle.model.proofs.Outcomes.{require-passed}
use Rattle.model.proofs.Plans.{adjacent-from}
use Rattle.sheet_bytes.proofs.Small.{Small, small-accepted, small_then, small-require, first-most, small-rule}

-- what stands before the first that passes does not pass
first-before : (f : ℕ → Bool) (a k v : ℕ) → a ≤ v → v < first_from f a k → f v ≡ false
unfolding first_from
first-before f a zero v h l = absurd (omega arith)
first-before f a (suc k) v h l = go (f a) refl (first-before f (suc a) k v) l
  where
    go : (t : Bool) → f a ≡ t → (suc a ≤ v → v < first_from f (suc a) k → f v ≡ false) → v < cond t a (first_from f (suc a) k) → f v ≡ false
    go true e r l = absurd (omega arith)
    go false e r l = here (eqb a v) refl
      where
        here : (t : Bool) → eqb a v ≡ t → f v ≡ false
        here true q = ap f (sym (eqb-true a v q)) ∙ e
        here false q = r (let n = eqb_apart a v q in omega arith) l
          where
            eqb_apart : (a v : ℕ) → eqb a v ≡ false → a ≢ v
            eqb_apart a v q s = both (eqb a v) (eq-eqb a v s) q

module _ (p : Plan) (s : Sound p) (few : context_count p ≤ 200) (es : List Dart) where
  -- both numbers of a pair are below 200
  abbrev Inside : Dart → Type 0
  Inside d = (d.0 < 200) × (d.1 < 200)

  -- a pair that is not bad is an edge, and none of those before it
  good_pair : (k : ℕ) → bad_pair p es k ≡ false → Inside (get_or es k (0, 0)) × (list_any (same_edge (get_or es k (0, 0))) (take k es) ≡ false)
  unfolding bad_pair inner_edge
  good_pair k e =
      let d = get_or es k (0, 0) in
      let edge = adjacent p d.0 d.1 in
      let inner = not (border d.0 && border d.1) in
      let (a, b) = or_no (not (edge && inner)) (list_any (same_edge d) (take k es)) e in
      let there = (and_yes edge inner (not-false (edge && inner) a)).0 in
      let u = adjacent-from p d.0 d.1 there in
      let v = s.inside d.0 d.1 there in
      ((omega arith, omega arith), b)

  -- the pairs before k, one more
  more : (k : ℕ) → k < length es → take (suc k) es ≡ take k es ++ (get_or es k (0, 0) ∷ [])
  more k h = take-suc es k (0, 0) h

  -- all pairs before k, where none of them is bad
  all-inside : (k : ℕ) → k ≤ length es → ((v : ℕ) → v < k → bad_pair p es v ≡ false) → (d : Dart) → Memᴰ d (take k es) → Inside d
  all-inside zero h good d m = absurd (Memᴰ.not-nil m)
  all-inside (suc k) h good d m = go (Memᴰ.append_cases (take k es) (subst (Memᴰ d) (more k (omega arith)) m)) (all-inside k (omega arith) (λ v l. good v (omega arith)) d)
    where
      last : Memᴰ d (get_or es k (0, 0) ∷ []) → Inside d
      last (Memᴰ.head e) = subst Inside (sym e) (good_pair k (good k (omega arith))).0
      last (Memᴰ.tail i) = absurd (Memᴰ.not-nil i)

      go : Memᴰ d (take k es) ⊎ Memᴰ d (get_or es k (0, 0) ∷ []) → (Memᴰ d (take k es) → Inside d) → Inside d
      go (inl i) r = r i
      go (inr i) r = last i

  -- a pair as one number
  one : Dart → ℕ
  one d = d.0 * 200 + d.1

  -- pairs that are different edges are different numbers
  apart : (d e : Dart) → Inside d → Inside e → same_edge e d ≡ false → one d ≢ one e
  unfolding same_edge one
  apart d e a b h q =
      let x : e.0 ≡ d.0 = let l = a.1 in let m = b.1 in omega arith in
      let y : e.1 ≡ d.1 = let l = a.1 in let m = b.1 in omega arith in
      both (same_dart e d) (yes_and (eqb e.0 d.0) (eqb e.1 d.1) (eq-eqb e.0 d.0 x) (eq-eqb e.1 d.1 y)) (or_no (same_dart e d) (same_dart e (reverse_dart d)) h).0

  -- so no number repeats
  no_repeat : (k : ℕ) → k ≤ length es → ((v : ℕ) → v < k → bad_pair p es v ≡ false) → repeats (map one (take k es)) ≡ false
  no_repeat zero h good = refl
  no_repeat (suc k) h good =
      let e = get_or es k (0, 0) in
      let (inside, new) = good_pair k (good k (omega arith)) in
      let l = take k es in
      let each = all-inside k (omega arith) (λ v m. good v (omega arith)) in
      let fresh : list_any (λ (c : ℕ). member c (one e ∷ [])) (map one l) ≡ false =
      sym (list_any-map (λ (c : ℕ). member c (one e ∷ [])) one l)
      ∙ of_none (λ (d : Dart). member (one d) (one e ∷ [])) l (λ d m. no_or (eqb (one d) (one e)) false (ne_eqb (one d) (one e) (apart d e (each d m) inside (none_of (same_edge e) l new d m))) refl)
      in
      ap (λ (m : List Dart). repeats (map one m)) (more k (omega arith)) ∙ ap repeats (map-append one l (e ∷ [])) ∙ repeats-append (map one l) (one e ∷ []) (no_repeat k (omega arith) (λ v m. good v (omega arith))) refl fresh

  -- a member of a mapped list
  mapped : (l : List Dart) (a : ℕ) → Memᴰ a (map one l) → ((d : Dart) → Memᴰ d l → Inside d) → a < 40000
  unfolding one
  mapped [] a m h = absurd (Memᴰ.not-nil m)
  mapped (d ∷ l) a (Memᴰ.head e) h = let (x, y) = h d (Memᴰ.head refl) in omega arith
  mapped (d ∷ l) a (Memᴰ.tail m) h = mapped l a m (λ c i. h c (Memᴰ.tail i))

  -- and there are few
  few-pairs : (k : ℕ) → k ≤ length es → ((v : ℕ) → v < k → bad_pair p es v ≡ false) → k ≤ 40000
  few-pairs k h good =
      let l = map one (take k es) in
      let size : length l ≡ k = length-map (take k es) one ∙ length-take-le k es h in
      let most = length-count_below 40000 l (no_repeat k h good) (λ a m. mapped (take k es) a m (all-inside k h good)) in
      let all = count_below-le (λ (w : ℕ). member w l) 40000 in
      omega arith

  -- the place of the first bad pair
  few-before : lowest (bad_pair p es) (length es) ≤ 40000
  few-before = few-pairs (lowest (bad_pair p es) (length es)) (let h = first-most (bad_pair p es) 0 (length es) in omega arith) (λ v l. first-before (bad_pair p es) 0 (length es) v (omega arith) l)

-- 10
pub small-labels : (p : Plan) (ls : List ℕ) → context_count p ≤ 200 → Small (label_rules p ls)
unfolding label_rules
small-labels p ls few = small-rule 10 (context_count p) (breaks p ls) (omega arith) (omega arith)

-- 15, then 10
pub small-turn : (p : Plan) → Sound p → context_count p ≤ 200 → (ls items : List ℕ) (direction : ℕ) → Small (turn p ls items direction)
unfolding turn
small-turn p s few ls items direction =
    let es = pairs items in
    let place = lowest (bad_pair p es) (length es) in
    let most = few-before p s few es in
    let ms = turned_edges p (quarters direction) es ls in
    small_then (rule 15 (length es) (bad_pair p es)) _ (small-require (leb (length es) place) 15 place (omega arith) (omega arith))
    (λ _ e.
    let all = leb-true (length es) place (require-passed (leb (length es) place) 15 place e) in
    small_then (require (eqb (length items % 2) 0) 15 (length es)) _ (small-require (eqb (length items % 2) 0) 15 (length es) (omega arith) (omega arith))
    (λ _ _. small_then (require (ltb direction 2) 15 (length es)) _ (small-require (ltb direction 2) 15 (length es) (omega arith) (omega arith)) (λ _ _. small_then (label_rules p ms) _ (small-labels p ms few) (λ _ _. small-accepted _))))
