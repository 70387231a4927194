-- The plan rules 4 to 9 read as statements about neighbours: they pass exactly where these hold.
use Prim.Native.Nat.{ℕ, ◌+◌, ◌-◌, ◌%◌, ◌≤◌, ◌<◌}
use mathlib.Core.Path.{◌≡◌, refl, sym, subst, ◌∙◌}
use mathlib.Core.List.{List, [], ◌∷◌, ◌++◌, Memᴰ}
use mathlib.Core.Bool.{Bool, true, false, not, ◌&&◌, ◌||◌}
use mathlib.Core.Logic.{◌≢◌}
use native.Mathlib.Omega.{arith}
use lib.ListN.{length, get_or}
use lib.Seq.{slice}
use lib.Dec.{eqb, leb, ltb}
use borrow.Author.Tests.{eqb-true, eqb-false, eq-eqb, ne_eqb, leb-false, lt-leb, ltb-true, ltb-false, not-true, not-false}
use Rattle.std.specs.List.{list_any}
use Rattle.lists.specs.Tests.{member, repeats}
use Rattle.lists.proofs.Bools.{or_no, no_or, and_yes, yes_and, no-not, yes-not}
use Rattle.lists.proofs.Tests.{none_of, of_none, list_any-map}
use Rattle.lists.proofs.Members.{first_last}
use Rattle.model.specs.Outcome.{Outcome, passed, ◌>>◌, rule, require}
use Rattle.model.specs.Plan.{Plan, Dart, context_count, ring, adjacent, darts_from, outer, closes, bad_entry, bad_repeat, unreturned, entry_count, dart_count, bad_border, bad_face, plan_rules}
use Rattle.model.specs.Sound.{Sound}
use Rattle.model.proofs.Outcomes.{then_accepted, passed_then, require-passed, passed-require, rule-passes}
use Rattle.model.proofs.Plans.{ring_outside, adjacent-mem, mem-adjacent, adjacent-from}

module _ (p : Plan) where
  repeats_outside : (u : ℕ) → ((w : ℕ) → w < context_count p → repeats (ring p w) ≡ false) → repeats (ring p u) ≡ false
  repeats_outside u h = go (ltb u (context_count p)) refl
    where
      go : (t : Bool) → ltb u (context_count p) ≡ t → repeats (ring p u) ≡ false
      go true q = h u (ltb-true u (context_count p) q)
      go false q = subst (λ (r : List ℕ). repeats r ≡ false) (sym (ring_outside p u (ltb-false u (context_count p) q))) refl

  -- each rule, for one context
  entry-says : (u v : ℕ) → bad_entry p u ≡ false → adjacent p u v ≡ true → (v < context_count p) × (u ≢ v)
  unfolding bad_entry
  entry-says u v b e =
      let (h, k) = or_no (leb (context_count p) v) (eqb v u) (none_of (λ (w : ℕ). leb (context_count p) w || eqb w u) (ring p u) b v (adjacent-mem p u v e)) in
      (leb-false (context_count p) v h, λ q. eqb-false v u k (sym q))

  pub says-entry : (u : ℕ) → ((v : ℕ) → adjacent p u v ≡ true → v < context_count p) → ((v : ℕ) → adjacent p u v ≡ true → u ≢ v) → bad_entry p u ≡ false
  unfolding bad_entry
  says-entry u h k =
      of_none (λ (w : ℕ). leb (context_count p) w || eqb w u) (ring p u)
      (λ v m. no_or (leb (context_count p) v) (eqb v u) (lt-leb (context_count p) v (h v (mem-adjacent p u v m))) (ne_eqb v u (λ q. k v (mem-adjacent p u v m) (sym q))))

  return_says : (u v : ℕ) → unreturned p u ≡ false → adjacent p u v ≡ true → adjacent p v u ≡ true
  unfolding unreturned
  return_says u v b e = not-false (adjacent p v u) (none_of (λ (w : ℕ). not (adjacent p w u)) (ring p u) b v (adjacent-mem p u v e))

  says_return : (u : ℕ) → ((v : ℕ) → adjacent p u v ≡ true → adjacent p v u ≡ true) → unreturned p u ≡ false
  unfolding unreturned
  says_return u h = of_none (λ (w : ℕ). not (adjacent p w u)) (ring p u) (λ v m. no-not (adjacent p v u) (h v (mem-adjacent p u v m)))

  abbrev Border : ℕ → Type 0
  Border u = (get_or (ring p u) 0 u ≡ (u + 1) % 4) × (get_or (ring p u) (length (ring p u) - 1) u ≡ (u + 3) % 4) × (adjacent p u ((u + 2) % 4) ≡ false)

  border-says : (u : ℕ) → bad_border p u ≡ false → Border u
  unfolding bad_border adjacent
  border-says u b =
      let r = ring p u in
      let first = eqb (get_or r 0 u) ((u + 1) % 4) in
      let last = eqb (get_or r (length r - 1) u) ((u + 3) % 4) in
      let across = member ((u + 2) % 4) r in
      let (h, k) = and_yes (first && last) (not across) (not-false (first && last && not across) b) in
      let (f, g) = and_yes first last h in
      (eqb-true (get_or r 0 u) ((u + 1) % 4) f, eqb-true (get_or r (length r - 1) u) ((u + 3) % 4) g, not-true across k)

  says-border : (u : ℕ) → Border u → bad_border p u ≡ false
  unfolding bad_border adjacent
  says-border u b =
      let r = ring p u in
      let first = eqb (get_or r 0 u) ((u + 1) % 4) in
      let last = eqb (get_or r (length r - 1) u) ((u + 3) % 4) in
      let across = member ((u + 2) % 4) r in
      let (f, g, h) = b in
      no-not (first && last && not across)
      (yes_and (first && last) (not across) (yes_and first last (eq-eqb (get_or r 0 u) ((u + 1) % 4) f) (eq-eqb (get_or r (length r - 1) u) ((u + 3) % 4) g)) (yes-not across h))

  abbrev open_face : ℕ → ℕ → Bool
  open_face u v = not (outer (u, v) || closes p (u, v))

  face_says : (u v : ℕ) → bad_face p u ≡ false → adjacent p u v ≡ true → outer (u, v) ≡ false → closes p (u, v) ≡ true
  unfolding bad_face darts_from
  face_says u v b e o =
      let none : list_any (open_face u) (ring p u) ≡ false = list_any-map (λ (d : Dart). not (outer d || closes p d)) (λ (w : ℕ). (u, w)) (ring p u) ∙ b in
      let one : (outer (u, v) || closes p (u, v)) ≡ true = not-false (outer (u, v) || closes p (u, v)) (none_of (open_face u) (ring p u) none v (adjacent-mem p u v e)) in
      rw o at one

  says_face : (u : ℕ) → ((v : ℕ) → adjacent p u v ≡ true → outer (u, v) ≡ false → closes p (u, v) ≡ true) → bad_face p u ≡ false
  unfolding bad_face darts_from
  says_face u h = sym (list_any-map (λ (d : Dart). not (outer d || closes p d)) (λ (w : ℕ). (u, w)) (ring p u)) ∙ of_none (open_face u) (ring p u) (λ v m. go v (mem-adjacent p u v m) (outer (u, v)) refl)
    where
      go : (v : ℕ) → adjacent p u v ≡ true → (t : Bool) → outer (u, v) ≡ t → open_face u v ≡ false
      go v e true o = rw o
      go v e false o = rw (o, h v e o)

  -- the rules from the k-th on
  abbrev from8 : Outcome (Unit {0})
  from8 = rule 8 4 (bad_border p) >> rule 9 (context_count p) (bad_face p)

  abbrev from7 : Outcome (Unit {0})
  from7 = require (eqb (entry_count p) (dart_count (context_count p))) 7 0 >> from8

  abbrev from6 : Outcome (Unit {0})
  from6 = rule 6 (context_count p) (unreturned p) >> from7

  abbrev from5 : Outcome (Unit {0})
  from5 = rule 5 (context_count p) (bad_repeat p) >> from6

  -- The rules pass exactly where what they say holds
  pub sound : plan_rules p ≡ passed → Sound p
  unfolding plan_rules bad_repeat
  sound e =
      let n = context_count p in
      let (r₄, e₅) = then_accepted (rule 4 n (bad_entry p)) from5 tt e in
      let (r₅, e₆) = then_accepted (rule 5 n (bad_repeat p)) from6 tt e₅ in
      let (r₆, e₇) = then_accepted (rule 6 n (unreturned p)) from7 tt e₆ in
      let (r₇, e₈) = then_accepted (require (eqb (entry_count p) (dart_count n)) 7 0) from8 tt e₇ in
      let (r₈, r₉) = then_accepted (rule 8 4 (bad_border p)) (rule 9 n (bad_face p)) tt e₈ in
      let entry : (u v : ℕ) → adjacent p u v ≡ true → (v < n) × (u ≢ v) = λ u v a. entry-says u v ((rule-passes 4 n (bad_entry p)).0 r₄ u (adjacent-from p u v a)) a in
      let side : (u : ℕ) → u < 4 → Border u = λ u h. border-says u ((rule-passes 8 4 (bad_border p)).0 r₈ u h) in
      record {
        inside = λ u v a. (entry u v a).0;
        other = λ u v a. (entry u v a).1;
        no_repeat = λ u. repeats_outside u ((rule-passes 5 n (bad_repeat p)).0 r₅);
        returned = λ u v a. return_says u v ((rule-passes 6 n (unreturned p)).0 r₆ u (adjacent-from p u v a)) a;
        total = eqb-true (entry_count p) (dart_count n) (require-passed (eqb (entry_count p) (dart_count n)) 7 0 r₇);
        begins = λ u h. (side u h).0;
        ends = λ u h. (side u h).1;
        apart = λ u h. (side u h).2;
        closed = λ u v a. face_says u v ((rule-passes 9 n (bad_face p)).0 r₉ u (adjacent-from p u v a)) a;
      }

  pub sound-passes : Sound p → plan_rules p ≡ passed
  unfolding plan_rules bad_repeat
  sound-passes s =
      let n = context_count p in
      let r₄ = (rule-passes 4 n (bad_entry p)).1 (λ u h. says-entry u (s.inside u) (s.other u)) in
      let r₅ = (rule-passes 5 n (bad_repeat p)).1 (λ u h. s.no_repeat u) in
      let r₆ = (rule-passes 6 n (unreturned p)).1 (λ u h. says_return u (s.returned u)) in
      let r₇ = passed-require (eqb (entry_count p) (dart_count n)) 7 0 (eq-eqb (entry_count p) (dart_count n) s.total) in
      let r₈ = (rule-passes 8 4 (bad_border p)).1 (λ u h. says-border u (s.begins u h, s.ends u h, s.apart u h)) in
      let r₉ = (rule-passes 9 n (bad_face p)).1 (λ u h. says_face u (s.closed u)) in
      passed_then (rule 4 n (bad_entry p)) from5 r₄
      (passed_then (rule 5 n (bad_repeat p)) from6 r₅
      (passed_then (rule 6 n (unreturned p)) from7 r₆
      (passed_then (require (eqb (entry_count p) (dart_count n)) 7 0) from8 r₇
      (passed_then (rule 8 4 (bad_border p)) (rule 9 n (bad_face p)) r₈ r₉))))

  -- a ring without its first and its last entry
  abbrev pub inner_ring : ℕ → List ℕ
  inner_ring u = slice 1 (length (ring p u) - 1) (ring p u)

  module _ (s : Sound p) where
    -- a border ring: the next border context, the entries between, the border context before
    pub border_ring : (u : ℕ) → u < 4 → ring p u ≡ (u + 1) % 4 ∷ (inner_ring u ++ ((u + 3) % 4 ∷ []))
    border_ring u h = first_last (ring p u) u (long (ring p u) (s.begins u h) (s.ends u h)) ∙ (λ i. s.begins u h i ∷ (inner_ring u ++ (s.ends u h i ∷ [])))
      where
        long : (r : List ℕ) → get_or r 0 u ≡ (u + 1) % 4 → get_or r (length r - 1) u ≡ (u + 3) % 4 → 2 ≤ length r
        long [] a b = absurd (omega arith)
        long (c ∷ []) a b = absurd (omega arith)
        long (c ∷ d ∷ r) a b = omega arith

    pub border-next : (u : ℕ) → u < 4 → adjacent p u ((u + 1) % 4) ≡ true
    border-next u h = mem-adjacent p u ((u + 1) % 4) (subst (Memᴰ ((u + 1) % 4)) (sym (border_ring u h)) (Memᴰ.head refl))
