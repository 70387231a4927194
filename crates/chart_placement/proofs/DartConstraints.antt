-- The constraints of a labelled plan in an array: what the loop over the darts keeps.
use Prim.Native.Nat.{ℕ, zero, suc, ◌+◌, ◌-◌, ◌≤◌, ◌<◌}
use mathlib.Core.Path.{◌≡◌, refl, sym, ap, ◌∙◌}
use mathlib.Core.List.{List, [], ◌∷◌, ◌++◌, map, append_assoc, append-nil}
use mathlib.Core.Bool.{Bool, true, false, cond}
use native.Mathlib.Omega.{arith}
use lib.ListN.{length, get_or, set, take, drop, length-set, drop_of_length-le}
use lib.Seq.{drop-cons, take-suc-set}
use Rattle.std.proofs.lemmas.List.{take-set-le}
use lib.Dec.{eqb, ltb}
use borrow.Author.Tests.{ltb-true, ltb-false, lt-ltb, le-ltb, ne_eqb}
use Rattle.chart_placement.specs.DartConstraints.{ties, compass, dart_constraints, tied_to, constraint_end, gap_of, constraint_count, dart_constraint}
use Rattle.chart_solver.specs.declared.Constraint.{Constraint as Stored}
use Rattle.chart_solver.specs.Constraints.{rise, constraint_of, constraints_in}
use Rattle.lists.specs.Ranges.{from}
use Rattle.lists.specs.Parts.{flatten}
use Rattle.lists.proofs.Counts.{cond-le}
use Rattle.lists.proofs.Concats.{map-append}
use Rattle.model.specs.Plan.{Plan, Dart, context_count, neighbour, ring, darts_from, darts}
use Rattle.model.specs.Labels.{label_of}
use Rattle.model.specs.Chart.{Constraint, constraint, x_constraint, y_constraint, x_constraints, y_constraints, tie, slope}
use Rattle.rings.specs.Tables.{start_of, starts_of, size_of, table}
use Rattle.rings.proofs.Rows.{start-more, size-inside, size_outside, count-rows, ring-size, ring-at, ring_ends}

-- ---- lists joined
module _ {A B : Type 0} where
  join_append : (f : A → List B) (l m : List A) → flatten (map f (l ++ m)) ≡ flatten (map f l) ++ flatten (map f m)
  join_append f [] m = refl
  join_append f (a ∷ l) m = ap (λ (r : List B). f a ++ r) (join_append f l m) ∙ sym (append_assoc (f a) (flatten (map f l)) (flatten (map f m)))

-- the neighbour at i of u's ring, from its entry
pub dart-at : (starts sizes es : List ℕ) (n u i s e v : ℕ) → starts ≡ starts_of sizes → i < size_of sizes n u → s ≡ get_or starts u 0 → e ≡ get_or es (s + i) 0 → v ≡ neighbour e → v ≡ get_or (ring (table sizes es n) u) i 0
unfolding table
dart-at starts sizes es n u i s e v q h es₀ ee ev =
    ev ∙ ap neighbour (ee ∙ ap (λ (k : ℕ). get_or es (k + i) 0) (es₀ ∙ ap (λ (l : List ℕ). get_or l u 0) q)) ∙ sym (ring-at (starts_of sizes) sizes es n u i h)

pub neighbour_is : (e : ℕ) → neighbour e ≡ e
unfolding neighbour
neighbour_is e = refl

-- ---- the constraint that a dart asks for
pub constraint_count-le : (l : ℕ) → constraint_count l ≤ 1
unfolding constraint_count
constraint_count-le l = cond-le (ltb l 2) 1 0 1 (omega arith) (omega arith)

constraint_count-yes : (l : ℕ) → l < 2 → constraint_count l ≡ 1
unfolding constraint_count
constraint_count-yes l h = rw (lt-ltb l 2 h)

constraint_count-no : (l : ℕ) → 2 ≤ l → constraint_count l ≡ 0
unfolding constraint_count
constraint_count-no l h = rw (le-ltb l 2 h)

rise-gap : (upright : Bool) (l : ℕ) → rise (gap_of upright l) ≡ gap_of upright l
unfolding rise gap_of slope
rise-gap upright l = go upright (eqb l 0)
  where
    go : (s t : Bool) → rise (cond s (cond t 1 0) (cond t 0 1)) ≡ cond s (cond t 1 0) (cond t 0 1)
    go true true = refl
    go true false = refl
    go false true = refl
    go false false = refl

-- the constraint that is put for a dart is the one of its ends
asked_is : (upright : Bool) (l u v : ℕ) → constraint_of (dart_constraint upright l u v) ≡ constraint (constraint_end upright l u v) (constraint_end upright l v u) (gap_of upright l)
unfolding constraint_of
asked_is upright l u v = ap (constraint (constraint_end upright l u v) (constraint_end upright l v u)) (rise-gap upright l)

-- one more constraint behind the first k
more : (cs : List Stored) (k : ℕ) (c : Stored) {k' : ℕ} → k' ≡ suc k → k < length cs → constraints_in (take k' (set cs k c)) ≡ constraints_in (take k cs) ++ (constraint_of c ∷ [])
more cs k c q h = ap (λ (j : ℕ). constraints_in (take j (set cs k c))) q ∙ ap constraints_in (take-suc-set cs k c h) ∙ map-append constraint_of (take k cs) (c ∷ [])

-- the constraint that a number is at most another
abbrev pub level : ℕ → ℕ → Stored
level u v = record { low = u; high = v; gap = 0 }

abbrev dart_asks : Bool → ℕ → Dart → List Constraint
dart_asks upright l d = cond upright (y_constraint slope l d) (x_constraint slope l d)

asks_one : (upright : Bool) (l u v : ℕ) → l < 2 → dart_asks upright l (u, v) ≡ constraint (constraint_end upright l u v) (constraint_end upright l v u) (gap_of upright l) ∷ []
unfolding x_constraint y_constraint constraint_end gap_of
asks_one true zero u v h = refl
asks_one true (suc zero) u v h = refl
asks_one true (suc (suc l)) u v h = absurd (omega arith)
asks_one false zero u v h = refl
asks_one false (suc zero) u v h = refl
asks_one false (suc (suc l)) u v h = absurd (omega arith)

asks_none : (upright : Bool) (l u v : ℕ) → 2 ≤ l → dart_asks upright l (u, v) ≡ []
unfolding x_constraint y_constraint
asks_none upright l u v h =
    let a : eqb l 0 ≡ false = ne_eqb l 0 (λ q. absurd (omega arith)) in
    let b : eqb l 1 ≡ false = ne_eqb l 1 (λ q. absurd (omega arith)) in
    rw (a, b) (go upright)
  where
    go : (t : Bool) → cond {A = List Constraint} t [] [] ≡ []
    go true = refl
    go false = refl

-- ---- the loop over the darts
module _ (sizes es : List ℕ) (n : ℕ) (ls : List ℕ) (upright : Bool) where
  abbrev P : Plan
  P = table sizes es n

  constraints_of : Dart → List Constraint
  constraints_of d = dart_asks upright (label_of P ls d.0 d.1) d

  -- what the rings from u on ask for
  later : ℕ → List Constraint
  later u = flatten (map constraints_of (flatten (map (darts_from P) (from u (n - u)))))

  -- what the darts of u's ring from i on ask for, and the rings after it
  pub rest : ℕ → ℕ → List Constraint
  rest u i = flatten (map constraints_of (map (λ (v : ℕ). (u, v)) (drop i (ring P u)))) ++ later (suc u)

  size_of_lem : (u : ℕ) → length (ring P u) ≡ size_of sizes n u
  unfolding table
  size_of_lem u = ring-size (starts_of sizes) sizes es n u

  past-ring : (u i : ℕ) → size_of sizes n u ≤ i → rest u i ≡ later (suc u)
  unfolding rest
  past-ring u i h = let z = size_of_lem u in let e = drop_of_length-le (ring P u) {i = i} (omega arith) in rw e

  out : (u : ℕ) → n ≤ u → size_of sizes n u ≡ 0
  out u h = size_outside sizes n u h

  later_end : (u : ℕ) → n ≤ u → later u ≡ []
  unfolding later
  later_end u h = let z : n - u ≡ 0 = omega arith in rw z

  rest_end : (u i : ℕ) → n ≤ u → rest u i ≡ []
  rest_end u i h = let z = out u h in past-ring u i (omega arith) ∙ later_end (suc u) (omega arith)

  rest-inside : (u : ℕ) → u < n → rest u 0 ≡ later u
  unfolding rest later darts_from
  rest-inside u h = let z : n - u ≡ suc (n - suc u) = omega arith in rw z (sym (join_append constraints_of (darts_from P u) (flatten (map (darts_from P) (from (suc u) (n - suc u))))))

  rest-first : (u : ℕ) → rest u 0 ≡ later u
  rest-first u = go (ltb u n) refl
    where
      go : (t : Bool) → ltb u n ≡ t → rest u 0 ≡ later u
      go true q = rest-inside u (ltb-true u n q)
      go false q = let h = ltb-false u n q in rest_end u 0 h ∙ sym (later_end u h)

  rest-next : (u i : ℕ) → size_of sizes n u ≤ i → rest u i ≡ rest (suc u) 0
  rest-next u i h = past-ring u i h ∙ sym (rest-first (suc u))

  rest-dart : (u i : ℕ) → i < size_of sizes n u → rest u i ≡ constraints_of (u, get_or (ring P u) i 0) ++ rest u (suc i)
  unfolding rest
  rest-dart u i h =
      let z = size_of_lem u in
      let e = drop-cons (ring P u) i 0 (omega arith) in
      ap (λ (l : List ℕ). flatten (map constraints_of (map (λ (v : ℕ). (u, v)) l)) ++ later (suc u)) e
      ∙ append_assoc (constraints_of (u, get_or (ring P u) i 0)) (flatten (map constraints_of (map (λ (v : ℕ). (u, v)) (drop (suc i) (ring P u))))) (later (suc u))

  all-later : later 0 ≡ compass upright P ls
  unfolding later constraints_of compass x_constraints y_constraints darts table
  all-later = let z : n - 0 ≡ context_count P = sym (count-rows (starts_of sizes) sizes es n ∙ omega arith) in ap (λ (k : ℕ). flatten (map constraints_of (flatten (map (darts_from P) (from 0 k))))) z ∙ same upright
    where
      same : (t : Bool) → flatten (map (λ (d : Dart). dart_asks t (label_of P ls d.0 d.1) d) (darts P)) ≡ cond t (y_constraints slope P ls) (x_constraints slope P ls)
      same true = refl
      same false = refl

  pub record Asking (cs : List Stored) (k u i : ℕ) : Type 0 where
    pub reached : u ≤ n
    pub within : i ≤ size_of sizes n u
    pub few : k ≤ 2 + start_of sizes u + i
    pub least : 2 ≤ k
    pub long : 2 + start_of sizes n ≤ length cs
    pub same : constraints_in (take k cs) ++ rest u i ≡ dart_constraints upright P ls

  -- North's tie, at first
  pub asking_start : (end : ℕ) → end ≡ tied_to upright → (cs : List Stored) → 2 + start_of sizes n ≤ length cs → Asking (set (set cs 0 (level 0 end)) 1 (level end 0)) 2 0 0
  unfolding ties tie tied_to constraint_of rise
  asking_start end e cs h = record {
    reached = omega arith;
    within = omega arith;
    few = omega arith;
    least = omega arith;
    long = long;
    same = (λ i. tied i ++ (rest-first 0 ∙ all-later) i);
  }
    where
      pair : (t : Bool) → cond t (constraint 0 3 0 ∷ constraint 3 0 0 ∷ []) (constraint 0 1 0 ∷ constraint 1 0 0 ∷ []) ≡ constraint 0 (cond t 3 1) 0 ∷ constraint (cond t 3 1) 0 0 ∷ []
      pair true = refl
      pair false = refl

      first : length (set cs 0 (level 0 end)) ≡ length cs
      first = length-set cs 0 (level 0 end)

      long : 2 + start_of sizes n ≤ length (set (set cs 0 (level 0 end)) 1 (level end 0))
      long = let z = first in let y = length-set (set cs 0 (level 0 end)) 1 (level end 0) in omega arith

      tied : constraints_in (take 2 (set (set cs 0 (level 0 end)) 1 (level end 0))) ≡ ties upright
      tied =
          more (set cs 0 (level 0 end)) 1 (level end 0) refl (let z = first in omega arith)
          ∙ ap (λ (l : List Constraint). l ++ (constraint end 0 0 ∷ [])) (more cs 0 (level 0 end) refl (omega arith))
          ∙ ap (λ (k : ℕ). constraint 0 k 0 ∷ constraint k 0 0 ∷ []) e ∙ sym (pair upright)

  module _ {cs : List Stored} {k u i : ℕ} (inv : Asking cs k u i) where
    -- there is room for one more
    pub asking_room : u < n → i < size_of sizes n u → k < length cs
    asking_room h b = let l = inv.long in let f = inv.few in let r = ring_ends sizes u n h in let s = size-inside sizes n u h in omega arith

    -- a dart more
    pub asking_dart : {i' k' : ℕ} (v l : ℕ) → i' ≡ suc i → k < length cs → i < size_of sizes n u → v ≡ get_or (ring P u) i 0 → l ≡ label_of P ls u v
        → (c : Stored) → c ≡ dart_constraint upright l u v → k' ≡ k + constraint_count l → Asking (set cs k c) k' u i'
    unfolding constraints_of
    asking_dart {i'} {k'} v l q room h ev el c ec ek =
        let one = constraint_count-le l in
        let f = inv.few in
        let m = inv.least in
        record {
          reached = inv.reached;
          within = omega arith;
          few = omega arith;
          least = omega arith;
          long = let l = inv.long in let z = length-set cs k c in omega arith;
          same = (λ t. put (ltb l 2) refl t ++ rest u (q t)) ∙ append_assoc (constraints_in (take k cs)) (dart_asks upright l (u, v)) (rest u (suc i)) ∙ ap (λ (r : List Constraint). constraints_in (take k cs) ++ r) (sym step) ∙ inv.same;
        }
      where
        step : rest u i ≡ dart_asks upright l (u, v) ++ rest u (suc i)
        step = rest-dart u i h ∙ ap (λ (w : ℕ). dart_asks upright (label_of P ls u w) (u, w) ++ rest u (suc i)) (sym ev) ∙ ap (λ (j : ℕ). dart_asks upright j (u, v) ++ rest u (suc i)) (sym el)

        put : (t : Bool) → ltb l 2 ≡ t → constraints_in (take k' (set cs k c)) ≡ constraints_in (take k cs) ++ dart_asks upright l (u, v)
        put true s =
            let kept : constraint_count l ≡ 1 = constraint_count-yes l (ltb-true l 2 s) in
            more cs k c (omega arith) room
            ∙ ap (λ (r : List Constraint). constraints_in (take k cs) ++ r) (ap (λ (d : Constraint). d ∷ []) (ap constraint_of ec ∙ asked_is upright l u v) ∙ sym (asks_one upright l u v (ltb-true l 2 s)))
        put false s =
            let kept : constraint_count l ≡ 0 = constraint_count-no l (ltb-false l 2 s) in
            let stay : k' ≡ k = omega arith in
            ap (λ (j : ℕ). constraints_in (take j (set cs k c))) stay
            ∙ ap constraints_in (take-set-le k cs k c (omega arith))
            ∙ sym (append-nil (constraints_in (take k cs)))
            ∙ ap (λ (r : List Constraint). constraints_in (take k cs) ++ r) (sym (asks_none upright l u v (ltb-false l 2 s)))

    -- the next ring
    pub asking_next : {u' : ℕ} → u' ≡ suc u → u < n → size_of sizes n u ≤ i → Asking cs k u' 0
    asking_next {u'} q h b = record {
      reached = omega arith;
      within = omega arith;
      few = let f = inv.few in let w = inv.within in let m = start-more sizes u in let s = size-inside sizes n u h in let z : start_of sizes u' ≡ start_of sizes (suc u) = ap (start_of sizes) q in omega arith;
      least = inv.least;
      long = inv.long;
      same = ap (λ (r : List Constraint). constraints_in (take k cs) ++ r) (ap (λ (w : ℕ). rest w 0) q ∙ sym (rest-next u i b)) ∙ inv.same;
    }

    pub asking_end : n ≤ u → constraints_in (take k cs) ≡ dart_constraints upright P ls
    asking_end h = sym (append-nil (constraints_in (take k cs))) ∙ ap (λ (r : List Constraint). constraints_in (take k cs) ++ r) (sym (rest_end u i h)) ∙ inv.same

    -- all of them fit the array
    pub asking_fits : k ≤ length cs
    asking_fits = let f = inv.few in let w = inv.within in go (ltb u n) refl
      where
        go : (b : Bool) → ltb u n ≡ b → k ≤ length cs
        go true e = let l = inv.long in let h = ltb-true u n e in let f = inv.few in let w = inv.within in let r = ring_ends sizes u n h in let s = size-inside sizes n u h in omega arith
        go false e =
            let l = inv.long in
            let h = ltb-false u n e in
            let z = out u h in
            let f = inv.few in
            let w = inv.within in
            let r = inv.reached in
            let q : start_of sizes u ≡ start_of sizes n = ap (start_of sizes) (omega arith) in
            omega arith
