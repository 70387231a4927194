-- An edge was named before exactly where the label of its dart differs from the old one: on every plan, whether or not it keeps the rules.
use Prim.Native.Nat.{ℕ, ◌+◌, ◌*◌, ◌/◌, ◌%◌, ◌≤◌}
use mathlib.Core.Path.{◌≡◌, refl, sym, ap, ◌∙◌}
use mathlib.Core.Logic.{◌≢◌}
use mathlib.Core.List.{List, [], ◌∷◌, ◌++◌}
use mathlib.Core.Bool.{Bool, true, false, cond, not, ◌&&◌, ◌||◌, or-true, and_comm, or_comm}
use native.Mathlib.Omega.{arith}
use lib.ListN.{length, get_or}
use lib.Seq.{get_or-set_same, get_or-set_other}
use lib.Dec.{eqb}
use borrow.Author.Tests.{eqb-true, eq-eqb, ne_eqb, not-false}
use Rattle.std.specs.List.{list_any}
use Rattle.lists.proofs.Bools.{and_yes, yes_and, both}
use Rattle.lists.proofs.Tests.{list_any-append}
use Rattle.model.specs.Plan.{Plan, Dart, adjacent, same_dart, entry_count}
use Rattle.model.specs.Labels.{unlabelled, label_of, turned, put_label}
use Rattle.model.specs.Turn.{same_edge, turn_dart}
use Rattle.labels.proofs.Darts.{Place, place_inside, label_at-place, put_label-at-place, put_nowhere, place-apart}
use Rattle.model.proofs.LabelCounts.{put_long}

-- a dart
abbrev pub dart : ℕ → ℕ → Dart
dart u v = (u, v)

-- ---- the label of a dart after some dart is turned
module _ (p : Plan) (q : ℕ) (ls : List ℕ) (room : entry_count p ≤ length ls) where
  -- of the same dart: turned
  label_own : (u v : ℕ) → adjacent p u v ≡ true → label_of p (turn_dart p q (dart u v) ls) u v ≡ turned (label_of p ls u v) q
  unfolding turn_dart
  label_own u v d =
      let h = place_inside p u v d in
      let l = turned (label_of p ls u v) q in
      label_at-place p u v d (put_label p u v l ls)
      ∙ ap (λ (m : List ℕ). get_or m (Place p u v) unlabelled) (put_label-at-place p u v d ls l)
      ∙ get_or-set_same ls (Place p u v) l unlabelled (omega arith)

  -- of another dart: as it was
  label_other : (u v a b : ℕ) → adjacent p a b ≡ true → same_dart (dart a b) (dart u v) ≡ false → label_of p (turn_dart p q (dart u v) ls) a b ≡ label_of p ls a b
  unfolding turn_dart
  label_other u v a b d apart = go (adjacent p u v) refl
    where
      -- the other dart's label stands at another position
      other : adjacent p u v ≡ true → Place p a b ≢ Place p u v
      other e s =
          let (x, y) = place-apart p a b u v d e s in
          both (same_dart (dart a b) (dart u v)) (yes_and (eqb a u) (eqb b v) (eq-eqb a u x) (eq-eqb b v y)) apart

      go : (t : Bool) → adjacent p u v ≡ t → label_of p (put_label p u v (turned (label_of p ls u v) q) ls) a b ≡ label_of p ls a b
      go true e =
          label_at-place p a b d (put_label p u v (turned (label_of p ls u v) q) ls)
          ∙ ap (λ (m : List ℕ). get_or m (Place p a b) unlabelled) (put_label-at-place p u v e ls (turned (label_of p ls u v) q))
          ∙ get_or-set_other ls (Place p u v) (Place p a b) (turned (label_of p ls u v) q) unlabelled (other e)
          ∙ sym (label_at-place p a b d ls)
      go false e = ap (λ (m : List ℕ). label_of p m a b) (put_nowhere p u v e ls (turned (label_of p ls u v) q))

  -- of any dart
  label_turned : (u v a b : ℕ) → adjacent p a b ≡ true → label_of p (turn_dart p q (dart u v) ls) a b ≡ cond (same_dart (dart a b) (dart u v)) (turned (label_of p ls a b) q) (label_of p ls a b)
  label_turned u v a b d = go (same_dart (dart a b) (dart u v)) refl
    where
      go : (t : Bool) → same_dart (dart a b) (dart u v) ≡ t → label_of p (turn_dart p q (dart u v) ls) a b ≡ cond t (turned (label_of p ls a b) q) (label_of p ls a b)
      go true e =
          let (x, y) = and_yes (eqb a u) (eqb b v) e in
          let z : dart u v ≡ dart a b = λ i. (sym (eqb-true a u x) i, sym (eqb-true b v y) i) in
          ap (λ (c : Dart). label_of p (turn_dart p q c ls) a b) z ∙ label_own a b d
      go false e = label_other u v a b d e

-- a turned dart leaves the list as long
pub turn_long : (p : Plan) (q : ℕ) (d : Dart) (ls : List ℕ) → length (turn_dart p q d ls) ≡ length ls
unfolding turn_dart
turn_long p q d ls = put_long p d.0 d.1 (turned (label_of p ls d.0 d.1) q) ls

-- ---- an odd number of quarters, or twice that, leads to another label
-- a dart is turned once
once_other : (l q : ℕ) → q % 2 ≡ 1 → turned l q ≢ l
once_other l q h e = omega arith

-- a dart from a context to itself is turned twice
twice_other : (l q : ℕ) → q % 2 ≡ 1 → turned (turned l q) q ≢ l
twice_other l q h e =
    let x = (l + q) / 4 in
    let y = ((l + q) % 4 + q) / 4 in
    let even : q ≡ 2 * (x + y) = omega arith in
    not_odd q (x + y) even h
  where
    -- no number is even and odd
    not_odd : (q k : ℕ) → q ≡ 2 * k → q % 2 ≡ 1 → ⊥
    not_odd q k e h = omega arith

-- ---- an edge named in the other order
-- it is the same edge
edge_swap : (u v : ℕ) (d : Dart) → same_edge (dart v u) d ≡ same_edge (dart u v) d
unfolding same_edge
edge_swap u v d =
    (λ i. and_comm (eqb v d.0) (eqb u d.1) i || and_comm (eqb v d.1) (eqb u d.0) i)
    ∙ or_comm (eqb u d.1 && eqb v d.0) (eqb u d.0 && eqb v d.1)

-- it was named before in both orders or in neither
named_swap : (u v : ℕ) (ds : List Dart) → list_any (same_edge (dart v u)) ds ≡ list_any (same_edge (dart u v)) ds
named_swap u v [] = refl
named_swap u v (d ∷ ds) = λ i. edge_swap u v d i || named_swap u v ds i

-- ---- what the labels tell of the edges named
pub record Marks (p : Plan) (old : List ℕ) (ds : List Dart) (new : List ℕ) : Type 0 where
  pub long : length new ≡ length old
  pub same : (a b : ℕ) → adjacent p a b ≡ true → list_any (same_edge (dart a b)) ds ≡ not (eqb (label_of p new a b) (label_of p old a b))

-- nothing is named: the old labels
pub marks-start : (p : Plan) (old : List ℕ) → Marks p old [] old
marks-start p old = record { long = refl; same = λ a b d. sym (ap not (eq-eqb (label_of p old a b) (label_of p old a b) refl)) }

-- an edge that was not named before is named, and both its darts are turned
module _ {p : Plan} {old : List ℕ} {ds : List Dart} {new : List ℕ} (inv : Marks p old ds new) (q : ℕ) (odd : q % 2 ≡ 1) (room : entry_count p ≤ length old) where
  module _ (u v : ℕ) (fresh : list_any (same_edge (dart u v)) ds ≡ false) where
    module _ (a b : ℕ) (d : adjacent p a b ≡ true) where
      -- of this edge: the label is another
      renamed : (x : ℕ) → list_any (same_edge (dart a b)) ds ≡ list_any (same_edge (dart u v)) ds → (label_of p new a b ≡ label_of p old a b → x ≢ label_of p old a b)
          → (list_any (same_edge (dart a b)) ds || true) ≡ not (eqb x (label_of p old a b))
      renamed x e other =
          or-true (list_any (same_edge (dart a b)) ds)
          ∙ sym (ap not (ne_eqb x (label_of p old a b) (other (eqb-true (label_of p new a b) (label_of p old a b) (not-false (eqb (label_of p new a b) (label_of p old a b)) (sym (inv.same a b d) ∙ e ∙ fresh))))))

      -- the dart itself: named before exactly where the edge was
      forth : same_dart (dart a b) (dart u v) ≡ true → list_any (same_edge (dart a b)) ds ≡ list_any (same_edge (dart u v)) ds
      forth e = let (x, y) = and_yes (eqb a u) (eqb b v) e in λ i. list_any (same_edge (dart (eqb-true a u x i) (eqb-true b v y i))) ds

      -- its reverse: named before exactly where the edge was
      reverse : same_dart (dart a b) (dart v u) ≡ true → list_any (same_edge (dart a b)) ds ≡ list_any (same_edge (dart u v)) ds
      reverse e = let (x, y) = and_yes (eqb a v) (eqb b u) e in (λ i. list_any (same_edge (dart (eqb-true a v x i) (eqb-true b u y i))) ds) ∙ named_swap u v ds

      -- the label of any dart after both darts of the edge are turned
      label_all : label_of p (turn_dart p q (dart u v) (turn_dart p q (dart v u) new)) a b
          ≡ cond (same_dart (dart a b) (dart u v))
          (turned (cond (same_dart (dart a b) (dart v u)) (turned (label_of p new a b) q) (label_of p new a b)) q)
          (cond (same_dart (dart a b) (dart v u)) (turned (label_of p new a b) q) (label_of p new a b))
      label_all =
          let l = inv.long in
          let m = turn_long p q (dart v u) new in
          label_turned p q (turn_dart p q (dart v u) new) (omega arith) u v a b d
          ∙ ap (λ (x : ℕ). cond (same_dart (dart a b) (dart u v)) (turned x q) x) (label_turned p q new (omega arith) v u a b d)

      -- the dart, its reverse, both, or neither
      cases : (s t : Bool) → same_dart (dart a b) (dart u v) ≡ s → same_dart (dart a b) (dart v u) ≡ t
          → (list_any (same_edge (dart a b)) ds || (s || t || false))
          ≡ not (eqb (cond s (turned (cond t (turned (label_of p new a b) q) (label_of p new a b)) q) (cond t (turned (label_of p new a b) q) (label_of p new a b))) (label_of p old a b))
      cases true true e f = renamed (turned (turned (label_of p new a b) q) q) (forth e) (λ z w. twice_other (label_of p new a b) q odd (w ∙ sym z))
      cases true false e f = renamed (turned (label_of p new a b) q) (forth e) (λ z w. once_other (label_of p new a b) q odd (w ∙ sym z))
      cases false true e f = renamed (turned (label_of p new a b) q) (reverse f) (λ z w. once_other (label_of p new a b) q odd (w ∙ sym z))
      cases false false e f = or_comm (list_any (same_edge (dart a b)) ds) false ∙ inv.same a b d

      -- named by now exactly where the label is another
      now_named : list_any (same_edge (dart a b)) (ds ++ (dart u v ∷ [])) ≡ not (eqb (label_of p (turn_dart p q (dart u v) (turn_dart p q (dart v u) new)) a b) (label_of p old a b))
      unfolding same_edge
      now_named =
          list_any-append (same_edge (dart a b)) ds (dart u v ∷ [])
          ∙ cases (same_dart (dart a b) (dart u v)) (same_dart (dart a b) (dart v u)) refl refl
          ∙ ap (λ (x : ℕ). not (eqb x (label_of p old a b))) (sym label_all)

    pub marks-on : Marks p old (ds ++ (dart u v ∷ [])) (turn_dart p q (dart u v) (turn_dart p q (dart v u) new))
    marks-on = record { long = turn_long p q (dart u v) (turn_dart p q (dart v u) new) ∙ turn_long p q (dart v u) new ∙ inv.long; same = now_named }
