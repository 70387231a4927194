-- What the label rules say of one dart and of one context, in each case that the code tells apart. They ask no more of a label than its mark tells: they cannot tell the labels from 5 on apart, each of which is none.
use Prim.Native.Nat.{ℕ, zero, suc, ◌≤◌, ◌<◌}
use mathlib.Core.Path.{◌≡◌, refl, sym, ap, ◌∙◌}
use mathlib.Core.List.{List}
use mathlib.Core.Bool.{Bool, true, false, cond, not, ◌&&◌, ◌||◌, or-false}
use native.Mathlib.Omega.{arith}
use lib.Dec.{eqb, ltb, leb}
use borrow.Author.Tests.{eqb-true, eqb-false, eq-eqb, ne_eqb, ltb-true, ltb-false, lt-ltb, le-ltb, lt-leb, le-leb}
use Rattle.std.specs.List.{list_any}
use Rattle.lists.proofs.Tests.{list_any_same, list_any-or}
use Rattle.model.specs.Plan.{Plan, ring, border}
use Rattle.model.specs.Labels.{border_label, unlabelled, label_of, labels_around, turned, due, bad_dart, not_due, four_runs, bad_ring, breaks}
use Rattle.label_rules.specs.LabelBy.{label_mark, across, wrong_dart}

-- asked whether a label is one that is below none
mark_is : (l k : ℕ) → k < unlabelled → eqb (label_mark l) (label_mark k) ≡ eqb l k
unfolding label_mark
mark_is l k h = go (eqb l k) refl
  where
    go : (b : Bool) → eqb l k ≡ b → eqb (label_mark l) (label_mark k) ≡ eqb l k
    go true q = let e = eqb-true l k q in eq-eqb (label_mark l) (label_mark k) (ap label_mark e) ∙ sym q
    go false q = ne_eqb (label_mark l) (label_mark k) (λ z. eqb-false l k q (omega arith)) ∙ sym q

-- asked for the label two quarters on
mark-across : (l : ℕ) → l < 4 → across (label_mark l) ≡ label_mark (turned l 2)
unfolding label_mark across
mark-across l h = omega arith

-- asked of a dart with label l, whose reverse has label m
mark_rules : (ends : Bool) (l m : ℕ)
    → cond ends (not (eqb (label_mark l) (label_mark border_label))) (not (leb 2 (label_mark l) && eqb (label_mark m) (across (label_mark l))))
    ≡ not (cond ends (eqb l border_label) (ltb l 4 && eqb m (turned l 2)))
unfolding label_mark
mark_rules true l m = ap not (mark_is l border_label (omega arith))
mark_rules false l m = ap not (go (ltb l 4) refl)
  where
    go : (b : Bool) → ltb l 4 ≡ b → (leb 2 (label_mark l) && eqb (label_mark m) (across (label_mark l))) ≡ (ltb l 4 && eqb m (turned l 2))
    go true q =
        let x = ltb-true l 4 q in
        rw (q, le-leb 2 (label_mark l) (omega arith)) (ap (eqb (label_mark m)) (mark-across l x) ∙ mark_is m (turned l 2) (omega arith))
    go false q = let x = ltb-false l 4 q in rw (q, lt-leb 2 (label_mark l) (omega arith))

-- the label due at a border context is below none
due_low : (u : ℕ) → u < 4 → due u < unlabelled
unfolding due
due_low zero h = omega arith
due_low (suc zero) h = omega arith
due_low (suc (suc zero)) h = omega arith
due_low (suc (suc (suc zero))) h = omega arith
due_low (suc (suc (suc (suc u)))) h = absurd (omega arith)

-- two tests of each entry in one pass, the second under a condition
one_pass : (f g : ℕ → Bool) (b r : Bool) (l : List ℕ) → (list_any (λ (v : ℕ). f v || (b && g v)) l || (not b && r)) ≡ (list_any f l || cond b (list_any g l) r)
one_pass f g true r l = or-false (list_any (λ (v : ℕ). f v || g v) l) ∙ list_any-or f g l
one_pass f g false r l = ap (λ (t : Bool). t || r) (list_any_same (λ (v : ℕ). f v || false) f l (λ v. or-false (f v)))

module _ (p : Plan) (ls : List ℕ) (u : ℕ) where
  -- ---- the dart from u to v, whose label has the mark x
  module _ (v : ℕ) {x : ℕ} (own : x ≡ label_mark (label_of p ls u v)) where
    -- by its mark and that of its reverse
    bad-marks : bad_dart p ls u v ≡ cond (border u && border v) (not (eqb x (label_mark border_label))) (not (leb 2 x && eqb (label_mark (label_of p ls v u)) (across x)))
    unfolding bad_dart
    bad-marks =
        sym
        ((λ i. cond (border u && border v) (not (eqb (own i) (label_mark border_label))) (not (leb 2 (own i) && eqb (label_mark (label_of p ls v u)) (across (own i)))))
        ∙ mark_rules (border u && border v) (label_of p ls u v) (label_of p ls v u))

    -- between border contexts
    pub bad_border : {b : Bool} {y : ℕ} → b ≡ (border u && border v) → b ≡ true → y ≡ label_mark border_label → not (eqb x y) ≡ bad_dart p ls u v
    bad_border e t q = ap (λ (k : ℕ). not (eqb x k)) q ∙ sym (bad-marks ∙ rw (sym e ∙ t))

    -- elsewhere: no direction
    pub bad_none : {b : Bool} → b ≡ (border u && border v) → b ≡ false → x < 2 → true ≡ bad_dart p ls u v
    bad_none e t h = sym (bad-marks ∙ rw (sym e ∙ t, lt-leb 2 x h))

    -- elsewhere: a direction, and the reverse has the mark y
    pub bad_pair : {b : Bool} {y z : ℕ} → b ≡ (border u && border v) → b ≡ false → 2 ≤ x → y ≡ label_mark (label_of p ls v u) → z ≡ across x → not (eqb y z) ≡ bad_dart p ls u v
    bad_pair e t h q w = (λ i. not (eqb (q i) (w i))) ∙ sym (bad-marks ∙ rw (sym e ∙ t, le-leb 2 x h))

    -- from a border context, the label due
    pub due_missed : {y d : ℕ} → u < 4 → 4 ≤ v → y ≡ label_mark d → d ≡ due u → not (eqb x y) ≡ not_due p ls u v
    unfolding not_due
    due_missed h k q w =
        (λ i. not (eqb (own i) ((q ∙ ap label_mark w) i)))
        ∙ ap not (mark_is (label_of p ls u v) (due u) (due_low u h))
        ∙ sym (rw (le-ltb v 4 k))

  -- between border contexts no other label is due
  pub due_none : (v : ℕ) → v < 4 → false ≡ not_due p ls u v
  unfolding not_due
  due_none v h = sym (rw (lt-ltb v 4 h))

  -- ---- the context u, of which b tells whether one of its darts is wrong
  module _ {b : Bool} (darts : b ≡ list_any (wrong_dart p ls u) (ring p u)) where
    breaks_by : (b || (not (border u) && not (four_runs (labels_around p ls u)))) ≡ breaks p ls u
    unfolding wrong_dart breaks bad_ring
    breaks_by = ap (λ (t : Bool). t || (not (border u) && not (four_runs (labels_around p ls u)))) darts ∙ one_pass (bad_dart p ls u) (not_due p ls u) (border u) (not (four_runs (labels_around p ls u))) (ring p u)

    -- one is
    pub breaks_dart : b ≡ true → true ≡ breaks p ls u
    breaks_dart e = sym (ap (λ (t : Bool). t || (not (border u) && not (four_runs (labels_around p ls u)))) e) ∙ breaks_by

    -- none is, and u is a border context
    pub breaks_border : b ≡ false → u < 4 → false ≡ breaks p ls u
    breaks_border e h = sym (rw (e, lt-ltb u 4 h)) ∙ breaks_by

    -- none is, and u is an inner context
    pub breaks_runs : b ≡ false → 4 ≤ u → {d : Bool} {m : List ℕ} → d ≡ four_runs m → m ≡ labels_around p ls u → not d ≡ breaks p ls u
    breaks_runs e h q w = ap not (q ∙ ap four_runs w) ∙ sym (rw (e, le-ltb u 4 h)) ∙ breaks_by
