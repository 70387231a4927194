-- Faces counted one after another: over the entries of a ring, and over all contexts.
use Rattle.std.proofs.Common.{◌≡◌, ℕ, zero, suc, ◌+◌, ◌-◌, ◌<◌, ◌≤◌, Bool, true, false, cond, ◌&&◌, ltb, List, [], ◌∷◌, ◌++◌, map, length, get_or, ℤ, sym, refl, ap, ◌∙◌, add-one, arith, le-ltb, lt-ltb}
use mathlib.Core.List.{map-map}
use denote.Param.Members.{Mut}
use Rattle.std.specs.Fn.{Called}
use Rattle.std.specs.Iterator.{Drains}
use Rattle.std.specs.List.{FoldsTo, fold, range_with_len}
use Rattle.std.proofs.iter.Yields.{nat_range_steps}
use Rattle.std.proofs.lemmas.Iterator.{YieldsList-from_range}
use Rattle.std.proofs.lemmas.Iterator.Consumers.{fold_from_yields_List}
use Rattle.lists.specs.Ranges.{from}
use Rattle.lists.specs.Parts.{flatten}
use Rattle.lists.specs.Spans.{stretch}
use Rattle.lists.proofs.Stretches.{span_whole}
use Rattle.model.specs.Plan.{Plan, Dart, Face, context_count, ring, darts_from, step, walk, on_inner_face, faces_from, faces}
use Rattle.model.specs.Scan.{inner_face}
use Rattle.model.specs.Chart.{Chart}
use Rattle.model.specs.Geometry.{area}
use Rattle.chart_audit.specs.declared.Areas.{Areas}
use Rattle.chart_audit.specs.Surveys.{no_area, with_area, with_faces, faces_on, surveyed}
use Rattle.sheet.proofs.Reading.{rings-held}
use Rattle.faces.proofs.FaceTests.{inner_third}

-- ---- faces in two parts
counted-both : (k : Chart) (l m : List Face) (s : Areas) → with_faces k (l ++ m) s ≡ with_faces k m (with_faces k l s)
unfolding with_faces
counted-both k [] m s = refl
counted-both k (f ∷ l) m s = counted-both k l m (with_area (area k f) s)

-- ---- the dart from u to v
low : (o l h : Bool) → l ≡ false → (o && l && h) ≡ false
low true l h e = rw e
low false l h e = refl

low-third : (o l h : Bool) → h ≡ false → (o && l && h) ≡ false
low-third true true h e = e
low-third true false h e = refl
low-third false l h e = refl

module _ (p : Plan) (k : Chart) (u v : ℕ) (s : Areas) where
  none : (on_inner_face p (u, v) && ltb u v && ltb u (step p (u, v)).1) ≡ false → s ≡ with_faces k (faces_on p u v) s
  unfolding faces_on with_faces
  none e = sym (rw e)

  pub dart-low : v ≤ u → s ≡ with_faces k (faces_on p u v) s
  dart-low h = none (low (on_inner_face p (u, v)) (ltb u v) (ltb u (step p (u, v)).1) (le-ltb u v h))

  module _ {w : ℕ} (third : w ≡ (step p (u, v)).1) where
    pub third-low : w ≤ u → s ≡ with_faces k (faces_on p u v) s
    third-low h = none (low-third (on_inner_face p (u, v)) (ltb u v) (ltb u (step p (u, v)).1) (le-ltb u (step p (u, v)).1 (omega arith)))

    face_there : {f : Bool} → f ≡ inner_face p u v w → f ≡ on_inner_face p (u, v)
    face_there e = e ∙ inner_third p u v third

    pub no_face : {f : Bool} → f ≡ inner_face p u v w → f ≡ false → s ≡ with_faces k (faces_on p u v) s
    no_face e h = none (rw (sym (face_there e) ∙ h))

    pub one_face : {f : Bool} → f ≡ inner_face p u v w → f ≡ true → u < v → u < w → {a : ℤ} → a ≡ area k (u ∷ v ∷ w ∷ []) → with_area a s ≡ with_faces k (faces_on p u v) s
    unfolding faces_on with_faces walk
    one_face e h l m q =
        let i : on_inner_face p (u, v) ≡ true = sym (face_there e) ∙ h in
        let t : ltb u (step p (u, v)).1 ≡ true = lt-ltb u (step p (u, v)).1 (omega arith) in
        ap (λ (x : ℤ). with_area x s) (q ∙ ap (λ (x : ℕ). area k (u ∷ v ∷ x ∷ [])) third) ∙ sym (rw (i, lt-ltb u v l, t))

-- ---- what `fold` gives of the numbers from 0 up to e, where the closure is a step that leaves what it captures as it is
folds_range : {F C : Type 0} {g : Mut F (C × (ℕ × Unit {0})) C} (h : C → ℕ → C) (e : ℕ) {f : F} {init r : C}
    → (xs : List ℕ) × (q : F) × Drains nat_range_steps (record { start = 0; end = e }) xs × FoldsTo {P = F × C} (λ a x b. Called g a.0 (a.1, (x, tt)) b.1 b.0) (f, init) xs (q, r)
    → ((a : C) (x : ℕ) (b : C) (q : F) → Called g f (a, (x, tt)) b q → (q ≡ f) × (b ≡ h a x))
    → r ≡ fold h init (range_with_len 0 e)
folds_range {g = g} h e {init = init} {r = r} ran acts = fold_from_yields_List g h init r ran (YieldsList-from_range 0 e e refl (omega arith)) acts

-- ---- the ring of u: (0..size).fold(s, |all, i| with_dart(all, u, ring[i]))
entries_from : (p : Plan) (k : Chart) (u i n : ℕ) (s : Areas)
    → fold (λ (a : Areas) (x : ℕ). with_faces k (faces_on p u (get_or (ring p u) x 0)) a) s (range_with_len i n) ≡ with_faces k (flatten (map (faces_on p u) (stretch (ring p u) i n))) s
unfolding with_faces stretch
entries_from p k u i zero s = refl
entries_from p k u i (suc n) s =
    let f : List Face = faces_on p u (get_or (ring p u) i 0) in
    entries_from p k u (i + 1) n (with_faces k f s)
    ∙ ap (λ (j : ℕ). with_faces k (flatten (map (faces_on p u) (stretch (ring p u) j n))) (with_faces k f s)) (add-one i)
    ∙ sym (counted-both k f (flatten (map (faces_on p u) (stretch (ring p u) (suc i) n))) s)

module _ (p : Plan) (k : Chart) where
  pub around : (u : ℕ) {F : Type 0} {g : Mut F (Areas × (ℕ × Unit {0})) Areas} {e : ℕ} {f : F} {s r : Areas}
      → (xs : List ℕ) × (q : F) × Drains nat_range_steps (record { start = 0; end = e }) xs × FoldsTo {P = F × Areas} (λ a x b. Called g a.0 (a.1, (x, tt)) b.1 b.0) (f, s) xs (q, r)
      → e ≡ length (ring p u)
      → ((a : Areas) (x : ℕ) (b : Areas) (q : F) → Called g f (a, (x, tt)) b q → (q ≡ f) × (b ≡ with_faces k (faces_on p u (get_or (ring p u) x 0)) a))
      → r ≡ with_faces k (faces_from p u) s
  unfolding faces_from darts_from faces_on
  around u {e = e} {s = s} ran size acts =
      let whole : e ≡ e - 0 = omega arith in
      folds_range (λ (a : Areas) (x : ℕ). with_faces k (faces_on p u (get_or (ring p u) x 0)) a) e ran acts
      ∙ entries_from p k u 0 e s
      ∙ ap (λ (n : ℕ). with_faces k (flatten (map (faces_on p u) (stretch (ring p u) 0 n))) s) whole
      ∙ ap (λ (l : List ℕ). with_faces k (flatten (map (faces_on p u) l)) s) (span_whole (ring p u) e size)
      ∙ sym (ap (λ (l : List (List Face)). with_faces k (flatten l) s) (map-map (λ (d : Dart). cond (on_inner_face p d && ltb u d.1 && ltb u (step p d).1) (walk p d ∷ []) []) (λ (v : ℕ). (u, v)) (ring p u)))

-- ---- all contexts: (0..n).fold(none, |areas, u| with_context(areas, u))
contexts_from : (p : Plan) (k : Chart) (i n : ℕ) (s : Areas) → fold (λ (a : Areas) (u : ℕ). with_faces k (faces_from p u) a) s (range_with_len i n) ≡ with_faces k (flatten (map (faces_from p) (from i n))) s
unfolding with_faces
contexts_from p k i zero s = refl
contexts_from p k i (suc n) s =
    contexts_from p k (i + 1) n (with_faces k (faces_from p i) s)
    ∙ ap (λ (j : ℕ). with_faces k (flatten (map (faces_from p) (from j n))) (with_faces k (faces_from p i) s)) (add-one i)
    ∙ sym (counted-both k (faces_from p i) (flatten (map (faces_from p) (from (suc i) n))) s)

module _ (p : Plan) (k : Chart) where
  pub across : {F : Type 0} {g : Mut F (Areas × (ℕ × Unit {0})) Areas} {n : ℕ} {f : F} {s r : Areas}
      → (xs : List ℕ) × (q : F) × Drains nat_range_steps (record { start = 0; end = n }) xs × FoldsTo {P = F × Areas} (λ a x b. Called g a.0 (a.1, (x, tt)) b.1 b.0) (f, s) xs (q, r)
      → n ≡ context_count p → s ≡ no_area
      → ((a : Areas) (u : ℕ) (b : Areas) (q : F) → Called g f (a, (u, tt)) b q → (q ≡ f) × (b ≡ with_faces k (faces_from p u) a))
      → r ≡ surveyed p k
  unfolding surveyed faces
  across {n = n} {s = s} ran size fresh acts =
      folds_range (λ (a : Areas) (u : ℕ). with_faces k (faces_from p u) a) n ran acts
      ∙ contexts_from p k 0 n s
      ∙ (λ i. with_faces k (flatten (map (faces_from p) (from 0 (size i)))) (fresh i))

-- ---- for the code, step by step
pub ruleset dart = (dart-low, third-low, no_face, one_face)

pub ruleset rings_of = (rings-held)
