-- The list of inner faces: each of them stands there once, and the plan's darts lie each on one walk, an inner face's or the border's.
use Prim.Native.Nat.{ℕ, ◌+◌, ◌%◌, ◌≤◌, ◌<◌}
use mathlib.Core.Path.{◌≡◌, refl, sym, ap, ◌∙◌, subst, fun_ext}
use mathlib.Core.List.Memᴰ
use mathlib.Core.List.{List, [], ◌∷◌, ◌++◌, map, append-nil, Memᴰ}
use mathlib.Core.Logic.{◌⊎◌, inl, inr, ◌≢◌}
use mathlib.Core.Bool.{Bool, true, false, cond, not, ◌&&◌}
use native.Mathlib.Omega.{arith}
use lib.Dec.{ltb}
use borrow.Author.Tests.{not-true, ltb-true, lt-ltb}
use Rattle.lists.specs.Ranges.{from}
use Rattle.lists.specs.Parts.{flatten, cycle}
use Rattle.lists.proofs.Bools.{and_yes, both}
use Rattle.lists.proofs.Tests.{list_any_of, of_list_any}
use Rattle.lists.proofs.Joins.{join_mem, mem_join}
use Rattle.lists.proofs.Concats.{join_join}
use Rattle.lists.proofs.Once.{Once, once-append, once_join, once-map, once-from}
use Rattle.lists.proofs.Sums.{tally_join}
use Rattle.lists.proofs.Ranges.{lt-or-le}
use Rattle.model.specs.Plan.{Plan, Dart, Face, contexts, ring, adjacent, darts_from, darts, same_dart, step, outer, closes, walk, on_inner_face, faces_from, faces}
use Rattle.model.specs.Sound.{Sound}
use Rattle.model.proofs.Plans.{outer-says}
use Rattle.model.proofs.PlanRules.{border-next}
use Rattle.model.proofs.Placements.{mem-darts, darts-mem}
use Rattle.geometry.proofs.Walks.{ClosedMap}
use Rattle.plan_theory.specs.InnerFaces.{InnerFace, InnerFaces, passes}
use Rattle.plan_theory.proofs.Darts.{dart, same-dart, dart-same, border-walk, outer-on-border, border-is-outer, once-darts, Inner, step_inner, three-steps, third-dart}

-- ---- the list as a join over the darts
-- the dart's walk is listed from this dart
starts : Plan → Dart → Bool
starts p d = on_inner_face p d && ltb d.0 d.1 && ltb d.0 (step p d).1

-- the face that is listed from this dart, if any
face_at : Plan → Dart → List Face
face_at p d = cond (starts p d) (walk p d ∷ []) []

faces_by_dart : (p : Plan) → faces p ≡ flatten (map (face_at p) (darts p))
unfolding faces faces_from darts darts_from face_at starts
faces_by_dart p = ap (λ (f : ℕ → List Face). flatten (map f (contexts p))) (fun_ext (λ u. around u (ring p u))) ∙ sym (join_join (face_at p) (darts_from p) (contexts p))
  where
    around : (u : ℕ) (r : List ℕ) → flatten (map (λ (d : Dart). cond (on_inner_face p d && ltb u d.1 && ltb u (step p d).1) (walk p d ∷ []) []) (map (λ (v : ℕ). (u, v)) r)) ≡ flatten (map (face_at p) (map (λ (v : ℕ). (u, v)) r))
    around u [] = refl
    around u (v ∷ r) = ap (face_at p (u, v) ++◌) (around u r)

-- the darts of the face that is listed from this dart, if any
darts_at : Plan → Dart → List Dart
darts_at p d = flatten (map cycle (face_at p d))

-- all darts of all inner faces
abbrev walked : Plan → List Dart
walked p = flatten (map cycle (faces p))

walked_by_dart : (p : Plan) → walked p ≡ flatten (map (darts_at p) (darts p))
unfolding darts_at
walked_by_dart p = ap (λ (fs : List Face). flatten (map cycle fs)) (faces_by_dart p) ∙ join_join cycle (face_at p) (darts p)

-- what is listed, and from where
face_at-mem : (p : Plan) (e : Dart) (f : Face) → Memᴰ f (face_at p e) → (starts p e ≡ true) × (f ≡ walk p e)
unfolding face_at
face_at-mem p e f m = go (starts p e) refl m
  where
    go : (t : Bool) → starts p e ≡ t → Memᴰ f (cond t (walk p e ∷ []) []) → (starts p e ≡ true) × (f ≡ walk p e)
    go true q i = (q, Memᴰ.eq_of_singleton i)
    go false q i = absurd (Memᴰ.not-nil i)

darts-at-mem : (p : Plan) (e d : Dart) → Memᴰ d (darts_at p e) → (starts p e ≡ true) × Memᴰ d (cycle (walk p e))
unfolding darts_at
darts-at-mem p e d m = let (f, i, j) = mem_join cycle (face_at p e) d m in let (t, q) = face_at-mem p e f i in (t, subst (λ (g : Face). Memᴰ d (cycle g)) q j)

mem-darts-at : (p : Plan) (e d : Dart) → starts p e ≡ true → Memᴰ d (cycle (walk p e)) → Memᴰ d (darts_at p e)
unfolding darts_at face_at
mem-darts-at p e d t m = rw t (Memᴰ.append_left [] m)

once-darts-at : (p : Plan) (e : Dart) → (starts p e ≡ true → Once (cycle (walk p e))) → Once (darts_at p e)
unfolding darts_at face_at
once-darts-at p e o = go (starts p e) refl
  where
    go : (t : Bool) → starts p e ≡ t → Once (flatten (map cycle (cond t (walk p e ∷ []) [])))
    go true q = subst Once (sym (append-nil (cycle (walk p e)))) (o q)
    go false q = tt

module _ (p : Plan) (s : Sound p) where
  -- the face step
  abbrev S : Dart → Dart
  S d = step p d

  -- a walk is listed from its dart that leaves the lowest of its contexts
  record Starts (e : Dart) : Type 0 where
    inner : Inner p s e
    lower₁ : e.0 < e.1
    lower₂ : e.0 < (S e).1

  starts_says : (e : Dart) → Memᴰ e (darts p) → starts p e ≡ true → Starts e
  unfolding starts on_inner_face
  starts_says e m t =
      let (t₁, b) = and_yes (on_inner_face p e && ltb e.0 e.1) (ltb e.0 (S e).1) t in
      let (t₂, a) = and_yes (on_inner_face p e) (ltb e.0 e.1) t₁ in
      let (o, _) = and_yes (not (outer e)) (closes p e) t₂ in
      record { inner = record { is_dart = mem-darts p e m; not_outer = not-true (outer e) o }; lower₁ = ltb-true e.0 e.1 a; lower₂ = ltb-true e.0 (S e).1 b }

  says_starts : (e : Dart) → Inner p s e → e.0 < e.1 → e.0 < (S e).1 → starts p e ≡ true
  unfolding starts on_inner_face
  says_starts e i a b = rw (i.not_outer, s.closed e.0 e.1 i.is_dart i.not_outer, lt-ltb e.0 e.1 a, lt-ltb e.0 (S e).1 b)

  -- ---- one walk
  -- its three darts
  walk-darts : (e : Dart) → Inner p s e → cycle (walk p e) ≡ e ∷ S e ∷ S (S e) ∷ []
  unfolding walk step
  walk-darts e i = λ j. e ∷ S e ∷ sym (third-dart p s e i) j ∷ []

  -- d is one of the three darts that the face step leads to from e
  abbrev Orbit : Dart → Dart → Type 0
  Orbit e d = (d ≡ e) ⊎ ((d ≡ S e) ⊎ (d ≡ S (S e)))

  walk_orbit : (e d : Dart) → Inner p s e → Memᴰ d (cycle (walk p e)) → Orbit e d
  walk_orbit e d i m = go (subst (Memᴰ d) (walk-darts e i) m)
    where
      go : Memᴰ d (e ∷ S e ∷ S (S e) ∷ []) → Orbit e d
      go (Memᴰ.head q) = inl q
      go (Memᴰ.tail (Memᴰ.tail (Memᴰ.tail x12))) = elim x12 [ ]
      go (Memᴰ.tail (Memᴰ.head q)) = inr (inl q)
      go (Memᴰ.tail (Memᴰ.tail (Memᴰ.head q))) = inr (inr q)

  orbit_walk : (e d : Dart) → Inner p s e → Orbit e d → Memᴰ d (cycle (walk p e))
  orbit_walk e d i o = subst (Memᴰ d) (sym (walk-darts e i)) (go o)
    where
      go : Orbit e d → Memᴰ d (e ∷ S e ∷ S (S e) ∷ [])
      go (inl q) = Memᴰ.head q
      go (inr (inl q)) = Memᴰ.tail (Memᴰ.head q)
      go (inr (inr q)) = Memᴰ.tail (Memᴰ.tail (Memᴰ.head q))

  orbit_inner : (e d : Dart) → Inner p s e → Orbit e d → Inner p s d
  orbit_inner e d i (inl q) = subst (Inner p s) (sym q) i
  orbit_inner e d i (inr (inl q)) = subst (Inner p s) (sym q) (step_inner p s e i)
  orbit_inner e d i (inr (inr q)) = subst (Inner p s) (sym q) (step_inner p s (S e) (step_inner p s e i))

  -- its three contexts differ
  record Differ (d : Dart) : Type 0 where
    first_second : d.0 ≢ d.1
    second_third : d.1 ≢ (S d).1
    third_first : (S d).1 ≢ d.0

  differ : (d : Dart) → Inner p s d → Differ d
  unfolding step
  differ d i =
      let j = step_inner p s d i in
      let k = step_inner p s (S d) j in
      record {
        first_second = s.other d.0 d.1 i.is_dart;
        second_third = s.other d.1 (S d).1 j.is_dart;
        third_first = s.other (S d).1 d.0 (subst (λ (c : Dart). adjacent p c.0 c.1 ≡ true) (third-dart p s d i) k.is_dart);
      }

  -- so do its darts
  once-walk : (e : Dart) → Inner p s e → Once (cycle (walk p e))
  unfolding walk step
  once-walk e i = let n = differ e i in (first n, (second n, ((λ m. Memᴰ.not-nil m), tt)))
    where
      first : Differ e → Memᴰ (dart e.0 e.1) (dart e.1 (S e).1 ∷ dart (S e).1 e.0 ∷ []) → ⊥
      first n (Memᴰ.tail (Memᴰ.tail x8)) = elim x8 [ ]
      first n (Memᴰ.head q) = n.first_second (ap (λ (c : Dart). c.0) q)
      first n (Memᴰ.tail (Memᴰ.head q)) = n.third_first (sym (ap (λ (c : Dart). c.0) q))

      second : Differ e → Memᴰ (dart e.1 (S e).1) (dart (S e).1 e.0 ∷ []) → ⊥
      second n (Memᴰ.tail x4) = elim x4 [ ]
      second n (Memᴰ.head q) = n.second_third (ap (λ (c : Dart). c.0) q)

  -- ---- two walks
  -- no walk is listed from a dart and from the next one
  not-next : (e g : Dart) → Starts e → Starts g → e ≡ S g → ⊥
  unfolding step
  not-next e g h k q =
      let a = ap (λ (c : Dart). c.0) q in
      let b = ap (λ (c : Dart). (S c).1) q ∙ ap (λ (c : Dart). c.1) (third-dart p s g k.inner) in
      let x = h.lower₂ in
      let y = k.lower₁ in
      omega arith

  -- two walks that are listed and share a dart are one
  same_start : (e g d : Dart) → Starts e → Starts g → Orbit e d → Orbit g d → e ≡ g
  same_start e g d h k = go
    where
      three_e : S (S (S e)) ≡ e
      three_e = three-steps p s e h.inner

      three_g : S (S (S g)) ≡ g
      three_g = three-steps p s g k.inner

      go : Orbit e d → Orbit g d → e ≡ g
      go (inl a) (inl b) = sym a ∙ b
      go (inl a) (inr (inl b)) = absurd (not-next e g h k (sym a ∙ b))
      go (inl a) (inr (inr b)) = absurd (not-next g e k h (sym three_g ∙ ap S (sym b ∙ a)))
      go (inr (inl a)) (inl b) = absurd (not-next g e k h (sym b ∙ a))
      go (inr (inl a)) (inr (inl b)) = sym three_e ∙ ap (λ (c : Dart). S (S c)) (sym a ∙ b) ∙ three_g
      go (inr (inl a)) (inr (inr b)) = absurd (not-next e g h k (sym three_e ∙ ap (λ (c : Dart). S (S c)) (sym a ∙ b) ∙ ap S three_g))
      go (inr (inr a)) (inl b) = absurd (not-next e g h k (sym three_e ∙ ap S (sym a ∙ b)))
      go (inr (inr a)) (inr (inl b)) = absurd (not-next g e k h (sym three_g ∙ ap (λ (c : Dart). S (S c)) (sym b ∙ a) ∙ ap S three_e))
      go (inr (inr a)) (inr (inr b)) = sym three_e ∙ ap S (sym a ∙ b) ∙ three_g

  -- ---- all walks
  -- no dart is walked twice
  once-walked : Once (walked p)
  once-walked = subst Once (sym (walked_by_dart p)) (once_join (darts_at p) (darts p) (once-darts p s)
      (λ e m. once-darts-at p e (λ t. once-walk e (starts_says e m t).inner))
      (λ e g d m n i j. shared e g d m n (darts-at-mem p e d i) (darts-at-mem p g d j)))
    where
      shared : (e g d : Dart) → Memᴰ e (darts p) → Memᴰ g (darts p) → (starts p e ≡ true) × Memᴰ d (cycle (walk p e)) → (starts p g ≡ true) × Memᴰ d (cycle (walk p g)) → e ≡ g
      shared e g d m n (t, i) (u, j) =
          let h = starts_says e m t in
          let k = starts_says g n u in
          same_start e g d h k (walk_orbit e d h.inner i) (walk_orbit g d k.inner j)

  -- the darts that are walked are inner
  walked_inner : (d : Dart) → Memᴰ d (walked p) → Inner p s d
  walked_inner d m =
      let (e, i, j) = mem_join (darts_at p) (darts p) d (subst (Memᴰ d) (walked_by_dart p) m) in
      let (t, k) = darts-at-mem p e d j in
      let h = starts_says e i t in
      orbit_inner e d h.inner (walk_orbit e d h.inner k)

  -- and all inner darts are walked
  listed : (e d : Dart) → Inner p s e → e.0 < e.1 → e.0 < (S e).1 → Orbit e d → Memᴰ d (walked p)
  listed e d i a b o = subst (Memᴰ d) (sym (walked_by_dart p)) (join_mem (darts_at p) (darts p) e d (darts-mem p e.0 e.1 i.is_dart) (mem-darts-at p e d (says_starts e i a b) (orbit_walk e d i o)))

  inner_walked : (d : Dart) → Inner p s d → Memᴰ d (walked p)
  unfolding step
  inner_walked d i = go (differ d i) (lt-or-le d.0 d.1) (lt-or-le d.1 (S d).1) (lt-or-le (S d).1 d.0)
    where
      j : Inner p s (S d)
      j = step_inner p s d i

      k : Inner p s (S (S d))
      k = step_inner p s (S d) j

      second : (S (S d)).1 ≡ d.0
      second = ap (λ (c : Dart). c.1) (third-dart p s d i)

      third : (S (S (S d))).1 ≡ d.1
      third = ap (λ (c : Dart). c.1) (three-steps p s d i)

      from_first : d.0 < d.1 → d.0 < (S d).1 → Memᴰ d (walked p)
      from_first a b = listed d d i a b (inl refl)

      from_second : d.1 < (S d).1 → d.1 < d.0 → Memᴰ d (walked p)
      from_second a b = listed (S d) d j a (omega (arith, second)) (inr (inr (sym (three-steps p s d i))))

      from-third : (S d).1 < d.0 → (S d).1 < d.1 → Memᴰ d (walked p)
      from-third a b = listed (S (S d)) d k (omega (arith, second)) (omega (arith, third)) (inr (inl (sym (three-steps p s d i))))

      go : Differ d → (d.0 < d.1) ⊎ (d.1 ≤ d.0) → (d.1 < (S d).1) ⊎ ((S d).1 ≤ d.1) → ((S d).1 < d.0) ⊎ (d.0 ≤ (S d).1) → Memᴰ d (walked p)
      go n (inl a) b (inr c) = let x = n.third_first in from_first a (omega arith)
      go n (inl a) b (inl c) = from-third c (omega arith)
      go n (inr a) (inl b) c = let x = n.first_second in from_second b (omega arith)
      go n (inr a) (inr b) c = let x = n.first_second in let y = n.second_third in from-third (omega arith) (omega arith)

  -- THE PLAN AS A MAP: each dart is on one inner face, or outer
  pub closed_map : ClosedMap (darts p) (faces p) border-walk
  closed_map = record {
    reverses = λ d m. darts-mem p d.1 d.0 (s.returned d.0 d.1 (mem-darts p d m));
    covered = record {
      left_once = once-darts p s;
      right_once = once-append (walked p) (cycle border-walk) once-walked once-border (λ d m n. both (outer d) (border-is-outer d n) (walked_inner d m).not_outer);
      there = λ d m. placed d (mem-darts p d m) (outer d) refl;
      back = λ d m. back d (Memᴰ.append_cases (walked p) m);
    };
  }
    where
      once-border : Once (cycle border-walk)
      once-border = once-map (λ (u : ℕ). dart u ((u + 1) % 4)) (λ (d : Dart). d.0) (from 0 4) (λ u. refl) (once-from 0 4)

      placed : (d : Dart) → adjacent p d.0 d.1 ≡ true → (t : Bool) → outer d ≡ t → Memᴰ d (walked p ++ cycle border-walk)
      placed d a true o = Memᴰ.append_right (walked p) (outer-on-border d o)
      placed d a false o = Memᴰ.append_left (cycle border-walk) (inner_walked d (record { is_dart = a; not_outer = o }))

      back : (d : Dart) → Memᴰ d (walked p) ⊎ Memᴰ d (cycle border-walk) → Memᴰ d (darts p)
      back d (inl m) = darts-mem p d.0 d.1 (walked_inner d m).is_dart
      back d (inr m) = let (h, e) = outer-says d (border-is-outer d m) in darts-mem p d.0 d.1 (subst (λ (v : ℕ). adjacent p d.0 v ≡ true) (sym e) (border-next p s d.0 h))

  -- ---- the statement
  inner_face_lem : (e : Dart) → Starts e → InnerFace p (walk p e)
  unfolding walk step
  inner_face_lem e h = record {
    three = refl;
    walked = λ c m. steps c (subst (λ (l : List Dart). Memᴰ c (cycle l)) (walk-darts e h.inner) m);
    darts_of = λ d m. (orbit_inner e d h.inner (walk_orbit e d h.inner m)).is_dart;
    not_outer = λ d m. (orbit_inner e d h.inner (walk_orbit e d h.inner m)).not_outer;
    lowest_first = lowest;
  }
    where
      steps : (c : Dart × Dart) → Memᴰ c (cycle (e ∷ S e ∷ S (S e) ∷ [])) → S c.0 ≡ c.1
      steps c (Memᴰ.head q) = ap (λ (b : Dart × Dart). S b.0) q ∙ sym (ap (λ (b : Dart × Dart). b.1) q)
      steps c (Memᴰ.tail (Memᴰ.tail (Memᴰ.tail x12))) = elim x12 [ ]
      steps c (Memᴰ.tail (Memᴰ.head q)) = ap (λ (b : Dart × Dart). S b.0) q ∙ sym (ap (λ (b : Dart × Dart). b.1) q)
      steps c (Memᴰ.tail (Memᴰ.tail (Memᴰ.head q))) = ap (λ (b : Dart × Dart). S b.0) q ∙ three-steps p s e h.inner ∙ sym (ap (λ (b : Dart × Dart). b.1) q)

      lowest : (u : ℕ) → Memᴰ u (e.0 ∷ e.1 ∷ (S e).1 ∷ []) → e.0 ≤ u
      lowest u (Memᴰ.head q) = omega arith
      lowest u (Memᴰ.tail (Memᴰ.tail (Memᴰ.tail x12))) = elim x12 [ ]
      lowest u (Memᴰ.tail (Memᴰ.head q)) = let a = h.lower₁ in omega arith
      lowest u (Memᴰ.tail (Memᴰ.tail (Memᴰ.head q))) = let a = h.lower₂ in omega arith

  -- THE INNER FACES: the definitions' list has each of them exactly once
  pub inner_faces : InnerFaces p (faces p)
  unfolding passes
  inner_faces = record {
    each_inner = λ f m.
        let (e, i, j) = mem_join (face_at p) (darts p) f (subst (Memᴰ f) (faces_by_dart p) m) in
        let (t, q) = face_at-mem p e f j in
        subst (InnerFace p) (sym q) (inner_face_lem e (starts_says e i t));
    each_once = λ d m o. tally_join cycle d (passes d)
        (λ f t. let (e, i, q) = list_any_of (same_dart d) (cycle f) t in Memᴰ.cast (same-dart d e q) i)
        (λ f i. of_list_any (same_dart d) (cycle f) d i (dart-same d d refl))
        (faces p) once-walked (inner_walked d (record { is_dart = mem-darts p d m; not_outer = o }));
  }
