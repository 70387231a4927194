-- Where the label of each dart stands in a list of labels, on every plan: inside, each dart at a place of its own; and what stands behind the labels does not matter.
use Prim.Native.Nat.{ℕ, zero, suc, ◌+◌, ◌-◌, ◌≤◌, ◌<◌}
use mathlib.Core.Path.{◌≡◌, refl, sym, ap, ◌∙◌}
use mathlib.Core.List.{List, [], ◌∷◌, ◌++◌}
use mathlib.Core.Bool.{Bool, true, false, cond, not, ◌&&◌, ◌||◌}
use native.Mathlib.Omega.{arith}
use lib.ListN.{length, get_or, set, take, drop, length-append, length-drop, length-map, take-append-drop}
use lib.Seq.{take-length, take-append-le, drop-append-le, get_or-take, get_or-drop, set-append_left}
use lib.Dec.{eqb, ltb}
use borrow.Author.Tests.{ltb-true, ltb-false}
use Rattle.std.specs.List.{list_any}
use Rattle.lists.specs.Ranges.{first_from, lowest}
use Rattle.lists.specs.Parts.{flatten, index_of}
use Rattle.lists.proofs.Concats.{flatten-append}
use Rattle.lists.proofs.Places.{index_below, index_is}
use Rattle.lists.proofs.Stretches.{length-joined-more}
use Rattle.model.specs.Plan.{Plan, context_count, neighbour, entries, ring, adjacent, border, entry_count}
use Rattle.model.specs.Labels.{border_label, unlabelled, start, labels_around, label_of, turned, bad_dart, four_runs, due, not_due, bad_ring, breaks, put_label}
use Rattle.model.proofs.Plans.{adjacent-mem}

module _ (p : Plan) where
  -- where the label of the dart from u to v stands
  abbrev pub Place : ℕ → ℕ → ℕ
  Place u v = start p u + index_of v (ring p u)

  -- ---- where the labels of a ring begin and end
  -- each part begins where the one before it ends
  pub start-after : (u : ℕ) → start p (suc u) ≡ start p u + length (entries p u)
  unfolding start entries
  start-after u = length-joined-more p.rings u

  -- the last part ends with the last entry
  pub start_last : start p (context_count p) ≡ entry_count p
  unfolding start entry_count
  start_last = ap (λ (l : List (List ℕ)). length (flatten l)) (take-length p.rings)

  -- no part begins past the last entry
  pub start-below : (u : ℕ) → start p u ≤ entry_count p
  unfolding start entry_count
  start-below u =
      let e : length (flatten (take u p.rings)) + length (flatten (drop u p.rings)) ≡ length (flatten p.rings) =
      sym (length-append (flatten (take u p.rings)) (flatten (drop u p.rings))) ∙ ap length (sym (flatten-append (take u p.rings) (drop u p.rings)) ∙ ap flatten (take-append-drop u p.rings)) in
      omega arith

  -- a later part begins no earlier
  start_up : (u k : ℕ) → start p u ≤ start p (u + k)
  start_up u zero = let z : start p u ≡ start p (u + 0) = ap (start p) (omega arith) in omega arith
  start_up u (suc k) =
      let r = start_up u k in
      let s = start-after (u + k) in
      let z : start p (suc (u + k)) ≡ start p (u + suc k) = ap (start p) (omega arith) in
      omega arith

  -- a ring has as many neighbours as entries
  pub ring-length : (u : ℕ) → length (ring p u) ≡ length (entries p u)
  unfolding ring
  ring-length u = length-map (entries p u) neighbour

  -- ---- one dart
  module _ (u v : ℕ) (dart : adjacent p u v ≡ true) where
    -- its place stands before the next part
    place-before : Place u v < start p (suc u)
    place-before =
        let a = index_below v (ring p u) (adjacent-mem p u v dart) in
        let b = ring-length u in
        let c = start-after u in
        omega arith

    -- its place is inside
    pub place_inside : Place u v < entry_count p
    place_inside = let a = place-before in let b = start-below (suc u) in omega arith

    -- its label stands at its place
    pub label_at-place : (ls : List ℕ) → label_of p ls u v ≡ get_or ls (Place u v) unlabelled
    unfolding label_of labels_around
    label_at-place ls =
        let a = index_below v (ring p u) (adjacent-mem p u v dart) in
        let b = ring-length u in
        get_or-take (length (entries p u)) (drop (start p u) ls) (index_of v (ring p u)) unlabelled (omega arith)
        ∙ get_or-drop (start p u) ls (index_of v (ring p u)) unlabelled

    -- and is put there
    pub put_label-at-place : (ls : List ℕ) (l : ℕ) → put_label p u v l ls ≡ set ls (Place u v) l
    unfolding put_label
    put_label-at-place ls l = rw dart

  -- nothing is put where there is no dart
  pub put_nowhere : (u v : ℕ) → adjacent p u v ≡ false → (ls : List ℕ) (l : ℕ) → put_label p u v l ls ≡ ls
  unfolding put_label
  put_nowhere u v none ls l = rw none

  -- two darts at one place are one
  pub place-apart : (u v a b : ℕ) → adjacent p u v ≡ true → adjacent p a b ≡ true → Place u v ≡ Place a b → (u ≡ a) × (v ≡ b)
  place-apart u v a b d e same = go (ltb u a) refl (ltb a u) refl
    where
      -- the labels of an earlier context stand before those of a later one
      later : (u v a b : ℕ) → adjacent p u v ≡ true → u < a → Place u v ≡ Place a b → ⊥
      later u v a b d h same =
          let x = place-before u v d in
          let y = start_up (suc u) (a - suc u) in
          let z : start p (suc u + (a - suc u)) ≡ start p a = ap (start p) (omega arith) in
          omega arith

      go : (s : Bool) → ltb u a ≡ s → (t : Bool) → ltb a u ≡ t → (u ≡ a) × (v ≡ b)
      go true s t q = absurd (later u v a b d (ltb-true u a s) same)
      go false s true q = absurd (later a b u v e (ltb-true a u q) (sym same))
      go false s false q =
          let x = ltb-false u a s in
          let y = ltb-false a u q in
          let z : u ≡ a = omega arith in
          let w : start p u ≡ start p a = ap (start p) z in
          let i : index_of v (ring p u) ≡ index_of b (ring p a) = omega arith in (
            z,
            sym (index_is v (ring p u) 0 (adjacent-mem p u v d)) ∙ (λ j. get_or (ring p (z j)) (i j) 0) ∙ index_is b (ring p a) 0 (adjacent-mem p a b e),
          )

  -- ---- what stands behind the labels does not matter
  module _ (ls rest : List ℕ) (size : length ls ≡ entry_count p) where
    -- a part that ends before what is behind
    part_behind : (s k : ℕ) → s + k ≤ length ls → take k (drop s (ls ++ rest)) ≡ take k (drop s ls)
    part_behind s k h = ap (take k) (drop-append-le s ls rest (omega arith)) ∙ take-append-le k (drop s ls) rest (let d = length-drop s ls in omega arith)

    -- the labels around a context are the same
    around_behind : (u : ℕ) → labels_around p (ls ++ rest) u ≡ labels_around p ls u
    unfolding labels_around
    around_behind u = let a = start-after u in let b = start-below (suc u) in part_behind (start p u) (length (entries p u)) (omega arith)

    -- the label of each dart is the same
    pub label_behind : (u v : ℕ) → label_of p (ls ++ rest) u v ≡ label_of p ls u v
    unfolding label_of
    label_behind u v = ap (λ (l : List ℕ). get_or l (index_of v (ring p u)) unlabelled) (around_behind u)

    -- a label is put before what is behind, which stays
    pub put-behind : (u v l : ℕ) → put_label p u v l (ls ++ rest) ≡ put_label p u v l ls ++ rest
    unfolding put_label
    put-behind u v l = go (adjacent p u v) refl
      where
        go : (t : Bool) → adjacent p u v ≡ t → cond t (set (ls ++ rest) (Place u v) l) (ls ++ rest) ≡ cond t (set ls (Place u v) l) ls ++ rest
        go true e = let h = place_inside u v e in set-append_left ls rest (Place u v) l (omega arith)
        go false e = refl

    -- the same darts break the rules
    dart-behind : (u v : ℕ) → bad_dart p (ls ++ rest) u v ≡ bad_dart p ls u v
    unfolding bad_dart
    dart-behind u v =
        λ i. not (cond (border u && border v) (eqb (label_behind u v i) border_label) (ltb (label_behind u v i) 4 && eqb (label_behind v u i) (turned (label_behind u v i) 2)))

    -- the same darts have another label than is due
    due-behind : (u v : ℕ) → not_due p (ls ++ rest) u v ≡ not_due p ls u v
    unfolding not_due
    due-behind u v = λ i. not (border v || eqb (label_behind u v i) (due u))

    -- the same contexts break the rules
    breaks-behind : (u : ℕ) → breaks p (ls ++ rest) u ≡ breaks p ls u
    unfolding breaks bad_ring
    breaks-behind u =
        λ i. any_same (bad_dart p (ls ++ rest) u) (bad_dart p ls u) (ring p u) (dart-behind u) i
        || cond (border u) (any_same (not_due p (ls ++ rest) u) (not_due p ls u) (ring p u) (due-behind u) i) (not (four_runs (around_behind u i)))
      where
        -- two tests that agree
        any_same : (f g : ℕ → Bool) (l : List ℕ) → ((a : ℕ) → f a ≡ g a) → list_any f l ≡ list_any g l
        any_same f g [] h = refl
        any_same f g (a ∷ l) h = λ i. h a i || any_same f g l h i

    -- the same context is the lowest that breaks the rules
    pub rules_behind : (n : ℕ) → lowest (breaks p (ls ++ rest)) n ≡ lowest (breaks p ls) n
    unfolding first_from
    rules_behind n = go 0 n
      where
        go : (a k : ℕ) → first_from (breaks p (ls ++ rest)) a k ≡ first_from (breaks p ls) a k
        go a zero = refl
        go a (suc k) = λ i. cond (breaks-behind a i) a (go (suc a) k i)
