-- What the walk over the darts keeps: the constraints of both coordinates so far, and the marks of the ring that it is in.
use Prim.Native.Nat.{ℕ, suc, ◌+◌, ◌≤◌, ◌<◌, min}
use mathlib.Core.Path.{◌≡◌, refl, sym, ap, ◌∙◌}
use mathlib.Core.List.{List}
use mathlib.Core.Bool.{true, false}
use native.Mathlib.Omega.{arith}
use lib.ListN.{length, get_or, set, take, replicate}
use Rattle.chart_solver.specs.declared.Constraint.{Constraint as Stored}
use Rattle.chart_solver.specs.Constraints.{constraints_in}
use Rattle.lists.specs.Parts.{index_of}
use Rattle.lists.proofs.Ranges.{get_or-map-from}
use Rattle.model.specs.Plan.{neighbour, ring}
use Rattle.model.specs.Labels.{unlabelled, label_of}
use Rattle.rings.specs.Tables.{start_of, starts_of, size_of, table}
use Rattle.rings.proofs.Rows.{start_first, start-more, size-inside, ring-size, ring_ends}
use Rattle.labels.proofs.Places.{label_there}
use Rattle.chart_placement.specs.Marking.{MarkedUpTo, DartAt}
use Rattle.chart_placement.specs.DartConstraints.{dart_constraints, tied_to, constraint_count, dart_constraint}
use Rattle.chart_placement.proofs.Marks.{marked_start, marked_next, dart-most}
use Rattle.chart_placement.proofs.DartConstraints.{Asking, level, asking_start, asking_room, asking_dart, asking_next, asking_end, asking_fits, dart-at}

-- where there are at most 126 entries, their constraints and the tie fit a short array
pub fits_short : (sizes : List ℕ) {n total : ℕ} → n ≤ 200 → total ≡ start_of sizes (min n 200) → total ≤ 126 → 2 + start_of sizes n ≤ 128
fits_short sizes {n} {total} few e h = let z : start_of sizes (min n 200) ≡ start_of sizes n = ap (start_of sizes) (omega arith) in omega arith

-- all those of a plan that fits fit a long one
pub fits_long : {k : ℕ} → k ≤ 1186 → 2 + k ≤ 1188
fits_long h = omega arith

module _ (sizes es : List ℕ) (n : ℕ) (ls : List ℕ) where
  -- u's ring
  abbrev R : ℕ → List ℕ
  R u = ring (table sizes es n) u

  long : (u : ℕ) → u < n → length (R u) ≡ get_or sizes u 0
  unfolding table
  long u h = ring-size (starts_of sizes) sizes es n u ∙ size-inside sizes n u h

  -- the walk has come to the entry i of u's ring, which begins at a
  pub record Walks (xs ys : List Stored) (marks : List ℕ) (count u i a : ℕ) : Type 0 where
    pub x : Asking sizes es n ls false xs count u i
    pub y : Asking sizes es n ls true ys count u i
    pub marked : MarkedUpTo marks (R u) a i
    pub begins : a ≡ start_of sizes u
    pub near : a ≤ 1186

  -- the ties, and no dart; there is room for two constraints more than darts
  pub walks_start : (xs ys : List Stored) {a b c d : Stored} → 2 + start_of sizes n ≤ length xs → 2 + start_of sizes n ≤ length ys → a ≡ level 0 1 → b ≡ level 1 0 → c ≡ level 0 3 → d ≡ level 3 0
      → Walks (set (set xs 0 a) 1 b) (set (set ys 0 c) 1 d) (replicate 200 0) 2 0 0 0
  unfolding tied_to
  walks_start xs ys ex ey ea eb ec ed = rw (ea, eb, ec, ed) (record {
    x = asking_start sizes es n ls false 1 refl xs ex;
    y = asking_start sizes es n ls true 3 refl ys ey;
    marked = marked_start (R 0);
    begins = start_first sizes;
    near = omega arith;
  })

  module _ {xs ys : List Stored} {marks : List ℕ} {count u i a : ℕ} (inv : Walks xs ys marks count u i a) where
    -- all rings are done
    pub walks_x : n ≤ u → constraints_in (take count xs) ≡ dart_constraints false (table sizes es n) ls
    walks_x h = asking_end sizes es n ls false inv.x h

    pub walks_y : n ≤ u → constraints_in (take count ys) ≡ dart_constraints true (table sizes es n) ls
    walks_y h = asking_end sizes es n ls true inv.y h

    pub walks_fit_x : count ≤ length xs
    walks_fit_x = asking_fits sizes es n ls false inv.x

    pub walks_fit_y : count ≤ length ys
    walks_fit_y = asking_fits sizes es n ls true inv.y

    module _ {k : ℕ} (size : k ≡ get_or sizes u 0) (h : u < n) where
      own : k ≡ size_of sizes n u
      own = size ∙ sym (size-inside sizes n u h)

      -- the next ring
      pub walks_next : {u' a' : ℕ} → u' ≡ suc u → a' ≡ a + k → k ≤ i → start_of sizes n ≤ 1186 → Walks xs ys marks count u' 0 a'
      walks_next {u'} {a'} qu qa end room =
          let w = inv.x.within in
          let l = long u h in
          let s = own in
          record {
            x = asking_next sizes es n ls false inv.x qu h (omega arith);
            y = asking_next sizes es n ls true inv.y qu h (omega arith);
            marked = marked_next inv.marked (R u') (omega arith) (omega arith);
            begins = let b = inv.begins in let m = start-more sizes u in let z : start_of sizes u' ≡ start_of sizes (suc u) = ap (start_of sizes) qu in omega arith;
            near = let b = inv.begins in let r = ring_ends sizes u n h in omega arith;
          }

      module _ (b : i < k) where
        inside : i < size_of sizes n u
        inside = let s = own in omega arith

        -- there is room for one more
        pub walks_room_x : count < length xs
        walks_room_x = asking_room sizes es n ls false inv.x h inside

        pub walks_room_y : count < length ys
        walks_room_y = asking_room sizes es n ls true inv.y h inside

        -- its label stands among those of the first 1186 entries
        pub walks_near : start_of sizes n ≤ 1186 → a + i < 1186
        walks_near room = let t = inv.begins in let r = ring_ends sizes u n h in omega arith

        module _ (few : n ≤ 200) where
          -- where the ring begins
          begin : a ≡ get_or (starts_of sizes) u 0
          unfolding starts_of
          begin = inv.begins ∙ sym (get_or-map-from (start_of sizes) 0 200 u 0 (omega arith) ∙ ap (start_of sizes) (omega arith))

          module _ {e v : ℕ} (entry : e ≡ get_or es (a + i) 0) (end : v ≡ neighbour e) where
            -- the dart
            pub walks_at : DartAt (R u) i v
            walks_at = let l = long u h in record { inside = omega arith; entry = dart-at (starts_of sizes) sizes es n u i a e v refl inside begin entry end }

            -- a dart more
            pub walks_dart : {i' count' at l : ℕ} {cx cy : Stored} {marks' : List ℕ} → i' ≡ i + 1
                → at ≡ a + index_of v (R u) → MarkedUpTo marks' (R u) a (i + 1) → l ≡ get_or ls at unlabelled
                → cx ≡ dart_constraint false l u v → cy ≡ dart_constraint true l u v → count' ≡ count + constraint_count l
                → Walks (set xs count cx) (set ys count cy) marks' count' u i' a
            unfolding table
            walks_dart {i'} {count'} {at} {l} {cx} {cy} qi place marked read ex ey ek =
                let dart = walks_at.entry in
                let low : index_of v (R u) < k = let m = dart-most walks_at in omega arith in
                let label : l ≡ label_of (table sizes es n) ls u v =
                read ∙ ap (λ (j : ℕ). get_or ls j unlabelled) place ∙ label_there (starts_of sizes) sizes es n refl few u v begin refl own ls low in
                record {
                  x = asking_dart sizes es n ls false inv.x v l (omega arith) walks_room_x inside dart label cx ex ek;
                  y = asking_dart sizes es n ls true inv.y v l (omega arith) walks_room_y inside dart label cy ey ek;
                  marked = rw qi marked;
                  begins = inv.begins;
                  near = inv.near;
                }
