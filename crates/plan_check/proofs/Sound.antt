-- A plan that passes the quick test keeps the rules 4, 5, 6, 8 and 9.
-- One look-up a dart is enough. Where w stands before v in u's ring and after u in v's, a face step leads from the dart u to v to the dart v to w.
-- The same holds of that dart, by rule 8: it is not outer. So the third step leads from the dart w to u back to the dart u to v.
use Prim.Native.Nat.{ℕ, zero, suc, ◌+◌, ◌-◌, ◌%◌, ◌≤◌, ◌<◌}
use mathlib.Core.Path.{◌≡◌, refl, sym, ap, ◌∙◌}
use mathlib.Core.List.Memᴰ
use mathlib.Core.List.{List, [], ◌∷◌, Memᴰ}
use mathlib.Core.Bool.{Bool, true, false, not, ◌&&◌, ◌||◌, true≢false}
use native.Mathlib.Numerals.{add-one}
use native.Mathlib.Omega.{arith}
use lib.ListN.{length, get_or, get_or-eq_default}
use lib.Dec.{eqb, leb, ltb}
use borrow.Author.Tests.{leb-true, lt-leb, ltb-true, ltb-false, eqb-true, eqb-false, eq-eqb, ne_eqb, not-true, not-false}
use Rattle.lists.specs.Tests.{member, repeats}
use Rattle.lists.specs.Parts.{index_of}
use Rattle.lists.specs.Folds.{some_within}
use Rattle.lists.specs.Ranges.{lowest}
use Rattle.lists.proofs.Bools.{and_yes, or_no, no_or}
use Rattle.lists.proofs.Folds.{some-none}
use Rattle.lists.proofs.Once.{no_repeat_once}
use Rattle.lists.proofs.Places.{mem-at, get_d_any, index_below, index_is, index_at}
use Rattle.lists.proofs.Ranges.{none_first, first-none}
use Rattle.lists.proofs.Tests.{of_none, list_any-map, mem-member}
use Rattle.model.specs.Plan.{Plan, Dart, context_count, ring, next, step, adjacent, darts_from, outer, closes, bad_entry, bad_repeat, unreturned, bad_border, bad_face}
use Rattle.model.proofs.Plans.{adjacent-from, adjacent-mem, outer-says, says-outer}
use Rattle.ring_successors.specs.Successors.{cell_at, successors_of, apart}
use Rattle.ring_successors.proofs.Notes.{row_there, successor-cell}
use Rattle.ring_successors.proofs.Tells.{successors_long, apart-once, next-successor_mark, successor-some, successor-next}
use Rattle.plan_check.specs.Sound.{unconfirmed, some_unconfirmed, has_unconfirmed, confirmed, sound}

-- the entry before v in a ring; before the first stands the last
abbrev prior : ℕ → List ℕ → ℕ
prior v r = get_or (get_or r (length r - 1) 0 ∷ r) (index_of v r) 0

-- a ring that repeats nothing, and an entry of it
module _ (r : List ℕ) (once : repeats r ≡ false) (v : ℕ) (m : Memᴰ v r) where
  inside : index_of v r < length r
  inside = index_below v r m

  -- the entry before it is an entry too
  prior-mem : Memᴰ (prior v r) r
  prior-mem = go (index_of v r) inside
    where
      go : (j : ℕ) → j < length r → Memᴰ (get_or (get_or r (length r - 1) 0 ∷ r) j 0) r
      go zero h = mem-at r (length r - 1) 0 (omega arith)
      go (suc j) h = mem-at r j 0 (omega arith)

  -- it comes after the entry before it
  after_prior : next (prior v r) r ≡ v
  after_prior = go (index_of v r) refl
    where
      after : (k : ℕ) → k < length r → get_or r (suc k) (get_or r 0 0) ≡ v → next (get_or r k 0) r ≡ v
      after k h e =
          let here = index_at r k 0 (no_repeat_once r once) h in
          sym (next-successor_mark (get_or r k 0) r (mem-member (get_or r k 0) r (mem-at r k 0 h))) ∙ ap (λ (j : ℕ). get_or r (suc j) (get_or r 0 0)) here ∙ e

      go : (j : ℕ) → index_of v r ≡ j → next (get_or (get_or r (length r - 1) 0 ∷ r) j 0) r ≡ v
      go zero e = let h = inside in after (length r - 1) (omega arith) (get_or-eq_default r (get_or r 0 0) (omega arith) ∙ ap (λ (j : ℕ). get_or r j 0) (sym e) ∙ index_is v r 0 m)
      go (suc j) e = let h = inside in after j (omega arith) (get_d_any r (suc j) (get_or r 0 0) 0 (omega arith) ∙ ap (λ (j : ℕ). get_or r j 0) (sym e) ∙ index_is v r 0 m)

  -- and stands before the entry after it, which is an entry too
  prior_after : (prior (next v r) r ≡ v) × Memᴰ (next v r) r
  prior_after = go (ltb (suc (index_of v r)) (length r)) refl
    where
      j : ℕ
      j = index_of v r

      at : (k : ℕ) → k < length r → next v r ≡ get_or r k 0 → get_or (get_or r (length r - 1) 0 ∷ r) k 0 ≡ v → (prior (next v r) r ≡ v) × Memᴰ (next v r) r
      at k h e back =
          let here = ap (λ (x : ℕ). index_of x r) e ∙ index_at r k 0 (no_repeat_once r once) h in
          (ap (λ (i : ℕ). get_or (get_or r (length r - 1) 0 ∷ r) i 0) here ∙ back, Memᴰ.cast e (mem-at r k 0 h))

      follows : get_or r (suc j) (get_or r 0 0) ≡ next v r
      follows = next-successor_mark v r (mem-member v r m)

      go : (b : Bool) → ltb (suc j) (length r) ≡ b → (prior (next v r) r ≡ v) × Memᴰ (next v r) r
      go true q = let h = ltb-true (suc j) (length r) q in at (suc j) h (sym follows ∙ get_d_any r (suc j) (get_or r 0 0) 0 h) (index_is v r 0 m)
      go false q =
          let h = ltb-false (suc j) (length r) q in
          let l = inside in
          let last : length r - 1 ≡ j = omega arith in
          at 0 (omega arith) (sym follows ∙ get_or-eq_default r (get_or r 0 0) (omega arith)) (ap (λ (k : ℕ). get_or r k 0) last ∙ index_is v r 0 m)

-- where no dart to an entry of a list is in doubt, none is, with the entry before it
none-unconfirmed : (t : List ℕ) (u w : ℕ) (l : List ℕ) → some_unconfirmed t u w l ≡ false → (k : ℕ) → k < length l → unconfirmed t u (get_or (w ∷ l) k 0) (get_or l k 0) ≡ false
unfolding some_unconfirmed
none-unconfirmed t u w [] e k h = absurd (omega arith)
none-unconfirmed t u w (v ∷ l) e zero h = (or_no (unconfirmed t u w v) (some_unconfirmed t u v l) e).0
none-unconfirmed t u w (v ∷ l) e (suc k) h = none-unconfirmed t u v l (or_no (unconfirmed t u w v) (some_unconfirmed t u v l) e).1 k (omega arith)

-- ---- the rings that outer darts leave
-- rule 8: the first entry and the last of a border ring
border-ends : (p : Plan) (u : ℕ) → u < 4 → bad_border p u ≡ false → (0 < length (ring p u)) × (get_or (ring p u) 0 0 ≡ (u + 1) % 4) × (get_or (ring p u) (length (ring p u) - 1) 0 ≡ (u + 3) % 4)
unfolding bad_border
border-ends p u h b = go (length r) refl
  where
    r : List ℕ
    r = ring p u

    x : Bool
    x = eqb (get_or r 0 u) ((u + 1) % 4)

    y : Bool
    y = eqb (get_or r (length r - 1) u) ((u + 3) % 4)

    ends : (get_or r 0 u ≡ (u + 1) % 4) × (get_or r (length r - 1) u ≡ (u + 3) % 4)
    ends =
        let z = not (member ((u + 2) % 4) r) in
        let (xy, _) = and_yes (x && y) z (not-false (x && y && z) b) in
        let (e, f) = and_yes x y xy in
        (eqb-true (get_or r 0 u) ((u + 1) % 4) e, eqb-true (get_or r (length r - 1) u) ((u + 3) % 4) f)

    go : (k : ℕ) → length r ≡ k → (0 < length r) × (get_or r 0 0 ≡ (u + 1) % 4) × (get_or r (length r - 1) 0 ≡ (u + 3) % 4)
    go zero q = let none = get_or-eq_default r u {n = 0} (omega arith) in let (e, f) = ends in absurd (omega arith)
    go (suc k) q = let (e, f) = ends in (omega arith, get_d_any r 0 0 u (omega arith) ∙ e, get_d_any r (length r - 1) 0 u (omega arith) ∙ f)

-- ---- what is not in doubt of a dart from u, by the plan's own table
module _ (p : Plan) (few : context_count p ≤ 200) (made : apart p ≡ true) (side : (u : ℕ) → u < 4 → bad_border p u ≡ false)
    (sure : (u : ℕ) → u < context_count p → (v : ℕ) → Memᴰ v (ring p u) → unconfirmed (successors_of p) u (prior v (ring p u)) v ≡ false) where
  abbrev t : List ℕ
  t = successors_of p

  once : (u : ℕ) → u < context_count p → repeats (ring p u) ≡ false
  once u low = apart-once p few made u low

  module _ (u : ℕ) (low : u < context_count p) (v : ℕ) (m : Memᴰ v (ring p u)) where
    parts : (eqb u v ≡ false) × ((not (eqb (get_or t (cell_at v u) 0) (prior v (ring p u) + 1)) && not (outer (u, v))) ≡ false)
    unfolding unconfirmed
    parts = or_no (eqb u v) (not (eqb (get_or t (cell_at v u) 0) (prior v (ring p u) + 1)) && not (outer (u, v))) (sure u low v m)

    -- v is another context
    other : u ≡ v → ⊥
    other = eqb-false u v parts.0

    -- the table says the entry before v, unless the dart is outer
    noted : outer (u, v) ≡ false → get_or t (cell_at v u) 0 ≡ prior v (ring p u) + 1
    noted o = let e = parts.1 in go (eqb (get_or t (cell_at v u) 0) (prior v (ring p u) + 1)) refl (rw o at e)
      where
        go : (b : Bool) → eqb (get_or t (cell_at v u) 0) (prior v (ring p u) + 1) ≡ b → (not b && true) ≡ false → get_or t (cell_at v u) 0 ≡ prior v (ring p u) + 1
        go true q e = eqb-true (get_or t (cell_at v u) 0) (prior v (ring p u) + 1) q
        go false q e = cc

    -- the table has a row for v
    small : v < 200
    small = go (outer (u, v)) refl
      where
        go : (b : Bool) → outer (u, v) ≡ b → v < 200
        go true o = let (_, e) = outer-says (u, v) o in omega arith
        go false o = let e = noted o in let long = successors_long p in row_there t v u (omega arith) (λ z. omega arith)

  -- a dart that is not outer: v lists u, and after u the entry before v
  turned : (u : ℕ) (low : u < context_count p) (v : ℕ) (m : Memᴰ v (ring p u)) → outer (u, v) ≡ false → (adjacent p v u ≡ true) × (next u (ring p v) ≡ prior v (ring p u))
  turned u low v m o =
      let w = prior v (ring p u) in
      let h = small u low w (prior-mem (ring p u) (once u low) v m) in
      let e = sym (successor-cell t v u (small u low v m) (omega arith)) ∙ noted u low v m o ∙ add-one w in
      (successor-some p refl v u (λ z. omega arith), successor-next p refl v u w e (λ q. omega arith))

  -- v lists u in any case
  returns : (u : ℕ) → u < context_count p → (v : ℕ) → Memᴰ v (ring p u) → adjacent p v u ≡ true
  unfolding adjacent
  returns u low v m = go (outer (u, v)) refl
    where
      go : (b : Bool) → outer (u, v) ≡ b → member u (ring p v) ≡ true
      go true o =
          let (h, e) = outer-says (u, v) o in
          let (some, _, last) = border-ends p v (omega arith) (side v (omega arith)) in
          let same : u ≡ (v + 3) % 4 = omega arith in
          mem-member u (ring p v) (Memᴰ.cast (same ∙ sym last) (mem-at (ring p v) (length (ring p v) - 1) 0 (omega arith)))
      go false o = (turned u low v m o).0

  -- after a dart that is not outer comes no outer dart
  inner : (u v : ℕ) → outer (u, v) ≡ false → v < context_count p → Memᴰ u (ring p v) → outer (v, next u (ring p v)) ≡ false
  inner u v o low m = go (outer (v, next u (ring p v))) refl
    where
      r : List ℕ
      r = ring p v

      go : (b : Bool) → outer (v, next u r) ≡ b → b ≡ false
      go false q = refl
      go true q =
          let (h, e) = outer-says (v, next u r) q in
          let (some, first, last) = border-ends p v h (side v h) in
          let here = ap (λ (x : ℕ). index_of x r) (e ∙ sym first) ∙ index_at r 0 0 (no_repeat_once r (once v low)) some in
          let back = sym (prior_after r (once v low) u m).0 ∙ ap (λ (i : ℕ). get_or (get_or r (length r - 1) 0 ∷ r) i 0) here ∙ last in
          absurd (true≢false (sym (says-outer u v (omega arith) (omega arith)) ∙ o))

  -- so it comes back after three face steps
  closing : (u : ℕ) → u < context_count p → (v : ℕ) → Memᴰ v (ring p u) → outer (u, v) ≡ false → closes p (u, v) ≡ true
  unfolding closes step
  closing u low v m o =
      let (lists, one) = turned u low v m o in
      let l = adjacent-from p v u lists in
      let i = adjacent-mem p v u lists in
      let (back, j) = prior_after (ring p v) (once v l) u i in
      let two = (turned v l (next u (ring p v)) j (inner u v o l i)).1 ∙ back in
      let three = ap (λ (x : ℕ). next x (ring p u)) one ∙ after_prior (ring p u) (once u low) v m in
      rw (two, three, eq-eqb u u refl, eq-eqb v v refl)

module _ (p : Plan) (yes : sound p ≡ true) where
  tests : (context_count p ≤ 200) × (4 ≤ lowest (bad_border p) 4) × (apart p ≡ true) × (some_within (has_unconfirmed (successors_of p) p) 0 (context_count p) ≡ false)
  unfolding sound confirmed
  tests =
      let (ab, cd) = and_yes (leb (context_count p) 200 && leb 4 (lowest (bad_border p) 4)) (apart p && not (some_within (has_unconfirmed (successors_of p) p) 0 (context_count p))) yes in
      let (a, b) = and_yes (leb (context_count p) 200) (leb 4 (lowest (bad_border p) 4)) ab in
      let (c, d) = and_yes (apart p) (not (some_within (has_unconfirmed (successors_of p) p) 0 (context_count p))) cd in
      (leb-true (context_count p) 200 a, leb-true 4 (lowest (bad_border p) 4) b, c, not-true (some_within (has_unconfirmed (successors_of p) p) 0 (context_count p)) d)

  side : (u : ℕ) → u < 4 → bad_border p u ≡ false
  side u h = first-none (bad_border p) 0 4 tests.1 u (omega arith) (omega arith)

  sure : (u : ℕ) → u < context_count p → (v : ℕ) → Memᴰ v (ring p u) → unconfirmed (successors_of p) u (prior v (ring p u)) v ≡ false
  unfolding has_unconfirmed
  sure u low v m =
      let r = ring p u in
      let none = some-none (has_unconfirmed (successors_of p) p) 0 (context_count p - 0) tests.3 u (omega arith) (omega arith) in
      ap (unconfirmed (successors_of p) u (prior v r)) (sym (index_is v r 0 m)) ∙ none-unconfirmed (successors_of p) u (get_or r (length r - 1) 0) r none (index_of v r) (index_below v r m)

  module _ (u : ℕ) (low : u < context_count p) where
    darts : (v : ℕ) → Memᴰ v (ring p u) → (u ≡ v → ⊥) × (adjacent p v u ≡ true) × ((outer (u, v) || closes p (u, v)) ≡ true)
    darts v m = (other p tests.0 tests.2 side sure u low v m, returns p tests.0 tests.2 side sure u low v m, go (outer (u, v)) refl)
      where
        go : (b : Bool) → outer (u, v) ≡ b → (b || closes p (u, v)) ≡ true
        go true o = refl
        go false o = closing p tests.0 tests.2 side sure u low v m o

    good_entry : bad_entry p u ≡ false
    unfolding bad_entry
    good_entry =
        of_none (λ (v : ℕ). leb (context_count p) v || eqb v u) (ring p u)
        (λ v m. let (x, y, _) = darts v m in no_or (leb (context_count p) v) (eqb v u) (lt-leb (context_count p) v (adjacent-from p v u y)) (ne_eqb v u (λ q. x (sym q))))

    no_repeat : bad_repeat p u ≡ false
    unfolding bad_repeat
    no_repeat = apart-once p tests.0 tests.2 u low

    returned : unreturned p u ≡ false
    unfolding unreturned
    returned = of_none (λ (v : ℕ). not (adjacent p v u)) (ring p u) (λ v m. ap not (darts v m).1)

    good_face : bad_face p u ≡ false
    unfolding bad_face darts_from
    good_face = sym (list_any-map (λ (d : Dart). not (outer d || closes p d)) (λ (v : ℕ). (u, v)) (ring p u)) ∙ of_none (λ (v : ℕ). not (outer (u, v) || closes p (u, v))) (ring p u) (λ v m. ap not (darts v m).2)

  -- a rule that every context keeps has no place
  kept : (bad : ℕ → Bool) → ((u : ℕ) → u < context_count p → bad u ≡ false) → context_count p ≡ lowest bad (context_count p)
  kept bad h = sym (none_first bad 0 (context_count p) (λ v x y. h v (omega arith)) ∙ omega arith)

  -- 4
  pub four_kept : context_count p ≡ lowest (bad_entry p) (context_count p)
  four_kept = kept (bad_entry p) good_entry

  -- 5
  pub five_kept : context_count p ≡ lowest (bad_repeat p) (context_count p)
  five_kept = kept (bad_repeat p) no_repeat

  -- 6
  pub six_kept : context_count p ≡ lowest (unreturned p) (context_count p)
  six_kept = kept (unreturned p) returned

  -- 8
  pub eight_kept : 4 ≤ lowest (bad_border p) 4
  eight_kept = tests.1

  -- 9
  pub nine_kept : context_count p ≡ lowest (bad_face p) (context_count p)
  nine_kept = kept (bad_face p) good_face
