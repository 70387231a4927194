-- What the pass over the named edges keeps, with a law for its start, its steps and its end.
use Prim.Native.Nat.{ℕ, zero, suc, ◌+◌, ◌/◌, ◌%◌, ◌≤◌, ◌<◌}
use mathlib.Core.Path.{◌≡◌, refl, sym, ap, ◌∙◌, subst}
use mathlib.Core.List.{List, [], ◌∷◌, ◌++◌}
use mathlib.Core.Bool.{Bool, true, false, cond, not, ◌&&◌, ◌||◌}
use native.Mathlib.Omega.{arith}
use lib.ListN.{length, get_or, set, take}
use lib.Seq.{take-suc, take_all}
use lib.Dec.{eqb}
use Rattle.std.specs.Simd.{first_chunks}
use Rattle.std.proofs.Common.{Some, None}
use borrow.Author.Tests.{le-leb, lt-leb, lt-ltb, le-ltb}
use Rattle.std.specs.List.{list_any}
use Rattle.lists.specs.Ranges.{lowest}
use Rattle.lists.specs.Parts.{index_of, pairs}
use Rattle.lists.proofs.Bools.{or_no}
use Rattle.lists.proofs.Loops.{FindsLowest, lowest_start, lowest_hit, lowest_on, lowest_end}
use Rattle.model.specs.Outcome.{accepted, refused, ◌>>◌, require}
use Rattle.model.specs.Plan.{Plan, Dart, ring, adjacent, border, inner_edge, entry_count}
use Rattle.model.specs.Labels.{unlabelled, start, label_of, turned}
use Rattle.model.specs.Turn.{same_edge, bad_pair, turn_dart, turned_edges}
use Rattle.rings.specs.Tables.{starts_of, size_of, table, plan_of}
use Rattle.rings.specs.declared.Rings.{Rings}
use Rattle.rings.proofs.Rows.{count-rows}
use Rattle.plan_bounds.specs.Fits.{fit}
use Rattle.plan_bounds.proofs.Fits.{fit-says}
use Rattle.labels.proofs.Places.{is-table, dart_test, place_there}
use Rattle.labels.proofs.Darts.{Place, label_at-place, put_label-at-place, put_nowhere}
use Rattle.turn.specs.EdgeTurns.{label_position, turn_at, bad_at, unturned, pairs_turned}
use Rattle.turn.proofs.Named.{dart, Marks, marks-start, marks-on}

-- ---- the k-th pair of a list
-- the two numbers of the k-th chunk of two
pub chunk_is : (l : List ℕ) (m k : ℕ) {u v : ℕ} → k < m → m ≤ length l / 2 → u ≡ get_or (get_or (first_chunks 2 m l) k []) 0 0 → v ≡ get_or (get_or (first_chunks 2 m l) k []) 1 0 → get_or (pairs l) k (0, 0) ≡ dart u v
chunk_is l zero k h w e f = absurd (omega arith)
chunk_is [] (suc m) k h w e f = absurd (omega arith)
chunk_is (a ∷ []) (suc m) k h w e f = absurd (omega arith)
chunk_is (a ∷ b ∷ l) (suc m) zero h w e f = λ i. dart (sym e i) (sym f i)
chunk_is (a ∷ b ∷ l) (suc m) (suc k) h w e f = chunk_is l m k (omega arith) (omega arith) e f

-- ---- the position of a dart's label in an array
module _ (r : Rings) (fits : fit (plan_of r) ≡ true) (same : r.starts.now ≡ starts_of r.sizes.now) where
  small : r.n ≤ 200
  small =
      let h = (fit-says (plan_of r) fits).few in
      let n = count-rows r.starts.now r.sizes.now r.entries.now r.n in
      omega arith

  module _ (u v : ℕ) {s i k : ℕ} (from-s : s ≡ get_or r.starts.now u 0) (at : i ≡ index_of v (ring (plan_of r) u)) (size : k ≡ size_of r.sizes.now r.n u) where
    -- by the sizes alone
    by-sizes : label_position (table r.sizes.now r.entries.now r.n) u v ≡ label_position (plan_of r) u v
    by-sizes = ap (λ (p : Plan). label_position p u v) (sym (is-table r.starts.now r.sizes.now r.entries.now r.n same small))

    -- the index is below the size: the start and the index
    pub position_found : i < k → Some (s + i) ≡ label_position (plan_of r) u v
    unfolding label_position
    position_found h =
        ap Some (place_there r.starts.now r.sizes.now r.entries.now r.n same small u v from-s at size h)
        ∙ sym (rw (dart_test r.starts.now r.sizes.now r.entries.now r.n same small u v from-s at size ∙ lt-ltb i k h))
        ∙ by-sizes

    -- it is not: there is no dart
    pub position_missing : k ≤ i → None ≡ label_position (plan_of r) u v
    unfolding label_position
    position_missing h = sym (rw (dart_test r.starts.now r.sizes.now r.entries.now r.n same small u v from-s at size ∙ le-ltb i k h)) ∙ by-sizes

-- ---- a dart turned at its position
module _ (p : Plan) (u v : ℕ) where
  -- a position that was found is that of a dart
  position_is : {i : ℕ} → Some i ≡ label_position p u v → (adjacent p u v ≡ true) × (i ≡ Place p u v)
  unfolding label_position
  position_is {i} e = go (adjacent p u v) refl e
    where
      go : (t : Bool) → adjacent p u v ≡ t → Some i ≡ cond t (Some (start p u + index_of v (ring p u))) None → (adjacent p u v ≡ true) × (i ≡ Place p u v)
      go true d e = (d, cc)
      go false d e = absurd (cc)

  -- where none was found there is no dart
  position_none : None ≡ label_position p u v → adjacent p u v ≡ false
  unfolding label_position
  position_none e = go (adjacent p u v) refl e
    where
      go : (t : Bool) → adjacent p u v ≡ t → None ≡ cond t (Some (start p u + index_of v (ring p u))) None → adjacent p u v ≡ false
      go true d e = absurd (cc)
      go false d e = d

  -- the label at the position is the dart's
  pub turned-at : (q : ℕ) (ls : List ℕ) {i : ℕ} → Some i ≡ label_position p u v → turn_at q i ls ≡ turn_dart p q (dart u v) ls
  unfolding turn_at turn_dart
  turned-at q ls {i} e =
      let (d, at) = position_is e in
      ap (λ (j : ℕ). set ls j (turned (get_or ls j unlabelled) q)) at
      ∙ ap (λ (l : ℕ). set ls (Place p u v) (turned l q)) (sym (label_at-place p u v d ls))
      ∙ sym (put_label-at-place p u v d ls (turned (label_of p ls u v) q))

  -- where there is no dart nothing is turned
  pub turned_none : (q : ℕ) (ls : List ℕ) → None ≡ label_position p u v → ls ≡ turn_dart p q (dart u v) ls
  unfolding turn_dart
  turned_none q ls e = sym (put_nowhere p u v (position_none e) ls (turned (label_of p ls u v) q))

-- ---- for k in 0..m { find the position of pair k, or return k; turn the edge; }
pub record Turns (p : Plan) (q : ℕ) (es : List Dart) (old : List ℕ) (k : ℕ) (new : List ℕ) : Type 0 where
  pub looks : FindsLowest (bad_pair p es) (length es) k
  pub same : new ≡ turned_edges p q (take k es) old
  pub marks : Marks p old (take k es) new

-- edges turned one list after the other
edges_append : (p : Plan) (q : ℕ) (ds es : List Dart) (ls : List ℕ) → turned_edges p q (ds ++ es) ls ≡ turned_edges p q es (turned_edges p q ds ls)
unfolding turned_edges
edges_append p q [] es ls = refl
edges_append p q (d ∷ ds) es ls = edges_append p q ds es (turn_dart p q d (turn_dart p q (d.1, d.0) ls))

-- before the first pair
pub turns-start : {p : Plan} {q : ℕ} {es : List Dart} {old : List ℕ} → Turns p q es old 0 old
unfolding turned_edges
turns-start {p} {q} {es} {old} = record { looks = lowest_start; same = refl; marks = marks-start p old }

module _ {p : Plan} {q : ℕ} {es : List Dart} {old : List ℕ} {k : ℕ} {new : List ℕ} (inv : Turns p q es old k new) where
  -- the labels stay as many
  pub turns_long : length new ≡ length old
  turns_long = inv.marks.long

  -- past the last pair none was bad, and all edges are turned
  pub turns_end : {m : ℕ} → m ≡ length es → m ≤ k → accepted new ≡ pairs_turned p q es old
  unfolding pairs_turned
  turns_end e h =
      let last : k ≡ lowest (bad_pair p es) (length es) = lowest_end inv.looks (omega arith) in
      ap accepted (inv.same ∙ ap (λ (x : List Dart). turned_edges p q x old) (take_all k es (omega arith)))
      ∙ sym (ap (λ (t : Bool). require t 15 (lowest (bad_pair p es) (length es)) >> accepted (turned_edges p q es old)) (le-leb (length es) (lowest (bad_pair p es) (length es)) (omega arith)))

  module _ (room : entry_count p ≤ 1186) (full : length old ≡ 1186) (u v : ℕ) (pair : get_or es k (0, 0) ≡ dart u v) where
    -- the position that the code finds, by the model's test
    judged : unturned old new u v (label_position p u v) ≡ cond (bad_pair p es k) None (label_position p u v)
    unfolding bad_pair inner_edge bad_at label_position unturned
    judged = go (adjacent p u v) refl ∙ ap (λ (e : Dart). cond (not (inner_edge p e.0 e.1) || list_any (same_edge e) (take k es)) None (cond (adjacent p u v) (Some (start p u + index_of v (ring p u))) None)) (sym pair)
      where
        -- not not is nothing
        twice : (b : Bool) → b ≡ not (not b)
        twice true = refl
        twice false = refl

        go : (t : Bool) → adjacent p u v ≡ t → unturned old new u v (cond t (Some (start p u + index_of v (ring p u))) None)
            ≡ cond (not (t && not (border u && border v)) || list_any (same_edge (dart u v)) (take k es)) None (cond t (Some (start p u + index_of v (ring p u))) None)
        go true e =
            ap (λ (b : Bool). cond b None (Some (Place p u v)))
            ((λ j. border u && border v || not (eqb (sym (label_at-place p u v e new) j) (sym (label_at-place p u v e old) j)))
            ∙ (λ j. border u && border v || sym (inv.marks.same u v e) j)
            ∙ ap (λ (b : Bool). b || list_any (same_edge (dart u v)) (take k es)) (twice (border u && border v)))
        go false e = refl

    -- no dart, no good pair
    bad_missing : None ≡ label_position p u v → bad_pair p es k ≡ true
    unfolding bad_pair inner_edge
    bad_missing none =
        ap (λ (d : Dart). not (inner_edge p d.0 d.1) || list_any (same_edge d) (take k es)) pair
        ∙ ap (λ (t : Bool). not (t && not (border u && border v)) || list_any (same_edge (dart u v)) (take k es)) (position_none p u v none)

    -- where it finds none the pair is bad
    bad_none : None ≡ unturned old new u v (label_position p u v) → bad_pair p es k ≡ true
    bad_none e = go (bad_pair p es k) refl (e ∙ judged)
      where
        go : (t : Bool) → bad_pair p es k ≡ t → None ≡ cond t None (label_position p u v) → bad_pair p es k ≡ true
        go true b none = b
        go false b none = bad_missing none

    -- where it finds one it is the dart's, and the pair is not bad
    good_some : {i : ℕ} → Some i ≡ unturned old new u v (label_position p u v) → (Some i ≡ label_position p u v) × (bad_pair p es k ≡ false)
    good_some {i} e = go (bad_pair p es k) refl (e ∙ judged)
      where
        go : (t : Bool) → bad_pair p es k ≡ t → Some i ≡ cond t None (label_position p u v) → (Some i ≡ label_position p u v) × (bad_pair p es k ≡ false)
        go true b e = absurd (cc)
        go false b e = (e, b)

    -- a bad pair is the first
    pub turns_hit : {m : ℕ} → m ≡ length es → k < m → None ≡ unturned old new u v (label_position p u v) → refused 15 k ≡ pairs_turned p q es old
    unfolding pairs_turned
    turns_hit e h none =
        let first : k ≡ lowest (bad_pair p es) (length es) = lowest_hit inv.looks (omega arith) (bad_none none) in
        ap (refused 15) first
        ∙ sym (ap (λ (t : Bool). require t 15 (lowest (bad_pair p es) (length es)) >> accepted (turned_edges p q es old)) (lt-leb (length es) (lowest (bad_pair p es) (length es)) (omega arith)))

    -- the edge was not named before
    unnamed : bad_pair p es k ≡ false → list_any (same_edge (dart u v)) (take k es) ≡ false
    unfolding bad_pair
    unnamed b =
        ap (λ (e : Dart). list_any (same_edge e) (take k es)) (sym pair)
        ∙ (or_no (not (inner_edge p (get_or es k (0, 0)).0 (get_or es k (0, 0)).1)) (list_any (same_edge (get_or es k (0, 0))) (take k es)) b).1

    -- the edge of a pair that is not bad is turned
    pub turns-on : {m i : ℕ} {back new' : List ℕ} → m ≡ length es → k < m → q % 2 ≡ 1 → Some i ≡ unturned old new u v (label_position p u v) → back ≡ turn_dart p q (dart v u) new → new' ≡ turn_at q i back → Turns p q es old (k + 1) new'
    unfolding turned_edges
    turns-on {m} {i} {back} {new'} e h odd found one turned-too =
        let s : k + 1 ≡ suc k = omega arith in
        let (place, b) = good_some found in
        let more : take (k + 1) es ≡ take k es ++ (dart u v ∷ []) = ap (λ (x : ℕ). take x es) s ∙ take-suc es k (0, 0) (omega arith) ∙ ap (λ (x : Dart). take k es ++ (x ∷ [])) pair in
        let marked = marks-on inv.marks q odd (omega arith) u v (unnamed b) in
        let two : new' ≡ turn_dart p q (dart u v) (turn_dart p q (dart v u) new) =
        turned-too ∙ turned-at p u v q back place ∙ ap (turn_dart p q (dart u v)) one in
        record {
          looks = lowest_on inv.looks s (omega arith) b;
          same = two ∙ ap (λ (x : List ℕ). turn_dart p q (dart u v) (turn_dart p q (dart v u) x)) inv.same ∙ sym (ap (λ (x : List Dart). turned_edges p q x old) more ∙ edges_append p q (take k es) (dart u v ∷ []) old);
          marks = subst (λ (x : List Dart). Marks p old x new') (sym more) (subst (Marks p old (take k es ++ (dart u v ∷ []))) (sym two) marked);
        }
