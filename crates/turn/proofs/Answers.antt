-- The engine's answer is the model's: each case of the answer, and the labels beside it.
use Prim.Native.Nat.{ℕ, ◌/◌, ◌%◌, ◌≤◌, ◌<◌}
use mathlib.Core.Path.{◌≡◌, refl, sym, ap, ◌∙◌}
use mathlib.Core.Logic.{◌≢◌}
use mathlib.Core.List.{List, [], ◌∷◌, ◌++◌}
use mathlib.Core.Bool.{Bool, true, false}
use native.Mathlib.Omega.{arith}
use lib.ListN.{length, drop, take-append-drop}
use lib.Dec.{leb}
use borrow.Author.Tests.{leb-true, leb-false, le-leb, lt-leb, lt-ltb, le-ltb, eq-eqb, ne_eqb}
use Rattle.lists.specs.Ranges.{lowest}
use Rattle.lists.specs.Parts.{pairs}
use Rattle.lists.specs.Spans.{stretch}
use Rattle.lists.proofs.Parts.{length_pairs}
use Rattle.lists.proofs.Spans.{length-stretch, stretch-first}
use Rattle.model.specs.Outcome.{Outcome, accepted, refused, mapped, ◌>>◌, require, taken}
use Rattle.model.specs.Plan.{Plan, Dart, context_count, entry_count}
use Rattle.model.specs.Labels.{label_of, turned, put_label, breaks, label_rules}
use Rattle.model.specs.Turn.{bad_pair, quarters, turn_dart, turned_edges, turn}
use Rattle.model.proofs.LabelCounts.{turns_long}
use Rattle.model.proofs.Outcomes.{mapped_at, mapped_off}
use Rattle.plan_bounds.specs.Fits.{fit}
use Rattle.plan_bounds.proofs.Fits.{fit-says}
use Rattle.labels.proofs.Darts.{label_behind, put-behind, rules_behind}
use Rattle.turn.specs.EdgeTurns.{pairs_turned}
use Rattle.turn.specs.Turned.{labels_in_array, put_into}
use Rattle.turn.proofs.Named.{turn_long}

-- ---- edges turned in an array that holds labels, and something behind them
module _ (p : Plan) (q : ℕ) where
  -- a dart is turned before what is behind, which stays
  dart-behind : (d : Dart) (ls rest : List ℕ) → length ls ≡ entry_count p → turn_dart p q d (ls ++ rest) ≡ turn_dart p q d ls ++ rest
  unfolding turn_dart
  dart-behind d ls rest s =
      ap (λ (l : ℕ). put_label p d.0 d.1 (turned l q) (ls ++ rest)) (label_behind p ls rest s d.0 d.1)
      ∙ put-behind p ls rest s d.0 d.1 (turned (label_of p ls d.0 d.1) q)

  -- and so is each edge
  edges_behind : (ds : List Dart) (ls rest : List ℕ) → length ls ≡ entry_count p → turned_edges p q ds (ls ++ rest) ≡ turned_edges p q ds ls ++ rest
  unfolding turned_edges
  edges_behind [] ls rest s = refl
  edges_behind (d ∷ ds) ls rest s =
      let back = turn_dart p q (d.1, d.0) ls in
      let t : length back ≡ entry_count p = turn_long p q (d.1, d.0) ls ∙ s in
      ap (λ (b : List ℕ). turned_edges p q ds (turn_dart p q d b)) (dart-behind (d.1, d.0) ls rest s)
      ∙ ap (turned_edges p q ds) (dart-behind d back rest t)
      ∙ edges_behind ds (turn_dart p q d back) rest (turn_long p q d back ∙ t)

-- ---- what an array begins with, and what is behind
-- the first k, and the others
array_split : (l : List ℕ) (k : ℕ) → k ≤ length l → l ≡ stretch l 0 k ++ drop k l
array_split l k h = sym (take-append-drop k l) ∙ ap (λ (m : List ℕ). m ++ drop k l) (sym (stretch-first l k h))

-- ---- the model's turn, in the order of its tests
module _ (p : Plan) (ls items : List ℕ) (direction : ℕ) where
  -- the number of pairs
  abbrev Many : ℕ
  Many = length (pairs items)

  -- the first bad pair
  abbrev First : ℕ
  First = lowest (bad_pair p (pairs items)) Many

  -- the labels after all edges are turned
  abbrev After : List ℕ
  After = turned_edges p (quarters direction) (pairs items) ls

  -- a bad pair comes first
  turn-pair : First < Many → turn p ls items direction ≡ refused 15 First
  unfolding turn
  turn-pair h = rw (lt-leb Many First h)

  -- then an item over
  turn_odd : Many ≤ First → length items % 2 ≢ 0 → turn p ls items direction ≡ refused 15 Many
  unfolding turn
  turn_odd h odd = rw (le-leb Many First h, ne_eqb (length items % 2) 0 odd)

  -- then a direction above 1
  turn_direction : Many ≤ First → length items % 2 ≡ 0 → 2 ≤ direction → turn p ls items direction ≡ refused 15 Many
  unfolding turn
  turn_direction h even far = rw (le-leb Many First h, eq-eqb (length items % 2) 0 even, le-ltb direction 2 far)

  -- then the label rules
  turn_rules : Many ≤ First → length items % 2 ≡ 0 → direction < 2 → turn p ls items direction ≡ (label_rules p After >> accepted After)
  unfolding turn
  turn_rules h even near = rw (le-leb Many First h, eq-eqb (length items % 2) 0 even, lt-ltb direction 2 near)

-- ---- the pass over the pairs
module _ (p : Plan) (q : ℕ) (es : List Dart) (old : List ℕ) where
  -- what it answers, by whether the pairs are good
  abbrev Passed : Bool → Outcome (List ℕ)
  Passed t = require t 15 (lowest (bad_pair p es) (length es)) >> accepted (turned_edges p q es old)

  -- labels: no pair was bad, and all edges are turned
  pub pairs_good : {new : List ℕ} → accepted new ≡ pairs_turned p q es old → (length es ≤ lowest (bad_pair p es) (length es)) × (new ≡ turned_edges p q es old)
  unfolding pairs_turned taken
  pairs_good {new} e = go (leb (length es) (lowest (bad_pair p es) (length es))) refl e
    where
      go : (t : Bool) → leb (length es) (lowest (bad_pair p es) (length es)) ≡ t → accepted new ≡ Passed t → (length es ≤ lowest (bad_pair p es) (length es)) × (new ≡ turned_edges p q es old)
      go true h e = (leb-true _ _ h, ap (taken []) e)
      go false h e = absurd (cc)

  -- the refusal of the first bad pair
  abbrev First_bad : Outcome (List ℕ)
  First_bad = refused 15 (lowest (bad_pair p es) (length es))

  -- a refusal: of the first bad pair
  pub pairs_bad : {k at : ℕ} → refused k at ≡ pairs_turned p q es old → (lowest (bad_pair p es) (length es) < length es) × (refused k at ≡ First_bad)
  unfolding pairs_turned
  pairs_bad {k} {at} e = go (leb (length es) (lowest (bad_pair p es) (length es))) refl e
    where
      go : (t : Bool) → leb (length es) (lowest (bad_pair p es) (length es)) ≡ t → refused k at ≡ Passed t → (lowest (bad_pair p es) (length es) < length es) × (refused k at ≡ First_bad)
      go true h e = absurd (cc)
      go false h e = (leb-false _ _ h, e)

-- ---- the answer
module _ (p : Plan) (fits : fit p ≡ true) (labels items : List ℕ) (direction : ℕ) (full : length labels ≡ 1186) where
  -- the labels that the array holds
  abbrev Old : List ℕ
  Old = labels_in_array p labels

  -- what stands behind them
  abbrev Rest : List ℕ
  Rest = drop (entry_count p) labels

  -- what the model's turn makes of the array
  abbrev Answer : Outcome (List ℕ)
  Answer = mapped (put_into labels) (turn p Old items direction)

  -- one for each entry
  old-each : length Old ≡ entry_count p
  old-each = length-stretch labels 0 (entry_count p)

  -- the array begins with them
  old-front : labels ≡ Old ++ Rest
  old-front = let h = (fit-says p fits).room in array_split labels (entry_count p) (omega arith)

  -- 15 at the first bad pair
  pub answer_pair : (q : ℕ) {k at : ℕ} → refused k at ≡ pairs_turned p q (pairs items) labels → refused k at ≡ Answer
  answer_pair q {k} {at} e =
      let (h, same) = pairs_bad p q (pairs items) labels e in
      sym (mapped_off (put_into labels) (turn p Old items direction) k at (turn-pair p Old items direction h ∙ sym same))

  module _ (q : ℕ) {new : List ℕ} (passed : accepted new ≡ pairs_turned p q (pairs items) labels) where
    good : Many p Old items direction ≤ First p Old items direction
    good = (pairs_good p q (pairs items) labels passed).0

    -- 15 at the number of pairs, for an item over
    pub answer_odd : {m : ℕ} → m ≡ length items / 2 → length items % 2 ≢ 0 → refused 15 m ≡ Answer
    answer_odd {m} halves odd = sym (mapped_off (put_into labels) (turn p Old items direction) 15 m (turn_odd p Old items direction good odd ∙ ap (refused 15) (length_pairs items ∙ sym halves)))

    module _ (even : length items % 2 ≡ 0) where
      -- 15 at the number of pairs, for a direction above 1
      pub answer_direction : {m : ℕ} → m ≡ length items / 2 → 1 < direction → refused 15 m ≡ Answer
      answer_direction {m} halves far = sym (mapped_off (put_into labels) (turn p Old items direction) 15 m (turn_direction p Old items direction good even (omega arith) ∙ ap (refused 15) (length_pairs items ∙ sym halves)))

      module _ (near : direction ≤ 1) (by : q ≡ quarters direction) where
        -- the labels after all edges are turned
        abbrev New : List ℕ
        New = After p Old items direction

        -- the array begins with them, and what was behind is there still
        new_front : new ≡ New ++ Rest
        new_front =
            (pairs_good p q (pairs items) labels passed).1
            ∙ (λ i. turned_edges p (by i) (pairs items) (old-front i))
            ∙ edges_behind p (quarters direction) (pairs items) Old Rest old-each

        -- they are as many as before
        new_long : length New ≡ entry_count p
        new_long = turns_long p (quarters direction) (pairs items) Old ∙ old-each

        -- only the label rules are left, on the array as on the labels alone
        answered : {judged : Outcome (Unit {0})} → judged ≡ label_rules p new → turn p Old items direction ≡ (judged >> accepted New)
        unfolding label_rules
        answered ten =
            let same : lowest (breaks p new) (context_count p) ≡ lowest (breaks p New) (context_count p) = ap (λ (l : List ℕ). lowest (breaks p l) (context_count p)) new_front ∙ rules_behind p New Rest new_long (context_count p) in
            turn_rules p Old items direction good even (omega arith)
            ∙ ap (λ (o : Outcome (Unit {0})). o >> accepted New) (sym (ten ∙ ap (λ (u : ℕ). require (leb (context_count p) u) 10 u) same))

        -- 10 at the lowest context that breaks them
        pub answer_broken : {k at : ℕ} → refused k at ≡ label_rules p new → refused k at ≡ Answer
        answer_broken {k} {at} ten = sym (mapped_off (put_into labels) (turn p Old items direction) k at (answered ten))

        -- none breaks them
        pub answer_labelled : accepted tt ≡ label_rules p new → accepted new ≡ Answer
        answer_labelled ten = ap accepted (new_front ∙ ap (λ (k : ℕ). New ++ drop k labels) (sym new_long)) ∙ sym (mapped_at (put_into labels) (turn p Old items direction) New (answered ten))
