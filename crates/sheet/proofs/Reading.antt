-- What a struct reads as, by the number of its stage; and what a call answers and leaves.
use Prim.Native.Nat.{ℕ, ◌≤◌, ◌<◌, min, max}
use mathlib.Core.Path.{◌≡◌, refl, sym, ap, ◌∙◌}
use mathlib.Core.Bool.{Bool, true, false, cond}
use native.Mathlib.Omega.{arith}
use lib.ListN.{length, take, drop, take-append-drop}
use lib.Seq.{length-take-le}
use Rattle.lists.specs.Spans.{stretch}
use Rattle.lists.proofs.Stretches.{stretch-front}
use lib.Dec.{leb, ltb}
use borrow.Author.Tests.{leb-true, leb-false, lt-leb}
use Rattle.std.specs.Prelude.{Ok, Err}
use Rattle.std.specs.Ordering.{partial_lt, ord_max}
use Rattle.std.proofs.lemmas.Bool.Decides.{nat_tests}
use Rattle.model.specs.Outcome.{Outcome, accepted, refused, passed, require, taken, ◌>>◌}
use Rattle.std.specs.declared.result.Result.{Result}
use Rattle.refusal.specs.declared.Refusal.{Refusal}
use Rattle.refusal.specs.Refusals.{outcome_of}
use Rattle.model.specs.Plan.{context_count, entry_count, plan_rules}
use Rattle.model.specs.Labels.{label_rules}
use Rattle.model.specs.File as file
use Rattle.model.specs.Calls.{require_plan, require_labels, require_chart, judge}
use Rattle.rings.specs.declared.Rings as rings
use Rattle.rings.specs.Tables as flat
use Rattle.rings.specs.Tables.{start_of, starts_of, rows, table}
use Rattle.rings.proofs.Rows.{count-rows}
use Rattle.plan_bounds.proofs.Fits.{fit-says, total-is, all-counted}
use Rattle.model.proofs.Outcomes.{not-both, require-passed, then_accepted}
use Rattle.sheet.specs.contracts.StageOrd.TheImpl.{cmp-value}
use Rattle.sheet.specs.contracts.StagePartialOrd.TheImpl.{partial_cmp-value}
use Rattle.sheet.specs.declared.Sheet.{Sheet}
use Rattle.sheet.specs.declared.Stage.{Stage}
use Rattle.sheet.specs.declared.Stage.TheVariants.{Empty, Open, Labelled, Charted}
use Rattle.sheet.specs.Sheets.{held_count, held_plan, held_labels, held_chart, held_sheet, fits, reads, stage_read, rank, packed}
use Rattle.sheet.specs.Answers.{packed_as, answer_of, after}

-- ---- a struct reads by the stage that counts
pub reads-stage : (s : Sheet) → reads s ≡ held_sheet (stage_read s) s
unfolding reads stage_read held_sheet
reads-stage s = go (fits s)
  where
    go : (b : Bool) → cond b (held_sheet s.stage s) file.fresh ≡ held_sheet (cond b s.stage Empty) s
    go true = refl
    go false = refl

module _ (s : Sheet) where
  pub plan_early : rank (stage_read s) < 1 → require_plan (reads s) ≡ refused 13 0
  unfolding rank held_sheet require_plan
  plan_early h = ap require_plan (reads-stage s) ∙ go (stage_read s) h
    where
      go : (g : Stage) → rank g < 1 → require_plan (held_sheet g s) ≡ refused 13 0
      go Empty h = refl
      go Open h = absurd (omega arith)
      go Labelled h = absurd (omega arith)
      go Charted h = absurd (omega arith)

  pub plan_there : 1 ≤ rank (stage_read s) → require_plan (reads s) ≡ accepted (held_plan s)
  unfolding rank held_sheet require_plan
  plan_there h = ap require_plan (reads-stage s) ∙ go (stage_read s) h
    where
      go : (g : Stage) → 1 ≤ rank g → require_plan (held_sheet g s) ≡ accepted (held_plan s)
      go Empty h = absurd (omega arith)
      go Open h = refl
      go Labelled h = refl
      go Charted h = refl

  pub labels_early : rank (stage_read s) < 2 → require_labels (reads s) ≡ refused 13 0
  unfolding rank held_sheet require_labels
  labels_early h = ap require_labels (reads-stage s) ∙ go (stage_read s) h
    where
      go : (g : Stage) → rank g < 2 → require_labels (held_sheet g s) ≡ refused 13 0
      go Empty h = refl
      go Open h = refl
      go Labelled h = absurd (omega arith)
      go Charted h = absurd (omega arith)

  pub labels_there : 2 ≤ rank (stage_read s) → require_labels (reads s) ≡ accepted (held_plan s, held_labels s)
  unfolding rank held_sheet require_labels
  labels_there h = ap require_labels (reads-stage s) ∙ go (stage_read s) h
    where
      go : (g : Stage) → 2 ≤ rank g → require_labels (held_sheet g s) ≡ accepted (held_plan s, held_labels s)
      go Empty h = absurd (omega arith)
      go Open h = absurd (omega arith)
      go Labelled h = refl
      go Charted h = refl

  pub chart_early : rank (stage_read s) < 3 → require_chart (reads s) ≡ refused 13 0
  unfolding rank held_sheet require_chart
  chart_early h = ap require_chart (reads-stage s) ∙ go (stage_read s) h
    where
      go : (g : Stage) → rank g < 3 → require_chart (held_sheet g s) ≡ refused 13 0
      go Empty h = refl
      go Open h = refl
      go Labelled h = refl
      go Charted h = absurd (omega arith)

  pub chart_there : 3 ≤ rank (stage_read s) → require_chart (reads s) ≡ accepted (held_plan s, held_chart s)
  unfolding rank held_sheet require_chart
  chart_there h = ap require_chart (reads-stage s) ∙ go (stage_read s) h
    where
      go : (g : Stage) → 3 ≤ rank g → require_chart (held_sheet g s) ≡ accepted (held_plan s, held_chart s)
      go Empty h = absurd (omega arith)
      go Open h = absurd (omega arith)
      go Labelled h = absurd (omega arith)
      go Charted h = refl

  -- past EMPTY the plan fits
  pub fits_there : 1 ≤ rank (stage_read s) → fits s ≡ true
  unfolding rank stage_read
  fits_there h = go (fits s) refl h
    where
      go : (b : Bool) → fits s ≡ b → 1 ≤ rank (cond b s.stage Empty) → fits s ≡ true
      go true e h = e
      go false e h = absurd (omega arith)

  -- and the stage that stands counts
  pub stage_there : 1 ≤ rank (stage_read s) → stage_read s ≡ s.stage
  unfolding stage_read
  stage_there h = ap (λ (b : Bool). cond b s.stage Empty) (fits_there h)

  -- and it keeps its rules, where the sheet keeps what an opened file must keep
  pub rules_there : 1 ≤ rank (stage_read s) → judge (reads s) ≡ passed → plan_rules (held_plan s) ≡ passed
  unfolding rank held_sheet judge
  rules_there h e = go (stage_read s) h (ap judge (sym (reads-stage s)) ∙ e)
    where
      go : (g : Stage) → 1 ≤ rank g → judge (held_sheet g s) ≡ passed → plan_rules (held_plan s) ≡ passed
      go Empty h j = absurd (omega arith)
      go Open h j = j
      go Labelled h j = (then_accepted (plan_rules (held_plan s)) (label_rules (held_plan s) (held_labels s)) tt j).0
      go Charted h j =
          let rules = plan_rules (held_plan s) >> label_rules (held_plan s) (held_labels s) in
          (then_accepted (plan_rules (held_plan s)) (label_rules (held_plan s) (held_labels s)) tt (then_accepted rules _ tt j).0).0

  -- the plan has n contexts
  pub count_held : context_count (held_plan s) ≡ s.n
  unfolding held_plan table
  count_held = count-rows (starts_of s.sizes) s.sizes s.entries s.n

  -- what a plan that fits has: at most 200 contexts, and room for its entries
  pub few : fits s ≡ true → s.n ≤ 200
  unfolding fits
  few e = let h = (fit-says (held_plan s) e).few in let n = count_held in omega arith

  pub room : fits s ≡ true → start_of s.sizes s.n ≤ 1186
  unfolding fits held_plan
  room e = let h = (fit-says (held_plan s) e).room in let t = total-is s.sizes s.entries s.n (few e) in omega arith

  -- how many entries the plan has
  pub entries-held : fits s ≡ true → entry_count (held_plan s) ≡ held_count s
  unfolding held_plan held_count
  entries-held f = total-is s.sizes s.entries s.n (few f)

  -- rings that begin where the plan's rings begin
  pub rings-held : (r : rings.Rings) → r.starts.now ≡ starts_of s.sizes → r.sizes.now ≡ s.sizes → r.entries.now ≡ s.entries → r.n ≡ s.n → flat.plan_of r ≡ held_plan s
  unfolding held_plan table
  rings-held r a b c d = λ i. rows (a i) (b i) (c i) (d i)

  -- how many entries the code counts
  pub total-held : {n k : ℕ} → fits s ≡ true → n ≡ s.n → k ≡ start_of s.sizes (min n 200) → k ≡ start_of s.sizes s.n
  total-held {n} f e q = q ∙ ap (start_of s.sizes) (let h = few f in omega arith)

-- ---- the labels, lent as the first part of their array
pub labels_lent : (s : Sheet) {k m : ℕ} → length s.labels ≡ 1186 → k ≡ start_of s.sizes (min s.n 200) → m ≡ min k 1186 → fits s ≡ true → take m s.labels ≡ held_labels s
unfolding held_labels held_count
labels_lent s {k} {m} long e q f =
    let t = all-counted s.sizes (few s f) e in
    let h = room s f in
    sym (stretch-front (take m s.labels) (drop m s.labels))
    ∙ (λ i. stretch (take-append-drop m s.labels i) 0 (length-take-le m s.labels (omega arith) i))
    ∙ ap (stretch s.labels 0) (let same : m ≡ k = omega arith in same ∙ t)

-- ---- the stage that a call needs
-- the stages stand in the order of their numbers
pub below : (g h : Stage) → partial_lt partial_cmp-value.it g h ≡ ltb (rank g) (rank h)
unfolding rank
below Empty Empty = refl
below Empty Open = refl
below Empty Labelled = refl
below Empty Charted = refl
below Open Empty = refl
below Open Open = refl
below Open Labelled = refl
below Open Charted = refl
below Labelled Empty = refl
below Labelled Open = refl
below Labelled Labelled = refl
below Labelled Charted = refl
below Charted Empty = refl
below Charted Open = refl
below Charted Labelled = refl
below Charted Charted = refl

-- whether a stage is reached, by that order
pub stage_order : (g h : Stage) → cond (partial_lt partial_cmp-value.it h g) (refused 13 0) passed ≡ require (leb (rank g) (rank h)) 13 0
stage_order g h = ap (λ (b : Bool). cond b (refused 13 0) passed) (below h g) ∙ turned (rank g) (rank h)
  where
    turned : (a b : ℕ) → cond (ltb b a) (refused 13 0) passed ≡ require (leb a b) 13 0
    turned a b = grind (arith, nat_tests)

-- what the answer of a test for a stage says, whatever else it gives
module _ (s : Sheet) (k : ℕ) {A : Type 0} (r : Result A Refusal) (q : answer_of (outcome_of r) ≡ require (leb k (rank (stage_read s))) 13 0) where
  says : {v : Result A Refusal} → r ≡ v → answer_of (outcome_of v) ≡ require (leb k (rank (stage_read s))) 13 0
  says e = ap (λ (w : Result A Refusal). answer_of (outcome_of w)) (sym e) ∙ q

  -- the stage is reached
  pub fitting_reached : (a : A) → r ≡ Ok a → k ≤ rank (stage_read s)
  unfolding answer_of
  fitting_reached a e = leb-true k (rank (stage_read s)) (require-passed (leb k (rank (stage_read s))) 13 0 (sym (says e)))

  -- it is too early
  pub fitting_missed : (f : Refusal) → r ≡ Err f → rank (stage_read s) < k
  unfolding answer_of
  fitting_missed f e = go (leb k (rank (stage_read s))) refl
    where
      go : (b : Bool) → leb k (rank (stage_read s)) ≡ b → rank (stage_read s) < k
      go true t = not-both (says e ∙ ap (λ (b : Bool). require b 13 0) t)
      go false t = leb-false k (rank (stage_read s)) t

  -- and the refusal is 13, whatever the call answers else
  pub fitting_refused : {B : Type 0} → (f : Refusal) → r ≡ Err f → outcome_of {A = B} (Err f) ≡ refused 13 0
  unfolding answer_of
  fitting_refused {B} f e =
      let h = fitting_missed f e in
      ap (λ (o : Outcome (Unit {0})). o >> other) (says e ∙ ap (λ (b : Bool). require b 13 0) (lt-leb k (rank (stage_read s)) h))
    where
      other : Outcome B
      other = refused 13 0

-- so of a test that gives nothing else
module _ (s : Sheet) (g : Stage) (r : Result (Unit {0}) Refusal) (q : outcome_of r ≡ require (leb (rank g) (rank (stage_read s))) 13 0) where
  alone : answer_of (outcome_of r) ≡ require (leb (rank g) (rank (stage_read s))) 13 0
  unfolding answer_of
  alone = go r ∙ q
    where
      go : (v : Result (Unit {0}) Refusal) → answer_of (outcome_of v) ≡ outcome_of v
      go (Ok tt) = refl
      go (Err f) = refl

  pub stage_reached : (u : Unit {0}) → r ≡ Ok u → rank g ≤ rank (stage_read s)
  stage_reached = fitting_reached s (rank g) r alone

  pub stage_missed : (f : Refusal) → r ≡ Err f → rank (stage_read s) < rank g
  stage_missed = fitting_missed s (rank g) r alone

  pub stage_refused : {A : Type 0} → (f : Refusal) → r ≡ Err f → outcome_of {A = A} (Err f) ≡ refused 13 0
  stage_refused = fitting_refused s (rank g) r alone

  -- and past EMPTY the plan fits
  pub reached_fits : (u : Unit {0}) → r ≡ Ok u → 1 ≤ rank g → fits s ≡ true
  reached_fits u e h = let k = stage_reached u e in fits_there s (omega arith)

-- the test for the later of a stage and OPEN, and that the plan fits where it passes
module _ (s : Sheet) (g m : Stage) (e : m ≡ ord_max cmp-value.it g Open) where
  open_up : rank m ≡ max (rank g) 1
  unfolding rank
  open_up = ap rank e ∙ go g
    where
      go : (h : Stage) → rank (ord_max cmp-value.it h Open) ≡ max (rank h) 1
      go Empty = refl
      go Open = refl
      go Labelled = refl
      go Charted = refl

  pub open_test : {o : Outcome (Unit {0})} → o ≡ require (leb (rank m) (rank (stage_read s))) 13 0 → o ≡ require (leb (max (rank g) 1) (rank (stage_read s))) 13 0
  open_test q = q ∙ ap (λ (k : ℕ). require (leb k (rank (stage_read s))) 13 0) open_up

  pub open_fits : passed ≡ require (leb (rank m) (rank (stage_read s))) 13 0 → fits s ≡ true
  open_fits q = reached_fits s m (Ok tt) q tt refl (omega (arith, open_up))

-- for the function that gives a sheet that fits
pub ruleset fitting_steps = (open_test, open_fits)

-- ---- what a call gives
-- where the model's call is refused
pub packed-off : {o : Outcome file.Sheet} {k at : ℕ} → o ≡ refused k at → packed_as o ≡ refused k at
unfolding packed_as
packed-off e = ap packed_as e

-- where it is accepted
pub packed-at : {o : Outcome file.Sheet} {t : file.Sheet} → o ≡ accepted t → packed_as o ≡ accepted (packed t)
unfolding packed_as
packed-at e = ap packed_as e

-- The result tells the answer, and with the sheet before the call the sheet after it
pub outcome_of-answers : (s : Sheet) (r : Result Sheet Refusal) (o : Outcome file.Sheet) → outcome_of r ≡ packed_as o → (answer_of (outcome_of r) ≡ answer_of o) × (taken s (outcome_of r) ≡ after s o)
unfolding packed_as answer_of after taken
outcome_of-answers s r o e = (ap answer_of e ∙ answers o, ap (taken s) e ∙ leaves o)
  where
    answers : (o : Outcome file.Sheet) → answer_of (packed_as o) ≡ answer_of o
    answers (accepted t) = refl
    answers (refused k at) = refl

    leaves : (o : Outcome file.Sheet) → taken s (packed_as o) ≡ after s o
    leaves (accepted t) = refl
    leaves (refused k at) = refl
