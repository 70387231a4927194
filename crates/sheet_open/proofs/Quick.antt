-- A file whose plan has as many entries as 7 asks for and is sound keeps 4 to 9.
use Prim.Native.Nat.{ℕ, ◌-◌, ◌*◌, ◌≤◌, min}
use mathlib.Core.Path.{◌≡◌, refl, sym, ap, ◌∙◌, subst}
use mathlib.Core.List.{List, [], map}
use mathlib.Core.Bool.{Bool, true, false, cond}
use native.Mathlib.Omega.{arith}
use lib.ListN.{length}
use lib.Dec.{eqb, leb}
use borrow.Author.Tests.{leb-true, eqb-true, le-leb, eq-eqb}
use Rattle.lists.specs.Parts.{flatten}
use Rattle.lists.specs.Spans.{stretch, zero_padded}
use Rattle.lists.proofs.Bools.{and_yes}
use Rattle.model.specs.Outcome.{Outcome, accepted, refused, passed, ◌>>◌}
use Rattle.model.specs.Plan.{Plan, context_count, bad_entry, bad_repeat, unreturned, bad_border, bad_face, dart_count}
use Rattle.model.specs.Chart.{Chart}
use Rattle.model.specs.File as file
use Rattle.model.specs.File.{decode}
use Rattle.model.specs.Calls.{open_call}
use Rattle.rings.specs.Tables.{start_of, starts_of, table}
use Rattle.file_rings.proofs.Rings.{count-lent}
use Rattle.file_rings.proofs.Copied.{copied-zero_padded, entry-count-lent}
use Rattle.file_framing.specs.Layouts.{plan_in, label_bytes_at, chart_from, sheet_at, laid}
use Rattle.file_framing.specs.declared.layout.PartOffsets.{PartOffsets}
use Rattle.file_framing.specs.declared.layout.Layout.{Layout}
use Rattle.sheet.specs.declared.Sheet.{Sheet}
use Rattle.sheet.specs.declared.Stage.{Stage}
use Rattle.sheet.specs.declared.Stage.TheVariants.{Empty, Open, Labelled, Charted}
use Rattle.sheet.specs.Sheets.{held_plan, held_sheet, fits, reads, pack, no_chart, packed}
use Rattle.sheet.specs.Answers.{packed_as}
use Rattle.plan_check.specs.Sound.{sound}
use Rattle.plan_check.proofs.Sound.{four_kept, five_kept, six_kept, eight_kept, nine_kept}
use Rattle.sheet_open.specs.Opening.{file_rules, file_rules_of, rules_of, entries_due}
use Rattle.sheet_rules.specs.Rules.{flat_rules, flat_of, rules_from_10, rules_from_8}
use Rattle.sheet_rules.proofs.Rules.{first-passed}
use Rattle.sheet_open.proofs.Lent.{rule_kept, seven_judged}
use Rattle.model.proofs.Outcomes.{not-both}
use Rattle.sheet_open.proofs.Opened.{room_in, open_early, open_refused, open_accepted, sizes_lent}

-- ---- the test as the code makes it
pub due_total : (sizes : List ℕ) (n : ℕ) {t : ℕ} → 5 ≤ n → t ≡ start_of sizes (min n 200) → eqb t (6 * n - 14) ≡ entries_due sizes n
unfolding entries_due
due_total sizes n h e = ap (λ (k : ℕ). eqb k (dart_count n)) e ∙ sym (rw (le-leb 5 n h))

-- ---- what it says
due-says : (sizes : List ℕ) (n : ℕ) → n ≤ 200 → entries_due sizes n ≡ true → (5 ≤ n) × (start_of sizes n ≡ dart_count n)
unfolding entries_due
due-says sizes n few e =
    let (a, b) = and_yes (leb 5 n) (eqb (start_of sizes (min n 200)) (dart_count n)) e in
    let m : min n 200 ≡ n = omega arith in
    (leb-true 5 n a, ap (start_of sizes) (sym m) ∙ eqb-true (start_of sizes (min n 200)) (dart_count n) b)

-- the entries fit
due-room : (sizes : List ℕ) (n : ℕ) → n ≤ 200 → entries_due sizes n ≡ true → start_of sizes n ≤ 1186
due-room sizes n few e = let (a, b) = due-says sizes n few e in omega arith

-- 8 and 9
quick_flat : (p : Plan) → sound p ≡ true → passed ≡ flat_rules (context_count p) p
unfolding flat_rules
quick_flat p e =
    let here : context_count p ≤ context_count p = omega arith in
    rw (← rule_kept 8 4 (bad_border p) refl (eight_kept p e), ← rule_kept 9 (context_count p) (bad_face p) (nine_kept p e) here)

-- so 10 to 12 are what is left
quick_held : (t : Sheet) → sound (held_plan t) ≡ true → rules_from_10 (reads t) ≡ rules_from_8 (reads t)
unfolding reads held_sheet flat_of rules_from_8
quick_held t e = first-passed (flat_of (reads t)) (rules_from_10 (reads t)) (go (fits t) t.stage) refl
  where
    go : (b : Bool) (g : Stage) → passed ≡ flat_of (cond b (held_sheet g t) file.fresh)
    go false g = refl
    go true Empty = refl
    go true Open = quick_flat (held_plan t) e
    go true Labelled = quick_flat (held_plan t) e
    go true Charted = quick_flat (held_plan t) e

-- ---- the plan of what is copied is the plan in the file
module _ (b sizes : List ℕ) (n : ℕ) (few : n ≤ 200) where
  abbrev plan : Plan
  plan = plan_in b sizes n

  plan-copied : sizes ≡ zero_padded 200 (stretch sizes 0 n) → (g : Stage) (ls : List ℕ) (c : Chart) → held_plan (pack g plan.rings ls c) ≡ plan
  unfolding held_plan pack
  plan-copied whole g ls c =
      let long : zero_padded 200 (map length plan.rings) ≡ sizes = sym (whole ∙ ap (zero_padded 200) (sym (sizes_lent b sizes n))) in
      (λ i. table (long i) (zero_padded 1186 (flatten plan.rings)) (count-lent (starts_of sizes) sizes b n i)) ∙ copied-zero_padded sizes b n 1186 few

  -- 4 to 7
  quick_lent : entries_due sizes n ≡ true → sound plan ≡ true → passed ≡ file_rules (context_count plan) plan
  quick_lent d s =
      let (_, total) = due-says sizes n few d in
      let size = count-lent (starts_of sizes) sizes b n in
      let here : context_count plan ≤ context_count plan = omega arith in
      let four = rule_kept 4 (context_count plan) (bad_entry plan) (four_kept plan s) here in
      let five = rule_kept 5 (context_count plan) (bad_repeat plan) (five_kept plan s) here in
      let six = rule_kept 6 (context_count plan) (unreturned plan) (six_kept plan s) here in
      seven_judged (context_count plan) plan four five six (eq-eqb _ _ (entry-count-lent (starts_of sizes) sizes b n ∙ total ∙ ap dart_count (sym size)))

-- 4 to 7 of what a layout finds
quick_laid : (b : List ℕ) (l : Layout) → entries_due l.sizes l.n ≡ true → (t : Sheet) → t ≡ packed (laid b l) → sound (held_plan t) ≡ true → passed ≡ file_rules_of (laid b l)
unfolding laid file_rules_of packed
quick_laid b l d t e s = go l.parts (ap (λ (r : Sheet). sound (held_plan r)) (sym e) ∙ s)
  where
    p : Plan
    p = plan_in b l.sizes l.n

    kept : (h : Stage) (ls : List ℕ) (c : Chart) → sound (held_plan (pack h p.rings ls c)) ≡ true → passed ≡ file_rules (context_count p) p
    kept h ls c f = quick_lent b l.sizes l.n l.few d (subst (λ (r : Plan). sound r ≡ true) (plan-copied b l.sizes l.n l.few l.tidy h ls c) f)

    go : (g : PartOffsets) → sound (held_plan (packed (sheet_at b l.n p g))) ≡ true → passed ≡ file_rules_of (sheet_at b l.n p g)
    go PartOffsets.Plan f = kept Open [] no_chart f
    go (PartOffsets.Labels labels) f = kept Labelled (label_bytes_at b p labels) no_chart f
    go (PartOffsets.Chart labels chart) f = kept Charted (label_bytes_at b p labels) (chart_from b l.n chart) f

-- ---- what was judged before the sheet is copied: 4 to 7, unless the plan has as many entries as 7 asks for
module _ (b : List ℕ) (l : Layout) where
  abbrev before : Outcome (Unit {0})
  before = cond (entries_due l.sizes l.n) passed (file_rules_of (laid b l))

  pub before_room : passed ≡ before → start_of l.sizes l.n ≤ 1186
  before_room e = go (entries_due l.sizes l.n) refl e
    where
      go : (d : Bool) → entries_due l.sizes l.n ≡ d → passed ≡ cond d passed (file_rules_of (laid b l)) → start_of l.sizes l.n ≤ 1186
      go true f q = due-room l.sizes l.n l.few f
      go false f q = room_in b l q

  pub before_refused : decode b ≡ accepted (laid b l) → (k at : ℕ) → refused k at ≡ before → refused k at ≡ packed_as (open_call b)
  before_refused is k at e = go (entries_due l.sizes l.n) e
    where
      go : (d : Bool) → refused k at ≡ cond d passed (file_rules_of (laid b l)) → refused k at ≡ packed_as (open_call b)
      go true q = not-both q
      go false q = open_early b (laid b l) is k at q

  -- and then 8 and 9 too, where the plan is sound: 10 to 12 are what is left
  pub sound_rules : passed ≡ before → (t : Sheet) → t ≡ packed (laid b l) → sound (held_plan t) ≡ true → rules_from_10 (reads t) ≡ rules_of (laid b l) (reads t)
  sound_rules e t copy s = quick_held t s ∙ ap (λ (o : Outcome (Unit {0})). o >> rules_from_8 (reads t)) (go (entries_due l.sizes l.n) refl e)
    where
      go : (d : Bool) → entries_due l.sizes l.n ≡ d → passed ≡ cond d passed (file_rules_of (laid b l)) → passed ≡ file_rules_of (laid b l)
      go true f q = quick_laid b l f t copy s
      go false f q = q

-- 4 to 7 are judged, and then the others
module _ (s t : file.Sheet) where
  pub lent_refused : (k at : ℕ) → refused k at ≡ file_rules_of s → refused k at ≡ rules_of s t
  lent_refused k at e = ap (λ (o : Outcome (Unit {0})). o >> rules_from_8 t) e

  pub lent_kept : passed ≡ file_rules_of s → rules_from_8 t ≡ rules_of s t
  lent_kept e = ap (λ (o : Outcome (Unit {0})). o >> rules_from_8 t) e

-- for the function that judges a sheet that was copied
pub ruleset sheet_steps = (sound_rules, lent_refused, lent_kept)

-- for the function that opens a file
pub ruleset open_steps = (before_room, before_refused, open_refused, open_accepted)
