-- A file that was framed, judged in parts and copied is opened as the model opens it.
use Prim.Native.Nat.{ℕ, zero, suc, ◌+◌, ◌*◌, ◌≤◌, min}
use mathlib.Core.Path.{◌≡◌, refl, sym, ap, ◌∙◌}
use mathlib.Core.List.{List, ◌∷◌, map}
use mathlib.Core.Bool.{true, false}
use native.Mathlib.Omega.{arith}
use lib.ListN.{length, get_or, take, drop}
use lib.Seq.{take_all}
use lib.Dec.{eqb}
use borrow.Author.Tests.{eqb-true, le-leb}
use Rattle.lists.specs.Ranges.{from}
use Rattle.lists.specs.Parts.{flatten, pairs}
use Rattle.lists.specs.Spans.{stretch, zero_padded}
use Rattle.model.specs.Outcome.{Outcome, accepted, refused, passed, require, rule, ◌>>=◌, ◌>>◌}
use Rattle.model.specs.Plan.{Plan, context_count, bad_entry, bad_repeat, unreturned, entry_count, dart_count, bad_border, bad_face, plan_rules}
use Rattle.model.specs.Labels.{label_rules}
use Rattle.model.specs.Chart.{Chart, chart, same_chart}
use Rattle.model.specs.File as file
use Rattle.model.specs.File.{decode, chart_in}
use Rattle.model.specs.Calls.{judge, open_call}
use Rattle.model.proofs.Outcomes.{not-both, then_accepted, require-passed, rule-passes}
use Rattle.model.proofs.FileWrite.{PlanFits, Fits}
use Rattle.model.proofs.FileRead.{read_fits}
use Rattle.lists.proofs.Ranges.{length-map-from}
use Rattle.lists.proofs.Padded.{stretch-zero_padded}
use Rattle.rings.specs.Tables.{start_of, starts_of, table}
use Rattle.rings.specs.FilePlans.{words_at, body_at, plan_in_file}
use Rattle.file_rings.proofs.Rings.{length-words-at, get_or-words-at, count-lent}
use Rattle.file_rings.proofs.Copied.{copied-zero_padded, entry-count-lent}
use Rattle.arrays.specs.ArrayParts.{word_of, words_every}
use Rattle.file_framing.specs.Layouts.{plan_in, chart_from, sheet_at, laid}
use Rattle.file_framing.specs.declared.layout.PartOffsets.{PartOffsets}
use Rattle.file_framing.specs.declared.layout.Layout.{Layout}
use Rattle.sheet.specs.declared.Sheet.{Sheet}
use Rattle.chart_points.specs.Charts.{chart_on}
use Rattle.sheet.specs.declared.Stage.TheVariants.{Labelled, Charted}
use Rattle.sheet.specs.Sheets.{reads, pack, no_chart, packed}
use Rattle.sheet.specs.Answers.{packed_as}
use Rattle.sheet_open.specs.Opening.{file_rules, file_rules_of, rules_of, entries_due}
use Rattle.sheet_open.proofs.Lent.{four_refused, five_refused, six_refused, seven_judged}
use Rattle.plan_bounds.specs.Fits.{fit}
use Rattle.plan_bounds.proofs.Fits.{says-fit}
use Rattle.sheet.proofs.Packed.{Held, reads-packed}
use Rattle.sheet_rules.specs.Rules.{flat_rules, chart_rules, flat_of, rules_from_10, rules_from_8}

-- ---- the rules in parts are the rules
in_parts : (a b c d e : Outcome (Unit {0})) → (a >> (b >> (c >> (d >> e)))) ≡ ((a >> (b >> (c >> d))) >> e)
in_parts (accepted t) (accepted u) (accepted v) d e = refl
in_parts (accepted t) (accepted u) (refused k at) d e = refl
in_parts (accepted t) (refused k at) c d e = refl
in_parts (refused k at) b c d e = refl

then_then : {A : Type 0} (a b : Outcome (Unit {0})) (c : Outcome A) → (a >> b >> c) ≡ (a >> (b >> c))
then_then (accepted t) b c = refl
then_then (refused k at) b c = refl

plan-parts : (p : Plan) → plan_rules p ≡ (file_rules (context_count p) p >> flat_rules (context_count p) p)
unfolding plan_rules file_rules flat_rules
plan-parts p =
    let n = context_count p in
    in_parts (rule 4 n (bad_entry p)) (rule 5 n (bad_repeat p)) (rule 6 n (unreturned p)) (require (eqb (entry_count p) (dart_count n)) 7 0) (rule 8 4 (bad_border p) >> rule 9 n (bad_face p))

then_passed : (a : Outcome (Unit {0})) → (a >> passed) ≡ a
then_passed (accepted t) = refl
then_passed (refused k at) = refl

pub judge-parts : (s : file.Sheet) → judge s ≡ (file_rules_of s >> rules_from_8 s)
unfolding judge file_rules_of flat_of rules_from_10 rules_from_8 chart_rules
judge-parts file.fresh = refl
judge-parts (file.opened p) = plan-parts p ∙ ap (λ (o : Outcome (Unit {0})). file_rules (context_count p) p >> o) (sym (then_passed (flat_rules (context_count p) p)))
judge-parts (file.labelled p ls) =
    ap (λ (o : Outcome (Unit {0})). o >> label_rules p ls) (plan-parts p) ∙ then_then (file_rules (context_count p) p) (flat_rules (context_count p) p) (label_rules p ls)
judge-parts (file.charted p ls c) =
    let l = file_rules (context_count p) p in
    let f = flat_rules (context_count p) p in
    let k = chart p ls >>= λ (d : Chart). require (same_chart c d) 12 0 in
    ap (λ (o : Outcome (Unit {0})). o >> label_rules p ls >> k) (plan-parts p)
    ∙ ap (λ (o : Outcome (Unit {0})). o >> k) (then_then l f (label_rules p ls))
    ∙ then_then l (f >> label_rules p ls) k
    ∙ ap (λ (o : Outcome (Unit {0})). l >> o) (then_then f (label_rules p ls) k)

-- ---- what 4 to 7 tell of the number of entries
total-due : (n : ℕ) (p : Plan) → passed ≡ file_rules n p → entry_count p ≡ dart_count n
unfolding file_rules
total-due n p e =
    let (t₁, e₁) = then_accepted (rule 4 n (bad_entry p)) _ tt (sym e) in
    let (t₂, e₂) = then_accepted (rule 5 n (bad_repeat p)) _ tt e₁ in
    let (t₃, e₃) = then_accepted (rule 6 n (unreturned p)) _ tt e₂ in
    eqb-true (entry_count p) (dart_count n) (require-passed (eqb (entry_count p) (dart_count n)) 7 0 e₃)

-- what was read and keeps 4 to 7 fits into a struct
plan-held : (p : Plan) → PlanFits p → passed ≡ file_rules (context_count p) p → fit p ≡ true
unfolding file_rules
plan-held p f e =
    let h = f.high in
    let t = total-due (context_count p) p e in
    says-fit p h (omega arith) ((rule-passes 4 (context_count p) (bad_entry p)).0 (then_accepted (rule 4 (context_count p) (bad_entry p)) _ tt (sym e)).0)

pub sheet_held_lem : (s : file.Sheet) → Fits s → passed ≡ file_rules_of s → Held s
unfolding file_rules_of
sheet_held_lem file.fresh f e = absurd f
sheet_held_lem (file.opened p) f e = plan-held p f e
sheet_held_lem (file.labelled p ls) f e = (plan-held p f.0 e, f.1 ∙ sym (total-due (context_count p) p e))
sheet_held_lem (file.charted p ls c) f e = (plan-held p f.0 e, f.1 ∙ sym (total-due (context_count p) p e), record { xs_each = f.2.xs_each; ys_each = f.2.ys_each })

-- ---- the whole call
-- a file that is not framed is refused so
pub open_unframed : (b : List ℕ) (k at : ℕ) → refused k at ≡ decode b → refused k at ≡ packed_as (open_call b)
unfolding packed_as open_call
open_unframed b k at e = ap (λ (q : Outcome file.Sheet). packed_as (q >>= λ (t : file.Sheet). judge t >> accepted t)) e

-- one that is framed is judged
module _ (b : List ℕ) (s : file.Sheet) (is : decode b ≡ accepted s) where
  call_is : packed_as (open_call b) ≡ packed_as (judge s >> accepted s)
  unfolding open_call
  call_is = ap (λ (q : Outcome file.Sheet). packed_as (q >>= λ (t : file.Sheet). judge t >> accepted t)) is

  -- 4 to 7 are judged where the rings stand: a refusal
  pub open_early : (k at : ℕ) → refused k at ≡ file_rules_of s → refused k at ≡ packed_as (open_call b)
  unfolding packed_as
  open_early k at e = sym (call_is ∙ rw (judge-parts s, ← e))

  -- 4 to 7 are kept, and the sheet is copied
  module _ (ok : passed ≡ file_rules_of s) (t : Sheet) (copy : t ≡ packed s) where
    -- what is copied is judged by what it reads as
    rules : rules_from_8 (reads t) ≡ judge s
    rules = ap (λ (r : Sheet). rules_from_8 (reads r)) copy ∙ ap rules_from_8 (reads-packed s (sheet_held_lem s (read_fits b s is) ok)) ∙ sym (judge-parts s ∙ ap (λ (l : Outcome (Unit {0})). l >> rules_from_8 s) (sym ok))

    -- 8 to 12 refuse it
    pub open-late : (k at : ℕ) → refused k at ≡ rules_from_8 (reads t) → refused k at ≡ packed_as (open_call b)
    unfolding packed_as
    open-late k at e = sym (call_is ∙ rw (← rules, ← e))

    -- or it is what the call gives
    pub open-whole : passed ≡ rules_from_8 (reads t) → accepted t ≡ packed_as (open_call b)
    unfolding packed_as
    open-whole e = ap accepted copy ∙ sym (call_is ∙ rw (← rules, ← e))

  -- so of 4 to 7 and then 8 to 12
  module _ (t : Sheet) (copy : t ≡ packed s) where
    pub open_refused : (k at : ℕ) → refused k at ≡ rules_of s (reads t) → refused k at ≡ packed_as (open_call b)
    open_refused k at e = go (file_rules_of s) refl e
      where
        go : (o : Outcome (Unit {0})) → file_rules_of s ≡ o → refused k at ≡ (o >> rules_from_8 (reads t)) → refused k at ≡ packed_as (open_call b)
        go (accepted u) f q = open-late (sym f) t copy k at q
        go (refused j u) f q = ap (λ (o : Outcome (Unit {0})). o >> packed_as (open_call b)) q ∙ open_early j u (sym f)

    pub open_accepted : passed ≡ rules_of s (reads t) → accepted t ≡ packed_as (open_call b)
    open_accepted e = go (file_rules_of s) refl e
      where
        go : (o : Outcome (Unit {0})) → file_rules_of s ≡ o → passed ≡ (o >> rules_from_8 (reads t)) → accepted t ≡ packed_as (open_call b)
        go (accepted u) f q = open-whole (sym f) t copy q
        go (refused j u) f q = not-both (sym q)

-- ---- what a layout says of its parts
-- 4 to 7 kept: the entries fit
pub room_in : (b : List ℕ) (l : Layout) → passed ≡ file_rules_of (laid b l) → start_of l.sizes l.n ≤ 1186
unfolding laid file_rules_of
room_in b l e = go l.parts e
  where
    p : Plan
    p = plan_in b l.sizes l.n

    kept : passed ≡ file_rules (context_count p) p → start_of l.sizes l.n ≤ 1186
    kept f =
        let few : l.n ≤ 200 = l.few in
        let t = total-due (context_count p) p f in
        let c = count-lent (starts_of l.sizes) l.sizes b l.n in
        let k = entry-count-lent (starts_of l.sizes) l.sizes b l.n in
        omega arith

    go : (g : PartOffsets) → passed ≡ file_rules_of (sheet_at b l.n p g) → start_of l.sizes l.n ≤ 1186
    go PartOffsets.Plan f = kept f
    go (PartOffsets.Labels labels) f = kept f
    go (PartOffsets.Chart labels chart) f = kept f

-- 4 to 7 of the plan that stands in the file
pub lent_there : (b : List ℕ) (l : Layout) {starts : List ℕ} → starts ≡ starts_of l.sizes → file_rules l.n (plan_in_file starts l.sizes b l.n) ≡ file_rules_of (laid b l)
unfolding laid file_rules_of
lent_there b l e = ap (λ (s : List ℕ). file_rules l.n (plan_in_file s l.sizes b l.n)) e ∙ ap (λ (k : ℕ). file_rules k p) (sym (count-lent (starts_of l.sizes) l.sizes b l.n)) ∙ go l.parts
  where
    p : Plan
    p = plan_in b l.sizes l.n

    go : (g : PartOffsets) → file_rules (context_count p) p ≡ file_rules_of (sheet_at b l.n p g)
    go PartOffsets.Plan = refl
    go (PartOffsets.Labels labels) = refl
    go (PartOffsets.Chart labels chart) = refl

-- 7, as the sizes tell it
pub due_entries : (starts sizes b : List ℕ) (n : ℕ) → 5 ≤ n → n ≤ 200 → eqb (entry_count (plan_in_file starts sizes b n)) (dart_count n) ≡ entries_due sizes n
unfolding entries_due
due_entries starts sizes b n low few =
    let m : n ≡ min n 200 = omega arith in
    rw (le-leb 5 n low) (ap (λ (k : ℕ). eqb k (dart_count n)) (entry-count-lent starts sizes b n ∙ ap (start_of sizes) m))

-- 4 to 7 one after another, where the rings begin at these starts
module _ (b : List ℕ) (l : Layout) (starts : List ℕ) (w : starts ≡ starts_of l.sizes) where
  abbrev p : Plan
  p = plan_in_file starts l.sizes b l.n

  pub four_off : (k u : ℕ) → refused k u ≡ rule 4 l.n (bad_entry p) → refused k u ≡ file_rules_of (laid b l)
  four_off k u e = four_refused l.n p k u e ∙ lent_there b l w

  module _ (e4 : passed ≡ rule 4 l.n (bad_entry p)) where
    pub five_off : (k u : ℕ) → refused k u ≡ rule 5 l.n (bad_repeat p) → refused k u ≡ file_rules_of (laid b l)
    five_off k u e = five_refused l.n p e4 k u e ∙ lent_there b l w

    module _ (e5 : passed ≡ rule 5 l.n (bad_repeat p)) where
      pub six_off : (k u : ℕ) → refused k u ≡ rule 6 l.n (unreturned p) → refused k u ≡ file_rules_of (laid b l)
      six_off k u e = six_refused l.n p e4 e5 k u e ∙ lent_there b l w

      module _ (e6 : passed ≡ rule 6 l.n (unreturned p)) where
        pub seven_kept : entries_due l.sizes l.n ≡ true → passed ≡ file_rules_of (laid b l)
        seven_kept e = seven_judged l.n p e4 e5 e6 (due_entries starts l.sizes b l.n l.enough l.few ∙ e) ∙ lent_there b l w

        pub seven_off : entries_due l.sizes l.n ≡ false → refused 7 0 ≡ file_rules_of (laid b l)
        seven_off e = seven_judged l.n p e4 e5 e6 (due_entries starts l.sizes b l.n l.enough l.few ∙ e) ∙ lent_there b l w

-- for the function that judges the rings in a file
pub ruleset ring_steps = (four_off, five_off, six_off, seven_kept, seven_off)

-- ---- the sheet in a file, packed
-- how long the rings in a file are
sizes_from : (f : ℕ → List ℕ) (sizes : List ℕ) → ((u : ℕ) → length (f u) ≡ get_or sizes u 0) → (a n : ℕ) → map length (map f (from a n)) ≡ stretch sizes a n
unfolding stretch
sizes_from f sizes h a zero = refl
sizes_from f sizes h a (suc n) = λ i. h a i ∷ sizes_from f sizes h (suc a) n i

pub sizes_lent : (b sizes : List ℕ) (n : ℕ) → map length (plan_in b sizes n).rings ≡ stretch sizes 0 n
unfolding plan_in_file
sizes_lent b sizes n = sizes_from (λ (u : ℕ). words_at b (body_at (starts_of sizes) u) (get_or sizes u 0)) sizes (λ u. length-words-at b (body_at (starts_of sizes) u) (get_or sizes u 0)) 0 n

-- the coordinates, taken two by two
first_numbers : (b : List ℕ) (at a n k : ℕ) → k ≡ 2 * n → map (λ (t : ℕ × ℕ). t.0) (pairs (words_at b (at + 4 * a) k)) ≡ map (λ (u : ℕ). word_of b (at + 4 * u)) (from a n)
unfolding words_at
first_numbers b at a zero k e = let z : k ≡ 0 = omega arith in rw z
first_numbers b at a (suc n) k e =
    let two : k ≡ suc (suc (2 * n)) = omega arith in
    let far : at + 4 * a + 2 + 2 ≡ at + 4 * suc a = omega arith in
    ap (λ (j : ℕ). map (λ (t : ℕ × ℕ). t.0) (pairs (words_at b (at + 4 * a) j))) two
    ∙ (λ i. word_of b (at + 4 * a) ∷ (ap (λ (j : ℕ). map (λ (t : ℕ × ℕ). t.0) (pairs (words_at b j (2 * n)))) far ∙ first_numbers b at (suc a) n (2 * n) refl) i)

second_numbers : (b : List ℕ) (at a n k : ℕ) → k ≡ 2 * n → map (λ (t : ℕ × ℕ). t.1) (pairs (words_at b (at + 4 * a) k)) ≡ map (λ (u : ℕ). word_of b (at + 2 + 4 * u)) (from a n)
unfolding words_at
second_numbers b at a zero k e = let z : k ≡ 0 = omega arith in rw z
second_numbers b at a (suc n) k e =
    let two : k ≡ suc (suc (2 * n)) = omega arith in
    let here : at + 4 * a + 2 ≡ at + 2 + 4 * a = omega arith in
    let far : at + 4 * a + 2 + 2 ≡ at + 4 * suc a = omega arith in
    ap (λ (j : ℕ). map (λ (t : ℕ × ℕ). t.1) (pairs (words_at b (at + 4 * a) j))) two
    ∙ (λ i. word_of b (here i) ∷ (ap (λ (j : ℕ). map (λ (t : ℕ × ℕ). t.1) (pairs (words_at b j (2 * n)))) far ∙ second_numbers b at (suc a) n (2 * n) refl) i)

module _ (b : List ℕ) (at n : ℕ) where
  abbrev Numbers : List ℕ
  Numbers = words_at b at (2 + 2 * n)

  numbers_after : drop 2 Numbers ≡ words_at b (at + 4 + 4 * 0) (2 * n)
  unfolding words_at
  numbers_after =
      let two : 2 + 2 * n ≡ suc (suc (2 * n)) = omega arith in
      let far : at + 2 + 2 ≡ at + 4 + 4 * 0 = omega arith in
      ap (λ (j : ℕ). drop 2 (words_at b at j)) two ∙ ap (λ (j : ℕ). words_at b j (2 * n)) far

  pub w_in : word_of b at ≡ (chart_from b n at).w
  unfolding chart_in
  w_in = sym (get_or-words-at b at (2 + 2 * n) 0 (omega arith) ∙ ap (word_of b) (omega arith))

  pub h_in : word_of b (at + 2) ≡ (chart_from b n at).h
  unfolding chart_in
  h_in = sym (get_or-words-at b at (2 + 2 * n) 1 (omega arith) ∙ ap (word_of b) (omega arith))

  pub xs_in : words_every b (at + 4) 4 n ≡ (chart_from b n at).xs
  unfolding chart_in words_every
  xs_in = sym (ap (λ (l : List ℕ). map (λ (t : ℕ × ℕ). t.0) (pairs l)) numbers_after ∙ first_numbers b (at + 4) 0 n (2 * n) refl)

  pub ys_in : words_every b (at + 6) 4 n ≡ (chart_from b n at).ys
  unfolding chart_in words_every
  ys_in =
      let far : at + 4 + 2 ≡ at + 6 = omega arith in
      sym (ap (λ (l : List ℕ). map (λ (t : ℕ × ℕ). t.1) (pairs l)) numbers_after ∙ second_numbers b (at + 4) 0 n (2 * n) refl ∙ ap (λ (j : ℕ). map (λ (u : ℕ). word_of b (j + 4 * u)) (from 0 n)) far)

-- the sheets that are made of a plan whose entries are copied
module _ (b sizes : List ℕ) (n : ℕ) (few : n ≤ 200) where
  abbrev plan : Plan
  plan = plan_in b sizes n

  table-there : {es : List ℕ} → es ≡ zero_padded 1186 (flatten plan.rings) → table sizes es n ≡ plan
  table-there e = ap (λ (l : List ℕ). table sizes l n) e ∙ copied-zero_padded sizes b n 1186 few

  pub opened_there : {es : List ℕ} {t : Sheet} → es ≡ zero_padded 1186 (flatten plan.rings) → t ≡ packed (file.opened (table sizes es n)) → t ≡ packed (file.opened plan)
  opened_there e q = q ∙ ap (λ (p : Plan). packed (file.opened p)) (table-there e)

  pub labelled_there : {es : List ℕ} (l ls : List ℕ) {t : Sheet} → es ≡ zero_padded 1186 (flatten plan.rings) → length l ≤ 1186 → zero_padded 1186 l ≡ zero_padded 1186 ls
      → t ≡ packed (file.labelled (table sizes es n) (take 1186 l)) → t ≡ packed (file.labelled plan ls)
  unfolding packed pack
  labelled_there l ls e h f q = q ∙ (λ i. packed (file.labelled (table-there e i) (take_all 1186 l h i))) ∙ λ i. record (pack Labelled plan.rings l no_chart) { labels = f i }

  pub charted_there : {es : List ℕ} (ls : List ℕ) (c : Chart) {t : Sheet} → es ≡ zero_padded 1186 (flatten plan.rings) → t ≡ packed (file.charted (table sizes es n) ls c) → t ≡ packed (file.charted plan ls c)
  charted_there ls c e q = q ∙ ap (λ (p : Plan). packed (file.charted p ls c)) (table-there e)

  -- the numbers of the chart
  numbers-there : (at : ℕ) {xs : List ℕ} → xs ≡ zero_padded 200 (words_every b at 4 (min n 200)) → stretch xs 0 n ≡ words_every b at 4 n
  unfolding words_every
  numbers-there at e =
      let f : ℕ → ℕ = λ (i : ℕ). word_of b (at + 4 * i) in
      let m : min n 200 ≡ n = omega arith in
      ap (λ (l : List ℕ). stretch l 0 n) (e ∙ ap (λ (k : ℕ). zero_padded 200 (map f (from 0 k))) m)
      ∙ ap (stretch (zero_padded 200 (map f (from 0 n))) 0) (sym (length-map-from f 0 n))
      ∙ stretch-zero_padded 200 (map f (from 0 n))

  pub charted_parts : (held : Plan) (l ls : List ℕ) (at : ℕ) {xs ys : List ℕ} {w h m : ℕ} {t : Sheet} → m ≡ n → length l ≤ 1186 → zero_padded 1186 l ≡ zero_padded 1186 ls → w ≡ word_of b at → h ≡ word_of b (at + 2)
      → xs ≡ zero_padded 200 (words_every b (at + 4) 4 (min n 200)) → ys ≡ zero_padded 200 (words_every b (at + 6) 4 (min n 200))
      → t ≡ packed (file.charted held (take 1186 l) (chart_on m w h xs ys)) → t ≡ packed (file.charted held ls (chart_from b n at))
  unfolding packed pack chart_on
  charted_parts held l ls at {xs} {ys} {w} {h} {m} e room f g k x y q =
      let c = chart_on m w h xs ys in
      q ∙ ap (λ (k : List ℕ). packed (file.charted held k c)) (take_all 1186 l room) ∙ λ i. record (pack Charted held.rings l c) {
        labels = f i;
        w = (g ∙ w_in b at n) i;
        h = (k ∙ h_in b at n) i;
        xs = zero_padded 200 ((ap (stretch xs 0) e ∙ numbers-there (at + 4) x ∙ xs_in b at n) i);
        ys = zero_padded 200 ((ap (stretch ys 0) e ∙ numbers-there (at + 6) y ∙ ys_in b at n) i);
      }

-- for the function that makes the sheet
pub ruleset laid_steps = (opened_there, labelled_there, charted_there)
