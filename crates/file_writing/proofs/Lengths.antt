-- The length of each part of a file.
use Prim.Native.Nat.{ℕ, zero, suc, ◌+◌, ◌*◌, ◌≤◌, min}
use mathlib.Core.Path.{◌≡◌, refl, sym, ap, subst, ◌∙◌}
use mathlib.Core.List.{List, [], ◌∷◌, ◌++◌, map}
use native.Mathlib.Omega.{arith}
use lib.ListN.{length, get_or, length-append}
use Rattle.model.proofs.FileWrite.{length-entry}
use Rattle.lists.specs.Ranges.{from}
use Rattle.lists.specs.Spans.{stretch}
use Rattle.lists.specs.Words.{bytes}
use Rattle.lists.proofs.Spans.{length-stretch}
use Rattle.lists.proofs.Words.{length-bytes}
use Rattle.model.specs.Plan.{context_count}
use Rattle.model.specs.File.{entry, points, chart_out, rings_out, plan_out, encode}
use Rattle.rings.specs.Tables.{start_of, starts_of, rows, table, table_of}
use Rattle.rings.proofs.Rows.{start_first, start-more}
use Rattle.std.proofs.Common.{Bor}
use Rattle.rings.specs.declared.Table.{Table}
use Rattle.plan_bounds.specs.declared.Fit.{Fit}
use Rattle.plan_bounds.proofs.Bounds.{fit_counted}
use Rattle.chart_points.specs.Charts.{chart_on, chart_of_points}
use Rattle.chart_points.specs.declared.Points.{Points}
use Rattle.file_writing.specs.WrittenFiles.{labels_in, sheet_held}
use Rattle.file_writing.specs.declared.Parts.{Parts}

-- the records of rings: four bytes and two for each entry
length-rings : (f : ℕ → List ℕ) (sizes : List ℕ) → ((u : ℕ) → length (f u) ≡ get_or sizes u 0) → (u k : ℕ)
    → 2 * start_of sizes u + length (rings_out (map f (from u k))) ≡ 4 * k + 2 * start_of sizes (u + k)
unfolding rings_out
length-rings f sizes h u zero = let z : u ≡ u + 0 = omega arith in let e = ap (start_of sizes) z in omega arith
length-rings f sizes h u (suc k) =
    let z : suc u + k ≡ u + suc k = omega arith in
    let e = ap (start_of sizes) z in
    let m = start-more sizes u in
    let r = length-rings f sizes h (suc u) k in
    let b = length-bytes (f u) in
    let i = h u in
    let l = length-entry 2 (bytes (f u)) in
    let a = length-append (entry 2 (bytes (f u))) (rings_out (map f (from (suc u) k))) in
    omega arith

length-table : (sizes es : List ℕ) (n : ℕ) → length (plan_out (table sizes es n)) ≡ 6 + 4 * n + 2 * start_of sizes n
unfolding plan_out table rows
length-table sizes es n =
    let f : ℕ → List ℕ = λ u. stretch es (get_or (starts_of sizes) u 0) (get_or sizes u 0) in
    let r = length-rings f sizes (λ u. length-stretch es (get_or (starts_of sizes) u 0) (get_or sizes u 0)) 0 n in
    let s = start_first sizes in
    let z : 0 + n ≡ n = omega arith in
    let t = ap (start_of sizes) z in
    let head = entry 1 (bytes (context_count (table sizes es n) ∷ [])) in
    let a = length-append head (rings_out (map f (from 0 n))) in
    let l = length-entry 1 (bytes (context_count (table sizes es n) ∷ [])) in
    let b = length-bytes (context_count (table sizes es n) ∷ []) in
    omega arith

-- the records of a plan, by as many entries as the code counts
pub length-plan : (f : Fit) {m : ℕ} → m ≡ start_of f.plan.sizes.now (min f.plan.n 200) → 6 + 4 * f.plan.n + 2 * m ≡ length (plan_out (table_of f.plan))
length-plan f q = let t = f.plan in let m = fit_counted t f.fits q in let l = length-table t.sizes.now t.entries.now t.n in omega arith

-- the record of the labels
pub length-labels : (ls : List ℕ) {m : ℕ} → m ≡ length ls → 4 + m ≡ length (entry 3 ls)
length-labels ls q = let l = length-entry 3 ls in omega arith

length-points : (xs ys : List ℕ) (i j k : ℕ) → length (points (stretch xs i k) (stretch ys j k)) ≡ 2 * k
unfolding points stretch
length-points xs ys i j zero = refl
length-points xs ys i j (suc k) = let r = length-points xs ys (suc i) (suc j) k in omega arith

-- the body of a chart record, and the record
module _ (c : Points) (n : ℕ) where
  pub length-body : length (bytes (chart_out (chart_of_points n c))) ≡ 4 + 4 * n
  unfolding chart_out chart_on
  length-body =
      let l = length-points c.xs.now c.ys.now 0 0 n in
      let b = length-bytes (c.w ∷ c.h ∷ points (stretch c.xs.now 0 n) (stretch c.ys.now 0 n)) in
      omega arith

  pub length-chart : 8 + 4 * n ≡ length (entry 4 (bytes (chart_out (chart_of_points n c))))
  length-chart = let b = length-body in let l = length-entry 4 (bytes (chart_out (chart_of_points n c))) in omega arith

-- the length of a record, for the functions that count it
pub ruleset part_lengths = (length-labels, length-chart)

-- ---- no more labels are written than a full sheet has
module _ {parts : Parts} (few : length (labels_in parts) ≤ 1186) {ls : Bor (List ℕ)} where
  pub few_labels : parts ≡ Parts.Labels ls → length ls.now ≤ 1186
  few_labels e = subst (λ (q : Parts). length (labels_in q) ≤ 1186) e few

  pub few_charted : {c : Points} → parts ≡ Parts.Chart ls c → length ls.now ≤ 1186
  few_charted e = subst (λ (q : Parts). length (labels_in q) ≤ 1186) e few

-- ---- the whole file, by its parts
module _ (t : Table) where
  -- the records of the plan
  abbrev pub plan_part : List ℕ
  plan_part = plan_out (table_of t)

  -- the record of the chart
  abbrev pub chart_part : Points → List ℕ
  chart_part c = entry 4 (bytes (chart_out (chart_of_points t.n c)))

  abbrev Long : Parts → ℕ
  Long parts = length (encode (sheet_held t parts))

  pub length-opened : {parts : Parts} {p : ℕ} → parts ≡ Parts.Plan → p ≡ length plan_part → p ≡ Long parts
  unfolding encode
  length-opened q e = e ∙ ap Long (sym q)

  pub length-labelled : {parts : Parts} {ls : Bor (List ℕ)} {p l : ℕ} → parts ≡ Parts.Labels ls → p ≡ length plan_part → l ≡ length (entry 3 ls.now) → p + l ≡ Long parts
  unfolding encode
  length-labelled {ls = ls} q e f = (λ i. e i + f i) ∙ sym (length-append plan_part (entry 3 ls.now)) ∙ ap Long (sym q)

  pub length-charted : {parts : Parts} {ls : Bor (List ℕ)} {d : Points} {p l c : ℕ} → parts ≡ Parts.Chart ls d → p ≡ length plan_part → l ≡ length (entry 3 ls.now) → c ≡ length (chart_part d) → p + l + c ≡ Long parts
  unfolding encode
  length-charted {ls = ls} {d} q e f g =
      let ps = plan_part in
      let lp = entry 3 ls.now in
      (λ i. e i + f i + g i) ∙ (λ i. sym (length-append ps lp) i + length (chart_part d)) ∙ sym (length-append (ps ++ lp) (chart_part d)) ∙ ap Long (sym q)

-- the length of the file, by its parts
pub ruleset file_lengths = (length-opened, length-labelled, length-charted, few_labels, few_charted)
