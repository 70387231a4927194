-- The text of each part of a file, by what is put there one after the other, and what a call that writes gives and leaves.
use Prim.Native.Nat.{ℕ, zero, suc, ◌+◌, ◌-◌, ◌*◌, ◌≤◌, ◌<◌}
use mathlib.Core.Path.{◌≡◌, refl, sym, ap, ◌∙◌}
use mathlib.Core.List.{List, [], ◌∷◌, ◌++◌, map, append_assoc, append-nil}
use native.Mathlib.Omega.{arith}
use native.Mathlib.Numerals.{add-one}
use lib.ListN.{length, get_or, take, drop}
use lib.Seq.{sets}
use borrow.Author.Tests.{le-leb, lt-leb}
use Rattle.lists.specs.Ranges.{from}
use Rattle.lists.specs.Spans.{stretch}
use Rattle.lists.specs.Words.{bytes}
use Rattle.lists.proofs.Ranges.{get_or-map-from}
use Rattle.lists.proofs.Spans.{stretch_part}
use Rattle.lists.proofs.Stretches.{map-from-more}
use Rattle.lists.proofs.Words.{length-bytes}
use Rattle.model.specs.Outcome.{Outcome, accepted, refused}
use Rattle.model.specs.File.{entry, points, chart_out, rings_out, plan_out, encode}
use Rattle.model.specs.Calls.{require_plan, write_call}
use Rattle.rings.specs.Tables.{start_of, starts_of, rows, table}
use Rattle.rings.proofs.Rows.{start-more, ring_ends, count-rows}
use Rattle.std.proofs.Common.{Bor}
use Rattle.rings.specs.declared.Table.{Table}
use Rattle.buffer.proofs.Puts.{sets_front, bytes_join, put-none, put_join}
use Rattle.chart_points.specs.Charts.{chart_on, chart_of_points}
use Rattle.chart_points.specs.declared.Points.{Points}
use Rattle.file_writing.specs.WrittenFiles.{sheet_held, buffer_after, answered}
use Rattle.file_writing.specs.declared.Parts.{Parts}
use Rattle.file_writing.proofs.Lengths.{length-body, plan_part, chart_part, few_labels, few_charted}

-- ---- points: none, and one more
points_suc : (xs ys : List ℕ) (i k : ℕ) → points (stretch xs i (suc k)) (stretch ys i (suc k)) ≡ points (stretch xs i k) (stretch ys i k) ++ (get_or xs (i + k) 0 ∷ get_or ys (i + k) 0 ∷ [])
unfolding stretch points
points_suc xs ys i zero = ap (λ (j : ℕ). get_or xs j 0 ∷ get_or ys j 0 ∷ []) (omega arith)
points_suc xs ys i (suc k) = ap (λ (m : List ℕ). get_or xs i 0 ∷ get_or ys i 0 ∷ m) (points_suc xs ys (suc i) k ∙ ap (λ (j : ℕ). points (stretch xs (suc i) k) (stretch ys (suc i) k) ++ (get_or xs j 0 ∷ get_or ys j 0 ∷ [])) (omega arith))

module _ (xs ys : List ℕ) where
  pub points_none : bytes (points (stretch xs 0 0) (stretch ys 0 0)) ≡ []
  unfolding stretch points bytes
  points_none = refl

  pub points_more : (k : ℕ) → bytes (points (stretch xs 0 (k + 1)) (stretch ys 0 (k + 1))) ≡ bytes (points (stretch xs 0 k) (stretch ys 0 k)) ++ bytes (get_or xs k 0 ∷ get_or ys k 0 ∷ [])
  points_more k =
      let before = points (stretch xs 0 k) (stretch ys 0 k) in
      let z : 0 + k ≡ k = omega arith in
      rw add-one (ap bytes (points_suc xs ys 0 k) ∙ bytes_join before (get_or xs (0 + k) 0 ∷ get_or ys (0 + k) 0 ∷ []) ∙ ap (λ (j : ℕ). bytes before ++ bytes (get_or xs j 0 ∷ get_or ys j 0 ∷ [])) z)

-- for the loop that puts points
pub ruleset parts = (put-none, put_join, points_none, points_more)

-- ---- the rings of a table: none, and one more
rings-append : (rs : List (List ℕ)) (r : List ℕ) → rings_out (rs ++ (r ∷ [])) ≡ rings_out rs ++ entry 2 (bytes r)
unfolding rings_out
rings-append [] r = append-nil (entry 2 (bytes r))
rings-append (a ∷ rs) r = ap (entry 2 (bytes a) ++◌) (rings-append rs r) ∙ sym (append_assoc (entry 2 (bytes a)) (rings_out rs) (entry 2 (bytes r)))

module _ (sizes es : List ℕ) where
  pub rings_none : rings_out (table sizes es 0).rings ≡ []
  unfolding table rows rings_out
  rings_none = refl

  -- the next ring, which begins at i, is there
  pub ring_there : {n u i k : ℕ} → start_of sizes n ≤ length es → u < n → i ≡ start_of sizes u → k ≡ get_or sizes u 0 → i + k ≤ length es
  ring_there {n} {u} whole h at size = let r = ring_ends sizes u n h in omega arith

  -- its record comes after those of the rings before it
  pub rings_more : {u i k : ℕ} → u < 200 → i ≡ start_of sizes u → k ≡ get_or sizes u 0 → i + k ≤ length es
      → rings_out (table sizes es u).rings ++ entry 2 (bytes (take (i + k - i) (drop i es))) ≡ rings_out (table sizes es (u + 1)).rings
  unfolding table rows starts_of
  rings_more {u} {i} {k} h at size there =
      let f : ℕ → List ℕ = λ v. stretch es (get_or (starts_of sizes) v 0) (get_or sizes v 0) in
      let z : 0 + u ≡ u = omega arith in
      let start : get_or (starts_of sizes) u 0 ≡ i = get_or-map-from (start_of sizes) 0 200 u 0 h ∙ ap (start_of sizes) z ∙ sym at in
      let all : i + k - i ≡ k = omega arith in
      let ring : take (i + k - i) (drop i es) ≡ f u = ap (λ (j : ℕ). take j (drop i es)) all ∙ sym (stretch_part es i k there) ∙ λ t. stretch es (sym start t) (size t) in
      rw add-one (ap (λ (r : List ℕ). rings_out (map f (from 0 u)) ++ entry 2 (bytes r)) (ring ∙ ap f (sym z)) ∙ sym (ap rings_out (map-from-more f 0 u) ∙ rings-append (map f (from 0 u)) (f (0 + u))))

  -- where the next ring begins
  pub start_one : (u : ℕ) → start_of sizes (u + 1) ≡ start_of sizes u + get_or sizes u 0
  start_one u = rw add-one (start-more sizes u)

-- ---- records
-- a body behind its head
pub entry_text : (kind h : ℕ) (body : List ℕ) → h ≡ 2 + length body → bytes (h ∷ kind ∷ []) ++ body ≡ entry kind body
unfolding entry
entry_text kind h body e = ap (λ (m : ℕ). bytes (m ∷ kind ∷ []) ++ body) e

-- the records of a plan
pub plan_text : (sizes es : List ℕ) (n : ℕ) → plan_out (table sizes es n) ≡ (bytes (4 ∷ 1 ∷ []) ++ bytes (n ∷ [])) ++ rings_out (table sizes es n).rings
unfolding plan_out table entry bytes
plan_text sizes es n = ap (λ (c : ℕ). entry 1 (bytes (c ∷ [])) ++ rings_out (table sizes es n).rings) (count-rows (starts_of sizes) sizes es n)

-- the record of a chart
pub chart_text : (c : Points) (n : ℕ)
    → entry 4 (bytes (chart_out (chart_of_points n c))) ≡ ((bytes ((2 + (4 + 4 * n)) ∷ 4 ∷ []) ++ bytes (c.w ∷ [])) ++ bytes (c.h ∷ [])) ++ bytes (points (stretch c.xs.now 0 n) (stretch c.ys.now 0 n))
unfolding chart_out chart_on bytes
chart_text c n = sym (entry_text 4 (2 + (4 + 4 * n)) (bytes (chart_out (chart_of_points n c))) (omega (arith, length-body c n)))

-- for what puts a record after its parts
pub ruleset records = (put_join, entry_text, length-bytes, plan_text, chart_text)

-- ---- the whole file
module _ (t : Table) where
  abbrev File : Parts → List ℕ
  File parts = encode (sheet_held t parts)

  -- of a plan alone, with labels, with labels and a chart
  pub opened_text : {parts : Parts} → parts ≡ Parts.Plan → File parts ≡ plan_part t
  unfolding encode
  opened_text is = ap File is

  pub labelled_text : {parts : Parts} {ls : Bor (List ℕ)} → parts ≡ Parts.Labels ls → File parts ≡ plan_part t ++ entry 3 ls.now
  unfolding encode
  labelled_text is = ap File is

  pub charted_text : {parts : Parts} {ls : Bor (List ℕ)} {x : Points} → parts ≡ Parts.Chart ls x → File parts ≡ (plan_part t ++ entry 3 ls.now) ++ chart_part t x
  unfolding encode
  charted_text is = ap File is

  -- a sheet that has a plan is written where the buffer is long enough, and else refused
  written : (parts : Parts) (d : List ℕ) → length (File parts) ≤ length d → write_call (sheet_held t parts) d ≡ accepted (length (File parts), File parts ++ drop (length (File parts)) d)
  unfolding write_call require_plan
  written Parts.Plan d h = rw (le-leb _ _ h)
  written (Parts.Labels ls) d h = rw (le-leb _ _ h)
  written (Parts.Chart ls c) d h = rw (le-leb _ _ h)

  short : (parts : Parts) (d : List ℕ) → length d < length (File parts) → write_call (sheet_held t parts) d ≡ refused 16 (length (File parts))
  unfolding write_call require_plan
  short Parts.Plan d h = rw (lt-leb _ _ h)
  short (Parts.Labels ls) d h = rw (lt-leb _ _ h)
  short (Parts.Chart ls c) d h = rw (lt-leb _ _ h)

  -- the answer and the buffer of a call that is accepted, and of one that is refused
  module _ (parts : Parts) (d : List ℕ) {k : ℕ} (long : k ≡ length (File parts)) where
    pub accepted_answer : {e : List ℕ} → k ≤ length d → e ≡ sets d 0 (File parts) → answered (write_call (sheet_held t parts) d) d ≡ (accepted k, e)
    unfolding buffer_after
    accepted_answer {e} h p =
        let f = File parts in
        let room : length f ≤ length d = omega arith in
        let same : e ≡ f ++ drop (length f) d = p ∙ sets_front d f room in
        ap (λ (o : Outcome (ℕ × List ℕ)). answered o d) (written parts d room) ∙ λ i. (accepted (sym long i), sym same i)

    pub refused_answer : length d < k → answered (write_call (sheet_held t parts) d) d ≡ (refused 16 k, d)
    unfolding buffer_after
    refused_answer h =
        let none : length d < length (File parts) = omega arith in
        ap (λ (o : Outcome (ℕ × List ℕ)). answered o d) (short parts d none) ∙ λ i. (refused 16 (sym long i), d)

-- the file from its parts, for the function that puts them
pub ruleset files = (put_join, opened_text, labelled_text, charted_text, few_labels, few_charted)

-- what the call gives and leaves, for the function that writes
pub ruleset written_file = (accepted_answer, refused_answer)
