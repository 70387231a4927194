-- From the records to the layout: each step of framing tells what the model decodes.
use Prim.Native.Nat.{ℕ, ◌+◌, ◌*◌, ◌≤◌, ◌<◌}
use mathlib.Core.Path.{◌≡◌, refl, sym, ap, ◌∙◌, subst}
use mathlib.Core.List.{List, [], ◌∷◌}
use mathlib.Core.Bool.{true, false, and-false}
use mathlib.Core.Logic.{◌⊎◌, inl, inr}
use native.Mathlib.Omega.{arith}
use lib.ListN.{get_or, drop, replicate, length-replicate}
use lib.Dec.{eqb}
use borrow.Author.Tests.{le-leb, lt-leb}
use Rattle.lists.specs.Tests.{is_empty}
use Rattle.lists.specs.Words.{word}
use Rattle.lists.specs.Spans.{stretch}
use Rattle.lists.proofs.Ranges.{length-map-from}
use Rattle.model.specs.Outcome.{Outcome, accepted, refused, ◌>>=◌}
use Rattle.model.specs.Plan.{Plan, context_count, dart_count, labels_due}
use Rattle.model.specs.File.{Sheet, charted, frame, frame_rings, Due, Part, frame_rest, optional, kinds_of, body_of, chart_in, sheet_of, entry_offset, decode}
use Rattle.file_framing.specs.declared.layout.PartOffsets.{PartOffsets}
use Rattle.arrays.specs.ArrayParts.{word_of}
use Rattle.rings.specs.Tables.{starts_of}
use Rattle.rings.specs.FilePlans.{words_at, body_at, plan_in_file}
use Rattle.file_framing.specs.Offsets.{cursor}
use Rattle.file_framing.specs.Layouts.{plan_in, label_bytes_at, sheet_at, StandAt, parts_in, due_row, plan_from}
use Rattle.file_framing.proofs.Offsets.{words-stretch}

-- ---- the records after the rings
module _ (file : List ℕ) where
  -- at the end nothing follows
  pub rest_end : (due : List Due) (at : ℕ) → is_empty (drop at file) ≡ true → accepted [] ≡ frame_rest due (cursor file at)
  unfolding frame_rest
  rest_end [] at h = rw h
  rest_end (d ∷ due) at h = rw h

  -- where no record is due any more, whatever stands there is refused
  pub end_refused : (at k p : ℕ) → is_empty (drop at file) ≡ false → refused k p ≡ frame (cursor file at) 0 (λ (m : ℕ). false) → refused k p ≡ frame_rest [] (cursor file at)
  unfolding frame_rest
  end_refused at k p h e = rw (h, ← e)

  module _ (kind size : ℕ) (due : List Due) (at : ℕ) (h : is_empty (drop at file) ≡ false) where
    -- the record that is due is refused
    pub due-refused : (k p : ℕ) → refused k p ≡ frame (cursor file at) kind (eqb size) → refused k p ≡ frame_rest (due_row kind size ∷ due) (cursor file at)
    unfolding frame_rest
    due-refused k p e = rw (h, ← e)

    -- it is there, and what follows it is framed
    pub due_there : (b : List ℕ) (e : ℕ) → accepted (b, cursor file e) ≡ frame (cursor file at) kind (eqb size)
        → (frame_rest due (cursor file e) >>= λ (parts : List Part). accepted ((kind, b) ∷ parts)) ≡ frame_rest (due_row kind size ∷ due) (cursor file at)
    unfolding frame_rest
    due_there b e f = rw (h, ← f)

-- a part put before those that follow it
abbrev pub put : ℕ → List ℕ → Outcome (List Part) → Outcome (List Part)
put kind body o = o >>= λ (parts : List Part). accepted ((kind, body) ∷ parts)

-- what stands behind the rings of a plan of n contexts, which takes so many labels
module _ (file : List ℕ) (at : ℕ) (p : Plan) {n labels : ℕ} (c : context_count p ≡ n) (w : labels ≡ labels_due p) where
  -- the labels are due first
  pub rest_begun : {o : Outcome (List Part)} → o ≡ frame_rest (due_row 3 labels ∷ due_row 4 (4 + 4 * n) ∷ []) (cursor file at) → o ≡ frame_rest (optional p) (cursor file at)
  unfolding optional
  rest_begun e = e ∙ λ i. frame_rest (due_row 3 (w i) ∷ due_row 4 (4 + 4 * sym c i) ∷ []) (cursor file at)

  module _ (e : put 3 (stretch file (at + 4) labels) (frame_rest (due_row 4 (4 + 4 * n) ∷ []) (cursor file (at + 4 + labels))) ≡ frame_rest (due_row 3 labels ∷ due_row 4 (4 + 4 * n) ∷ []) (cursor file at)) where
    -- behind them the chart
    pub labels_then : {o : Outcome (List Part)} → o ≡ frame_rest (due_row 4 (4 + 4 * n) ∷ []) (cursor file (at + 4 + labels)) → put 3 (label_bytes_at file p (at + 4)) o ≡ frame_rest (optional p) (cursor file at)
    labels_then f = (λ i. put 3 (stretch file (at + 4) (sym w i)) (f i)) ∙ rest_begun e

    -- behind it the end
    pub chart_then : (at' last : ℕ) {o : Outcome (List Part)} → put 4 (stretch file at' (4 + 4 * n)) (frame_rest [] (cursor file last)) ≡ frame_rest (due_row 4 (4 + 4 * n) ∷ []) (cursor file (at + 4 + labels))
        → o ≡ frame_rest [] (cursor file last) → put 3 (label_bytes_at file p (at + 4)) (put 4 (stretch file at' (4 + 4 * context_count p)) o) ≡ frame_rest (optional p) (cursor file at)
    chart_then at' last f g = labels_then ((λ i. put 4 (stretch file at' (4 + 4 * c i)) (g i)) ∙ f)

-- at most 200 contexts take at most 1186 labels
pub few_labels : {n k : ℕ} → n ≤ 200 → ((p : Plan) → context_count p ≡ n → k ≡ labels_due p) → k ≤ 1186
few_labels {n} h w =
    let size = length-replicate n [] in
    let e = w (record { rings = replicate n [] }) size in
    omega arith

-- n contexts take as many labels as they have darts
pub all_darts : {n k : ℕ} → ((p : Plan) → context_count p ≡ n → k ≡ labels_due p) → k ≡ dart_count n
all_darts {n} w = let size = length-replicate n [] in w (record { rings = replicate n [] }) size ∙ ap dart_count size

-- what stands behind the rings, where these end behind the entries
pub parts_behind : {at : ℕ} (n total : ℕ) (parts : PartOffsets) → at ≡ 6 + 4 * n + 2 * total → StandAt (at + 4) n parts → StandAt (entry_offset n total) n parts
parts_behind {at} n total parts e s = let there : at + 4 ≡ entry_offset n total = omega arith in subst (λ (k : ℕ). StandAt k n parts) there s

-- the sheet of a plan and the parts that the offsets name
pub sheet_parts : (file : List ℕ) (n : ℕ) (p : Plan) (parts : PartOffsets) → context_count p ≡ n → sheet_at file n p parts ≡ sheet_of p (parts_in file p parts)
unfolding sheet_of kinds_of body_of
sheet_parts file n p PartOffsets.Plan c = refl
sheet_parts file n p (PartOffsets.Labels labels) c = refl
sheet_parts file n p (PartOffsets.Chart labels chart) c = ap (λ (l : List ℕ). charted p (label_bytes_at file p labels) (chart_in l)) (sym (words-stretch file chart (2 + 2 * n) (4 + 4 * context_count p) (omega arith)))

-- ---- behind the kind 1 record
module _ (file : List ℕ) (n : ℕ) where
  pub plan-out : (n < 5) ⊎ (200 < n) → refused 3 0 ≡ plan_from file n
  unfolding plan_from
  plan-out (inl l) = rw (lt-leb 5 n l)
  plan-out (inr h) = rw (lt-leb n 200 h, and-false)

  pub plan-refused : (k p : ℕ) → 5 ≤ n → n ≤ 200 → refused k p ≡ frame_rings n n (cursor file 6) → refused k p ≡ plan_from file n
  unfolding plan_from
  plan-refused k p l h e = rw (le-leb 5 n l, le-leb n 200 h, ← e)

  -- as many contexts as it says
  pub plan_count : (sizes : List ℕ) → context_count (plan_in file sizes n) ≡ n
  unfolding plan_in_file
  plan_count sizes = length-map-from (λ (u : ℕ). words_at file (body_at (starts_of sizes) u) (get_or sizes u 0)) 0 n

  module _ (sizes : List ℕ) (at : ℕ) (l : 5 ≤ n) (h : n ≤ 200) (e : accepted ((plan_in file sizes n).rings, cursor file at) ≡ frame_rings n n (cursor file 6)) where
    pub plan-cut : (k p : ℕ) → refused k p ≡ frame_rest (optional (plan_in file sizes n)) (cursor file at) → refused k p ≡ plan_from file n
    unfolding plan_from
    plan-cut k p f = rw (le-leb 5 n l, le-leb n 200 h, ← e, ← f)

    pub plan_there : (parts : PartOffsets) → accepted (parts_in file (plan_in file sizes n) parts) ≡ frame_rest (optional (plan_in file sizes n)) (cursor file at) → accepted (sheet_at file n (plan_in file sizes n) parts) ≡ plan_from file n
    unfolding plan_from
    plan_there parts f = ap {B = Outcome Sheet} accepted (sheet_parts file n (plan_in file sizes n) parts (plan_count sizes)) ∙ rw (le-leb 5 n l, le-leb n 200 h, ← e, ← f)

-- ---- the whole file
pub file_refused : (file : List ℕ) (k p : ℕ) → refused k p ≡ frame (cursor file 0) 1 (eqb 2) → refused k p ≡ decode file
unfolding decode
file_refused file k p e = rw (← e)

pub file_there : (file : List ℕ) → accepted (stretch file 4 2, cursor file 6) ≡ frame (cursor file 0) 1 (eqb 2) → plan_from file (word_of file 4) ≡ decode file
unfolding decode plan_from stretch word
file_there file e = sym (rw (← e))
