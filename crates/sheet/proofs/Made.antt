-- Sheets made of a plan, labels and a chart that are lent: each copied to the front of an array of zeros.
use Prim.Native.Nat.{ℕ, ◌-◌, ◌≤◌, ◌<◌, min}
use mathlib.Core.Path.{◌≡◌, sym, ap, ◌∙◌}
use mathlib.Core.List.{List, [], ◌++◌}
use mathlib.Core.Bool.{true}
use mathlib.Core.Logic.{◌⊎◌, inl, inr}
use native.Mathlib.Omega.{arith}
use lib.ListN.{length, get_or, take, drop, replicate, length-take}
use lib.Seq.{ext_get_or, get_or-drop, take_all}
use Rattle.std.proofs.lemmas.List.{get_or-take, drop-replicate}
use Rattle.lists.specs.Spans.{stretch, zeros, zero_padded}
use Rattle.lists.proofs.Loops.{zero_padded-none}
use Rattle.lists.proofs.Ranges.{lt-or-le}
use Rattle.lists.proofs.Padded.{get_or-zero_padded, length-zero_padded}
use Rattle.lists.proofs.Spans.{past, length-stretch, get_or-stretch, stretch-first}
use Rattle.model.specs.File as file
use Rattle.rings.specs.Tables.{start_of, starts_of, table}
use Rattle.rings.proofs.Rows.{count-rows}
use Rattle.rings.proofs.Joined.{table_sizes, table-entries}
use Rattle.chart_points.specs.Charts.{chart_on}
use Rattle.sheet.specs.declared.Sheet.{Sheet}
use Rattle.sheet.specs.declared.Stage.{Stage}
use Rattle.sheet.specs.declared.Stage.TheVariants.{Labelled, Charted}
use Rattle.sheet.specs.Sheets.{held_count, held_plan, held_labels, fits, pack, no_chart, packed}
use Rattle.sheet.proofs.Reading.{few, room}

-- ---- to[..k].copy_from_slice(&from[..k]), where to is all zeros
-- what is read of a part is what is read of a stretch, and 0 behind it
part_reads : (s : List ℕ) (at k i : ℕ) → get_or (take k (drop at s)) i 0 ≡ get_or (stretch s at k) i 0
part_reads s at k i = go (lt-or-le i k)
  where
    go : (i < k) ⊎ (k ≤ i) → get_or (take k (drop at s)) i 0 ≡ get_or (stretch s at k) i 0
    go (inl h) = get_or-take k (drop at s) i 0 h ∙ get_or-drop at s i 0 ∙ sym (get_or-stretch s at k i h)
    go (inr h) = sym (past (take k (drop at s)) i (omega (arith, length-take k (drop at s)))) ∙ past (stretch s at k) i (omega (arith, length-stretch s at k))

-- the part of a list from an offset on, at most k elements, in an array with zeros behind it
pub part_padded : (s : List ℕ) (at k m : ℕ) → k ≤ m → zero_padded m (take k (drop at s)) ≡ zero_padded m (stretch s at k)
part_padded s at k m h =
    let l = take k (drop at s) in
    let a = length-zero_padded m l (omega (arith, length-take k (drop at s))) in
    let b = length-zero_padded m (stretch s at k) (omega (arith, length-stretch s at k)) in
    ext_get_or 0 (zero_padded m l) (zero_padded m (stretch s at k)) (a ∙ sym b) (λ i p. get_or-zero_padded m l i ∙ part_reads s at k i ∙ sym (get_or-zero_padded m (stretch s at k) i))

-- so many elements as there are
pub take-there : (a : List ℕ) (k : ℕ) → take (min k (length a)) a ≡ take k a
take-there a k = go (lt-or-le k (length a))
  where
    go : (k < length a) ⊎ (length a ≤ k) → take (min k (length a)) a ≡ take k a
    go (inl h) = ap (λ (i : ℕ). take i a) (omega arith)
    go (inr h) = take_all (min k (length a)) a (omega arith) ∙ sym (take_all k a h)

-- an array with the first k elements of a list at its front
abbrev fronted : ℕ → List ℕ → List ℕ → List ℕ
fronted k a old = take (min k (length a)) a ++ drop (min k (length a)) old

fronted-zero_padded : (m k : ℕ) (a old : List ℕ) → k ≤ m → old ≡ zero_padded m [] → fronted k a old ≡ zero_padded m (stretch a 0 k)
unfolding zero_padded zeros
fronted-zero_padded m k a old h e =
    let j = min k (length a) in
    let size : j ≡ length (take k a) = omega (arith, length-take k a) in
    let behind : drop j old ≡ replicate (m - length (take k a)) 0 = ap (drop j) (e ∙ zero_padded-none m) ∙ drop-replicate j m 0 ∙ ap (λ (i : ℕ). replicate (m - i) 0) size in
    (λ i. take-there a k i ++ behind i) ∙ part_padded a 0 k m h

-- ---- a sheet
module _ (sizes es : List ℕ) (n : ℕ) (few : n ≤ 200) where
  abbrev rings : List (List ℕ)
  rings = (table sizes es n).rings

  -- with a plan and labels, from a fresh one
  pub filled : (room : start_of sizes n ≤ 1186) (g : Stage) (ls : List ℕ) (s : Sheet) {a b l : List ℕ} {t k : ℕ} → s ≡ packed file.fresh → t ≡ start_of sizes (min n 200) → k ≡ min (length ls) 1186
      → a ≡ fronted n sizes s.sizes → b ≡ fronted t es s.entries → l ≡ fronted k ls s.labels
      → ◌≡◌ {A = Sheet} (record { stage = g; n = n; sizes = a; entries = b; labels = l; w = s.w; h = s.h; xs = s.xs; ys = s.ys }) (pack g rings (take 1186 ls) no_chart)
  unfolding packed pack
  filled room g ls s {t = t} {k = k} e q w p f r =
      let total : t ≡ start_of sizes n = q ∙ ap (start_of sizes) (omega arith) in
      let front : stretch ls 0 k ≡ take 1186 ls = stretch-first ls k (omega arith) ∙ ap (λ (j : ℕ). take j ls) (omega arith) ∙ take-there ls 1186 in
      let all : n ≡ length rings = unfold table in sym (count-rows (starts_of sizes) sizes es n) in
      λ i. record {
        stage = g;
        n = all i;
        sizes = (p ∙ fronted-zero_padded 200 n sizes s.sizes few (ap (λ (v : Sheet). v.sizes) e) ∙ ap (zero_padded 200) (sym (table_sizes sizes es n))) i;
        entries = (f ∙ fronted-zero_padded 1186 t es s.entries (omega arith) (ap (λ (v : Sheet). v.entries) e) ∙ ap (λ (j : ℕ). zero_padded 1186 (stretch es 0 j)) total ∙ ap (zero_padded 1186) (sym (table-entries sizes es n few))) i;
        labels = (r ∙ fronted-zero_padded 1186 k ls s.labels (omega arith) (ap (λ (v : Sheet). v.labels) e) ∙ ap (zero_padded 1186) front) i;
        w = (e i).w;
        h = (e i).h;
        xs = (e i).xs;
        ys = (e i).ys;
      }

  -- with a chart, from one with a plan and labels
  pub charted : (ls : List ℕ) (s : Sheet) (w h : ℕ) (xs ys : List ℕ) {a b : List ℕ} → s ≡ pack Charted rings ls no_chart → a ≡ fronted n xs s.xs → b ≡ fronted n ys s.ys
      → ◌≡◌ {A = Sheet} (record { stage = s.stage; n = s.n; sizes = s.sizes; entries = s.entries; labels = s.labels; w = w; h = h; xs = a; ys = b }) (packed (file.charted (table sizes es n) ls (chart_on n w h xs ys)))
  unfolding packed pack no_chart chart_on
  charted ls s w h xs ys e p q = λ i. record {
    stage = (e i).stage;
    n = (e i).n;
    sizes = (e i).sizes;
    entries = (e i).entries;
    labels = (e i).labels;
    w = w;
    h = h;
    xs = (p ∙ fronted-zero_padded 200 n xs s.xs few (ap (λ (v : Sheet). v.xs) e)) i;
    ys = (q ∙ fronted-zero_padded 200 n ys s.ys few (ap (λ (v : Sheet). v.ys) e)) i;
  }

-- ---- from a sheet whose plan fits
module _ (s : Sheet) (f : fits s ≡ true) where
  -- its rings fit the arrays
  pub bounded_few : {n : ℕ} → n ≡ s.n → n ≤ 200
  bounded_few e = let h = few s f in omega arith

  pub bounded_room : {sizes : List ℕ} {n : ℕ} → sizes ≡ s.sizes → n ≡ s.n → start_of sizes n ≤ 1186
  bounded_room {sizes} {n} a e = let r = room s f in let t : start_of sizes n ≡ start_of s.sizes s.n = λ i. start_of (a i) (e i) in omega arith

  -- there is room for its labels
  pub labels_fit : {ls : List ℕ} → ls ≡ held_labels s → take 1186 ls ≡ held_labels s
  unfolding held_labels held_count
  labels_fit {ls} e = let r = room s f in let l = ap length e ∙ length-stretch s.labels 0 (start_of s.sizes s.n) in take_all 1186 ls (omega arith) ∙ e

  -- as many labels as it has entries
  pub with_labels : (ls : List ℕ) (t : Sheet) {k m : ℕ} → k ≡ start_of s.sizes s.n → m ≡ min k (length ls)
      → t ≡ packed (file.labelled (held_plan s) (take 1186 (take m ls))) → t ≡ packed (file.labelled (held_plan s) (stretch ls 0 (held_count s)))
  unfolding packed pack held_count
  with_labels ls t {k} {m} total e h =
      let r = room s f in
      let there : take m ls ≡ take k ls = ap (λ (j : ℕ). take j ls) e ∙ take-there ls k in
      let p = held_plan s in
      h ∙ ap (λ (l : List ℕ). pack Labelled p.rings l no_chart) (take_all 1186 (take m ls) (omega (arith, length-take m ls)) ∙ there)
      ∙ λ i. record (pack Labelled p.rings (take k ls) no_chart) { labels = (part_padded ls 0 k 1186 (omega arith) ∙ ap (λ (j : ℕ). zero_padded 1186 (stretch ls 0 j)) total) i }
