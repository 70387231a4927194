-- A sheet that fits comes back from the struct that it is packed into.
use Prim.Native.Nat.{ℕ, zero, suc, ◌-◌, ◌≤◌, ◌<◌}
use mathlib.Core.Path.{◌≡◌, refl, sym, ap, ◌∙◌}
use mathlib.Core.List.{List, [], ◌∷◌, ◌++◌, map}
use mathlib.Core.Bool.{Bool, true, false, cond}
use native.Mathlib.Omega.{arith}
use lib.ListN.{length, get_or, take, length-append}
use lib.Seq.{ext_get_or, take-length}
use Rattle.lists.specs.Ranges.{from}
use Rattle.lists.specs.Parts.{flatten}
use Rattle.lists.specs.Spans.{stretch, zeros, zero_padded}
use Rattle.lists.proofs.Ranges.{length-map-from, get_or-map-from}
use Rattle.lists.proofs.Padded.{get_or-zero_padded, stretch-zero_padded}
use Rattle.lists.proofs.Stretches.{stretch-joined}
use Rattle.model.specs.Plan.{Plan, context_count, entry_count}
use Rattle.model.specs.Chart.{Chart}
use Rattle.model.specs.File as file
use Rattle.rings.specs.Tables.{sum_of, start_of, starts_of, rows, table}
use Rattle.plan_bounds.specs.Fits.{fit}
use Rattle.plan_bounds.proofs.Fits.{fit-says}
use Rattle.sheet.specs.declared.Sheet.{Sheet}
use Rattle.sheet.specs.declared.Stage.{Stage}
use Rattle.sheet.specs.declared.Stage.TheVariants.{Empty, Open, Labelled, Charted}
use Rattle.sheet.specs.Sheets.{held_count, held_plan, held_labels, held_chart, held_sheet, fits, reads, pack, no_chart, packed}

-- ---- sizes and starts of packed rings
take_sizes : (rs : List (List ℕ)) (m : List ℕ) (u : ℕ) → u ≤ length rs → start_of (map length rs ++ m) u ≡ length (flatten (take u rs))
unfolding start_of sum_of
take_sizes rs m zero h = refl
take_sizes [] m (suc u) h = absurd (omega arith)
take_sizes (r ∷ rs) m (suc u) h = omega (arith, take_sizes rs m u (omega arith), length-append r (flatten (take u rs)))

pub start-packed : (k : ℕ) (rs : List (List ℕ)) (u : ℕ) → u ≤ length rs → start_of (zero_padded k (map length rs)) u ≡ length (flatten (take u rs))
unfolding zero_padded
start-packed k rs u h = take_sizes rs (zeros (k - length (map length rs))) u h

pub starts_at : (sizes : List ℕ) (u : ℕ) → u < 200 → get_or (starts_of sizes) u 0 ≡ start_of sizes u
unfolding starts_of
starts_at sizes u h = get_or-map-from (start_of sizes) 0 200 u 0 h ∙ ap (start_of sizes) (omega arith)

-- the u-th ring among all
ring_among : (k : ℕ) (rs : List (List ℕ)) (u : ℕ) → stretch (zero_padded k (flatten rs)) (length (flatten (take u rs))) (length (get_or rs u [])) ≡ get_or rs u []
unfolding zero_padded
ring_among k rs u = stretch-joined rs (zeros (k - length (flatten rs))) u

-- the size of the u-th ring
pub size-at : (k : ℕ) (rs : List (List ℕ)) (u : ℕ) → u < length rs → get_or (zero_padded k (map length rs)) u 0 ≡ length (get_or rs u [])
size-at k rs u h = get_or-zero_padded k (map length rs) u ∙ go rs u h
  where
    go : (rs : List (List ℕ)) (u : ℕ) → u < length rs → get_or (map length rs) u 0 ≡ length (get_or rs u [])
    go [] u h = absurd (omega arith)
    go (r ∷ rs) zero h = refl
    go (r ∷ rs) (suc u) h = go rs u (omega arith)

-- The rings of a packed plan are the plan's
pub table-packed : (k : ℕ) (rs : List (List ℕ)) → length rs ≤ 200 → table (zero_padded 200 (map length rs)) (zero_padded k (flatten rs)) (length rs) ≡ record { rings = rs }
unfolding table rows zero_padded
table-packed k rs h = λ i. record { rings = same i }
  where
    f : ℕ → List ℕ
    f u = stretch (zero_padded k (flatten rs)) (get_or (starts_of (zero_padded 200 (map length rs))) u 0) (get_or (zero_padded 200 (map length rs)) u 0)

    each : (u : ℕ) → u < length rs → f u ≡ get_or rs u []
    each u q =
        let s = starts_at (zero_padded 200 (map length rs)) u (omega arith) ∙ start-packed 200 rs u (omega arith) in
        (λ i. stretch (zero_padded k (flatten rs)) (s i) (size-at 200 rs u q i)) ∙ ring_among k rs u

    same : map f (from 0 (length rs)) ≡ rs
    same = ext_get_or [] (map f (from 0 (length rs))) rs (length-map-from f 0 (length rs))
        (λ u q. let b : u < length rs = let l = length-map-from f 0 (length rs) in omega arith in get_or-map-from f 0 (length rs) u [] b ∙ ap f (omega arith) ∙ each u b)

-- ---- the whole sheet
pub record ChartHeld (p : Plan) (c : Chart) : Type 0 where
  pub xs_each : length c.xs ≡ context_count p
  pub ys_each : length c.ys ≡ context_count p

abbrev pub Held : file.Sheet → Type 0
Held file.fresh = Unit {0}
Held (file.opened p) = fit p ≡ true
Held (file.labelled p ls) = (fit p ≡ true) × (length ls ≡ entry_count p)
Held (file.charted p ls c) = (fit p ≡ true) × (length ls ≡ entry_count p) × ChartHeld p c

module _ (g : Stage) (p : Plan) (ls : List ℕ) (c : Chart) (h : fit p ≡ true) where
  abbrev s : Sheet
  s = pack g p.rings ls c

  pub count-packed : held_count s ≡ entry_count p
  unfolding held_count pack entry_count
  count-packed = start-packed 200 p.rings (context_count p) (omega arith) ∙ ap (λ (rs : List (List ℕ)). length (flatten rs)) (take-length p.rings)

  pub plan-packed : held_plan s ≡ p
  unfolding held_plan pack
  plan-packed = table-packed 1186 p.rings (fit-says p h).few

  fits-packed : fits s ≡ true
  unfolding fits
  fits-packed = ap fit plan-packed ∙ h

  pub labels-packed : length ls ≡ entry_count p → held_labels s ≡ ls
  unfolding held_labels pack
  labels-packed q = ap (stretch (zero_padded 1186 ls) 0) (count-packed ∙ sym q) ∙ stretch-zero_padded 1186 ls

  pub chart-packed : ChartHeld p c → held_chart s ≡ c
  unfolding held_chart pack
  chart-packed k = λ i. record {
    w = c.w;
    h = c.h;
    xs = (ap (stretch (zero_padded 200 c.xs) 0) (sym k.xs_each) ∙ stretch-zero_padded 200 c.xs) i;
    ys = (ap (stretch (zero_padded 200 c.ys) 0) (sym k.ys_each) ∙ stretch-zero_padded 200 c.ys) i;
  }

-- a struct that fits reads by its stage
reads_fitting : (s : Sheet) (g : Stage) → s.stage ≡ g → fits s ≡ true → reads s ≡ held_sheet g s
unfolding reads
reads_fitting s g e f = ap (λ (b : Bool). cond b (held_sheet s.stage s) file.fresh) f ∙ ap (λ (t : Stage). held_sheet t s) e

stage-packed : (g : Stage) (rs : List (List ℕ)) (ls : List ℕ) (c : Chart) → (pack g rs ls c).stage ≡ g
unfolding pack
stage-packed g rs ls c = refl

reads-fresh : (s : Sheet) → s.stage ≡ Empty → reads s ≡ file.fresh
unfolding reads held_sheet
reads-fresh s e = go (fits s)
  where
    go : (b : Bool) → cond b (held_sheet s.stage s) file.fresh ≡ file.fresh
    go true = ap (λ (t : Stage). held_sheet t s) e
    go false = refl

-- What is packed reads as what it was
pub reads-packed : (t : file.Sheet) → Held t → reads (packed t) ≡ t
unfolding packed held_sheet
reads-packed file.fresh h = reads-fresh (pack Empty [] [] no_chart) (stage-packed Empty [] [] no_chart)
reads-packed (file.opened p) h =
    reads_fitting (pack Open p.rings [] no_chart) Open (stage-packed Open p.rings [] no_chart) (fits-packed Open p [] no_chart h) ∙ ap file.opened (plan-packed Open p [] no_chart h)
reads-packed (file.labelled p ls) h =
    reads_fitting (pack Labelled p.rings ls no_chart) Labelled (stage-packed Labelled p.rings ls no_chart) (fits-packed Labelled p ls no_chart h.0)
    ∙ λ i. file.labelled (plan-packed Labelled p ls no_chart h.0 i) (labels-packed Labelled p ls no_chart h.0 h.1 i)
reads-packed (file.charted p ls c) h =
    reads_fitting (pack Charted p.rings ls c) Charted (stage-packed Charted p.rings ls c) (fits-packed Charted p ls c h.0)
    ∙ λ i. file.charted (plan-packed Charted p ls c h.0 i) (labels-packed Charted p ls c h.0 h.1 i) (chart-packed Charted p ls c h.0 h.2 i)
