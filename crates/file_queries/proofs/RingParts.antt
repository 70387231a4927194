-- The ring call on the sheet that a file was opened to, and the part of the file that it hands back.
use Prim.Native.Nat.{ℕ, suc, ◌-◌, ◌*◌, ◌^◌, ◌≤◌, ◌<◌}
use mathlib.Core.Path.{◌≡◌, refl, sym, ap, ◌∙◌}
use mathlib.Core.List.Memᴰ
use mathlib.Core.List.{List, [], ◌∷◌, map}
use mathlib.Core.Bool.{Bool, true, false}
use native.Mathlib.Omega.{arith}
use lib.ListN.{length, get_or, take, drop}
use lib.Dec.{ltb}
use borrow.Author.Tests.{ltb-true, lt-ltb, le-ltb}
use Rattle.lists.specs.Parts.{flatten}
use Rattle.lists.specs.Spans.{zero_padded}
use Rattle.lists.specs.Words.{bytes}
use Rattle.lists.proofs.Words.{Bytes, length-bytes}
use Rattle.model.specs.Outcome.{Outcome, accepted, refused, require, ◌>>=◌, ◌>>◌}
use Rattle.model.specs.Plan.{Plan, context_count, entries}
use Rattle.model.specs.Labels.{start}
use Rattle.model.specs.Chart.{Chart}
use Rattle.model.specs.File as file
use Rattle.model.specs.File.{entry_offset}
use Rattle.model.specs.Calls.{require_plan, open_call, ring_start, ring_call, ring_part}
use Rattle.model.proofs.Outcomes.{not-both, same-value, same-refusal}
use Rattle.model.proofs.FileWrite.{PlanFits, Fits}
use Rattle.model.proofs.FileRead.{read_fits}
use Rattle.model.proofs.RingPart.{open_accepted, ring-accepted, opened_part}
use Rattle.std.specs.Prelude.{min}
use Rattle.std.proofs.Math.Nat.{min-eq_left}
use Rattle.rings.specs.Tables.{start_of}
use Rattle.arrays.specs.ArrayParts.{part_at}
use Rattle.arrays.proofs.Parts.{part_whole}
use Rattle.sheet.specs.declared.Sheet.{Sheet}
use Rattle.sheet.specs.declared.Stage.{Stage}
use Rattle.sheet.specs.declared.Stage.TheVariants.{Open, Labelled, Charted}
use Rattle.sheet.specs.Sheets.{pack, no_chart, packed}
use Rattle.sheet.specs.Answers.{packed_as}
use Rattle.sheet.proofs.Packed.{start-packed, size-at}

-- ---- the ring of a struct
abbrev Told : Bool → ℕ → ℕ → ℕ → Outcome (ℕ × ℕ)
Told t n at size = require t 17 n >> accepted (at, size)

-- the ring that a plan has
abbrev Named : Plan → ℕ → Outcome (ℕ × ℕ)
Named p u = Told (ltb u (context_count p)) (context_count p) (ring_start p u) (2 * length (entries p u))

-- the ring that a struct holds
abbrev Held : Sheet → ℕ → Outcome (ℕ × ℕ)
Held t u = Told (ltb u t.n) t.n (entry_offset u (start_of t.sizes (min u 200))) (2 * get_or t.sizes u 0)

-- a plan that is packed has the same
pack-ring : (g : Stage) (p : Plan) (ls : List ℕ) (c : Chart) (u : ℕ) → PlanFits p → Held (pack g p.rings ls c) u ≡ Named p u
unfolding pack entries
pack-ring g p ls c u fit = go (ltb u (context_count p)) refl
  where
    sizes : List ℕ
    sizes = zero_padded 200 (map length p.rings)

    go : (b : Bool) → ltb u (context_count p) ≡ b → Told b (context_count p) (entry_offset u (start_of sizes (min u 200))) (2 * get_or sizes u 0) ≡ Told b (context_count p) (ring_start p u) (2 * length (entries p u))
    go false e = refl
    go true e =
        let h = ltb-true u (context_count p) e in
        let few = fit.high in
        let begin = ap (start_of sizes) (min-eq_left {n = u} {m = 200} (omega arith)) ∙ start-packed 200 p.rings u (omega arith) in
        λ i. Told true (context_count p) (here begin i) (2 * size-at 200 p.rings u h i)
      where
        here : start_of sizes (min u 200) ≡ length (flatten (take u p.rings)) → entry_offset u (start_of sizes (min u 200)) ≡ ring_start p u
        here q = unfold ring_start start in omega arith

-- ---- the ring call after an open call
pub ring_early : (b : List ℕ) (u k at : ℕ) → refused k at ≡ packed_as (open_call b) → refused k at ≡ ring_call b u
unfolding ring_call packed_as
ring_early b u k at e = go (open_call b) e
  where
    go : (q : Outcome file.Sheet) → refused k at ≡ packed_as q → refused k at ≡ (q >>= λ (s : file.Sheet). require_plan s >>= λ (p : Plan). Named p u)
    go (accepted s) f = not-both f
    go (refused j t) f = let (m, n) = same-refusal f in λ i. refused (m i) (n i)

sheet_ring : (s : file.Sheet) (u : ℕ) → Fits s → Held (packed s) u ≡ (require_plan s >>= λ (p : Plan). Named p u)
unfolding packed require_plan
sheet_ring file.fresh u f = absurd f
sheet_ring (file.opened p) u f = pack-ring Open p [] no_chart u f
sheet_ring (file.labelled p ls) u f = pack-ring Labelled p ls no_chart u f.0
sheet_ring (file.charted p ls c) u f = pack-ring Charted p ls c u f.0

ring_late : (b : List ℕ) (u : ℕ) (t : Sheet) → accepted t ≡ packed_as (open_call b) → Held t u ≡ ring_call b u
unfolding ring_call packed_as
ring_late b u t e = go (open_call b) refl e
  where
    go : (q : Outcome file.Sheet) → open_call b ≡ q → accepted t ≡ packed_as q → Held t u ≡ (q >>= λ (s : file.Sheet). require_plan s >>= λ (p : Plan). Named p u)
    go (accepted s) d g = ap (λ (r : Sheet). Held r u) (same-value g) ∙ sheet_ring s u (read_fits b s (open_accepted b s d).0)
    go (refused k at) d g = not-both (sym g)

module _ (b : List ℕ) (u : ℕ) (t : Sheet) (e : accepted t ≡ packed_as (open_call b)) where
  pub ring_missing : t.n ≤ u → refused 17 t.n ≡ ring_call b u
  ring_missing h = rw (le-ltb u t.n h) at (ring_late b u t e)

  pub ring_there : u < t.n → {k at : ℕ} → k ≡ start_of t.sizes (min u 200) → k < 2 ^ 16 → t.n < 2 ^ 16 → at ≡ min (entry_offset u k) (2 ^ 64 - 1) → accepted (at, 2 * get_or t.sizes u 0) ≡ ring_call b u
  ring_there h {k} {at} q few bound o = ap (λ (j : ℕ). accepted (j, 2 * get_or t.sizes u 0)) (let same : at ≡ entry_offset u k = omega arith in same ∙ ap (entry_offset u) q) ∙ (rw (lt-ltb u t.n h) at (ring_late b u t e))

-- for the code, step by step
pub ruleset steps = (ring_early, ring_missing, ring_there)

-- ---- the part
-- a list whose entries are bytes
pub bytes-at : (l : List ℕ) → ((i : ℕ) → get_or l i 0 < 256) → Bytes l
bytes-at [] h a x'' = elim x'' [ ]
bytes-at (b ∷ l) h a (Memᴰ.head e) = let q = h 0 in omega arith
bytes-at (b ∷ l) h a (Memᴰ.tail m) = bytes-at l (λ i. h (suc i)) a m

-- the part that the ring call names lies in the file
pub part_named : (b : List ℕ) (u at size : ℕ) → ((i : ℕ) → get_or b i 0 < 256) → accepted (at, size) ≡ ring_call b u → part_at b at size ≡ ring_part b (ring_call b u)
unfolding ring_part
part_named b u at size bounded e =
    let y = bytes-at b bounded in
    let (s, p, o, q, h, here, long) = ring-accepted b u at size (sym e) in
    let same : take size (drop at b) ≡ bytes (entries p u) = (λ i. take (sym long i) (drop (sym here i) b)) ∙ opened_part b s p u y o q h in
    let whole : length (take size (drop at b)) ≡ size = ap length same ∙ length-bytes (entries p u) ∙ long in
    sym (part_whole b at size whole) ∙ ap (ring_part b) e

-- a refusal: no part
pub part_none : (b : List ℕ) (o : Outcome (ℕ × ℕ)) (k at : ℕ) → refused k at ≡ o → [] ≡ ring_part b o
unfolding ring_part
part_none b o k at e = ap (ring_part b) e

-- for the code of the part
pub ruleset parts = (part_named, part_none)
