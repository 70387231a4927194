-- The answers of scan, same and ring: each has room in the number, and the code gives it.
use Prim.Native.Nat.{ℕ, ◌+◌, ◌*◌, ◌<◌, ◌^◌}
use mathlib.Core.Path.{◌≡◌, refl, sym, ◌∙◌, subst}
use mathlib.Core.List.{List}
use mathlib.Core.Bool.{Bool, true, false}
use native.Mathlib.Omega.{arith}
use lib.Dec.{ltb}
use borrow.Author.Tests.{ltb-true, ltb-false}
use Rattle.std.specs.Prelude.{Option, Some, None}
use Rattle.model.specs.Outcome.{accepted}
use Rattle.model.specs.Scan.{Triple, scan}
use Rattle.model.specs.File.{Sheet}
use Rattle.model.specs.Calls.{require_plan, scan_call, same_call, ring_call}
use Rattle.model.proofs.Outcomes.{not-both, same-value, mapped_at, mapped_off, mapped_accepted, bind_accepted}
use Rattle.model.proofs.Plans.{adjacent-mem}
use Rattle.model.proofs.PlanRules.{sound}
use Rattle.model.proofs.RingPart.{ring-accepted}
use Rattle.plan_bounds.proofs.Fits.{fit-says}
use Rattle.sheet.specs.declared.Sheet as struct
use Rattle.sheet.specs.Sheets.{held_plan, fits, reads, stage_read, rank}
use Rattle.sheet.proofs.Reading.{plan_early, plan_there, fits_there}
use Rattle.guarantee.proofs.Sized.{Good}
use Rattle.sheet_bytes.specs.Exchange.{sheet_of_bytes}
use Rattle.sheet_bytes.proofs.Small.{small_mapped, small_bind}
use Rattle.sheet_bytes.proofs.Sizes.{scan-inside, part_short}
use Rattle.sheet_bytes.proofs.Places.{plan-held, small-scan, small_same, small-ring}
use Rattle.sheet_bytes.proofs.Codes.{Roomy, code_whole}
use Rattle.sheet_bytes.proofs.Handing.{opened_good, handed_good, small_in}
use Rattle.touchchart.specs.Interface.{triple_value, scans_to, same_value, compares_to, part_value, rings_to}

-- ---- scan
-- three contexts below 200 have room
triple-small : (a b c : ℕ) → a < 200 → b < 200 → c < 200 → a * 65536 + b * 256 + c < 2 ^ 48
triple-small a b c x y z = omega arith

-- the value of a scan of a good sheet
scan-value : (s : Sheet) (t : Option Triple) → Good s → scan_call s ≡ accepted t → triple_value t < 2 ^ 48
unfolding scan_call triple_value
scan-value s None g e = omega arith
scan-value s (Some (a, b, c)) g e =
    let (p, q, f) = mapped_accepted scan (require_plan s) (Some (a, b, c)) e in
    let h = plan-held s p g q in
    let high = h.fits.high in
    let (x, y, z) = scan-inside p (sound p h.kept).inside a b c f in
    triple-small a b c (omega arith) (omega arith) (omega arith)

-- Scan has room
pub roomy-scan : (b : List ℕ) → Roomy (scans_to b)
unfolding scans_to
roomy-scan b = record {
  small = small_bind (sheet_of_bytes b) _ (small_in b) (λ s _. small_mapped triple_value (scan_call s) (small-scan s));
  value = λ v e.
      let (s, e₁, f) = bind_accepted (sheet_of_bytes b) _ v e in
      let (t, e₂, g) = mapped_accepted triple_value (scan_call s) v f in
      subst (λ (w : ℕ). w < 2 ^ 48) g (scan-value s t (handed_good b s e₁) e₂);
}

-- the three are below 200, whatever the struct
pub scanned_inside : (s : struct.Sheet) (a b c : ℕ) → accepted (Some (a, b, c)) ≡ scan_call (reads s) → (a < 200) × (b < 200) × (c < 200)
unfolding scan_call fits
scanned_inside s a b c e = go (ltb (rank (stage_read s)) 1) refl
  where
    go : (t : Bool) → ltb (rank (stage_read s)) 1 ≡ t → (a < 200) × (b < 200) × (c < 200)
    go true q = not-both (sym (mapped_off scan (require_plan (reads s)) 13 0 (plan_early s (ltb-true (rank (stage_read s)) 1 q))) ∙ sym e)
    go false q =
        let up = ltb-false (rank (stage_read s)) 1 q in
        let p = held_plan s in
        let known = fit-says p (fits_there s up) in
        let found = same-value (sym (mapped_at scan (require_plan (reads s)) p (plan_there s up)) ∙ sym e) in
        let high = known.few in
        let (x, y, z) = scan-inside p (λ u v m. known.inside u v (adjacent-mem p u v m)) a b c found in
        (omega arith, omega arith, omega arith)

-- ---- same
-- Same has room
pub roomy-same : (a b : List ℕ) → Roomy (compares_to a b)
unfolding compares_to same_value
roomy-same a b = record {
  small = small_bind (sheet_of_bytes a) _ (small_in a) (λ s _. small_bind (sheet_of_bytes b) _ (small_in b) (λ t _. small_mapped same_value (same_call s t) (small_same s t)));
  value = λ v e.
      let (s, _, f) = bind_accepted (sheet_of_bytes a) _ v e in
      let (t, _, g) = bind_accepted (sheet_of_bytes b) _ v f in
      let (y, _, h) = mapped_accepted same_value (same_call s t) v g in
      subst (λ (w : ℕ). w < 2 ^ 48) h (low y);
}
  where
    low : (y : Bool) → same_value y < 2 ^ 48
    low true = omega arith
    low false = omega arith

-- ---- ring
-- a part lies in the file's first 4,096 bytes
pub part_inside : (b : List ℕ) (u at size : ℕ) → ring_call b u ≡ accepted (at, size) → (at < 4096) × (size < 4096)
part_inside b u at size e =
    let (s, p, o, q, h, here, long) = ring-accepted b u at size e in
    let k = plan-held s p (opened_good b s o) q in
    let (x, y) = part_short p u k.fits k.kept h in
    (omega arith, omega arith)

-- Ring has room
pub roomy-ring : (b : List ℕ) (u : ℕ) → Roomy (rings_to b u)
unfolding rings_to part_value
roomy-ring b u = record {
  small = small_mapped part_value (ring_call b u) (small-ring b u (opened_good b));
  value = λ v e.
      let (t, e₁, same) = mapped_accepted part_value (ring_call b u) v e in
      let (x, y) = part_inside b u t.0 t.1 e₁ in
      omega arith;
}

-- for the number of an answer that has room
pub ruleset numbers = (code_whole, roomy-scan, roomy-same, roomy-ring)
