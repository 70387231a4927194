-- Framing refuses at small offsets only: it ends at the first bad record, and no record that it passes is long.
use Prim.Native.Nat.{ℕ, zero, suc, ◌+◌, ◌-◌, ◌*◌, ◌%◌, ◌≤◌, ◌<◌}
use mathlib.Core.Path.{◌≡◌, ap}
use mathlib.Core.List.{List, [], ◌∷◌}
use mathlib.Core.Bool.{Bool, true, false, cond, not, ◌&&◌}
use native.Mathlib.Omega.{arith}
use lib.ListN.{length, drop}
use lib.Dec.{eqb, leb}
use borrow.Author.Tests.{eqb-true, leb-true}
use Rattle.lists.specs.Tests.{is_empty}
use Rattle.lists.specs.Words.{word}
use Rattle.lists.proofs.Bools.{and_yes}
use Rattle.model.specs.Outcome.{Outcome, accepted, require, ◌>>=◌, ◌>>◌}
use Rattle.model.specs.Plan.{Plan}
use Rattle.model.specs.File.{Cursor, Framed, frame, fits_ring, frame_rings, Due, Part, frame_rest, optional, decode}
use Rattle.model.proofs.Outcomes.{same-value, bind_accepted, require-passed}
use Rattle.model.proofs.FileRead.{frame-says, rings-read}
use Rattle.sheet_bytes.proofs.Small.{Small, small-accepted, small_bind, small_then, small-require}

-- a record at a small offset
small-frame : (c : Cursor) (kind : ℕ) (fits : ℕ → Bool) → c.at < 131072 → Small (frame c kind fits)
unfolding frame
small-frame c kind fits h =
    let s = c.rest in
    let m = word s in
    let whole = leb 2 (length s) && leb 2 m && leb m (length s - 2) in
    let due = eqb (word (drop 2 s)) kind && fits (m - 2) in
    small_then (require whole 1 c.at) _ (small-require whole 1 c.at (omega arith) h) (λ _ _. small_then (require due 2 c.at) _ (small-require due 2 c.at (omega arith) h) (λ _ _. small-accepted _))

-- behind a record: its head of 4 bytes and a body of a length that is due
framed_at : (c : Cursor) (kind : ℕ) (fits : ℕ → Bool) (r : Framed) → frame c kind fits ≡ accepted r → (m : ℕ) × (fits m ≡ true) × (r.1.at ≡ c.at + 4 + m)
framed_at c kind fits r e = let q = frame-says c kind fits r e in (word c.rest - 2, q.fitted, omega (arith, q.long, q.at))

-- behind a ring of a plan with at most 200 contexts
ring-at : (n : ℕ) (c : Cursor) (r : Framed) → n ≤ 200 → frame c 2 (fits_ring n) ≡ accepted r → r.1.at ≤ c.at + 402
unfolding fits_ring
ring-at n c r h e =
    let (m, due, far) = framed_at c 2 (fits_ring n) r e in
    let few = leb-true m (2 * (n - 1)) (and_yes (eqb (m % 2) 0) (leb m (2 * (n - 1))) due).1 in
    omega arith

-- k rings
small-rings : (n k : ℕ) (c : Cursor) → n ≤ 200 → c.at + 402 * k < 131072 → Small (frame_rings n k c)
unfolding frame_rings
small-rings n zero c h b = small-accepted _
small-rings n (suc k) c h b =
    small_bind (frame c 2 (fits_ring n)) _ (small-frame c 2 (fits_ring n) (omega arith))
    (λ r e. small_bind (frame_rings n k r.1) _ (small-rings n k r.1 h (let a = ring-at n c r h e in omega arith)) (λ q f. small-accepted _))

-- behind k rings
rings-at : (n k : ℕ) (c : Cursor) (r : List (List ℕ) × Cursor) → n ≤ 200 → frame_rings n k c ≡ accepted r → r.1.at ≤ c.at + 402 * k
unfolding frame_rings
rings-at n zero c r h e = let q = ap (λ (t : List (List ℕ) × Cursor). t.1.at) (same-value e) in omega arith
rings-at n (suc k) c r h e =
    let (t, e₁, f) = bind_accepted (frame c 2 (fits_ring n)) _ r e in
    let (u, e₂, g) = bind_accepted (frame_rings n k t.1) _ r f in
    let q = ap (λ (v : List (List ℕ) × Cursor). v.1.at) (same-value g) in
    let a = ring-at n c t h e₁ in
    let b = rings-at n k t.1 u h e₂ in
    omega arith

-- how many bytes the records that may still follow have
room : List Due → ℕ
room [] = 0
room (d ∷ due) = 4 + d.size + room due

-- the end, or a record that is none too many
small_end : (t : Bool) (c : Cursor) → c.at < 131072 → Small {A = List Part} (cond t (accepted []) (frame c 0 (λ (m : ℕ). false) >> accepted []))
small_end true c h = small-accepted []
small_end false c h = small_then (frame c 0 (λ (m : ℕ). false)) (accepted []) (small-frame c 0 (λ (m : ℕ). false) h) (λ r e. small-accepted [])

-- the end, or a record of a later row, or one of the first row and what follows it
small-more : (d : Due) (t skipped : Bool) (c : Cursor) (rest : Cursor → Outcome (List Part)) → c.at < 131072 → ((e : Cursor) → e.at ≤ c.at + 4 + d.size → Small (rest e))
    → Small (cond t (accepted []) (cond skipped (rest c) (frame c d.kind (eqb d.size) >>= λ (f : Framed). rest f.1 >>= λ (l : List Part). accepted ((d.kind, f.0) ∷ l))))
small-more d true skipped c rest h s = small-accepted []
small-more d false true c rest h s = s c (omega arith)
small-more d false false c rest h s =
    small_bind (frame c d.kind (eqb d.size)) _ (small-frame c d.kind (eqb d.size) h)
    (λ r e.
    let (m, due, far) = framed_at c d.kind (eqb d.size) r e in
    let same = eqb-true d.size m due in
    small_bind (rest r.1) _ (s r.1 (omega arith)) (λ l f. small-accepted _))

-- the records after the rings
small-rest : (due : List Due) (c : Cursor) → c.at + room due < 131072 → Small (frame_rest due c)
unfolding frame_rest room
small-rest [] c h = small_end (is_empty c.rest) c (omega arith)
small-rest (d ∷ due) c h = small-more d (is_empty c.rest) (d.skippable && not (eqb (word (drop 2 c.rest)) d.kind)) c (frame_rest due) (omega arith) (λ e l. small-rest due e (omega arith))

-- 1, 2 and 3
pub small-decode : (b : List ℕ) → Small (decode b)
unfolding decode optional room
small-decode b =
    let start : Cursor = record { at = 0; rest = b } in
    small_bind (frame start 1 (eqb 2)) _ (small-frame start 1 (eqb 2) (omega arith))
    (λ f e₁.
    let n = word f.0 in
    let (m, due, far) = framed_at start 1 (eqb 2) f e₁ in
    let two = eqb-true 2 m due in
    small_then (require (leb 5 n && leb n 200) 3 0) _ (small-require (leb 5 n && leb n 200) 3 0 (omega arith) (omega arith))
    (λ _ t.
    let high = leb-true n 200 (and_yes (leb 5 n) (leb n 200) (require-passed _ 3 0 t)).1 in
    small_bind (frame_rings n n f.1) _ (small-rings n n f.1 high (omega arith))
    (λ g e₂.
    let a = rings-at n n f.1 g high e₂ in
    let p : Plan = record { rings = g.0 } in
    let size = (rings-read n n f.1 g e₂).size in
    small_bind (frame_rest (optional p) g.1) _ (small-rest (optional p) g.1 (omega arith)) (λ parts e₃. small-accepted _))))
