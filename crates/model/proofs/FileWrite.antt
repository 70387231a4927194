-- What is written is read back: the file of a sheet, decoded, is the sheet.
use Prim.Native.Nat.{ℕ, suc, ◌+◌, ◌-◌, ◌*◌, ◌%◌, ◌≤◌, ◌<◌}
use mathlib.Core.Path.{◌≡◌, refl, sym, ap, ◌∙◌, subst}
use mathlib.Core.List.{List, [], ◌∷◌, ◌++◌, map, append_assoc, append-nil, Memᴰ}
use mathlib.Core.Bool.{Bool, true, false, and-false}
use mathlib.Core.Logic.{◌⊎◌, inl, inr}
use native.Mathlib.Omega.{arith}
use lib.ListN.{length, drop, length-append}
use lib.Seq.{take-append_seam, drop-append_seam}
use lib.Dec.{eqb, leb}
use borrow.Author.Tests.{eq-eqb, le-leb}
use Rattle.lists.specs.Tests.{is_empty}
use Rattle.lists.specs.Parts.{pairs}
use Rattle.lists.specs.Words.{word, words, bytes}
use Rattle.lists.proofs.Words.{rejoined, words-bytes, word_bytes, length-bytes}
use Rattle.model.specs.Outcome.{accepted}
use Rattle.model.specs.Plan.{Plan, context_count, labels_due}
use Rattle.model.specs.Chart.{Chart}
use Rattle.model.specs.File.{Sheet, fresh, opened, labelled, charted, frame, fits_ring, frame_rings, Due, Part, frame_rest, optional, kinds_of, body_of, chart_in, sheet_of, decode, entry, points, chart_out, rings_out, plan_out, encode}

-- a record: a head of 4 bytes, and its body
pub length-entry : (kind : ℕ) (body : List ℕ) → length (entry kind body) ≡ 4 + length body
unfolding entry bytes
length-entry kind body = omega arith

-- A plan that fits into a file: 5 to 200 contexts, and every ring shorter than their number
pub record PlanFits (p : Plan) : Type 0 where
  pub low : 5 ≤ context_count p
  pub high : context_count p ≤ 200
  pub short : (r : List ℕ) → Memᴰ r p.rings → length r < context_count p

-- a label for each dart
abbrev pub LabelsFit : Plan → List ℕ → Type 0
LabelsFit p ls = length ls ≡ labels_due p

-- a point for each context
pub record ChartFits (p : Plan) (c : Chart) : Type 0 where
  pub xs_each : length c.xs ≡ context_count p
  pub ys_each : length c.ys ≡ context_count p

-- What a sheet must be to come back from its file; a fresh one has no file
abbrev pub Fits : Sheet → Type 0
Fits fresh = ⊥
Fits (opened p) = PlanFits p
Fits (labelled p ls) = PlanFits p × LabelsFit p ls
Fits (charted p ls c) = PlanFits p × LabelsFit p ls × ChartFits p c

-- a record that was written is framed
pub frame-entry : (at kind : ℕ) (body rest : List ℕ) (fits : ℕ → Bool) → fits (length body) ≡ true
    → frame (record { at = at; rest = entry kind body ++ rest }) kind fits ≡ accepted (body, record { at = at + 2 + (2 + length body); rest = rest })
unfolding frame entry bytes word
frame-entry at kind body rest fits h =
    let m = 2 + length body in
    let all = suc (suc (suc (suc (length (body ++ rest))))) in
    let size = length-append body rest in
    let t₁ : leb 2 all ≡ true = le-leb 2 all (omega arith) in
    let t₂ : leb 2 m ≡ true = le-leb 2 m (omega arith) in
    let t₃ : leb m (all - 2) ≡ true = le-leb m (all - 2) (omega arith) in
    let e₁ : m - 2 ≡ length body = omega arith in
    let e₂ : 2 + m ≡ suc (suc (suc (suc (length body)))) = omega arith in
    rw (rejoined m, rejoined kind, t₁, t₂, t₃, eq-eqb kind kind refl, e₁, h, e₂, take-append_seam body rest, drop-append_seam body rest)

-- so are rings that were written, and what follows them is left
rings_framed : (n at : ℕ) (rs : List (List ℕ)) (rest : List ℕ) → ((r : List ℕ) → Memᴰ r rs → length r < n)
    → (e : ℕ) × (frame_rings n (length rs) (record { at = at; rest = rings_out rs ++ rest }) ≡ accepted (rs, record { at = e; rest = rest }))
unfolding frame_rings rings_out fits_ring
rings_framed n at [] rest h = (at, refl)
rings_framed n at (r ∷ rs) rest h =
    let size = length-bytes r in
    let short = h r (Memᴰ.head refl) in
    let even : eqb (length (bytes r) % 2) 0 ≡ true = rw size (eq-eqb (2 * length r % 2) 0 (omega arith)) in
    let few : leb (length (bytes r)) (2 * (n - 1)) ≡ true = le-leb (length (bytes r)) (2 * (n - 1)) (omega arith) in
    let (e, q) = rings_framed n (at + 2 + (2 + length (bytes r))) rs rest (λ t m. h t (Memᴰ.tail m)) in
    (e, rw (append_assoc, frame-entry at 2 (bytes r) (rings_out rs ++ rest) (fits_ring n) (rw (even, few)), q, words-bytes))

-- The parts after the rings stand in the order that is due: each has its row's kind and size, and only rows that may be skipped are. They may stop early.
abbrev pub InOrder : List Due → List Part → Type 0
InOrder due [] = Unit {0}
InOrder [] (q ∷ parts) = ⊥
InOrder (d ∷ due) (q ∷ parts) = ((d.kind ≡ q.0) × (d.size ≡ length q.1) × InOrder due parts) ⊎ ((d.skippable ≡ true) × (eqb q.0 d.kind ≡ false) × InOrder due (q ∷ parts))

-- those records, written
abbrev pub parts_out : List Part → List ℕ
parts_out [] = []
parts_out (q ∷ parts) = entry q.0 q.1 ++ parts_out parts

not-is_empty : (kind : ℕ) (body rest : List ℕ) → is_empty (entry kind body ++ rest) ≡ false
unfolding entry bytes
not-is_empty kind body rest = refl

-- a record's kind is read where it stands
kind-out : (kind : ℕ) (body rest : List ℕ) → word (drop 2 (entry kind body ++ rest)) ≡ kind
unfolding entry bytes word
kind-out kind body rest = rejoined kind

-- a record of the first row
there_framed : (d : Due) (due : List Due) (b : List ℕ) (parts : List Part) (at : ℕ) → d.size ≡ length b
    → frame_rest due (record { at = at + 2 + (2 + length b); rest = parts_out parts }) ≡ accepted parts
    → frame_rest (d ∷ due) (record { at = at; rest = entry d.kind b ++ parts_out parts }) ≡ accepted ((d.kind, b) ∷ parts)
unfolding frame_rest
there_framed d due b parts at s e =
    rw (not-is_empty d.kind b (parts_out parts), kind-out d.kind b (parts_out parts), eq-eqb d.kind d.kind refl, and-false, frame-entry at d.kind b (parts_out parts) (eqb d.size) (eq-eqb d.size (length b) s), e)

-- one of a later row
skipped_framed : (d : Due) (due : List Due) (q : Part) (parts : List Part) (at : ℕ) → d.skippable ≡ true → eqb q.0 d.kind ≡ false
    → frame_rest due (record { at = at; rest = parts_out (q ∷ parts) }) ≡ accepted (q ∷ parts)
    → frame_rest (d ∷ due) (record { at = at; rest = parts_out (q ∷ parts) }) ≡ accepted (q ∷ parts)
unfolding frame_rest
skipped_framed d due q parts at s n e = rw (not-is_empty q.0 q.1 (parts_out parts), kind-out q.0 q.1 (parts_out parts), s, n, e)

rest_framed : (due : List Due) (parts : List Part) (at : ℕ) → InOrder due parts → frame_rest due (record { at = at; rest = parts_out parts }) ≡ accepted parts
unfolding frame_rest
rest_framed [] [] at h = refl
rest_framed [] (q ∷ parts) at h = absurd h
rest_framed (d ∷ due) [] at h = refl
rest_framed (d ∷ due) (q ∷ parts) at (inl (k, s, h)) =
    subst (λ (j : ℕ). frame_rest (d ∷ due) (record { at = at; rest = entry j q.1 ++ parts_out parts }) ≡ accepted ((j, q.1) ∷ parts)) k
    (there_framed d due q.1 parts at s (rest_framed due parts (at + 2 + (2 + length q.1)) h))
rest_framed (d ∷ due) (q ∷ parts) at (inr (s, n, h)) = skipped_framed d due q parts at s n (rest_framed due (q ∷ parts) at h)

-- a plan and the parts after its rings come back from their file
file_decoded : (p : Plan) (parts : List Part) → PlanFits p → InOrder (optional p) parts → decode (plan_out p ++ parts_out parts) ≡ accepted (sheet_of p parts)
unfolding decode plan_out
file_decoded p parts f h =
    let n = context_count p in
    let head = bytes (n ∷ []) in
    let size : eqb 2 (length head) ≡ true = rw (length-bytes (n ∷ [])) refl in
    let low : leb 5 n ≡ true = le-leb 5 n f.low in
    let high : leb n 200 ≡ true = le-leb n 200 f.high in
    let (e, q) = rings_framed n (0 + 2 + (2 + length head)) p.rings (parts_out parts) f.short in
    rw (append_assoc, frame-entry 0 1 head (rings_out p.rings ++ parts_out parts) (eqb 2) size, word_bytes n [], low, high, q, rest_framed (optional p) parts e h)

-- points that were written two by two come apart
xs_back : (xs ys : List ℕ) → length xs ≡ length ys → map (λ (t : ℕ × ℕ). t.0) (pairs (points xs ys)) ≡ xs
unfolding points
xs_back [] ys h = refl
xs_back (a ∷ xs) [] h = absurd (omega arith)
xs_back (a ∷ xs) (b ∷ ys) h = ap (λ (l : List ℕ). a ∷ l) (xs_back xs ys (omega arith))

ys_back : (xs ys : List ℕ) → length xs ≡ length ys → map (λ (t : ℕ × ℕ). t.1) (pairs (points xs ys)) ≡ ys
unfolding points
ys_back [] [] h = refl
ys_back [] (b ∷ ys) h = absurd (omega arith)
ys_back (a ∷ xs) [] h = absurd (omega arith)
ys_back (a ∷ xs) (b ∷ ys) h = ap (λ (l : List ℕ). b ∷ l) (ys_back xs ys (omega arith))

length-points : (xs ys : List ℕ) → length xs ≡ length ys → length (points xs ys) ≡ 2 * length xs
unfolding points
length-points [] ys h = refl
length-points (a ∷ xs) [] h = absurd (omega arith)
length-points (a ∷ xs) (b ∷ ys) h = let q = length-points xs ys (omega arith) in omega arith

chart_back : (p : Plan) (c : Chart) → ChartFits p c → chart_in (words (bytes (chart_out c))) ≡ c
unfolding chart_in chart_out
chart_back p c f =
    let same = f.xs_each ∙ sym f.ys_each in
    rw (words-bytes, xs_back c.xs c.ys same, ys_back c.xs c.ys same)

length-chart : (p : Plan) (c : Chart) → ChartFits p c → 4 + 4 * context_count p ≡ length (bytes (chart_out c))
unfolding chart_out
length-chart p c f =
    let x = f.xs_each in
    let y = f.ys_each in
    rw length-bytes (omega (arith, length-points c.xs c.ys (x ∙ sym y)))

-- What was written is read back: no sheet is lost in its file
pub written_read : (s : Sheet) → Fits s → decode (encode s) ≡ accepted s
unfolding encode sheet_of optional kinds_of body_of
written_read fresh f = absurd f
written_read (opened p) f = rw append-nil at (file_decoded p [] f tt)
written_read (labelled p ls) f = rw (append-nil (entry 3 ls)) at (file_decoded p ((3, ls) ∷ []) f.0 (inl (refl, sym f.1, tt)))
written_read (charted p ls c) f =
    let k = bytes (chart_out c) in
    let q = file_decoded p ((3, ls) ∷ (4, k) ∷ []) f.0 (inl (refl, sym f.1, inl (refl, length-chart p c f.2, tt))) in
    rw (append-nil (entry 4 k), ← append_assoc, chart_back p c f.2) at q
