-- The file: records, framing (1, 2, 3), and what is written.
use Rattle.std.specs.Prelude.{ℕ, zero, suc, ◌+◌, ◌-◌, ◌*◌, ◌%◌, List, [], ◌∷◌, ◌++◌, map, Bool, false, cond, not, ◌&&◌, length, get_or, take, drop, eqb, leb}
use Rattle.lists.specs.Tests.{is_empty, member}
use Rattle.lists.specs.Parts.{flatten, pairs}
use Rattle.lists.specs.Words.{word, words, bytes}
use Rattle.model.specs.Outcome.{Outcome, accepted, ◌>>=◌, ◌>>◌, require}
use Rattle.model.specs.Plan.{Plan, context_count, labels_due}
use Rattle.model.specs.Chart.{Chart}

-- What a sheet holds at its stage: EMPTY, OPEN, LABELLED, CHARTED
pub data Sheet : Type 0 where
  fresh : Sheet
  opened : Plan → Sheet
  labelled : Plan → List ℕ → Sheet
  charted : Plan → List ℕ → Chart → Sheet

-- How far a file is read: the offset, and the bytes from there on
pub record Cursor : Type 0 where
  pub at : ℕ
  pub rest : List ℕ

-- a record's body, and how far the file is read with it
abbrev pub Framed : Type 0
Framed = List ℕ × Cursor

-- The record here: length (2 bytes, counting what follows it), kind (2 bytes), body.
-- 1: the length is missing, under 2 or past the end. 2: another kind or body length than due.
unfoldable pub frame : Cursor → ℕ → (ℕ → Bool) → Outcome Framed
frame c kind fits =
    let s = c.rest in
    let m = word s in
    do
      require (leb 2 (length s) && leb 2 m && leb m (length s - 2)) 1 c.at
      require (eqb (word (drop 2 s)) kind && fits (m - 2)) 2 c.at
      accepted (take (m - 2) (drop 4 s), record { at = c.at + 2 + m; rest = drop (2 + m) s })

-- a ring's body: entries of 2 bytes, at most n − 1
unfoldable pub fits_ring : ℕ → ℕ → Bool
fits_ring n m = eqb (m % 2) 0 && leb m (2 * (n - 1))

-- k records of kind 2
unfoldable pub frame_rings : ℕ → ℕ → Cursor → Outcome (List (List ℕ) × Cursor)
frame_rings n zero c = accepted ([], c)
frame_rings n (suc k) c = do
  (r, d) ← frame c 2 (fits_ring n)
  (rs, e) ← frame_rings n k d
  accepted (words r ∷ rs, e)

-- A record that may still follow: its kind, its body's length, and whether a later one may follow without it
pub record Due : Type 0 where
  pub kind : ℕ
  pub size : ℕ
  pub skippable : Bool

-- a record that was framed: its kind and its body
abbrev pub Part : Type 0
Part = ℕ × List ℕ

-- The records that may still follow, in this order; then the end, where a whole record is 2.
-- One that may be skipped is due only where a record of its kind stands.
unfoldable pub frame_rest : List Due → Cursor → Outcome (List Part)
frame_rest [] c = cond (is_empty c.rest) (accepted []) (frame c 0 (λ (m : ℕ). false) >> accepted [])
frame_rest (d ∷ due) c =
    let skipped = d.skippable && not (eqb (word (drop 2 c.rest)) d.kind) in
    let there = do
      (b, e) ← frame c d.kind (eqb d.size)
      parts ← frame_rest due e
      accepted ((d.kind, b) ∷ parts)
    in
    cond (is_empty c.rest) (accepted []) (cond skipped (frame_rest due c) there)

-- What may follow the rings of a plan: kind 3, the label bytes; after it kind 4: w, h, then x and y per context, 2 bytes each
unfoldable pub optional : Plan → List Due
optional p = record { kind = 3; size = labels_due p; skippable = false } ∷ record { kind = 4; size = 4 + 4 * context_count p; skippable = false } ∷ []

-- the kinds of the parts
unfoldable pub kinds_of : List Part → List ℕ
kinds_of parts = map (λ (q : Part). q.0) parts

-- the body of the part of a kind; empty where there is none
unfoldable pub body_of : ℕ → List Part → List ℕ
body_of kind [] = []
body_of kind (q ∷ parts) = cond (eqb q.0 kind) q.1 (body_of kind parts)

-- the chart that a list of numbers holds: w, h, then x and y per context
unfoldable pub chart_in : List ℕ → Chart
chart_in l = record { w = get_or l 0 0; h = get_or l 1 0; xs = map (λ (t : ℕ × ℕ). t.0) (pairs (drop 2 l)); ys = map (λ (t : ℕ × ℕ). t.1) (pairs (drop 2 l)) }

-- the sheet that a plan and the parts after its rings make; the stage is the last part present
unfoldable pub sheet_of : Plan → List Part → Sheet
sheet_of p parts =
    let ls = body_of 3 parts in
    let c = chart_in (words (body_of 4 parts)) in
    cond (member 4 (kinds_of parts)) (charted p ls c) (cond (member 3 (kinds_of parts)) (labelled p ls) (opened p))

-- All records framed in file order; 3 right after the kind 1 record
unfoldable pub decode : List ℕ → Outcome Sheet
decode b = do
  (r, c) ← frame (record { at = 0; rest = b }) 1 (eqb 2)
  require (leb 5 (word r) && leb (word r) 200) 3 0
  (rs, d) ← frame_rings (word r) (word r) c
  let p : Plan = record { rings = rs }
  parts ← frame_rest (optional p) d
  accepted (sheet_of p parts)

-- a record written: length, kind, body
unfoldable pub entry : ℕ → List ℕ → List ℕ
entry kind body = bytes ((2 + length body) ∷ kind ∷ []) ++ body

-- x and y of each context in turn
unfoldable pub points : List ℕ → List ℕ → List ℕ
points [] ys = []
points (a ∷ xs) [] = []
points (a ∷ xs) (b ∷ ys) = a ∷ b ∷ points xs ys

-- w, h, then x and y per context
unfoldable pub chart_out : Chart → List ℕ
chart_out c = c.w ∷ c.h ∷ points c.xs c.ys

-- a kind 2 record for each ring
unfoldable pub rings_out : List (List ℕ) → List ℕ
rings_out rs = flatten (map (λ (r : List ℕ). entry 2 (bytes r)) rs)

-- the kind 1 record, then the rings
unfoldable pub plan_out : Plan → List ℕ
plan_out p = entry 1 (bytes (context_count p ∷ [])) ++ rings_out p.rings

-- where an entry of u's ring stands, the k-th of all: behind 6 bytes of kind 1, a head of 4 bytes for each ring up to u's, and the k entries before it
abbrev pub entry_offset : ℕ → ℕ → ℕ
entry_offset u k = 6 + 4 * suc u + 2 * k

-- The file of a sheet; a fresh one has none
unfoldable pub encode : Sheet → List ℕ
encode fresh = []
encode (opened p) = plan_out p
encode (labelled p ls) = plan_out p ++ entry 3 ls
encode (charted p ls c) = plan_out p ++ entry 3 ls ++ entry 4 (bytes (chart_out c))

-- who unfolds this unfolds all of the above: for facts that are computed
unfoldable pub file_computes : Unit {0}
unfolding word words bytes frame fits_ring frame_rings frame_rest optional kinds_of body_of chart_in sheet_of decode entry points chart_out rings_out plan_out encode
file_computes = tt
