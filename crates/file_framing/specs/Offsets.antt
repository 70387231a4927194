-- The records of a lent file by their offsets: what the answers about one record and about the rings say in the terms of the model.
use Rattle.std.specs.Prelude.{ℕ, ◌+◌, ◌-◌, ◌*◌, ◌<◌, ◌≤◌, ◌≡◌, List, [], Bool, cond, ◌&&◌, length, drop, leb, Option, Some, None, Result, Ok, Err}
use Rattle.lists.specs.Spans.{stretch, zero_padded}
use Rattle.model.specs.Outcome.{Outcome, accepted, ◌>>=◌, ◌>>◌, mapped, require}
use Rattle.model.specs.File.{Cursor, Framed, Part}
use Rattle.refusal.specs.declared.Refusal.{Refusal}
use Rattle.refusal.specs.Refusals.{outcome_of}
use Rattle.arrays.specs.ArrayParts.{word_of}
use Rattle.rings.specs.Tables.{start_of, starts_of}
use Rattle.rings.specs.FilePlans.{plan_in_file}
use Rattle.file_framing.specs.declared.Cursor as code
use Rattle.file_framing.specs.declared.Frame.{Frame}
use Rattle.file_framing.specs.declared.Walk.{Walk}

-- the cursor at an offset of a file
abbrev pub cursor : List ℕ → ℕ → Cursor
cursor file at = record { at = at; rest = drop at file }

-- the cursor of the model where one of the code stands
abbrev pub here : code.Cursor → Cursor
here c = cursor c.file.now c.at

-- The record at an offset; none where its length is missing, under 2 or past the end
unfoldable pub frame_at : List ℕ → ℕ → Option Frame
frame_at file at =
    let m = word_of file at in
    let left = length file - at in
    cond (leb 2 left && leb 2 m && leb m (left - 2)) (Some (record { kind = word_of file (at + 2); size = m - 2 })) None

-- a record of the kind that is due, by the size of its body, which has to fit: the body and the cursor behind it, or 2 at its offset
abbrev pub record_of : code.Cursor → (ℕ → Bool) → Result ℕ Refusal → Outcome Framed
record_of c fits r = do
  m ← outcome_of r
  require (fits m) 2 c.at
  accepted (stretch c.file.now (c.at + 4) m, cursor c.file.now (c.at + 4 + m))

-- a record that is due with a body of this size
abbrev pub due_of : code.Cursor → ℕ → Result (Unit {0}) Refusal → Outcome Framed
due_of c size r = outcome_of r >> accepted (stretch c.file.now (c.at + 4) size, cursor c.file.now (c.at + 4 + size))

-- the end of the file, where no record is due any more
abbrev pub file_end : Result (Unit {0}) Refusal → Outcome (List Part)
file_end r = outcome_of r >> accepted []

-- a ring record by the number of its entries
abbrev pub ring_of : code.Cursor → Result ℕ Refusal → Outcome Framed
ring_of c r = mapped (λ (z : ℕ). (stretch c.file.now (c.at + 4) (2 * z), cursor c.file.now (c.at + 4 + 2 * z))) (outcome_of r)

-- a ring has fewer entries than there are contexts
abbrev pub RingBelow : ℕ → Result ℕ Refusal → Type 0
RingBelow n (Ok z) = z < n
RingBelow n (Err r) = Unit {0}

-- all ring records: the rings, and the cursor behind them
abbrev pub walk_of : List ℕ → ℕ → Result Walk Refusal → Outcome (List (List ℕ) × Cursor)
walk_of file n r = mapped (λ (w : Walk). ((plan_in_file (starts_of w.sizes) w.sizes file n).rings, cursor file w.at)) (outcome_of r)

-- the sizes of n rings, zeros after them, and the offset behind these rings, which rings of fewer than 200 entries can reach
abbrev pub WalkBounds : ℕ → Result Walk Refusal → Type 0
WalkBounds n (Ok w) = (w.sizes ≡ zero_padded 200 (stretch w.sizes 0 n)) × (w.at ≤ 6 + 402 * n) × (w.at ≡ 6 + 4 * n + 2 * start_of w.sizes n)
WalkBounds n (Err r) = Unit {0}
