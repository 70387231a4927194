-- The rest of a file at an offset: its numbers, its parts, and the record that is framed there.
use Prim.Native.Nat.{ℕ, zero, suc, ◌+◌, ◌-◌, ◌*◌, ◌/◌, ◌%◌, ◌≤◌, ◌<◌}
use mathlib.Core.Path.{◌≡◌, refl, sym, ap, ◌∙◌}
use mathlib.Core.List.{List, ◌∷◌}
use mathlib.Core.Bool.{Bool, true, false, cond, ◌&&◌}
use mathlib.Core.Logic.{◌⊎◌, inl, inr}
use native.Mathlib.Omega.{arith}
use lib.ListN.{length, get_or, take, drop, length-drop, drop_of_length-le}
use lib.Seq.{get_or-drop, drop-drop, drop-cons}
use lib.Dec.{eqb, leb}
use borrow.Author.Tests.{leb-true, le-leb, lt-leb, eq-eqb, ne_eqb}
use Rattle.lists.specs.Tests.{is_empty}
use Rattle.lists.specs.Words.{word, words}
use Rattle.lists.specs.Spans.{stretch}
use Rattle.lists.proofs.Bools.{and_yes}
use Rattle.lists.proofs.Ranges.{lt-or-le}
use Rattle.lists.proofs.Spans.{stretch_part}
use Rattle.model.specs.Outcome.{Outcome, accepted, refused, ◌>>◌, require}
use Rattle.model.specs.File.{Cursor, Framed, frame, fits_ring}
use Rattle.rings.specs.FilePlans.{words_at}
use Rattle.std.specs.Prelude.{Option, Some, None, Err, ok_or}
use Rattle.refusal.specs.declared.Refusal.{Refusal}
use Rattle.refusal.specs.Refusals.{number_of, place_of}
use Rattle.file_framing.specs.declared.Frame.{Frame}
use Rattle.arrays.specs.ArrayParts.{word_of}
use Rattle.file_framing.specs.Offsets.{cursor, frame_at}

-- a number of two bytes at the beginning of the rest
pub word-drop : (s : List ℕ) (at : ℕ) → word (drop at s) ≡ word_of s at
unfolding word
word-drop s at =
    let z : at + 0 ≡ at = omega arith in
    (λ i. get_or-drop at s 0 0 i + 256 * get_or-drop at s 1 0 i) ∙ ap (λ (k : ℕ). get_or s k 0 + 256 * get_or s (at + 1) 0) z

-- the numbers of two bytes of a stretch
pub words-stretch : (s : List ℕ) (at k m : ℕ) → m ≡ 2 * k → words (stretch s at m) ≡ words_at s at k
unfolding stretch words words_at
words-stretch s at zero m e = let z : m ≡ 0 = omega arith in rw z
words-stretch s at (suc k) m e =
    let two : m ≡ suc (suc (2 * k)) = omega arith in
    let one : suc at ≡ at + 1 = omega arith in
    let next : suc (suc at) ≡ at + 2 = omega arith in
    ap (λ (j : ℕ). words (stretch s at j)) two ∙ (λ i. (get_or s at 0 + 256 * get_or s (one i) 0) ∷ words-stretch s (next i) k (2 * k) refl i)

-- nothing is left from the end on
pub is_empty_from : (s : List ℕ) (at : ℕ) → leb (length s) at ≡ is_empty (drop at s)
is_empty_from s at = go (lt-or-le at (length s))
  where
    go : (at < length s) ⊎ (length s ≤ at) → leb (length s) at ≡ is_empty (drop at s)
    go (inl h) = rw (lt-leb (length s) at h, drop-cons s at 0 h)
    go (inr h) = rw (le-leb (length s) at h, drop_of_length-le s h)

-- what a frame is where a record of this kind is due and its body's size has to fit: the body and the cursor behind it, or 1 or 2 at its offset
unfoldable pub framed_of : List ℕ → ℕ → ℕ → (ℕ → Bool) → Option Frame → Outcome Framed
framed_of file at kind fits (Some f) = require (eqb f.kind kind && fits f.size) 2 at >> accepted (stretch file (at + 4) f.size, cursor file (at + 4 + f.size))
framed_of file at kind fits None = refused 1 at

-- a record of this kind with a body of this size
abbrev pub whole : ℕ → ℕ → Option Frame
whole k m = Some (record { kind = k; size = m })

-- ---- the record at an offset, framed
module _ (s : List ℕ) (at : ℕ) where
  abbrev Left : ℕ
  Left = length s - at

  abbrev Long : ℕ
  Long = word_of s at

  -- the tests of 1, one by one
  abbrev Whole : Bool
  Whole = leb 2 Left && leb 2 Long && leb Long (Left - 2)

  -- the body and what is behind it, in the rest and by offsets
  body_same : 2 ≤ Long → Long ≤ Left - 2 → 2 ≤ Left → take (Long - 2) (drop 4 (drop at s)) ≡ stretch s (at + 4) (Long - 2)
  body_same low fits head = ap (take (Long - 2)) (drop-drop 4 at s) ∙ sym (stretch_part s (at + 4) (Long - 2) (omega arith))

  behind-same : 2 ≤ Long → ◌≡◌ {A = Cursor} (record { at = at + 2 + Long; rest = drop (2 + Long) (drop at s) }) (cursor s (at + 4 + (Long - 2)))
  behind-same low =
      let e : at + 2 + Long ≡ at + 4 + (Long - 2) = omega arith in
      let f : at + (2 + Long) ≡ at + 4 + (Long - 2) = omega arith in
      λ i. record { at = e i; rest = (drop-drop (2 + Long) at s ∙ ap (λ (k : ℕ). drop k s) f) i }

  module _ (kind : ℕ) (fits : ℕ → Bool) where
    abbrev Judged : Framed → Outcome Framed
    Judged f = require (eqb (word_of s (at + 2)) kind && fits (Long - 2)) 2 at >> accepted f

    by_test : (t : Bool) → Whole ≡ t
        → (require t 1 at >> Judged (take (Long - 2) (drop 4 (drop at s)), record { at = at + 2 + Long; rest = drop (2 + Long) (drop at s) }))
        ≡ framed_of s at kind fits (cond t (whole (word_of s (at + 2)) (Long - 2)) None)
    unfolding framed_of
    by_test false q = refl
    by_test true q =
        let (h, fit) = and_yes (leb 2 Left && leb 2 Long) (leb Long (Left - 2)) q in
        let (head, low) = and_yes (leb 2 Left) (leb 2 Long) h in
        let l₁ = leb-true 2 Left head in
        let l₂ = leb-true 2 Long low in
        let l₃ = leb-true Long (Left - 2) fit in
        λ i. Judged (body_same l₂ l₃ l₁ i, behind-same l₂ i)

    -- What stands at an offset says what is framed there
    pub frame_same : framed_of s at kind fits (frame_at s at) ≡ frame (cursor s at) kind fits
    unfolding frame frame_at
    frame_same =
        let long = word-drop s at in
        let kind-same : word (drop 2 (drop at s)) ≡ word_of s (at + 2) = ap word (drop-drop 2 at s) ∙ word-drop s (at + 2) in
        sym (rw (length-drop, kind-same, long) (by_test Whole refl))

-- ---- what the record at an offset says where one is due
module _ (s : List ℕ) (at kind : ℕ) (fits : ℕ → Bool) {f : Option Frame} (is : f ≡ frame_at s at) where
  framed_is : framed_of s at kind fits f ≡ frame (cursor s at) kind fits
  framed_is = ap (framed_of s at kind fits) is ∙ frame_same s at kind fits

  pub as_broken : f ≡ None → refused 1 at ≡ frame (cursor s at) kind fits
  unfolding framed_of
  as_broken e = sym (ap (framed_of s at kind fits) e) ∙ framed_is

  module _ (r : Frame) (e : f ≡ Some r) where
    -- of the kind that is due: its size has to fit
    pub as_due : r.kind ≡ kind → (require (fits r.size) 2 at >> accepted (stretch s (at + 4) r.size, cursor s (at + 4 + r.size))) ≡ frame (cursor s at) kind fits
    unfolding framed_of
    as_due p = sym (rw (eq-eqb r.kind kind p) at (ap (framed_of s at kind fits) e)) ∙ framed_is

    pub as_kind : (r.kind ≡ kind → ⊥) → refused 2 at ≡ frame (cursor s at) kind fits
    unfolding framed_of
    as_kind n = sym (rw (ne_eqb r.kind kind n) at (ap (framed_of s at kind fits) e)) ∙ framed_is

-- whatever record it is, where none is due
pub as_never : (s : List ℕ) (at : ℕ) {f : Option Frame} → f ≡ frame_at s at → (r : Frame) → f ≡ Some r → refused 2 at ≡ frame (cursor s at) 0 (λ (m : ℕ). false)
unfolding framed_of
as_never s at {f} is r e = sym (ap (framed_of s at 0 never) e ∙ go (eqb r.kind 0) (stretch s (at + 4) r.size, cursor s (at + 4 + r.size))) ∙ framed_is s at 0 never is
  where
    never : ℕ → Bool
    never m = false

    go : (t : Bool) (g : Framed) → (require (t && false) 2 at >> accepted g) ≡ refused 2 at
    go true g = refl
    go false g = refl

-- the refusal of an offset where there is no record
pub told_broken : {f : Option Frame} {e : Refusal} (at : ℕ) → f ≡ None → Err e ≡ ok_or f (Refusal.BrokenRecord at) → ◌≡◌ {A = Outcome Framed} (refused (number_of e) (place_of e)) (refused 1 at)
told_broken {f} {e} at n q =
    let same : e ≡ Refusal.BrokenRecord at = let r = q ∙ ap (λ (g : Option Frame). ok_or g (Refusal.BrokenRecord at)) n in cc in
    ap {B = Outcome Framed} (λ (r : Refusal). refused (number_of r) (place_of r)) same

-- ---- the size of a ring's body
pub ring_odd : (n m : ℕ) → (m % 2 ≡ 0 → ⊥) → fits_ring n m ≡ false
unfolding fits_ring
ring_odd n m h = rw (ne_eqb (m % 2) 0 h)

pub ring_many : (n m : ℕ) → 0 < n → m % 2 ≡ 0 → n ≤ m / 2 → fits_ring n m ≡ false
unfolding fits_ring
ring_many n m p h l = rw (eq-eqb (m % 2) 0 h, lt-leb m (2 * (n - 1)) (omega arith))

pub ring-fits : (n m : ℕ) → m % 2 ≡ 0 → m / 2 < n → fits_ring n m ≡ true
unfolding fits_ring
ring-fits n m h l = rw (eq-eqb (m % 2) 0 h, le-leb m (2 * (n - 1)) (omega arith))
