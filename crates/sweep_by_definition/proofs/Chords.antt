-- Chords of a list of contexts, as the code goes through it.
use Prim.Native.Nat.{ℕ, suc, ◌+◌, ◌-◌, ◌≤◌, ◌<◌}
use mathlib.Core.Path.{◌≡◌, sym, ap, ◌∙◌}
use mathlib.Core.List.{List}
use mathlib.Core.Bool.{Bool, true, false, not, ◌&&◌}
use mathlib.Core.Logic.{◌⊎◌, inl, inr}
use native.Mathlib.Omega.{arith}
use lib.ListN.{length, get_or, drop, length-drop}
use lib.Seq.{drop-cons, drop-drop, take_all}
use Rattle.std.proofs.lemmas.List.{drop_all}
use Rattle.std.specs.List.{list_any}
use Rattle.lists.specs.Spans.{stretch}
use Rattle.lists.proofs.Spans.{stretch_part}
use Rattle.lists.proofs.Ranges.{lt-or-le}
use Rattle.model.specs.Plan.{Plan, adjacent}
use Rattle.model.specs.Sweep.{chordless}

-- a list from one of its entries on
pub stretch-rest : (l : List ℕ) (a : ℕ) → stretch l a (length l - a) ≡ drop a l
unfolding stretch
stretch-rest l a = go (lt-or-le a (length l))
  where
    go : (a < length l) ⊎ (length l ≤ a) → stretch l a (length l - a) ≡ drop a l
    go (inl h) = stretch_part l a (length l - a) (omega arith) ∙ take_all (length l - a) (drop a l) (let z = length-drop a l in omega arith)
    go (inr h) = let z : length l - a ≡ 0 = omega arith in ap (stretch l a) z ∙ sym (drop_all a l h)

-- ---- for k in 0..l.len() { if touches(l[k], l, k + 2) { return true; } } false
pub record Chords (p : Plan) (l : List ℕ) (k : ℕ) : Type 0 where
  pub same : chordless p l ≡ chordless p (drop k l)

module _ {p : Plan} {l : List ℕ} {k : ℕ} (inv : Chords p l k) where
  -- the next context apart from those after it
  apart : k < length l → chordless p l ≡ (not (list_any (adjacent p (get_or l k 0)) (drop (k + 2) l)) && chordless p (drop (k + 1) l))
  unfolding chordless
  apart h =
      let z : suc k ≡ k + 1 = omega arith in
      let y : suc k + 1 ≡ k + 2 = omega arith in
      let rest = drop-drop 1 (suc k) l ∙ ap (λ (n : ℕ). drop n l) y in
      inv.same ∙ ap (chordless p) (drop-cons l k 0 h) ∙ λ i. not (list_any (adjacent p (get_or l k 0)) (rest i)) && chordless p (drop (z i) l)

  module _ {u : ℕ} {t : Bool} (h : k < length l) (is : u ≡ get_or l k 0) (told : t ≡ list_any (adjacent p u) (drop (k + 2) l)) where
    -- the same by what is told of it
    apart_told : chordless p l ≡ (not t && chordless p (drop (k + 1) l))
    apart_told = apart h ∙ ap (λ (b : Bool). not b && chordless p (drop (k + 1) l)) (sym (told ∙ ap (λ (w : ℕ). list_any (adjacent p w) (drop (k + 2) l)) is))

    -- it lists one further on
    pub chords_hit : t ≡ true → true ≡ not (chordless p l)
    chords_hit e = sym (ap not (apart_told ∙ ap (λ (b : Bool). not b && chordless p (drop (k + 1) l)) e))

    -- it lists none
    pub chords_on : t ≡ false → Chords p l (k + 1)
    chords_on e = record { same = apart_told ∙ ap (λ (b : Bool). not b && chordless p (drop (k + 1) l)) e }

  -- after the loop
  pub chords_end : length l ≤ k → false ≡ not (chordless p l)
  unfolding chordless
  chords_end h = sym (ap not (inv.same ∙ ap (chordless p) (drop_all k l h)))
