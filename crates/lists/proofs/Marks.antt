-- A mark for each number that was passed: whether a list repeats an entry, found in one pass.
use Prim.Native.Nat.{ℕ, ◌+◌, ◌≤◌, ◌<◌}
use mathlib.Core.Path.{◌≡◌, refl, sym, ap, ◌∙◌}
use mathlib.Core.List.{List}
use mathlib.Core.Bool.{Bool, true, false, ◌||◌, or-true, or-false, or_assoc}
use native.Mathlib.Omega.{arith}
use lib.ListN.{length, get_or, set, replicate, length-set, length-replicate}
use lib.Seq.{get_or-set_same, get_or-set_other}
use lib.Dec.{eqb}
use borrow.Author.Tests.{eqb-true, eqb-false, eq-eqb, ne_eqb}
use Rattle.std.specs.List.{list_any}
use Rattle.lists.specs.Tests.{member, repeats}
use Rattle.lists.specs.Spans.{span, zeros}
use Rattle.lists.proofs.Tests.{of_none, list_any_same, eqb_swap, list_any-or}
use Rattle.lists.proofs.Spans.{span_more, span_end}
use Rattle.lists.proofs.Padded.{get_or-zeros}

-- v is marked
abbrev marked : List ℕ → ℕ → Bool
marked b v = eqb (get_or b v 0) 1

-- after v is marked, those are marked that were before, and v
marked-set : (b : List ℕ) (v : ℕ) → v < length b → (w : ℕ) → marked (set b v 1) w ≡ (marked b w || eqb w v)
marked-set b v h w = go (eqb w v) refl
  where
    go : (t : Bool) → eqb w v ≡ t → marked (set b v 1) w ≡ (marked b w || t)
    go true q = ap (λ (a : ℕ). marked (set b v 1) a) (eqb-true w v q) ∙ eq-eqb (get_or (set b v 1) v 0) 1 (get_or-set_same b v 1 0 h) ∙ sym (or-true (marked b w))
    go false q = ap (λ (a : ℕ). eqb a 1) (get_or-set_other b v w 1 0 (eqb-false w v q)) ∙ sym (or-false (marked b w))

-- ---- let mut b = [0; k]; for i in a..e { if b[l[i]] == 1 { return true; } b[l[i]] = 1; } false
pub record Marks (k : ℕ) (l : List ℕ) (e i : ℕ) (b : List ℕ) : Type 0 where
  pub long : length b ≡ k
  pub same : repeats (span l 0 e) ≡ (list_any (marked b) (span l i e) || repeats (span l i e))

pub marks-start : {k : ℕ} {l : List ℕ} {e : ℕ} {b : List ℕ} → b ≡ replicate k 0 → Marks k l e 0 b
unfolding zeros
marks-start {k} {l} {e} {b} q = record {
  long = ap length q ∙ length-replicate k 0;
  same = sym (rw (of_none (marked b) (span l 0 e) (λ a m. ne_eqb (get_or b a 0) 1 (λ one. let z = ap (λ (c : List ℕ). get_or c a 0) q ∙ get_or-zeros k a in omega arith))));
}

module _ {k : ℕ} {l : List ℕ} {e i : ℕ} {b : List ℕ} (inv : Marks k l e i b) where
  -- the next entry, and those after it
  next-parts : {v : ℕ} → i < e → v ≡ get_or l i 0 → repeats (span l 0 e) ≡ ((marked b v || list_any (marked b) (span l (i + 1) e)) || (member v (span l (i + 1) e) || repeats (span l (i + 1) e)))
  next-parts h q = inv.same ∙ rw (span_more l i e h, ← q)

  pub marks_hit : {v : ℕ} → i < e → v ≡ get_or l i 0 → get_or b v 0 ≡ 1 → true ≡ repeats (span l 0 e)
  marks_hit {v} h q t = sym (next-parts h q ∙ rw (eq-eqb (get_or b v 0) 1 t))

  pub marks-on : {v i' : ℕ} {b' : List ℕ} → i' ≡ i + 1 → i < e → v ≡ get_or l i 0 → v < k → (get_or b v 0 ≡ 1 → ⊥) → b' ≡ set b v 1 → Marks k l e i' b'
  marks-on {v} {i'} {b'} s h q f t p =
      let rest = span l (i + 1) e in
      let long = inv.long in
      let more : list_any (marked (set b v 1)) rest ≡ (list_any (marked b) rest || member v rest) =
      list_any_same (marked (set b v 1)) (λ (w : ℕ). marked b w || eqb w v) rest (marked-set b v (omega arith))
      ∙ list_any-or (marked b) (λ (w : ℕ). eqb w v) rest
      ∙ ap (λ (m : Bool). list_any (marked b) rest || m) (list_any_same (λ (w : ℕ). eqb w v) (eqb v) rest (λ w. eqb_swap w v)) in
      let same : repeats (span l 0 e) ≡ (list_any (marked (set b v 1)) rest || repeats rest) =
      next-parts h q
      ∙ ap (λ (m : Bool). (m || list_any (marked b) rest) || (member v rest || repeats rest)) (ne_eqb (get_or b v 0) 1 t)
      ∙ sym (or_assoc (list_any (marked b) rest) (member v rest) (repeats rest))
      ∙ ap (λ (m : Bool). m || repeats rest) (sym more) in
      record { long = ap length p ∙ length-set b v 1 ∙ inv.long; same = rw (s, p) same }

  pub marks_end : e ≤ i → false ≡ repeats (span l 0 e)
  marks_end h = sym (inv.same ∙ rw (span_end l i e h))
