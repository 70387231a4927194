-- The outer darts, inner faces, and the plan rules 8 and 9, test by test as the code makes them.
use Prim.Native.Nat.{ℕ, ◌+◌, ◌-◌, ◌%◌, ◌≤◌, ◌<◌}
use mathlib.Core.Path.{◌≡◌, refl, sym, ap, ◌∙◌}
use mathlib.Core.List.{List, [], ◌∷◌}
use mathlib.Core.Bool.{Bool, true, false, not, ◌&&◌, ◌||◌, and-true, and-false}
use Rattle.std.proofs.Math.Bool.{and_comm}
use native.Mathlib.Omega.{arith}
use lib.ListN.{length, get_or}
use lib.Dec.{eqb}
use borrow.Author.Tests.{lt-ltb, le-ltb, eqb-true, eq-eqb, ne_eqb}
use Rattle.std.specs.List.{list_any}
use Rattle.lists.specs.Tests.{member}
use Rattle.lists.specs.Spans.{span}
use Rattle.lists.proofs.Tests.{list_any-map}
use Rattle.lists.proofs.Spans.{get_or-inside}
use Rattle.lists.proofs.Stretches.{span_whole}
use Rattle.rings.specs.Tables.{size_of, rows}
use Rattle.rings.proofs.Rows.{ring-size}
use Rattle.model.specs.Plan.{Plan, Dart, ring, next, adjacent, darts_from, step, outer, closes, walk, on_inner_face, bad_border, bad_face}
use Rattle.model.specs.Scan.{inner_face, enclosing}

-- the size that the code reads is the ring's length
pub ring_long : (starts sizes es : List ℕ) (n u : ℕ) {k : ℕ} → k ≡ size_of sizes n u → k ≡ length (ring (rows starts sizes es n) u)
ring_long starts sizes es n u e = e ∙ sym (ring-size starts sizes es n u)

-- ---- outer darts leave border contexts
pub outer-border : (u v : ℕ) → u < 4 → eqb v ((u + 1) % 4) ≡ outer (u, v)
unfolding outer
outer-border u v h = rw (lt-ltb u 4 h)

pub outer_inner : (u v : ℕ) → 4 ≤ u → false ≡ outer (u, v)
unfolding outer
outer_inner u v h = rw (le-ltb u 4 h)

-- ---- the walk u, v, w is an inner face: the tests in the code's order
module _ (p : Plan) (u v : ℕ) where
  abbrev third : ℕ
  third = (step p (u, v)).1

  -- w comes after v: the dart comes back where the next two steps lead to u and to v
  closes_by : (w : ℕ) → third ≡ w → closes p (u, v) ≡ (eqb (step p (v, w)).1 u && eqb (step p (w, u)).1 v)
  unfolding closes step
  closes_by w e = ap (λ (c : ℕ). eqb (next v (ring p c)) u && eqb (next c (ring p (next v (ring p c)))) v) e ∙ go (eqb (next v (ring p w)) u) refl
    where
      go : (t : Bool) → eqb (next v (ring p w)) u ≡ t → (t && eqb (next w (ring p (next v (ring p w)))) v) ≡ (t && eqb (next w (ring p u)) v)
      go true q = ap (λ (x : ℕ). eqb (next w (ring p x)) v) (eqb-true (next v (ring p w)) u q)
      go false q = refl

  walked : (w : ℕ) → inner_face p u v w ≡ (not (outer (u, v)) && closes p (u, v) && eqb third w)
  unfolding inner_face on_inner_face walk
  walked w = rw (eq-eqb u u refl, eq-eqb v v refl, and-true (eqb third w))

  -- w comes after v: what is left to ask
  pub inner_third : {w : ℕ} → w ≡ third → inner_face p u v w ≡ on_inner_face p (u, v)
  unfolding on_inner_face
  inner_third {w} e = rw (walked w, eq-eqb third w (sym e), and-true (not (outer (u, v)) && closes p (u, v)))

  pub face_tests : (w : ℕ) → inner_face p u v w ≡ (eqb third w && eqb (step p (v, w)).1 u && eqb (step p (w, u)).1 v && not (outer (u, v)))
  face_tests w = walked w ∙ go (eqb third w) refl
    where
      go : (t : Bool) → eqb third w ≡ t → (not (outer (u, v)) && closes p (u, v) && t) ≡ (t && eqb (step p (v, w)).1 u && eqb (step p (w, u)).1 v && not (outer (u, v)))
      go true q = and-true (not (outer (u, v)) && closes p (u, v)) ∙ and_comm (not (outer (u, v))) (closes p (u, v)) ∙ ap (λ (b : Bool). b && not (outer (u, v))) (closes_by w (eqb-true third w q))
      go false q = and-false (not (outer (u, v)) && closes p (u, v))

  -- a dart that is not outer breaks rule 9 where its walk is no inner face
  pub bad_tests : {w : ℕ} → w ≡ third → outer (u, v) ≡ false → not (inner_face p u v w) ≡ not (outer (u, v) || closes p (u, v))
  unfolding on_inner_face
  bad_tests e o = rw (inner_third e, o)

-- ---- three contexts enclose: the tests in the code's order
pub enclosing_tests : (p : Plan) (a b c : ℕ) → enclosing p (a, b, c) ≡ (adjacent p a c && adjacent p b c && adjacent p a b && not (inner_face p a b c) && not (inner_face p a c b))
unfolding enclosing
enclosing_tests p a b c = go (adjacent p a b) (adjacent p a c) (adjacent p b c) (inner_face p a b c) (inner_face p a c b)
  where
    go : (ab ac bc f g : Bool) → (ab && ac && bc && not (f || g)) ≡ (ac && bc && ab && not f && not g)
    go true true true true g = refl
    go true true true false g = refl
    go true true false f g = refl
    go true false bc f g = refl
    go false true true f g = refl
    go false true false f g = refl
    go false false bc f g = refl

-- ---- rule 8: the tests of a border ring r of size k, in order; a is its first entry, z its last
bad_first : (f g m : Bool) → f ≡ false → true ≡ not (f && g && not m)
bad_first f g m e = rw e

bad_last : (f g m : Bool) → f ≡ true → g ≡ false → true ≡ not (f && g && not m)
bad_last f g m e h = rw (e, h)

bad_across : (f g m : Bool) → f ≡ true → g ≡ true → m ≡ not (f && g && not m)
bad_across f g true e h = rw (e, h)
bad_across f g false e h = rw (e, h)

not_itself : (u : ℕ) → u < 4 → u ≡ (u + 1) % 4 → ⊥
not_itself u h e = omega arith

module _ (p : Plan) (u k : ℕ) (side : u < 4) (long : k ≡ length (ring p u)) where
  abbrev r : List ℕ
  r = ring p u

  abbrev first_ok : Bool
  first_ok = eqb (get_or r 0 u) ((u + 1) % 4)

  abbrev last_ok : Bool
  last_ok = eqb (get_or r (length r - 1) u) ((u + 3) % 4)

  abbrev meets_across : Bool
  meets_across = member ((u + 2) % 4) r

  nothing : (l : List ℕ) → length l ≡ 0 → get_or l 0 u ≡ u
  nothing [] e = refl
  nothing (a ∷ l) e = absurd (omega arith)

  pub border-is_empty : k ≡ 0 → true ≡ bad_border p u
  unfolding bad_border
  border-is_empty e = bad_first first_ok last_ok meets_across (ne_eqb (get_or r 0 u) ((u + 1) % 4) (λ q. not_itself u side (sym (nothing r (sym long ∙ e)) ∙ q)))

  module _ (some : 0 < k) (a : ℕ) (first : a ≡ get_or (ring p u) 0 0) where
    first-is : a ≡ get_or r 0 u
    first-is = first ∙ get_or-inside r 0 0 u (omega arith)

    first-ok : a ≡ (u + 1) % 4 → first_ok ≡ true
    first-ok e = eq-eqb (get_or r 0 u) ((u + 1) % 4) (sym first-is ∙ e)

    pub border-first : (a ≡ (u + 1) % 4 → ⊥) → true ≡ bad_border p u
    unfolding bad_border
    border-first h = bad_first first_ok last_ok meets_across (ne_eqb (get_or r 0 u) ((u + 1) % 4) (λ q. h (first-is ∙ q)))

    module _ (begins : a ≡ (u + 1) % 4) (z : ℕ) (last : z ≡ get_or (ring p u) (k - 1) 0) where
      last_is_lem : z ≡ get_or r (length r - 1) u
      last_is_lem = last ∙ get_or-inside r (k - 1) 0 u (omega arith) ∙ ap (λ (j : ℕ). get_or r (j - 1) u) long

      pub border_last : (z ≡ (u + 3) % 4 → ⊥) → true ≡ bad_border p u
      unfolding bad_border
      border_last h = bad_last first_ok last_ok meets_across (first-ok begins) (ne_eqb (get_or r (length r - 1) u) ((u + 3) % 4) (λ q. h (last_is_lem ∙ q)))

      pub border_across : {t : Bool} → t ≡ adjacent p u ((u + 2) % 4) → z ≡ (u + 3) % 4 → t ≡ bad_border p u
      unfolding bad_border adjacent
      border_across e h = e ∙ bad_across first_ok last_ok meets_across (first-ok begins) (eq-eqb (get_or r (length r - 1) u) ((u + 3) % 4) (sym last_is_lem ∙ h))

-- ---- rule 9: the darts that leave u, by the entries of its ring
abbrev pub bad_dart : Plan → ℕ → ℕ → Bool
bad_dart p u v = not (outer (u, v) || closes p (u, v))

pub face_darts : (p : Plan) (u k : ℕ) → k ≡ length (ring p u) → list_any (bad_dart p u) (span (ring p u) 0 k) ≡ bad_face p u
unfolding bad_face darts_from
face_darts p u k e = ap (list_any (bad_dart p u)) (span_whole (ring p u) k e) ∙ list_any-map (λ (d : Dart). not (outer d || closes p d)) (λ (v : ℕ). (u, v)) (ring p u)
