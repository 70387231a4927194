-- What the code finds in rings: what the table of successors of a plan that fits tells, and whether a ring has an entry above a context that passes a test.
use Prim.Native.Nat.{ℕ, suc, ◌<◌, ◌+◌, ◌-◌}
use mathlib.Core.Path.{◌≡◌, refl, sym, ap, ◌∙◌}
use mathlib.Core.List.{List, map, Memᴰ}
use mathlib.Core.Bool.{Bool, true, false, cond, not, ◌&&◌, ◌||◌, false≢true, true≢false}
use native.Mathlib.Omega.{arith}
use lib.Dec.{eqb, ltb}
use borrow.Author.Tests.{eqb-true, eqb-false, ltb-true, lt-ltb}
use Rattle.lists.specs.Spans.{zero_padded, stretch}
use Rattle.lists.proofs.Bools.{and_yes, yes_and}
use Rattle.lists.proofs.Padded.{get_or-zero_padded}
use Rattle.lists.proofs.Tests.{list_any_of, none_of, of_none, of_list_any, list_any-map}
use Rattle.model.specs.Plan.{Plan, ring, adjacent, next, step, context_count, neighbour}
use Rattle.model.specs.Scan.{contexts_after, inner_face, enclosing}
use Rattle.model.proofs.Plans.{adjacent-mem, adjacent-from, next-mem}
use Rattle.plan_bounds.specs.Fits.{fit}
use Rattle.plan_bounds.proofs.Fits.{Fit, fit-says}
use Rattle.scan.specs.Scanned.{has_third}
use Rattle.ring_successors.specs.Successors.{successor_mark, cell_at, has_cell, successors_of, successor}
use Rattle.ring_successors.proofs.Tells.{successor_none, successor-some, successor-successor_mark}
use lib.ListN.{get_or}
use Rattle.std.specs.List.{list_any, range_with_len}
use Rattle.lists.specs.Ranges.{from}
use Rattle.lists.proofs.Ranges.{from-mem, mem-from}
use Rattle.lists.proofs.Chains.{any_entry}
use Rattle.rings.specs.declared.Rings as rings
use Rattle.rings.specs.Tables.{size_of, plan_of}
use Rattle.rings.proofs.Rows.{ring-rows}

module _ (p : Plan) (fits : fit p ≡ true) (t : List ℕ) (own : zero_padded 40000 t ≡ successors_of p) where
  small : Fit p
  small = fit-says p fits

  -- what lies outside the table reads as 0
  own_successor : (u v : ℕ) → successor t u v ≡ successor (successors_of p) u v
  unfolding successor
  own_successor u v = ap (λ (x : ℕ). cond (has_cell u v) x 0) (sym (get_or-zero_padded 40000 t (cell_at u v))) ∙ ap (λ (l : List ℕ). successor l u v) own

  -- where u lists v, the table has a cell
  celled : (u v : ℕ) → adjacent p u v ≡ true → (u < 200) × (v < 200)
  celled u v e =
      let h = adjacent-from p u v e in
      let k = small.inside u v (adjacent-mem p u v e) in
      let few = small.few in
      (omega arith, omega arith)

  -- u lists v where the table says something
  pub successor_lists : {x : ℕ} (u v : ℕ) → x ≡ successor t u v → not (eqb x 0) ≡ adjacent p u v
  successor_lists {x} u v e = go (eqb x 0) refl (adjacent p u v) refl
    where
      is : x ≡ successor (successors_of p) u v
      is = e ∙ own_successor u v

      go : (z : Bool) → eqb x 0 ≡ z → (b : Bool) → adjacent p u v ≡ b → not z ≡ b
      go true q true a = let (h, k) = celled u v a in absurd (true≢false (sym a ∙ successor_none p refl u v h k (sym is ∙ eqb-true x 0 q)))
      go true q false a = refl
      go false q true a = refl
      go false q false a = absurd (false≢true (sym a ∙ successor-some p refl u v (λ z. eqb-false x 0 q (is ∙ z))))

  -- and then it says the face step
  pub successor_third : {w x : ℕ} (u v : ℕ) → x ≡ successor t v u → x ≡ suc w → w ≡ (step p (u, v)).1
  unfolding step successor_mark
  successor_third {w} u v e f =
      let is : successor (successors_of p) v u ≡ suc w = sym (e ∙ own_successor v u) ∙ f in
      let lists = successor-some p refl v u (λ z. omega arith) in
      let (h, k) = celled v u lists in
      let low = small.inside v (next u (ring p v)) (next-mem u (ring p v) (adjacent-mem p v u lists)) in
      let few = small.few in
      let marked = successor-successor_mark p refl v u h k lists in
      omega arith

-- ---- what encloses with a and b is a neighbour of both, and b of a
pub enclosing_near : (p : Plan) (a b c : ℕ) → enclosing p (a, b, c) ≡ true → (adjacent p a b ≡ true) × (adjacent p a c ≡ true) × (adjacent p b c ≡ true)
unfolding enclosing
enclosing_near p a b c e =
    let (x, bc) = and_yes (adjacent p a b && adjacent p a c) (adjacent p b c) (and_yes (adjacent p a b && adjacent p a c && adjacent p b c) (not (inner_face p a b c || inner_face p a c b)) e).0 in
    let (ab, ac) = and_yes (adjacent p a b) (adjacent p a c) x in
    (ab, ac, bc)

pub third_near : (p : Plan) (a b : ℕ) → has_third p a b ≡ true → adjacent p a b ≡ true
unfolding has_third
third_near p a b e = let (c, m, t) = list_any_of (λ (x : ℕ). enclosing p (a, b, x)) (contexts_after p b) e in (enclosing_near p a b c t).0

-- ---- whether some context above another passes, asked of a ring that lists whatever passes
-- some entry of u's ring passes
ring_any : (r : rings.Rings) (u : ℕ) (f : ℕ → Bool) {a e : ℕ} → a ≡ get_or r.starts.now u 0 → e ≡ get_or r.starts.now u 0 + size_of r.sizes.now r.n u
    → list_any (λ (i : ℕ). f (neighbour (get_or r.entries.now i 0))) (range_with_len a (e - a)) ≡ list_any f (ring (plan_of r) u)
ring_any r u f {a} {e} from to =
    let size : e - a ≡ size_of r.sizes.now r.n u = omega arith in
    any_entry r.entries.now (λ (x : ℕ). f (neighbour x)) a (e - a)
    ∙ list_any-map f neighbour (stretch r.entries.now a (e - a))
    ∙ (λ i. list_any f (map neighbour (stretch r.entries.now (from i) (size i))))
    ∙ sym (ap (list_any f) (ring-rows r.starts.now r.sizes.now r.entries.now r.n u))

-- what passes is listed: so some context above b passes if an entry above b does
above : (p : Plan) → fit p ≡ true → (u b : ℕ) (f : ℕ → Bool) → ((c : ℕ) → f c ≡ true → adjacent p u c ≡ true) → list_any (λ (c : ℕ). ltb b c && f c) (ring p u) ≡ list_any f (contexts_after p b)
unfolding contexts_after
above p fits u b f near = go (list_any f (from (suc b) (context_count p - suc b))) refl
  where
    test : ℕ → Bool
    test c = ltb b c && f c

    go : (t : Bool) → list_any f (from (suc b) (context_count p - suc b)) ≡ t → list_any test (ring p u) ≡ t
    go true e =
        let (c, m, t) = list_any_of f (from (suc b) (context_count p - suc b)) e in
        let low = (mem-from (suc b) (context_count p - suc b) c m).0 in
        of_list_any test (ring p u) c (adjacent-mem p u c (near c t)) (yes_and (ltb b c) (f c) (lt-ltb b c (omega arith)) t)
    go false e = of_none test (ring p u) (λ c m. fails c m (ltb b c) refl)
      where
        fails : (c : ℕ) → Memᴰ c (ring p u) → (t : Bool) → ltb b c ≡ t → (t && f c) ≡ false
        fails c m false q = refl
        fails c m true q =
            let low = ltb-true b c q in
            let high = (fit-says p fits).inside u c m in
            none_of f (from (suc b) (context_count p - suc b)) e c (from-mem (suc b) (context_count p - suc b) c (omega arith) (omega arith))

-- the two together
pub any_above : (r : rings.Rings) → fit (plan_of r) ≡ true → (u b : ℕ) (f : ℕ → Bool) → ((c : ℕ) → f c ≡ true → adjacent (plan_of r) u c ≡ true)
    → {a e : ℕ} → a ≡ get_or r.starts.now u 0 → e ≡ get_or r.starts.now u 0 + size_of r.sizes.now r.n u
    → list_any (λ (i : ℕ). ltb b (neighbour (get_or r.entries.now i 0)) && f (neighbour (get_or r.entries.now i 0))) (range_with_len a (e - a)) ≡ list_any f (contexts_after (plan_of r) b)
any_above r fits u b f near from to = ring_any r u (λ (c : ℕ). ltb b c && f c) from to ∙ above (plan_of r) fits u b f near
