-- How large what is told of a sheet can be: a file has at most 5,176 bytes, a named context is below 200, a ring's part lies in the file's first 4,096 bytes.
use Prim.Native.Nat.{ℕ, zero, suc, ◌+◌, ◌-◌, ◌*◌, ◌≤◌, ◌<◌}
use mathlib.Core.Path.{◌≡◌, refl, sym, ap, ◌∙◌}
use mathlib.Core.List.{List, [], ◌∷◌, ◌++◌}
use mathlib.Core.Bool.{Bool, true, false, cond, not, ◌&&◌, ◌||◌}
use native.Mathlib.Omega.{arith}
use lib.ListN.{length, get_or, take, length-append}
use Rattle.std.specs.Prelude.{Some}
use Rattle.std.specs.List.{find}
use Rattle.std.proofs.lemmas.Option.{none-some, same_Some}
use Rattle.lists.specs.Parts.{flatten}
use Rattle.lists.specs.Words.{bytes}
use Rattle.lists.proofs.Bools.{and_yes}
use Rattle.lists.proofs.Words.{length-bytes}
use Rattle.model.specs.Outcome.{passed}
use Rattle.model.specs.Plan.{Plan, context_count, entries, adjacent, entry_count, plan_rules}
use Rattle.model.specs.Labels.{start}
use Rattle.model.specs.Chart.{Chart}
use Rattle.model.specs.Scan.{Triple, inner_face, enclosing, triples, scan}
use Rattle.model.specs.File.{Sheet, fresh, opened, labelled, charted, entry, points, chart_out, rings_out, plan_out, encode}
use Rattle.model.specs.Calls.{ring_start}
use Rattle.model.proofs.Plans.{adjacent-from}
use Rattle.model.proofs.PlanRules.{sound}
use Rattle.model.proofs.FileWrite.{PlanFits, length-entry}
use Rattle.guarantee.proofs.Sized.{Good}

-- ---- the file
-- the records of rings
long_rings : (rs : List (List ℕ)) → length (rings_out rs) ≡ 4 * length rs + 2 * length (flatten rs)
unfolding rings_out
long_rings [] = refl
long_rings (r ∷ rs) = omega (arith, long_rings rs, length-append (entry 2 (bytes r)) (rings_out rs), length-entry 2 (bytes r), length-bytes r, length-append r (flatten rs))

-- the records of a plan
long_plan : (p : Plan) → length (plan_out p) ≡ 6 + 4 * context_count p + 2 * entry_count p
unfolding plan_out entry_count
long_plan p = omega (arith, long_rings p.rings, length-append (entry 1 (bytes (context_count p ∷ []))) (rings_out p.rings), length-entry 1 (bytes (context_count p ∷ [])), length-bytes (context_count p ∷ []))

-- the points of a chart
long_points : (xs ys : List ℕ) → length (points xs ys) ≤ 2 * length xs
unfolding points
long_points [] ys = omega arith
long_points (a ∷ xs) [] = omega arith
long_points (a ∷ xs) (b ∷ ys) = let h = long_points xs ys in omega arith

-- the numbers of a chart
long_chart : (c : Chart) → length (bytes (chart_out c)) ≤ 4 + 4 * length c.xs
unfolding chart_out
long_chart c = let h = long_points c.xs c.ys in omega (arith, length-bytes (c.w ∷ c.h ∷ points c.xs c.ys))

-- a plan of 200 contexts
plan-short : (p : Plan) → PlanFits p → plan_rules p ≡ passed → length (plan_out p) ≤ 3178
plan-short p f e = let high = f.high in let total = (sound p e).total in omega (arith, long_plan p)

-- The file of a good sheet is short
pub file_short : (t : Sheet) → Good t → length (encode t) ≤ 5176
unfolding encode
file_short fresh g = omega arith
file_short (opened p) g = let h = plan-short p g.sized g.kept in omega arith
file_short (labelled p ls) g =
    let (f, l) = g.sized in
    let h = plan-short p f g.kept.0 in
    let high = f.high in
    omega (arith, length-append (plan_out p) (entry 3 ls), length-entry 3 ls)
file_short (charted p ls c) g =
    let (f, l, k) = g.sized in
    let h = plan-short p f g.kept.0 in
    let high = f.high in
    let xs = k.xs_each in
    let q = long_chart c in
    omega (arith, length-append (plan_out p) (entry 3 ls), length-entry 3 ls, length-append (plan_out p ++ entry 3 ls) (entry 4 (bytes (chart_out c))), length-entry 4 (bytes (chart_out c)))

-- ---- the scan
-- what is found encloses
found_encloses : (p : Plan) (ts : List Triple) (t : Triple) → find (enclosing p) ts ≡ Some t → enclosing p t ≡ true
found_encloses p [] t e = absurd (none-some t e)
found_encloses p (q ∷ ts) t e = go (enclosing p q) refl (found_encloses p ts t) e
  where
    go : (b : Bool) → enclosing p q ≡ b → (find (enclosing p) ts ≡ Some t → enclosing p t ≡ true) → cond b (Some q) (find (enclosing p) ts) ≡ Some t → enclosing p t ≡ true
    go true h r e = ap (enclosing p) (sym (same_Some q t e)) ∙ h
    go false h r e = r e

-- The three contexts are contexts of the plan
pub scan-inside : (p : Plan) → ((u v : ℕ) → adjacent p u v ≡ true → v < context_count p) → (a b c : ℕ) → scan p ≡ Some (a, b, c) → (a < context_count p) × (b < context_count p) × (c < context_count p)
unfolding scan enclosing
scan-inside p inside a b c e =
    let known = found_encloses p (triples p) (a, b, c) e in
    let ab = adjacent p a b in
    let ac = adjacent p a c in
    let bc = adjacent p b c in
    let (three, _) = and_yes (ab && ac && bc) (not (inner_face p a b c || inner_face p a c b)) known in
    let (two, third) = and_yes (ab && ac) bc three in
    (adjacent-from p a b (and_yes ab ac two).0, adjacent-from p b c third, inside b c third)

-- ---- the ring
-- the lists before one, and that one, are no longer than all
before-short : (ls : List (List ℕ)) (u : ℕ) → length (flatten (take u ls)) + length (get_or ls u []) ≤ length (flatten ls)
before-short [] zero = omega arith
before-short [] (suc u) = omega arith
before-short (l ∷ ls) zero = omega (arith, length-append l (flatten ls))
before-short (l ∷ ls) (suc u) = let h = before-short ls u in omega (arith, length-append l (flatten (take u ls)), length-append l (flatten ls))

-- how many entries the rings have
total_of : (p : Plan) → plan_rules p ≡ passed → length (flatten p.rings) ≡ 6 * context_count p - 14
unfolding entry_count
total_of p e = (sound p e).total

-- The offset and the length of a ring's body
pub part_short : (p : Plan) (u : ℕ) → PlanFits p → plan_rules p ≡ passed → u < context_count p → (ring_start p u < 4096) × (2 * length (entries p u) < 4096)
unfolding ring_start start entries
part_short p u f e h =
    let high = f.high in
    let total = total_of p e in
    let most = before-short p.rings u in
    (omega arith, omega arith)
