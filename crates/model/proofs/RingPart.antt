-- The part of a file that the ring call hands back is the context's ring.
use Prim.Native.Nat.{ℕ, zero, suc, ◌+◌, ◌*◌, ◌<◌}
use mathlib.Core.Path.{◌≡◌, refl, sym, ap, ◌∙◌, subst}
use mathlib.Core.List.{List, [], ◌∷◌, ◌++◌, append_assoc}
use mathlib.Core.Bool.{Bool, true, false, cond}
use native.Mathlib.Omega.{arith}
use lib.ListN.{length, get_or, take, drop, length-append, get_or-eq_default}
use lib.Seq.{drop-append-add, take_at}
use lib.Dec.{ltb}
use borrow.Author.Tests.{ltb-true, ltb-false}
use Rattle.lists.specs.Tests.{member}
use Rattle.lists.specs.Parts.{flatten}
use Rattle.lists.specs.Words.{words, bytes}
use Rattle.lists.proofs.Words.{Bytes, length-bytes, words-bytes}
use Rattle.model.specs.Outcome.{accepted, passed, ◌>>◌, require}
use Rattle.model.specs.Plan.{Plan, context_count, entries}
use Rattle.model.specs.Labels.{start}
use Rattle.model.specs.File.{Sheet, opened, labelled, charted, Part, kinds_of, body_of, chart_in, sheet_of, decode, entry, rings_out, plan_out}
use Rattle.model.specs.Calls.{require_plan, judge, open_call, ring_start, ring_call, ring_part}
use Rattle.model.proofs.Outcomes.{same-value, bind_accepted, then_accepted, require-passed}
use Rattle.model.proofs.FileWrite.{parts_out, length-entry}
use Rattle.model.proofs.FileRead.{ReadAs, decoded}

-- u's ring among all rings, written
among_rings : (rs : List (List ℕ)) (u : ℕ) (rest : List ℕ) → u < length rs
    → (more : List ℕ) × (drop (4 * suc u + 2 * length (flatten (take u rs))) (rings_out rs ++ rest) ≡ bytes (get_or rs u []) ++ more)
unfolding rings_out entry bytes
among_rings [] u rest h = absurd (omega arith)
among_rings (r ∷ rs) zero rest h = (rings_out rs ++ rest, append_assoc (bytes r) (rings_out rs) rest)
among_rings (r ∷ rs) (suc u) rest h =
    let (more, q) = among_rings rs u rest (omega arith) in
    let k = 4 * suc u + 2 * length (flatten (take u rs)) in
    let far : 4 * suc (suc u) + 2 * length (r ++ flatten (take u rs)) ≡ length (entry 2 (bytes r)) + k = omega (arith, length-entry 2 (bytes r), length-bytes r, length-append r (flatten (take u rs))) in
    (more, (λ i. drop (far i) (append_assoc (entry 2 (bytes r)) (rings_out rs) rest i)) ∙ drop-append-add (entry 2 (bytes r)) (rings_out rs ++ rest) k ∙ q)

-- u's ring in the file of a plan
in_file : (p : Plan) (u : ℕ) (rest : List ℕ) → u < context_count p → take (2 * length (entries p u)) (drop (ring_start p u) (plan_out p ++ rest)) ≡ bytes (entries p u)
unfolding ring_start start entries plan_out
in_file p u rest h =
    let head = entry 1 (bytes (context_count p ∷ [])) in
    let r = get_or p.rings u [] in
    let k = 4 * suc u + 2 * length (flatten (take u p.rings)) in
    let (more, q) = among_rings p.rings u rest h in
    let far : 6 + 4 * suc u + 2 * length (flatten (take u p.rings)) ≡ length head + k = omega (arith, length-entry 1 (bytes (context_count p ∷ [])), length-bytes (context_count p ∷ [])) in
    let here = (λ i. drop (far i) (append_assoc head (rings_out p.rings) rest i)) ∙ drop-append-add head (rings_out p.rings ++ rest) k ∙ q in
    ap (take (2 * length r)) here ∙ take_at (bytes r) more (2 * length r) (length-bytes r)

-- u's ring in a file that was read
in_read : (b : List ℕ) (p : Plan) (parts : List Part) (u : ℕ) → Bytes b → ReadAs b p parts → u < context_count p → take (2 * length (entries p u)) (drop (ring_start p u) b) ≡ bytes (entries p u)
in_read b p parts u y r h = ap (λ (f : List ℕ). take (2 * length (entries p u)) (drop (ring_start p u) f)) (r.written y) ∙ in_file p u (parts_out parts) h

-- a file that was opened decodes to the sheet, and the sheet keeps the rules
pub open_accepted : (b : List ℕ) (s : Sheet) → open_call b ≡ accepted s → (decode b ≡ accepted s) × (judge s ≡ passed)
unfolding open_call
open_accepted b s e =
    let (t, d, f) = bind_accepted (decode b) _ s e in
    let (j, g) = then_accepted (judge t) (accepted t) s f in
    let same = same-value g in
    (d ∙ ap accepted same, subst (λ (v : Sheet). judge v ≡ passed) same j)

plan-same : (p q : Plan) (parts : List Part) → require_plan (sheet_of p parts) ≡ accepted q → p ≡ q
unfolding require_plan sheet_of
plan-same p q parts e = go (member 4 (kinds_of parts)) (member 3 (kinds_of parts)) e
  where
    go : (t u : Bool) → require_plan (cond t (charted p (body_of 3 parts) (chart_in (words (body_of 4 parts)))) (cond u (labelled p (body_of 3 parts)) (opened p))) ≡ accepted q → p ≡ q
    go true u f = same-value f
    go false true f = same-value f
    go false false f = same-value f

-- A ring call that is accepted opened the file, and names where u's ring begins and how long it is
pub ring-accepted : (b : List ℕ) (u at size : ℕ) → ring_call b u ≡ accepted (at, size)
    → (s : Sheet) × (p : Plan) × (open_call b ≡ accepted s) × (require_plan s ≡ accepted p) × (u < context_count p) × (ring_start p u ≡ at) × (2 * length (entries p u) ≡ size)
unfolding ring_call
ring-accepted b u at size e =
    let (s, o, f) = bind_accepted (open_call b) _ (at, size) e in
    let (p, q, g) = bind_accepted (require_plan s) _ (at, size) f in
    let (t, h) = then_accepted (require (ltb u (context_count p)) 17 (context_count p)) _ (at, size) g in
    let same = same-value h in
    (s, p, o, q, ltb-true u (context_count p) (require-passed (ltb u (context_count p)) 17 (context_count p) t), ap (λ (r : ℕ × ℕ). r.0) same, ap (λ (r : ℕ × ℕ). r.1) same)

-- In a file that was opened, the bytes of u's ring stand where the ring call says
pub opened_part : (b : List ℕ) (s : Sheet) (p : Plan) (u : ℕ) → Bytes b → open_call b ≡ accepted s → require_plan s ≡ accepted p → u < context_count p
    → take (2 * length (entries p u)) (drop (ring_start p u) b) ≡ bytes (entries p u)
opened_part b s p u y o e h =
    let (q, parts, is, r) = decoded b s (open_accepted b s o).0 in
    in_read b p parts u y (subst (λ (v : Plan). ReadAs b v parts) (plan-same q p parts (ap require_plan is ∙ e)) r) h

-- What the ring call hands back of a file that was opened, read as numbers, is u's ring; of a u that is no context, nothing
pub ring_handed : (b : List ℕ) (s : Sheet) (p : Plan) (u : ℕ) → Bytes b → open_call b ≡ accepted s → require_plan s ≡ accepted p → words (ring_part b (ring_call b u)) ≡ entries p u
unfolding ring_call ring_part entries words
ring_handed b s p u y o e = rw (o, e) (go (ltb u (context_count p)) refl)
  where
    go : (t : Bool) → ltb u (context_count p) ≡ t → words (ring_part b (require t 17 (context_count p) >> accepted (ring_start p u, 2 * length (entries p u)))) ≡ entries p u
    go true l = ap words (opened_part b s p u y o e (ltb-true u (context_count p) l)) ∙ words-bytes (entries p u)
    go false l = sym (get_or-eq_default p.rings [] (ltb-false u (context_count p) l))
