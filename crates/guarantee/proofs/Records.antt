-- A file that is opened has a record of kind 4 exactly when its sheet has a chart.
use Prim.Native.Nat.{ℕ, zero, suc, ◌+◌, ◌≤◌, ◌<◌}
use mathlib.Core.Path.{◌≡◌, refl, sym, ap, ◌∙◌, subst}
use mathlib.Core.List.{List, [], ◌∷◌}
use mathlib.Core.Bool.{Bool, true, false, cond, not, ◌&&◌, ◌||◌, false≢true}
use native.Mathlib.Omega.{arith}
use lib.ListN.{length, drop, length-drop}
use lib.Dec.{eqb, leb}
use Rattle.std.specs.Prelude.{is_some}
use Rattle.lists.specs.Tests.{is_empty, member}
use Rattle.lists.specs.Words.{word, words}
use Rattle.model.specs.Outcome.{Outcome, accepted, refused, ◌>>=◌, ◌>>◌, require}
use Rattle.model.specs.Plan.{Plan}
use Rattle.model.specs.File.{Sheet, opened, labelled, charted, Cursor, Framed, frame, fits_ring, frame_rings, Due, Part, frame_rest, optional, kinds_of, body_of, chart_in, sheet_of, decode}
use Rattle.model.specs.Calls.{open_call}
use Rattle.model.specs.CallLists.{standing, kinds, holds_chart}
use Rattle.model.proofs.Outcomes.{same-value, not-both, bind_accepted, then_accepted}
use Rattle.model.proofs.RingPart.{open_accepted}
use Rattle.model.proofs.FileRead.{frame-says}

-- ---- whether kind 4 is among the kinds of these bytes
abbrev Finds : List ℕ → Bool → Type 0
Finds s t = (fuel : ℕ) → length s ≤ fuel → member 4 (kinds fuel s) ≡ t

finds_none : (s : List ℕ) → is_empty s ≡ true → Finds s false
unfolding kinds
finds_none [] e zero k = refl
finds_none [] e (suc fuel) k = refl
finds_none (a ∷ s) e fuel k = absurd (false≢true e)

finds_on : (s : List ℕ) (t : Bool) → 0 < length s → 2 ≤ word s → Finds (drop (2 + word s) s) t → Finds s (eqb 4 (word (drop 2 s)) || t)
unfolding kinds
finds_on [] t h l f fuel k = absurd (omega arith)
finds_on (a ∷ s) t h l f zero k = absurd (omega arith)
finds_on (a ∷ s) t h l f (suc fuel) k = ap (eqb 4 (word (drop 2 (a ∷ s))) ||◌) (f fuel (let z = length-drop (2 + word (a ∷ s)) (a ∷ s) in omega arith))

-- a record that is framed, and what follows it
finds_record : (c : Cursor) (kind : ℕ) (fits : ℕ → Bool) (r : Framed) (t : Bool) → frame c kind fits ≡ accepted r → Finds r.1.rest t → Finds c.rest (eqb 4 kind || t)
finds_record c kind fits r t e f =
    let q = frame-says c kind fits r e in
    subst (λ (j : ℕ). Finds c.rest (eqb 4 j || t)) q.is_kind (finds_on c.rest t q.some q.long (subst (λ (l : List ℕ). Finds l t) (sym q.after) f))

finds_rings : (n k : ℕ) (c : Cursor) (r : List (List ℕ) × Cursor) (t : Bool) → frame_rings n k c ≡ accepted r → Finds r.1.rest t → Finds c.rest t
unfolding frame_rings
finds_rings n zero c r t e f = subst (λ (q : List (List ℕ) × Cursor). Finds q.1.rest t) (sym (same-value e)) f
finds_rings n (suc k) c r t e f =
    let (q, e₁, g) = bind_accepted (frame c 2 (fits_ring n)) _ r e in
    let (u, e₂, h) = bind_accepted (frame_rings n k q.1) _ r g in
    finds_record c 2 (fits_ring n) q t e₁ (finds_rings n k q.1 u t e₂ (subst (λ (z : List (List ℕ) × Cursor). Finds z.1.rest t) (sym (same-value h)) f))

-- the records after the rings: one of those that were read is of kind 4
finds_end : (c : Cursor) (parts : List Part) → is_empty c.rest ≡ true → accepted [] ≡ accepted parts → Finds c.rest (member 4 (kinds_of parts))
unfolding kinds_of
finds_end c parts y e = subst (λ (l : List Part). Finds c.rest (member 4 (kinds_of l))) (same-value e) (finds_none c.rest y)

finds_rest : (due : List Due) (c : Cursor) (parts : List Part) → frame_rest due c ≡ accepted parts → Finds c.rest (member 4 (kinds_of parts))
unfolding frame_rest kinds_of
finds_rest [] c parts e = go (is_empty c.rest) refl (frame c 0 (λ (m : ℕ). false)) refl e
  where
    go : (t : Bool) → is_empty c.rest ≡ t → (o : Outcome Framed) → frame c 0 (λ (m : ℕ). false) ≡ o → cond t (accepted []) (o >> accepted []) ≡ accepted parts → Finds c.rest (member 4 (kinds_of parts))
    go true y o q e = finds_end c parts y e
    go false y (accepted r) q e = absurd (false≢true (frame-says c 0 (λ (m : ℕ). false) r q).fitted)
    go false y (refused k at) q e = not-both e
finds_rest (d ∷ due) c parts e = go (finds_rest due) (is_empty c.rest) refl (d.skippable && not (eqb (word (drop 2 c.rest)) d.kind)) e
  where
    go : ((e : Cursor) (l : List Part) → frame_rest due e ≡ accepted l → Finds e.rest (member 4 (kinds_of l))) → (t : Bool) → is_empty c.rest ≡ t → (s : Bool)
        → cond t (accepted []) (cond s (frame_rest due c) (frame c d.kind (eqb d.size) >>= λ (f : Framed). frame_rest due f.1 >>= λ (l : List Part). accepted ((d.kind, f.0) ∷ l))) ≡ accepted parts → Finds c.rest (member 4 (kinds_of parts))
    go later true y s e = finds_end c parts y e
    go later false y true e = later c parts e
    go later false y false e =
        let (f, e₁, g) = bind_accepted (frame c d.kind (eqb d.size)) _ parts e in
        let (l, e₂, h) = bind_accepted (frame_rest due f.1) _ parts g in
        subst (λ (m : List Part). Finds c.rest (member 4 (kinds_of m))) (same-value h) (finds_record c d.kind (eqb d.size) f (member 4 (kinds_of l)) e₁ (later f.1 l e₂))

found-chart : (p : Plan) (parts : List Part) → member 4 (kinds_of parts) ≡ is_some (standing (sheet_of p parts))
unfolding sheet_of standing
found-chart p parts = go (member 4 (kinds_of parts)) (member 3 (kinds_of parts))
  where
    go : (t u : Bool) → t ≡ is_some (standing (cond t (charted p (body_of 3 parts) (chart_in (words (body_of 4 parts)))) (cond u (labelled p (body_of 3 parts)) (opened p))))
    go true u = refl
    go false true = refl
    go false false = refl

finds_file : (b : List ℕ) (s : Sheet) → decode b ≡ accepted s → Finds b (is_some (standing s))
unfolding decode
finds_file b s e =
    let start : Cursor = record { at = 0; rest = b } in
    let (f, e₁, q₁) = bind_accepted (frame start 1 (eqb 2)) _ s e in
    let n = word f.0 in
    let (_, q₂) = then_accepted (require (leb 5 n && leb n 200) 3 0) _ s q₁ in
    let (g, e₂, q₃) = bind_accepted (frame_rings n n f.1) _ s q₂ in
    let p : Plan = record { rings = g.0 } in
    let (parts, e₃, q₄) = bind_accepted (frame_rest (optional p) g.1) _ s q₃ in
    let chart_there : member 4 (kinds_of parts) ≡ is_some (standing s) = found-chart p parts ∙ ap (λ (z : Sheet). is_some (standing z)) (same-value q₄) in
    finds_record start 1 (eqb 2) f (is_some (standing s)) e₁ (finds_rings n n f.1 g (is_some (standing s)) e₂ (subst (Finds g.1.rest) chart_there (finds_rest (optional p) g.1 parts e₃)))

-- A file that is opened holds a chart exactly when one stands afterwards
pub opened_holds : (b : List ℕ) (s : Sheet) → open_call b ≡ accepted s → is_some (standing s) ≡ holds_chart b
unfolding holds_chart
opened_holds b s e = sym (finds_file b s (open_accepted b s e).0 (length b) (omega arith))
