-- The entry after another in a ring, on the ring as a cycle.
use Prim.Native.Nat.{ℕ, suc, ◌+◌}
use mathlib.Core.Path.{◌≡◌, refl, sym, ap, ◌∙◌, subst}
use mathlib.Core.List.{List, [], ◌∷◌, ◌++◌, Memᴰ}
use native.Mathlib.Omega.{arith}
use lib.ListN.{length, get_or, take, drop, take-append-drop}
use lib.Seq.{drop-cons, take-append_seam, drop-append-add}
use borrow.Author.Tests.{eq-eqb, ne_eqb}
use Rattle.lists.specs.Parts.{index_of, cycle}
use Rattle.lists.proofs.Places.{index_below, index_is}
use Rattle.lists.proofs.Cycles.{cycle_rotated}
use Rattle.model.specs.Plan.{onward, next}

abbrev pair : ℕ → ℕ → ℕ × ℕ
pair a b = (a, b)

-- it stands next on the closed ring
pub next-on-cycle : (a : ℕ) (r : List ℕ) → Memᴰ a r → Memᴰ (pair a (next a r)) (cycle r)
unfolding next onward
next-on-cycle a r m =
    let i = index_of a r in
    let here : drop i r ≡ a ∷ drop (suc i) r = drop-cons r i a (index_below a r m) ∙ ap (λ (b : ℕ). b ∷ drop (suc i) r) (index_is a r a m) in
    let whole : take i r ++ (a ∷ drop (suc i) r) ≡ r = ap (take i r ++◌) (sym here) ∙ take-append-drop i r in
    subst (λ (l : List ℕ). Memᴰ (pair a (next a r)) (cycle l)) whole (cycle_rotated (a ∷ drop (suc i) r) (take i r) (a, next a r) (first (onward a r)))
  where
    first : (l : List ℕ) → Memᴰ (pair a (get_or l 0 a)) (cycle (a ∷ l))
    first [] = Memᴰ.head refl
    first (b ∷ l) = Memᴰ.head refl

-- after the last entry comes the first
index_last : (a : ℕ) (l : List ℕ) → (Memᴰ a l → ⊥) → index_of a (l ++ (a ∷ [])) ≡ length l
index_last a [] out = rw (eq-eqb a a refl)
index_last a (b ∷ l) out = rw (ne_eqb a b (λ e. out (Memᴰ.head e))) (ap suc (index_last a l (λ i. out (Memᴰ.tail i))))

pub next_last : (a : ℕ) (l : List ℕ) → (Memᴰ a l → ⊥) → next a (l ++ (a ∷ [])) ≡ get_or l 0 a
unfolding next onward
next_last a l out =
    let size : suc (length l) ≡ length l + 1 = omega arith in
    let none : drop (suc (length l)) (l ++ (a ∷ [])) ≡ [] = ap (λ (k : ℕ). drop k (l ++ (a ∷ []))) size ∙ drop-append-add l (a ∷ []) 1 in
    ap (λ (k : ℕ). get_or (drop (suc k) (l ++ (a ∷ [])) ++ take k (l ++ (a ∷ []))) 0 a) (index_last a l out)
    ∙ (λ i. get_or (none i ++ take-append_seam l (a ∷ []) i) 0 a)
