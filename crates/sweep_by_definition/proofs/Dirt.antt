-- Lists that may not be put on the frontier: with a repeat, a border context, or one that is or was on the frontier. How a list that is squeezed grows at its end and at its beginning.
use Prim.Native.Nat.{ℕ}
use mathlib.Core.Path.{◌≡◌, refl, ap, sym, ◌∙◌}
use mathlib.Core.List.{List, [], ◌∷◌, ◌++◌, append_assoc, append-nil}
use mathlib.Core.Bool.{Bool, true, false, cond, ◌||◌, or-false}
use lib.Dec.{eqb}
use Rattle.std.specs.List.{list_any}
use Rattle.lists.specs.Tests.{member, repeats}
use Rattle.lists.specs.Parts.{squeeze, squeeze_after}
use Rattle.lists.proofs.Bools.{both, no_or, or_no}
use Rattle.lists.proofs.Tests.{list_any-append, repeats-right, eqb_swap}
use Rattle.model.specs.Plan.{border}

-- ---- lists with no repeat
-- the beginning of one is one
repeats-left : (l m : List ℕ) → repeats (l ++ m) ≡ false → repeats l ≡ false
repeats-left [] m e = refl
repeats-left (a ∷ l) m e =
    let (h, k) = or_no (member a (l ++ m)) (repeats (l ++ m)) e in
    no_or (member a l) (repeats l) (or_no (member a l) (member a m) (sym (list_any-append (eqb a) l m) ∙ h)).0 (repeats-left l m k)

-- with an entry at its end it has a repeat where the entry is in it
repeats_end : (l : List ℕ) (c : ℕ) → repeats l ≡ false → repeats (l ++ (c ∷ [])) ≡ member c l
repeats_end [] c e = refl
repeats_end (a ∷ l) c e =
    let (h, k) = or_no (member a l) (repeats l) e in
    (λ i. list_any-append (eqb a) l (c ∷ []) i || repeats_end l c k i) ∙ (λ i. (h i || or-false (eqb a c) i) || member c l) ∙ ap (λ (b : Bool). b || member c l) (eqb_swap a c)

-- ---- a list that may not be put on the frontier, where these were on it
unfoldable pub dirty : List ℕ → List ℕ → Bool
dirty seen l = repeats l || list_any border l || list_any (λ (c : ℕ). member c seen) l

module _ (seen : List ℕ) where
  -- the test of having been on the frontier
  abbrev S : ℕ → Bool
  S c = member c seen

  -- a clean list, with an entry at its end
  pub dirty_end : (l : List ℕ) (c : ℕ) → dirty seen l ≡ false → dirty seen (l ++ (c ∷ [])) ≡ (border c || (member c l || member c seen))
  unfolding dirty
  dirty_end l c d =
      let (p, s) = or_no (repeats l || list_any border l) (list_any S l) d in
      let (r, b) = or_no (repeats l) (list_any border l) p in
      (λ i. repeats_end l c r i || list_any-append border l (c ∷ []) i || list_any-append S l (c ∷ []) i) ∙ (λ i. member c l || (b i || or-false (border c) i) || (s i || or-false (S c) i)) ∙ swap (member c l) (border c) (S c)
    where
      swap : (m b s : Bool) → (m || b || s) ≡ (b || (m || s))
      swap true true s = refl
      swap true false s = refl
      swap false true s = refl
      swap false false s = refl

  -- both parts of a clean list are clean
  pub clean_parts : (l m : List ℕ) → dirty seen (l ++ m) ≡ false → (dirty seen l ≡ false) × (dirty seen m ≡ false)
  unfolding dirty
  clean_parts l m d =
      let (e, s) = or_no (repeats (l ++ m) || list_any border (l ++ m)) (list_any S (l ++ m)) d in
      let (r, b) = or_no (repeats (l ++ m)) (list_any border (l ++ m)) e in
      let (b₀, b₁) = or_no (list_any border l) (list_any border m) (sym (list_any-append border l m) ∙ b) in
      let (s₀, s₁) = or_no (list_any S l) (list_any S m) (sym (list_any-append S l m) ∙ s) in
      (rw (repeats-left l m r, b₀, s₀), rw (repeats-right l m r, b₁, s₁))

  -- what is put after a list that may not be on the frontier does not mend it
  pub dirty-left : (l m : List ℕ) → dirty seen l ≡ true → dirty seen (l ++ m) ≡ true
  dirty-left l m e = go (dirty seen (l ++ m)) refl
    where
      go : (b : Bool) → dirty seen (l ++ m) ≡ b → b ≡ true
      go true q = refl
      go false q = both (dirty seen l) e (clean_parts l m q).0

  -- a clean list has no repeat
  pub clean_once : (l : List ℕ) → dirty seen l ≡ false → repeats l ≡ false
  unfolding dirty
  clean_once l d = (or_no (repeats l) (list_any border l) (or_no (repeats l || list_any border l) (list_any S l) d).0).0

  -- no context of a clean list was on the frontier
  pub clean_new : (l : List ℕ) → dirty seen l ≡ false → list_any S l ≡ false
  unfolding dirty
  clean_new l d = (or_no (repeats l || list_any border l) (list_any S l) d).1

-- ---- a squeezed list grows at its end
-- its last entry is c
unfoldable pub ends_in : List ℕ → ℕ → Bool
ends_in [] c = false
ends_in (a ∷ []) c = eqb a c
ends_in (a ∷ b ∷ l) c = ends_in (b ∷ l) c

-- c put at the end, unless it stands there
unfoldable pub joined : List ℕ → ℕ → List ℕ
joined l c = cond (ends_in l c) l (l ++ (c ∷ []))

-- squeezed after an entry
after_end : (a : ℕ) (l : List ℕ) (c : ℕ) → a ∷ squeeze_after a (l ++ (c ∷ [])) ≡ joined (a ∷ squeeze_after a l) c
unfolding joined ends_in
after_end a [] c = go (eqb a c)
  where
    go : (t : Bool) → a ∷ cond t [] (c ∷ []) ≡ cond t (a ∷ []) (a ∷ c ∷ [])
    go true = refl
    go false = refl
after_end a (b ∷ l) c = go (eqb a b) (after_end a l c) (after_end b l c)
  where
    more : (t : Bool) (x : List ℕ) → a ∷ cond t (b ∷ x) (b ∷ x ++ (c ∷ [])) ≡ cond t (a ∷ b ∷ x) (a ∷ b ∷ x ++ (c ∷ []))
    more true x = refl
    more false x = refl

    go : (t : Bool) → a ∷ squeeze_after a (l ++ (c ∷ [])) ≡ joined (a ∷ squeeze_after a l) c → b ∷ squeeze_after b (l ++ (c ∷ [])) ≡ joined (b ∷ squeeze_after b l) c
        → a ∷ cond t (squeeze_after a (l ++ (c ∷ []))) (b ∷ squeeze_after b (l ++ (c ∷ []))) ≡ joined (a ∷ cond t (squeeze_after a l) (b ∷ squeeze_after b l)) c
    go true r s = r
    go false r s = ap {B = List ℕ} (λ x. a ∷ x) s ∙ more (ends_in (b ∷ squeeze_after b l) c) (squeeze_after b l)

-- one more entry at the end
pub squeeze_end : (l : List ℕ) (c : ℕ) → squeeze (l ++ (c ∷ [])) ≡ joined (squeeze l) c
unfolding joined ends_in
squeeze_end [] c = refl
squeeze_end (a ∷ l) c = after_end a l c

-- joining only adds at the end
joined-more : (l : List ℕ) (c : ℕ) → (r : List ℕ) × (joined l c ≡ l ++ r)
unfolding joined
joined-more l c = go (ends_in l c)
  where
    go : (t : Bool) → (r : List ℕ) × (cond t l (l ++ (c ∷ [])) ≡ l ++ r)
    go true = ([], sym (append-nil l))
    go false = (c ∷ [], refl)

-- what is squeezed of a longer list begins with what is squeezed of its beginning
pub squeeze-more : (l cs : List ℕ) → (r : List ℕ) × (squeeze (l ++ cs) ≡ squeeze l ++ r)
squeeze-more l [] = ([], ap squeeze (append-nil l) ∙ sym (append-nil (squeeze l)))
squeeze-more l (c ∷ cs) =
    let (r, e) = joined-more (squeeze l) c in
    let (s, q) = squeeze-more (l ++ (c ∷ [])) cs in
    (r ++ s, ap squeeze (sym (append_assoc l (c ∷ []) cs)) ∙ q ∙ ap (λ (x : List ℕ). x ++ s) (squeeze_end l c ∙ e) ∙ append_assoc (squeeze l) r s)
