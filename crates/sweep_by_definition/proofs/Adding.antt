-- How a list is gathered entry by entry.
use Prim.Native.Nat.{ℕ, suc, ◌-◌, ◌<◌}
use mathlib.Core.Path.{◌≡◌, refl, ap, sym, ◌∙◌, subst}
use mathlib.Core.Logic.{◌⊎◌, inl, inr, ⊎_elim}
use mathlib.Core.List.{List, [], ◌∷◌, ◌++◌, append_assoc, append-nil}
use mathlib.Core.Bool.{Bool, true, false, cond, not, ◌||◌, not-not}
use native.Mathlib.Omega.{arith}
use lib.ListN.{length, get_or, set, length-append}
use lib.Dec.{eqb, ltb}
use borrow.Author.Tests.{ne_eqb}
use Rattle.std.specs.Prelude.{fold}
use Rattle.lists.specs.Tests.{member}
use Rattle.lists.specs.Parts.{squeeze}
use Rattle.lists.proofs.Tests.{list_any-append, eqb_swap}
use Rattle.lists.proofs.Padded.{get_or-zero_padded}
use Rattle.sweep_frontier.specs.Held.{AllBelow200, HoldsList, Marks}
use Rattle.sweep_frontier.specs.Frontiers.{Frontier, frontier_of, pushed}
use Rattle.sweep_by_definition.specs.Lists.{failed, last_is, excluded, with_mark, added}
use Rattle.sweep_by_definition.proofs.Dirt.{dirty, dirty-left, dirty_end, clean_once, ends_in, joined, squeeze_end, squeeze-more}
use Rattle.sweep_frontier.proofs.Fails.{pushed-off}
use Rattle.sweep_frontier.proofs.Holding.{marks-same, marks-set, no_longer, push_rep, pushed-marks, small-append}

-- ---- one entry added
-- the last entry of a list by its position
ends_get_or : (l : List ℕ) (c : ℕ) → cond (eqb (length l) 0) false (eqb c (get_or l (length l - 1) 0)) ≡ ends_in l c
unfolding ends_in
ends_get_or [] c = refl
ends_get_or (a ∷ []) c = eqb_swap c a
ends_get_or (a ∷ b ∷ l) c =
    let z : suc (suc (length l)) - 1 ≡ suc (length l) = omega arith in
    let y : suc (length l) - 1 ≡ length l = omega arith in
    rw (z, ne_eqb (suc (suc (length l))) 0 (λ h. omega arith)) (sym (rw (y, ne_eqb (suc (length l)) 0 (λ h. omega arith))) ∙ ends_get_or (b ∷ l) c)

-- the test of the last entry is that of the list
last_ends : (v : Frontier) (l : List ℕ) (c : ℕ) → HoldsList v l → last_is v.at v.len c ≡ ends_in l c
unfolding last_is
last_ends v l c r = (λ i. cond (eqb (r.len i) 0) false (eqb c (get_or (r.at i) (r.len i - 1) 0))) ∙ ap (λ (x : ℕ). cond (eqb (length l) 0) false (eqb c x)) (get_or-zero_padded 512 l (length l - 1)) ∙ ends_get_or l c

-- a list that is being gathered: clean so far
pub record Good (seen : List ℕ) (v : Frontier) (l : List ℕ) : Type 0 where
  pub rep : HoldsList v l
  pub marks : Marks v.marks (λ (c : ℕ). member c l || member c seen)
  pub small : AllBelow200 l
  pub clean : dirty seen l ≡ false

-- what adding comes to: it holds the list, or it failed and the list is dirty
abbrev pub Comes : List ℕ → Frontier → List ℕ → Type 0
Comes seen v l = Good seen v l ⊎ ((v.ok ≡ false) × (dirty seen l ≡ true))

-- a context is excluded where the list with it may not be put on the frontier
excluded-is : (seen : List ℕ) (v : Frontier) (l : List ℕ) (c : ℕ) → c < 200 → Good seen v l → excluded v.marks c ≡ dirty seen (l ++ (c ∷ []))
unfolding excluded
excluded-is seen v l c h g =
    ap (λ (t : Bool). cond (ltb c 4) true (not t)) (g.marks.mark c (omega arith))
    ∙ ap (cond (ltb c 4) true) (not-not (member c l || member c seen)) ∙ go (ltb c 4) ∙ sym (dirty_end seen l c g.clean)
  where
    go : (t : Bool) → cond t true (member c l || member c seen) ≡ (t || (member c l || member c seen))
    go true = refl
    go false = refl

module _ (seen : List ℕ) (v : Frontier) (l : List ℕ) (c : ℕ) (h : c < 200) (g : Good seen v l) where
  -- where the list with one more is clean there is room for it
  room : dirty seen (l ++ (c ∷ [])) ≡ false → length l < 512
  room e =
      let x = no_longer (l ++ (c ∷ [])) (clean_once seen (l ++ (c ∷ [])) e) (small-append l (c ∷ []) g.small (h, tt)) in
      let y = length-append l (c ∷ []) in
      omega arith

  -- and it is put on the list
  taken : dirty seen (l ++ (c ∷ [])) ≡ false → Good seen (with_mark (pushed v c) c) (l ++ (c ∷ []))
  unfolding with_mark
  taken e =
      let r = push_rep v l c g.rep (room e) in
      record {
        rep = record { ok = r.ok; len = r.len; at = r.at; short = r.short };
        marks =
            subst (λ (m : List ℕ). Marks (set m c 1) (λ (x : ℕ). member x (l ++ (c ∷ [])) || member x seen)) (sym (pushed-marks v c))
            (marks-same (λ (x : ℕ). eqb x c || (member x l || member x seen)) (λ (x : ℕ). member x (l ++ (c ∷ [])) || member x seen) swap (marks-set (λ (x : ℕ). member x l || member x seen) c 1 (omega arith) (omega arith) g.marks));
        small = small-append l (c ∷ []) g.small (h, tt);
        clean = e;
      }
    where
      three : (p q r : Bool) → (p || (q || r)) ≡ (q || (p || false) || r)
      three true true r = refl
      three true false r = refl
      three false true r = refl
      three false false r = refl

      swap : (x : ℕ) → (eqb x c || (member x l || member x seen)) ≡ (member x (l ++ (c ∷ [])) || member x seen)
      swap x = three (eqb x c) (member x l) (member x seen) ∙ ap (λ (t : Bool). t || member x seen) (sym (list_any-append (eqb x) l (c ∷ [])))

  -- what one context comes to
  pub add_comes : Comes seen (added v c) (joined l c)
  unfolding added joined failed
  add_comes =
      subst (λ (t : Bool). Comes seen (cond t v (cond (excluded v.marks c) (failed v) (with_mark (pushed v c) c))) (joined l c)) (sym (last_ends v l c g.rep))
      (subst (λ (t : Bool). Comes seen (cond (ends_in l c) v (cond t (failed v) (with_mark (pushed v c) c))) (joined l c)) (sym (excluded-is seen v l c h g)) (go (ends_in l c) (dirty seen (l ++ (c ∷ []))) refl))
    where
      go : (t b : Bool) → dirty seen (l ++ (c ∷ [])) ≡ b → Comes seen (cond t v (cond b (frontier_of false v.len v.at v.marks) (with_mark (pushed v c) c))) (cond t l (l ++ (c ∷ [])))
      go true b e = inl g
      go false true e = inr (refl, e)
      go false false e = inl (taken e)

-- ---- several entries added, left to right
-- a list that failed stays failed when a context is added
pub added-off : (v : Frontier) (c : ℕ) → v.ok ≡ false → (added v c).ok ≡ false
unfolding added failed with_mark
added-off v c e = go (last_is v.at v.len c) (excluded v.marks c)
  where
    go : (s t : Bool) → (cond s v (cond t (frontier_of false v.len v.at v.marks) (frontier_of (pushed v c).ok (pushed v c).len (pushed v c).at (set (pushed v c).marks c 1)))).ok ≡ false
    go true t = e
    go false true = refl
    go false false = pushed-off v c e

-- a list that failed stays failed when several contexts are added
pub all-off : (v : Frontier) (cs : List ℕ) → v.ok ≡ false → (fold added v cs).ok ≡ false
all-off v [] e = e
all-off v (c ∷ cs) e = all-off (added v c) cs (added-off v c e)

-- a list that may not be put on the frontier stays one
pub dirty-more : (seen l cs : List ℕ) → dirty seen (squeeze l) ≡ true → dirty seen (squeeze (l ++ cs)) ≡ true
dirty-more seen l cs e = let (r, q) = squeeze-more l cs in ap (dirty seen) q ∙ dirty-left seen (squeeze l) r e

-- what several contexts come to
pub all_come : (seen : List ℕ) (v : Frontier) (l cs : List ℕ) → AllBelow200 cs → Good seen v (squeeze l) → Comes seen (fold added v cs) (squeeze (l ++ cs))
all_come seen v l [] h g = inl (subst (λ (m : List ℕ). Good seen v (squeeze m)) (sym (append-nil l)) g)
all_come seen v l (c ∷ cs) h g =
    subst (λ (m : List ℕ). Comes seen (fold added (added v c) cs) (squeeze m)) (append_assoc l (c ∷ []) cs)
    (⊎_elim
    (λ k. all_come seen (added v c) (l ++ (c ∷ [])) cs h.1 k)
    (λ k. inr (all-off (added v c) cs k.0, dirty-more seen (l ++ (c ∷ [])) cs k.1))
    (subst (λ (m : List ℕ). Comes seen (added v c) m) (sym (squeeze_end l c)) (add_comes seen v (squeeze l) c h.0 g)))
