-- What the code computes, step by step: lists and frontiers.
use Prim.Native.Nat.{ℕ, zero, suc, ◌+◌, ◌-◌, ◌≤◌, ◌<◌}
use mathlib.Core.Path.{◌≡◌, refl, ap, sym, subst, ◌∙◌}
use native.Mathlib.Omega.{arith}
use mathlib.Core.List.{List, [], ◌∷◌, ◌++◌, reverse}
use mathlib.Core.Bool.{Bool, true, false, cond}
use lib.ListN.{length, set, get_or, take}
use lib.Dec.{ltb, eqb}
use borrow.Author.Tests.{eq-eqb, ne_eqb, ltb-true}
use Rattle.std.specs.Prelude.{fold, Result, Ok}
use Rattle.std.proofs.lemmas.List.Sums.{fold-append}
use Rattle.lists.specs.Tests.{is_empty}
use Rattle.lists.specs.Spans.{span}
use Rattle.lists.specs.Folds.{each_down}
use Rattle.lists.proofs.Folds.{FoldsUp, folds_up_on}
use Rattle.lists.proofs.Spans.{span_next}
use Rattle.model.specs.Plan.{Plan}
use Rattle.rings.specs.declared.Rings.{Rings}
use Rattle.rings.specs.Tables.{plan_of}
use Rattle.rings.proofs.Rows.{index_le}
use Rattle.sweep_frontier.specs.declared.below.Below.{Below}
use Rattle.sweep_frontier.specs.Frontiers.{Frontier, frontier_of, len_of, lent_frontier, pushed, below_of, entries_read, depth_of}
use Rattle.sweep_frontier.proofs.Under.{back_suc}
use Rattle.sweep_frontier.proofs.Puts.{below_read}
use Rattle.sweep_by_definition.specs.Lists.{with_mark, failed, added, below_added, frontier_replaced}

-- a turn of a loop over a range, by what the range says of its next number
pub folds_up_next : {A : Type 0} {step : ℕ → A → A} {a e i f d x j : ℕ} {s₀ s s' : A} → FoldsUp step a e s₀ i s → f ≡ e → (d ≡ f) × ((0 < f - i) × (x ≡ i) × (j ≡ i + 1)) → s' ≡ step x s → FoldsUp step a e s₀ j s'
folds_up_next {step = step} {a} {e} {s₀ = s₀} {s = s} {s' = s'} inv z (q, (h, p, n)) is = subst (λ (k : ℕ). FoldsUp step a e s₀ k s') (sym n) (folds_up_on inv (omega arith) (is ∙ ap (λ (k : ℕ). step k s) p))

-- a list that failed stays as it is where what is below a position would be put at its end
pub below-off : (p : Plan) (f : List ℕ) (k : ℕ) (v : Frontier) → v.ok ≡ false → below_added p f k v ≡ v
unfolding below_added
below-off p f k v o = rw o

-- entries put at the end of a list, the last of these first
down_back : (l : List ℕ) (q : ℕ) (v : Frontier) → q ≤ length l → each_down (λ (t : ℕ) w. added w (get_or l t 0)) q v ≡ fold added v (reverse (take q l))
unfolding each_down
down_back l zero v h = refl
down_back l (suc q) v h = down_back l q (added v (get_or l q 0)) (omega arith) ∙ ap (fold added v) (sym (back_suc l q h))

-- none is put there where there are no entries
is_empty_back : (l : List ℕ) (q : ℕ) → q ≤ length l → is_empty (reverse (take q l)) ≡ eqb q 0
is_empty_back l zero h = refl
is_empty_back l (suc q) h = ap is_empty (back_suc l q h) ∙ sym (ne_eqb (suc q) 0 (λ e. omega arith))

-- what is put at the end of a list that did not fail, of what is below a position
module _ (r : Rings) (f : List ℕ) (k : ℕ) (v : Frontier) (on : v.ok ≡ true) {b : Below} {q : ℕ} (is : b ≡ below_of r f k) (long : q ≡ depth_of b) where
  told : cond (eqb q 0) (failed v) (each_down (λ (t : ℕ) w. added w (get_or (entries_read b) t 0)) q v) ≡ below_added (plan_of r) f k v
  unfolding below_added
  told =
      let l = entries_read b in
      let room : q ≤ length l = let h = index_le b.left l in omega arith in
      (λ i. cond (sym (is_empty_back l q room) i) (failed v) (down_back l q v room i))
      ∙ ap (λ (m : List ℕ). cond (is_empty m) (failed v) (fold added v m)) (ap (λ (n : ℕ). reverse (take n l)) long ∙ below_read r f k is)
      ∙ sym (rw on)

  -- nothing: it fails
  pub back_bare : q ≡ 0 → frontier_of false v.len v.at v.marks ≡ below_added (plan_of r) f k v
  unfolding failed
  back_bare none = sym (rw (eq-eqb q 0 none)) ∙ told

  -- the last of it first
  pub back_below : (q ≡ 0 → ⊥) → each_down (λ i w. added w (get_or (entries_read b) i 0)) q v ≡ below_added (plan_of r) f k v
  back_below some = sym (rw (ne_eqb q 0 some)) ∙ told

-- a frontier that failed grows as one does that had not
pub grown_off : (len : ℕ) (at marks : List ℕ) (c : ℕ) {w : Frontier} → w ≡ pushed (frontier_of true len at marks) c → frontier_of false w.len w.at w.marks ≡ pushed (frontier_of false len at marks) c
unfolding pushed
grown_off len at marks c e = ap (λ (w : Frontier). frontier_of false w.len w.at w.marks) e ∙ go (ltb len 512)
  where
    go : (t : Bool) → (let w : Frontier = cond t (frontier_of true (len + 1) (set at len c) marks) (frontier_of false len at marks) in frontier_of false w.len w.at w.marks)
        ≡ cond t (frontier_of false (len + 1) (set at len c) marks) (frontier_of false len at marks)
    go true = refl
    go false = refl

-- a context marked before it is put at the end of a frontier, or after
pub push_noted : (v : Frontier) (c : ℕ) → with_mark (pushed v c) c ≡ pushed (frontier_of v.ok v.len v.at (set v.marks c 1)) c
unfolding with_mark pushed
push_noted v c = go (ltb v.len 512)
  where
    go : (t : Bool)
        → with_mark (cond t (frontier_of v.ok (v.len + 1) (set v.at v.len c) v.marks) (frontier_of false v.len v.at v.marks)) c
        ≡ cond t (frontier_of v.ok (v.len + 1) (set v.at v.len c) (set v.marks c 1)) (frontier_of false v.len v.at (set v.marks c 1))
    go true = refl
    go false = refl

-- a turn of a loop that puts a range of entries at the end of a frontier
pub fold_next : {i e j d x : ℕ} (f : List ℕ) (v : Frontier) → (d ≡ e) × ((0 < e - i) × (x ≡ i) × (j ≡ i + 1)) → {w : Frontier} → w ≡ pushed v (get_or f x 0) → fold pushed v (span f i e) ≡ fold pushed w (span f j d)
fold_next {j = j} {d = d} f v next put = ap (fold pushed v) (span_next f next) ∙ ap (λ (w : Frontier). fold pushed w (span f j d)) (sym put)

-- what is put at the end of a frontier in three parts
pub replaced_parts : (v : Frontier) (f : List ℕ) (m a j : ℕ) (l : List ℕ) (q : ℕ) {left middle right : Frontier}
    → left ≡ fold pushed v (span f 0 a) → middle ≡ fold pushed left (span l 0 q) → right ≡ fold pushed middle (span f j m) → right ≡ frontier_replaced v f m a j l q
unfolding frontier_replaced
replaced_parts v f m a j l q e g h =
    h ∙ ap (λ (w : Frontier). fold pushed w (span f j m)) (g ∙ ap (λ (w : Frontier). fold pushed w (span l 0 q)) e ∙ sym (fold-append pushed v (span f 0 a) (span l 0 q))) ∙ sym (fold-append pushed v (span f 0 a ++ span l 0 q) (span f j m))

-- ---- a frontier has at most 512 contexts
push_short : (v : Frontier) (c : ℕ) → v.len ≤ 512 → (pushed v c).len ≤ 512
unfolding pushed
push_short v c h = go (ltb v.len 512) refl
  where
    go : (t : Bool) → ltb v.len 512 ≡ t → (cond t (frontier_of v.ok (v.len + 1) (set v.at v.len c) v.marks) (frontier_of false v.len v.at v.marks)).len ≤ 512
    go true e = let z = ltb-true v.len 512 e in omega arith
    go false e = h

fold_short : (v : Frontier) (l : List ℕ) → v.len ≤ 512 → (fold pushed v l).len ≤ 512
fold_short v [] h = h
fold_short v (c ∷ l) h = fold_short (pushed v c) l (push_short v c h)

-- so has one with a list in place
pub replaced_short : (v : Frontier) {r : Result ℕ ℕ} {len : ℕ} {at marks : List ℕ} (f : List ℕ) (m a j : ℕ) (l : List ℕ) (q : ℕ) → v.len ≡ 0 → Ok len ≡ r → lent_frontier r at marks ≡ frontier_replaced v f m a j l q → len ≤ 512
unfolding frontier_replaced
replaced_short v f m a j l q none is put =
    let few = fold_short v (span f 0 a ++ span l 0 q ++ span f j m) (omega arith) in
    let e = ap len_of is ∙ ap (λ (u : Frontier). u.len) put in
    omega arith
