-- What `list_any` and `position` say of a range, where the test of a number is that of the entry that stands there.
use Prim.Native.Nat.{ℕ, zero, suc, ◌+◌, ◌-◌, ◌≤◌}
use mathlib.Core.Path.{◌≡◌, refl, ap, ◌∙◌}
use mathlib.Core.List.{List, map}
use mathlib.Core.Bool.{Bool, true, false, cond, not, ◌||◌}
use native.Mathlib.Omega.{arith}
use native.Mathlib.Numerals.{add-one}
use lib.ListN.{get_or}
use lib.Dec.{eqb, ltb}
use borrow.Author.Tests.{ltb-false}
use denote.Param.Members.{Mut}
use Rattle.std.specs.Prelude.{Option, Some, None, MatchOption}
use Rattle.std.specs.declared.ops.Range.{Range}
use Rattle.std.specs.Iterator.{YieldsThen}
use Rattle.std.specs.Fn.{Called}
use Rattle.std.proofs.iter.Yields.{nat_range_steps}
use Rattle.std.proofs.lemmas.Iterator.{YieldsList-from_range}
use Rattle.std.proofs.lemmas.Iterator.Search.{any_from_yields_List}
use Rattle.std.specs.List.{FoldsTo, list_any, range_with_len, position_or_len}
use Rattle.std.specs.Option.{unwrap_or}
use Rattle.lists.specs.Tests.{member, repeats}
use Rattle.lists.specs.Parts.{index_of}
use Rattle.lists.specs.Folds.{some_within, some_of}
use Rattle.lists.specs.Spans.{stretch, span}

-- what `list_any` gives of the numbers from a up to e, where the closure is a test that leaves what it captures as it is
pub any_in_range : {F : Type 0} {g : Mut F (ℕ × Unit {0}) Bool} (test : ℕ → Bool) (a e : ℕ) {u : Range ℕ} {f : F} {r : Bool}
    → (xs : List ℕ) × (o : Option ℕ) × (j : F) × YieldsThen nat_range_steps (record { start = a; end = e }) xs o u × FoldsTo (λ p x q. Called g p (x, tt) false q) f xs j
    × MatchOption o (r ≡ false) (λ x. (r ≡ true) × ((h : F) × Called g j (x, tt) true h))
    → ((x : ℕ) (b : Bool) (q : F) → Called g f (x, tt) b q → (q ≡ f) × (b ≡ test x))
    → r ≡ list_any test (range_with_len a (e - a))
any_in_range test a e {u} {f} {r} ran told = any_from_yields_List test u f r ran (YieldsList-from_range a e (e - a) refl refl) told

-- some of the k numbers from a on passes
pub any_some : (q : ℕ → Bool) (a k : ℕ) → list_any q (range_with_len a k) ≡ some_of q a k
unfolding some_of
any_some q a zero = refl
any_some q a (suc k) = go (q a) (any_some q (a + 1) k ∙ ap (λ (b : ℕ). some_of q b k) (add-one a))
  where
    go : (b : Bool) → list_any q (range_with_len (a + 1) k) ≡ some_of q (suc a) k → (b || list_any q (range_with_len (a + 1) k)) ≡ cond b true (some_of q (suc a) k)
    go true e = refl
    go false e = e

-- what `list_any` gives of the numbers from a up to e: whether some of them passes
pub some_in_range : {F : Type 0} {g : Mut F (ℕ × Unit {0}) Bool} (test : ℕ → Bool) (a e : ℕ) {u : Range ℕ} {f : F} {r : Bool}
    → (xs : List ℕ) × (o : Option ℕ) × (j : F) × YieldsThen nat_range_steps (record { start = a; end = e }) xs o u × FoldsTo (λ p x q. Called g p (x, tt) false q) f xs j
    × MatchOption o (r ≡ false) (λ x. (r ≡ true) × ((h : F) × Called g j (x, tt) true h))
    → ((x : ℕ) (b : Bool) (q : F) → Called g f (x, tt) b q → (q ≡ f) × (b ≡ test x))
    → r ≡ some_within test a e
some_in_range test a e ran told = any_in_range test a e ran told ∙ any_some test a (e - a)

module _ (l : List ℕ) where
  -- some of the k entries from a on passes
  pub any_entry : (f : ℕ → Bool) (a k : ℕ) → list_any (λ (i : ℕ). f (get_or l i 0)) (range_with_len a k) ≡ list_any f (stretch l a k)
  unfolding stretch
  any_entry f a zero = refl
  any_entry f a (suc k) = ap (λ (t : Bool). f (get_or l a 0) || t) (any_entry f (a + 1) k ∙ ap (λ (b : ℕ). list_any f (stretch l b k)) (add-one a))

  -- some of the k entries from a up to e stands again after itself
  pub any_again : (e a k : ℕ) → a + k ≡ e → list_any (λ (i : ℕ). member (get_or l i 0) (span l (i + 1) e)) (range_with_len a k) ≡ repeats (stretch l a k)
  unfolding stretch
  any_again e a zero h = refl
  any_again e a (suc k) h =
      let left : e - (a + 1) ≡ k = omega arith in
      let later = any_again e (a + 1) k (omega arith) ∙ ap (λ (b : ℕ). repeats (stretch l b k)) (add-one a) in
      λ i. member (get_or l a 0) (stretch l (add-one a i) (left i)) || later i

  -- where x stands among what the k entries from a on give, or k
  pub place_entry : (g : ℕ → ℕ) (x a k : ℕ) → position_or_len (λ (i : ℕ). eqb x (g (get_or l i 0))) (range_with_len a k) ≡ index_of x (map g (stretch l a k))
  unfolding stretch
  place_entry g x a zero = refl
  place_entry g x a (suc k) = go (eqb x (g (get_or l a 0))) (place_entry g x (a + 1) k ∙ ap (λ (b : ℕ). index_of x (map g (stretch l b k))) (add-one a))
    where
      q : ℕ → Bool
      q i = eqb x (g (get_or l i 0))

      go : (t : Bool) → position_or_len q (range_with_len (a + 1) k) ≡ index_of x (map g (stretch l (suc a) k)) → cond (not t) (1 + position_or_len q (range_with_len (a + 1) k)) 0 ≡ cond t 0 (suc (index_of x (map g (stretch l (suc a) k))))
      go true e = refl
      go false e = omega arith

-- a place, or the length where there is none
pub place_or : (p : ℕ) {m k : ℕ} → m ≡ k → p ≤ k → unwrap_or (cond (ltb p m) (Some p) None) k ≡ p
place_or p {m} {k} e h = go (ltb p m) refl
  where
    go : (t : Bool) → ltb p m ≡ t → unwrap_or (cond t (Some p) None) k ≡ p
    go true q = refl
    go false q = let l = ltb-false p m q in omega arith
