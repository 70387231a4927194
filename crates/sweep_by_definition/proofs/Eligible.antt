-- What the list of a pair of positions comes to: whether the pair is eligible, or that neither it is nor one with a smaller i.
use Prim.Native.Nat.{ℕ, zero, suc, ◌+◌, ◌-◌, ◌≤◌, ◌<◌}
use mathlib.Core.Path.{◌≡◌, refl, ap, sym, ◌∙◌}
use mathlib.Core.Logic.{⊎_elim}
use mathlib.Core.List.{List, ◌++◌}
use mathlib.Core.Bool.{Bool, true, false, not, ◌&&◌, not-not}
use native.Mathlib.Omega.{arith}
use lib.ListN.{length, take}
use borrow.Author.Tests.{not-true}
use Rattle.std.specs.Prelude.{None, Result, Ok, is_ok}
use Rattle.std.specs.List.{list_all}
use Rattle.lists.specs.Tests.{is_empty}
use Rattle.lists.specs.Ranges.{from}
use Rattle.lists.specs.Parts.{squeeze}
use Rattle.std.proofs.lemmas.List.{take_at}
use Rattle.lists.specs.Spans.{zeros, zero_padded}
use Rattle.lists.proofs.Bools.{both, and_yes, yes_and, yes-not}
use Rattle.lists.proofs.Parts.{squeeze-before}
use Rattle.model.specs.Plan.{Plan}
use Rattle.model.specs.Sweep.{State, below, listed, replaced, chordless, eligible}
use Rattle.sweep_frontier.specs.Held.{EntriesBelow200, HoldsFrontier}
use Rattle.sweep_frontier.specs.Frontiers.{Frontier, lent_frontier, empty_frontier}
use Rattle.sweep_by_definition.specs.Lists as run
use Rattle.sweep_by_definition.specs.Lists.{listing}
use Rattle.sweep_by_definition.proofs.Dirt.{dirty, clean_parts}
use Rattle.sweep_by_definition.proofs.Gather.{raw, allowed, comes}
use Rattle.sweep_by_definition.proofs.Pairs.{list-is, new-is, new_rep}
use Rattle.sweep_by_definition.specs.Search.{Tested}

-- ---- a list that may not be put on the frontier
module _ (p : Plan) (seen f : List ℕ) (j : ℕ) where
  -- where a list may be put there, that of the next i may be too
  allowed_next : (i : ℕ) → suc i < j → allowed p seen f i j ≡ true → allowed p seen f (suc i) j ≡ true
  unfolding listed
  allowed_next i h e =
      let has : ℕ → Bool = λ k. not (is_empty (below p f k)) in
      let later = list_all has (from (suc (suc i)) (j - suc (suc i))) in
      let rest = raw p f (suc (suc i)) (j - suc (suc i)) in
      let whole = below p f (suc i) ++ rest in
      let more : j - suc i ≡ suc (j - suc (suc i)) = omega arith in
      let (full, clean) = and_yes (has (suc i) && later) (not (dirty seen (squeeze whole))) (sym (λ d. list_all has (from (suc i) (more d)) && not (dirty seen (squeeze (raw p f (suc i) (more d))))) ∙ e) in
      let (r, q) = squeeze-before (below p f (suc i)) rest in
      yes_and later (not (dirty seen (squeeze rest))) (and_yes (has (suc i)) later full).1
      (yes-not (dirty seen (squeeze rest)) (clean_parts seen r (squeeze rest) (sym (ap (dirty seen) q) ∙ not-true (dirty seen (squeeze whole)) clean)).1)

  -- and so may the lists of all larger i
  allowed_later : (k a : ℕ) {i : ℕ} → a + k ≡ i → i < j → allowed p seen f a j ≡ true → allowed p seen f i j ≡ true
  allowed_later zero a {i} z h e = let y : a ≡ i = omega arith in ap (λ (n : ℕ). allowed p seen f n j) (sym y) ∙ e
  allowed_later (suc k) a z h e = allowed_later k (suc a) (omega arith) h (allowed_next a (omega arith) e)

-- ---- a pair of positions, whose list is put on a new frontier
module _ {p : Plan} {s : State} {v : Frontier} (sane : EntriesBelow200 p) (fr : HoldsFrontier s v) (i j : ℕ) (two : i + 2 ≤ j) (inside : j < v.len) where
  -- the frontier
  abbrev f : List ℕ
  f = s.frontier

  -- the new frontier
  abbrev new : ℕ → List ℕ
  new a = replaced f a j (listed p f a j)

  -- j is a position
  within : j < length f
  within = let e = fr.rep.len in omega arith

  module _ {k : ℕ} (above : k ≡ suc i) (r : Result ℕ ℕ) {at marks : List ℕ} (is : lent_frontier r at marks ≡ listing p v.at k j (empty_frontier v.marks)) where
    -- it fails: no pair with this j and no larger i is eligible
    pub tested_none : is_ok r ≡ false → Tested p s i j None
    unfolding eligible dirty
    tested_none off a h = go (eligible p s a j) refl
      where
        go : (b : Bool) → eligible p s a j ≡ b → b ≡ false
        go false e = refl
        go true e =
            let good = allowed_later p s.seen f j (i - a) a (omega arith) (omega arith) (and_yes (allowed p s.seen f a j) (chordless p (new a)) e).0 in
            ⊎_elim (λ w. both (is_ok r) (ap (λ (u : Frontier). u.ok) (list-is p v i j above r is) ∙ w.0.rep.ok) off) (λ w. both (allowed p s.seen f i j) good w.1) (comes p sane s v fr i j)

    -- it is whole: there is room for the new frontier, and the pair is eligible where that has no chord
    pub tested_some : {q : ℕ} → r ≡ Ok q → {w : Frontier} → w ≡ run.frontier_replaced (empty_frontier marks) v.at v.len k j at q → (w.ok ≡ true) × (not (not (chordless p (take w.len w.at))) ≡ eligible p s i j)
    unfolding eligible dirty zero_padded
    tested_some on {w} put =
        let same = new-is p v i j above r is on put in
        ⊎_elim
        (λ g.
        let h = new_rep p sane s v fr i j two within g.0 in (
          ap (λ (u : Frontier). u.ok) same ∙ h.ok,
          not-not (chordless p (take w.len w.at))
              ∙ (λ d. chordless p (take (same d).len (same d).at))
              ∙ (λ d. chordless p (take (h.len d) (h.at d)))
              ∙ ap (chordless p) (take_at (new i) (zeros (512 - length (new i))) (length (new i)) refl)
              ∙ sym (ap (λ (b : Bool). b && chordless p (new i)) g.1),
        ))
        (λ g. both (is_ok r) (ap is_ok on) (ap (λ (u : Frontier). u.ok) (list-is p v i j above r is) ∙ g.0))
        (comes p sane s v fr i j)
