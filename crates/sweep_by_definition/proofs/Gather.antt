-- The engine's list of a pair of positions is the model's, or it failed and the model's may not be put on the frontier.
use Prim.Native.Nat.{ℕ, zero, suc, ◌-◌}
use mathlib.Core.Path.{◌≡◌, refl, ap, sym, ◌∙◌, subst}
use mathlib.Core.Logic.{◌⊎◌, inl, inr, ⊎_elim}
use mathlib.Core.List.{List, [], ◌++◌, map, append_assoc, append-nil}
use mathlib.Core.Bool.{Bool, true, false, cond, not, ◌&&◌, and-false}
use native.Mathlib.Omega.{arith}
use Rattle.std.specs.Prelude.{fold}
use Rattle.std.specs.List.{list_all}
use Rattle.lists.specs.Tests.{is_empty, member}
use Rattle.lists.specs.Ranges.{from}
use Rattle.lists.specs.Parts.{flatten, squeeze}
use Rattle.lists.specs.Spans.{zero_padded}
use Rattle.lists.specs.Folds.{each}
use Rattle.model.specs.Plan.{Plan}
use Rattle.model.specs.Sweep.{State, below, listed}
use Rattle.sweep_frontier.specs.Held.{EntriesBelow200, Marks, HoldsFrontier}
use Rattle.sweep_frontier.specs.Frontiers.{Frontier, frontier_of, empty_frontier}
use Rattle.sweep_frontier.proofs.Fails.{each-kept}
use Rattle.sweep_frontier.proofs.Under.{small-below, below-zero_padded}
use Rattle.sweep_by_definition.specs.Lists.{failed, added, below_added, listing}
use Rattle.sweep_by_definition.proofs.Moves.{below-off}
use Rattle.sweep_by_definition.proofs.Dirt.{dirty}
use Rattle.sweep_by_definition.proofs.Adding.{Good, dirty-more, all_come}

-- where the test passes v is the list l, gathered whole, and where it does not pass v failed
abbrev pub Whole : List ℕ → Frontier → List ℕ → Bool → Type 0
Whole seen v l t = (Good seen v l × (t ≡ true)) ⊎ ((v.ok ≡ false) × (t ≡ false))

module _ (p : Plan) (f : List ℕ) where
  -- a list that failed stays failed over several positions
  each-off : (a k : ℕ) (v : Frontier) → v.ok ≡ false → (each (below_added p f) a k v).ok ≡ false
  each-off a k v o = ap (λ (w : Frontier). w.ok) (each-kept (below_added p f) (below-off p f) a k v o) ∙ o

  -- something is below the position
  abbrev has : ℕ → Bool
  has k = not (is_empty (below p f k))

  -- what is below the k positions from a on
  abbrev pub raw : ℕ → ℕ → List ℕ
  raw a k = flatten (map (below p f) (from a k))

  module _ (s : EntriesBelow200 p) (seen : List ℕ) where
    -- the k positions from a on, after what is below the positions before
    abbrev Gathers : ℕ → ℕ → Frontier → List ℕ → Type 0
    Gathers a k v l = Whole seen v (squeeze (l ++ raw a k)) (list_all has (from a k) && not (dirty seen (squeeze (l ++ raw a k))))

    -- are gathered
    gathers : (a k : ℕ) (v : Frontier) (l : List ℕ) → Good seen v (squeeze l) → Gathers a k (each (below_added p f) a k v) l
    unfolding each failed below_added
    gathers a zero v l g = subst (λ (m : List ℕ). Whole seen v (squeeze m) (not (dirty seen (squeeze m)))) (sym (append-nil l)) (inl (g, ap not g.clean))
    gathers a (suc k) v l g =
        subst (λ (b : Bool). Gathers a (suc k) (each (below_added p f) (suc a) k (cond b (cond (is_empty (below p f a)) (failed v) (fold added v (below p f a))) v)) l) (sym g.rep.ok) (go (gathers (suc a) k) (is_empty (below p f a)) refl)
      where
        lift : is_empty (below p f a) ≡ false → (w : Frontier) → Gathers (suc a) k w (l ++ below p f a) → Gathers a (suc k) w l
        lift e w h =
            subst (λ (t : Bool). Whole seen w (squeeze (l ++ raw a (suc k))) ((not t && list_all has (from (suc a) k)) && not (dirty seen (squeeze (l ++ raw a (suc k)))))) (sym e)
            (subst (λ (m : List ℕ). Whole seen w (squeeze m) (list_all has (from (suc a) k) && not (dirty seen (squeeze m)))) (append_assoc l (below p f a) (raw (suc a) k)) h)

        go : ((w : Frontier) (m : List ℕ) → Good seen w (squeeze m) → Gathers (suc a) k (each (below_added p f) (suc a) k w) m) → (t : Bool) → is_empty (below p f a) ≡ t
            → Gathers a (suc k) (each (below_added p f) (suc a) k (cond t (frontier_of false v.len v.at v.marks) (fold added v (below p f a)))) l
        go more true e = inr (each-off (suc a) k (frontier_of false v.len v.at v.marks) refl, rw e)
        go more false e =
            let w = fold added v (below p f a) in
            let m = l ++ below p f a in
            lift e (each (below_added p f) (suc a) k w)
            (⊎_elim
            (λ h. more w m h)
            (λ h. inr (each-off (suc a) k w h.0, ap (λ (b : Bool). list_all has (from (suc a) k) && not b) (dirty-more seen m (raw (suc a) k) h.1) ∙ and-false (list_all has (from (suc a) k))))
            (all_come seen v l (below p f a) (small-below p f s a) g))

-- ---- the list of i and j, from the array that holds the frontier
-- a fresh list is clean
pub fresh_good : (seen m : List ℕ) → Marks m (λ (c : ℕ). member c seen) → Good seen (empty_frontier m) []
unfolding empty_frontier zero_padded dirty
fresh_good seen m k = record { rep = record { ok = refl; len = refl; at = refl; short = omega arith }; marks = k; small = tt; clean = refl }

-- each position between i and j has something below, and the list may be put on the frontier
abbrev pub allowed : Plan → List ℕ → List ℕ → ℕ → ℕ → Bool
allowed p seen f i j = list_all (has p f) (from (suc i) (j - suc i)) && not (dirty seen (listed p f i j))

-- the engine's list
abbrev pub list : Plan → Frontier → ℕ → ℕ → Frontier
list p v i j = listing p v.at (suc i) j (empty_frontier v.marks)

-- It is the model's where that is allowed, and it failed where that is not
pub comes : (p : Plan) (sane : EntriesBelow200 p) (s : State) (v : Frontier) (fr : HoldsFrontier s v) (i j : ℕ) → Whole s.seen (list p v i j) (listed p s.frontier i j) (allowed p s.seen s.frontier i j)
unfolding listing listed below_added
comes p sane s v fr i j =
    let f = s.frontier in
    let same : below_added p v.at ≡ below_added p f = λ d k w. let b = (ap (λ (a : List ℕ). below p a k) fr.rep.at ∙ below-zero_padded p f k) d in cond w.ok (cond (is_empty b) (failed w) (fold added w b)) w in
    subst (λ (step : ℕ → Frontier → Frontier). Whole s.seen (each step (suc i) (j - suc i) (empty_frontier v.marks)) (listed p f i j) (allowed p s.seen f i j)) (sym same)
    (gathers p f sane s.seen (suc i) (j - suc i) (empty_frontier v.marks) [] (fresh_good s.seen v.marks fr.marks))
