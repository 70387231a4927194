-- The engine's steps are the model's, from the first frontier until the sweep is finished or stuck.
use Prim.Native.Nat.{ℕ, suc, ◌+◌, ◌-◌, ◌≤◌, ◌<◌}
use mathlib.Core.Path.{◌≡◌, refl, sym, ap, ◌∙◌, subst}
use mathlib.Core.List.{List}
use mathlib.Core.Bool.{Bool, true, false, cond, not}
use native.Mathlib.Omega.{arith}
use lib.ListN.{length}
use borrow.Author.Tests.{not-true, not-false}
use Rattle.std.specs.Prelude.{Option, Some, None, Result, Ok, is_ok}
use Rattle.lists.specs.Spans.{stretch, span, zero_padded}
use Rattle.model.specs.Outcome.{Outcome, accepted, refused, mapped, ◌>>=◌}
use Rattle.model.specs.Plan.{Plan, context_count, ring}
use Rattle.model.specs.Sweep.{State, first_state, listed, finished, finish, eligible, choose, choices, advance, sweep_from}
use Rattle.model.specs.SweepStates.{Chosen}
use Rattle.model.proofs.Choices.{chosen}
use Rattle.sweep_frontier.specs.declared.Frontier as held
use Rattle.sweep_frontier.specs.Frontiers.{Frontier, lent_frontier, whole, empty_frontier}
use Rattle.sweep_frontier.specs.Held.{EntriesBelow200, HoldsFrontier}
use Rattle.sweep_frontier.proofs.Holding.{stretch-all}
use Rattle.sweep_ends.specs.Ends.{first_frontier, unfinished}
use Rattle.sweep_ends.proofs.Beginning.{first-frontier}
use Rattle.sweep_ends.proofs.Finishing.{open_is}
use Rattle.sweep_by_definition.specs.Lists.{listing, frontier_replaced}
use Rattle.sweep_by_definition.proofs.Adding.{Good}
use Rattle.sweep_by_definition.proofs.Gather.{list}
use Rattle.sweep_by_definition.proofs.Pairs.{list-is, new-is, gathered, next-front}
use Rattle.sweep_labelling.specs.Labelling.{first_labels, step_labels, finish_labels, Labelled}
use Rattle.sweep_labelling.proofs.Frontiers.{first_labelled, step_labelled, finish_labelled}
use Rattle.sweep_by_definition.specs.Search.{found_as}
use Rattle.sweep_labelling.specs.Labelling.{swept}
use Rattle.sweep_by_definition.specs.Steps.{Taken, Takes, Running}

-- ---- a step
module _ {p : Plan} (sane : EntriesBelow200 p) {s : State} {v : Frontier} (fr : HoldsFrontier s v) (i j : ℕ) (two : i + 2 ≤ j) (inside : j < v.len) (good : eligible p s i j ≡ true) where
  -- j is a position
  within : j < length s.frontier
  within = let e = fr.rep.len in omega arith

  -- the list is gathered whole
  whole_list : Good s.seen (list p v i j) (listed p s.frontier i j)
  whole_list = gathered p sane s v fr i j two within good

  module _ {k : ℕ} (next : k ≡ suc i) (r : Result ℕ ℕ) {at marks : List ℕ} (is : lent_frontier r at marks ≡ listing p v.at k j (empty_frontier v.marks)) where
    -- the code's does not fail
    pub step-whole : is_ok r ≡ true
    step-whole = ap (λ (u : Frontier). u.ok) (list-is p v i j next r is) ∙ whole_list.rep.ok

    -- the labels
    pub step-labels : {q : ℕ} → r ≡ Ok q → {ls : List ℕ} → Labelled p s ls → Labelled p (advance p s i j) (step_labels p v.at at q i j ls)
    step-labels {q} on h =
        let l = listed p s.frontier i j in
        let size : length l - 0 ≡ length l = omega arith in
        let same = ap (λ (r : Result ℕ ℕ). lent_frontier r at marks) (sym on) ∙ list-is p v i j next r is in
        step_labelled p h fr.rep.at at q i j two within
        (ap (λ (u : Frontier). span u.at 0 u.len) same ∙ (λ d. span (whole_list.rep.at d) 0 (whole_list.rep.len d)) ∙ ap (stretch (zero_padded 512 l) 0) size ∙ stretch-all l)

    -- the frontier
    pub step-front : {q : ℕ} → r ≡ Ok q → {w : Frontier} → w ≡ frontier_replaced (empty_frontier marks) v.at v.len k j at q → HoldsFrontier (advance p s i j) w
    step-front on put = subst (HoldsFrontier (advance p s i j)) (sym (new-is p v i j next r is on put)) (next-front p sane s v fr i j two within good)

-- ---- the steps
-- before the first step
pub running_start : {p : Plan} {n : ℕ} {v : held.Frontier} {ls : List ℕ} → EntriesBelow200 p → length (ring p 0) ≤ 255 → n ≡ context_count p → whole v ≡ first_frontier p → ls ≡ first_labels p v.at v.len → Running p n v ls
unfolding swept
running_start {p} sane long e q w =
    let front = subst (HoldsFrontier (first_state p)) (sym q) (first-frontier p sane long) in
    record {
      state = first_state p;
      front = front;
      labels = subst (Labelled p (first_state p)) (sym w) (first_labelled p front.rep.at front.rep.len);
      same = ap (λ (k : ℕ). sweep_from p k (first_state p)) (sym e);
    }

module _ {p : Plan} (sane : EntriesBelow200 p) {k : ℕ} {v : held.Frontier} {ls : List ℕ} (inv : Running p k v ls) where
  -- the state
  abbrev s : State
  s = inv.state

  -- its frontier
  abbrev f : List ℕ
  f = s.frontier

  -- what is found is what the model chooses
  abbrev Chooses : Option (ℕ × ℕ) → Type 0
  Chooses found = (s : State) → EntriesBelow200 p × HoldsFrontier s (whole v) → found_as found ≡ choose p s (choices s.frontier)

  -- of this state
  chosen_here : (found : Option (ℕ × ℕ)) → Chooses found → found_as found ≡ choose p s (choices f)
  chosen_here found e = e s (sane, inv.front)

  -- the finishing test
  is-finished : {t : Bool} → t ≡ unfinished p v.at v.len → not (finished p f) ≡ t
  is-finished e = sym (open_is p s (whole v) inv.front) ∙ sym e

  -- the steps after a pair, with n to go
  abbrev after : ℕ → Outcome (ℕ × ℕ) → Outcome (List ℕ)
  after n o = o >>= (λ (c : ℕ × ℕ). sweep_from p n (advance p s c.0 c.1))

  -- what is left of the sweep, one step taken apart
  step : {k' : ℕ} → k ≡ suc k' → {t : Bool} → finished p f ≡ t → {o : Outcome (ℕ × ℕ)} → choose p s (choices f) ≡ o → swept p ≡ cond t (accepted (finish p s)) (after k' o)
  unfolding sweep_from
  step {k'} z on e = inv.same ∙ ap (λ (n : ℕ). sweep_from p n s) z ∙ (λ d. cond (on d) (accepted (finish p s)) (after k' (e d)))

  -- the sweep is finished
  pub running_done : {t : Bool} {b : List ℕ} → 0 < k → t ≡ unfinished p v.at v.len → not t ≡ true → b ≡ finish_labels p v.at v.len ls → accepted b ≡ mapped (zero_padded 1186) (swept p)
  running_done {t} h w u e =
      let z : k ≡ suc (k - 1) = omega arith in
      ap {B = Outcome (List ℕ)} (λ (l : List ℕ). accepted l) (e ∙ finish_labelled p inv.labels inv.front.rep.at inv.front.rep.len)
      ∙ sym (ap (mapped (zero_padded 1186)) (step z (not-false (finished p f) (is-finished w ∙ not-true t u)) refl))

  -- no pair is eligible
  pub running_stuck : (found : Option (ℕ × ℕ)) {t : Bool} → 0 < k → t ≡ unfinished p v.at v.len → not t ≡ false → Chooses found → found ≡ None → refused 14 0 ≡ mapped (zero_padded 1186) (swept p)
  unfolding found_as
  running_stuck found {t} h w u e q =
      let z : k ≡ suc (k - 1) = omega arith in
      sym (ap (mapped (zero_padded 1186)) (step z (not-true (finished p f) (is-finished w ∙ not-false t u)) (sym (chosen_here found e) ∙ ap found_as q)))

  module _ {i j : ℕ} (found : Option (ℕ × ℕ)) (chose : Chooses found) (at : found ≡ Some (i, j)) where
    -- the pair is the one that the model takes
    e : choose p s (choices f) ≡ accepted (i, j)
    unfolding found_as
    e = sym (chosen_here found chose) ∙ ap found_as at

    -- the largest that is eligible
    taken : Chosen p s i j
    taken = chosen p s i j e

    -- j is inside the frontier
    pub found_inside : (i + 2 ≤ j) × (j < v.len) × (i < 512) × (j < 512)
    found_inside =
        let a = taken.positions.apart in
        let b = taken.positions.inside in
        let c = inv.front.rep.short in
        let d = inv.front.rep.len in
        omega arith

    module _ (r : Option held.Frontier) (b : List ℕ) (takes : Takes p v ls i j b r) where
      -- the step is that of this state
      stepped : Taken p s i j b r
      stepped = takes s inv.front inv.labels found_inside.0 found_inside.1 taken.fits

      -- there is a new frontier
      pub running-whole : r ≡ None → ⊥
      running-whole none = subst (Taken p s i j b) none stepped

      -- a step
      pub running_on : {t : Bool} {k' : ℕ} {next : held.Frontier} → k ≡ suc k' → t ≡ unfinished p v.at v.len → not t ≡ false → r ≡ Some next → Running p k' next b
      running_on {t} z w u some =
          let (front, labels) = subst (Taken p s i j b) some stepped in
          record { state = advance p s i j; front = front; labels = labels; same = step z (not-true (finished p f) (is-finished w ∙ not-false t u)) e }

  -- no step is left
  pub running_out : k ≡ 0 → refused 14 0 ≡ mapped (zero_padded 1186) (swept p)
  unfolding sweep_from
  running_out z = sym (ap (mapped (zero_padded 1186)) (inv.same ∙ ap (λ (n : ℕ). sweep_from p n s) z))
