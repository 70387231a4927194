-- The sweep with counters is the sweep, for every plan that keeps the rules.
use Prim.Native.Nat.{ℕ, zero, suc, ◌-◌, min}
use mathlib.Core.Path.{◌≡◌, refl, sym, ap, ◌∙◌, subst}
use mathlib.Core.List.{List, [], ◌∷◌, Memᴰ}
use mathlib.Core.Bool.{Bool, true, false, cond}
use native.Mathlib.Omega.{arith}
use lib.ListN.{length}
use Rattle.lists.specs.Tests.{same_list}
use Rattle.lists.specs.Ranges.{from}
use Rattle.lists.specs.Spans.{zeros}
use Rattle.lists.proofs.Bools.{both}
use Rattle.lists.proofs.Tests.{list_all_of, same-eq}
use Rattle.lists.proofs.Ranges.{from-mem}
use Rattle.model.specs.Outcome.{Outcome, accepted, refused, ◌>>=◌}
use Rattle.model.specs.Plan.{Plan, context_count, border, south}
use Rattle.model.specs.Sound.{Sound}
use Rattle.model.specs.Sweep.{State, first_state, below, listed, chordless, finished, finish, eligible, choices, choose, advance, sweep_from}
use Rattle.model.specs.SweepStates.{Positions, Chosen, first, further}
use Rattle.model.proofs.Choices.{chosen, none_chosen}
use Rattle.model.proofs.Eligible.{eligible_clear}
use Rattle.sweep_theory.specs.Quick.{resume}
use Rattle.sweep_theory.specs.Counter.{counted, pick_by, settled, count_from, count_sweep}
use Rattle.sweep_theory.specs.Ready.{Ready}
use Rattle.sweep_theory.proofs.Frontiers.{flat, first_chord, clean}
use Rattle.sweep_theory.proofs.Candidates.{open_two}
use Rattle.sweep_theory.proofs.Limits.{limit_on}
use Rattle.sweep_theory.proofs.Local.{local-listed}
use Rattle.sweep_theory.proofs.Picks.{Picked, Said, said, pick_enough, next_clean}
use Rattle.sweep_theory.proofs.Tells.{pick_same, tells_on, tells_first}

-- A STATE WITH AN ELIGIBLE PAIR IS NOT FINISHED, on any plan
pub unfinished : (p : Plan) (s : State) (i j : ℕ) → Positions s i j → eligible p s i j ≡ true → finished p s.frontier ≡ false
unfolding finished
unfinished p s i j o e = go (finished p s.frontier) refl
  where
    go : (t : Bool) → finished p s.frontier ≡ t → t ≡ false
    go false q = refl
    go true q =
        let a = o.apart in
        let b = o.inside in
        let f = s.frontier in
        let y : Memᴰ (suc i) (from 1 (length f - 2)) = from-mem 1 (length f - 2) (suc i) (omega arith) (omega arith) in
        let x : below p f (suc i) ≡ south ∷ [] = same-eq (below p f (suc i)) (south ∷ []) (list_all_of (λ (k : ℕ). same_list (below p f k) (south ∷ [])) (from 1 (length f - 2)) q (suc i) y) in
        let m : Memᴰ south (below p f (suc i)) = subst (Memᴰ south) (sym x) (Memᴰ.head refl) in
        both (border south) refl (eligible_clear p s i j o e (suc i) south (omega arith) (omega arith) m).inner

module _ (p : Plan) (rules : Sound p) where
  pub ready_first : Ready p (cond (chordless p (first_state p).frontier) (length (first_state p).frontier) 0) (counted p (first_state p).frontier (zeros (context_count p))) (first_state p)
  ready_first = go (chordless p f) refl
    where
      f : List ℕ
      f = (first_state p).frontier

      go : (t : Bool) → chordless p f ≡ t → Ready p (cond t (length f) 0) (counted p f (zeros (context_count p))) (first_state p)
      go true e = record { reached = first; limits = λ i j o q. o.inside; clean = λ z. e; tells = tells_first p rules }
      go false e = record { reached = first; limits = λ i j o q. both (eligible p (first_state p) i j) q (first_chord p rules e i j o); clean = λ z. absurd (omega arith); tells = tells_first p rules }

  module _ (limit : ℕ) (cnt : List ℕ) (s : State) (r : Ready p limit cnt s) where
    abbrev n : ℕ
    n = min limit (length s.frontier)

    -- THE PAIR THAT IS PICKED BY COUNTERS IS THE ONE THAT THE SWEEP TAKES
    pub picked : pick_by cnt p s n ≡ choose p s (choices s.frontier)
    picked = pick_same p rules s cnt r.tells n ∙ pick_enough p rules s r.reached limit r.limits r.clean

    module _ (d : ℕ × ℕ) (e : pick_by cnt p s n ≡ accepted d) where
      pub picked_chosen : Chosen p s d.0 d.1
      picked_chosen = chosen p s d.0 d.1 (sym picked ∙ e)

      pub picked_unfinished : finished p s.frontier ≡ false
      picked_unfinished = unfinished p s d.0 d.1 picked_chosen.positions picked_chosen.fits

      -- its list is what is below the position before j
      pub picked_listed : listed p s.frontier d.0 d.1 ≡ below p s.frontier (d.1 - 1)
      picked_listed =
          let c = picked_chosen in
          let h : Picked p s n d = subst (Said p s n) (sym (pick_same p rules s cnt r.tells n) ∙ e) (said p s n) in
          let no_chord = clean p rules s r.reached d.0 d.1 c.positions c.fits in
          ap (λ (v : ℕ). listed p s.frontier v d.1) h.left ∙ local-listed p rules s (flat p rules s r.reached) no_chord d.1 (open_two p s.frontier d.1 h.opened) c.positions.inside h.passes

      pub ready_on : Ready p (resume p s d.0 d.1) (counted p (below p s.frontier (d.1 - 1)) cnt) (advance p s d.0 d.1)
      ready_on =
          let c = picked_chosen in
          let u = picked_unfinished in
          record {
            reached = further s d.0 d.1 r.reached u c;
            limits = limit_on p rules s r.reached u d.0 d.1 c;
            clean = λ z. next_clean p s d.0 d.1 c;
            tells = tells_on p rules s cnt d.0 d.1 r.reached c r.tells picked_listed;
          }

  -- ---- the steps, with counters and without
  abbrev by_count : ℕ → List ℕ → State → Outcome (ℕ × ℕ) → Outcome (List ℕ)
  by_count fuel cnt s o =
      let none = cond (finished p s.frontier) (accepted (finish p s)) (refused 14 0) in
      settled (λ (d : ℕ × ℕ). count_from p fuel (resume p s d.0 d.1) (counted p (below p s.frontier (d.1 - 1)) cnt) (advance p s d.0 d.1)) none o

  abbrev by_model : ℕ → State → Outcome (ℕ × ℕ) → Outcome (List ℕ)
  by_model fuel s o = cond (finished p s.frontier) (accepted (finish p s)) (o >>= λ (d : ℕ × ℕ). sweep_from p fuel (advance p s d.0 d.1))

  abbrev Same : ℕ → Type 0
  Same fuel = (limit : ℕ) (cnt : List ℕ) (s : State) → Ready p limit cnt s → count_from p fuel limit cnt s ≡ sweep_from p fuel s

  count-from : (fuel : ℕ) → Same fuel
  unfolding count_from sweep_from settled
  count-from zero limit cnt s r = refl
  count-from (suc fuel) limit cnt s r = go (pick_by cnt p s (min limit (length s.frontier))) refl (count-from fuel) ∙ ap (by_model fuel s) (picked limit cnt s r)
    where
      go : (o : Outcome (ℕ × ℕ)) → pick_by cnt p s (min limit (length s.frontier)) ≡ o → Same fuel → by_count fuel cnt s o ≡ by_model fuel s o
      go (refused a b) e rest =
          let (x, y, none) = none_chosen p s a b (sym (picked limit cnt s r) ∙ e) in
          λ i. cond (finished p s.frontier) (accepted (finish p s)) (refused (sym x i) (sym y i))
      go (accepted d) e rest =
          rest (resume p s d.0 d.1) (counted p (below p s.frontier (d.1 - 1)) cnt) (advance p s d.0 d.1) (ready_on limit cnt s r d e)
          ∙ ap (λ (b : Bool). cond b (accepted (finish p s)) (sweep_from p fuel (advance p s d.0 d.1))) (sym (picked_unfinished limit cnt s r d e))

  -- THE SWEEP WITH COUNTERS IS THE SWEEP
  pub count-sweep : count_sweep p ≡ sweep_from p (context_count p) (first_state p)
  unfolding count_sweep
  count-sweep = count-from (context_count p) (cond (chordless p (first_state p).frontier) (length (first_state p).frontier) 0) (counted p (first_state p).frontier (zeros (context_count p))) (first_state p) ready_first
