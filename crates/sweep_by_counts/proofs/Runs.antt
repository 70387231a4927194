-- The steps that the code takes are those of the sweep.
use Prim.Native.Nat.{ℕ, suc, ◌+◌, ◌-◌, ◌≤◌, ◌<◌, min}
use mathlib.Core.Path.{◌≡◌, sym, ap, ◌∙◌, subst}
use mathlib.Core.List.{List}
use mathlib.Core.Bool.{Bool, true, false, cond}
use native.Mathlib.Omega.{arith}
use lib.ListN.{length, take}
use lib.Seq.{length-take-le}
use Rattle.std.specs.Prelude.{Option, Some, None}
use Rattle.model.specs.Outcome.{Outcome, accepted, refused, mapped, ◌>>=◌}
use Rattle.model.specs.Plan.{Plan}
use Rattle.model.specs.Sound.{Sound}
use Rattle.model.specs.Sweep.{State, finished, finish, below, listed, advance, sweep_from}
use Rattle.model.specs.SweepStates.{Chosen}
use Rattle.sweep_labelling.specs.Labelling.{swept}
use Rattle.lists.specs.Spans.{zero_padded}
use Rattle.sweep_theory.specs.Quick.{landing, reach, resume}
use Rattle.sweep_theory.specs.Counter.{pick_by, counted}
use Rattle.sweep_theory.specs.Ready.{Ready}
use Rattle.sweep_theory.proofs.CountSweep.{picked, picked_chosen, picked_unfinished, picked_listed, ready_on}
use Rattle.sweep_by_counts.specs.declared.course.Course.{Course}
use Rattle.sweep_by_counts.specs.declared.pick.Found.{Found}
use Rattle.sweep_by_counts.specs.Courses.{HoldsState}
use Rattle.sweep_by_counts.specs.Moves.{Steps}
use Rattle.sweep_by_counts.specs.Picks.{picked_as, Listed}
use Rattle.sweep_by_counts.specs.Running.{RunningBelow, TakesFound, Settles}

module _ {p : Plan} (rules : Sound p) where
  -- ---- the search
  module _ {k limit : ℕ} {v : Course} (r : RunningBelow p (suc k) limit v) where
    abbrev s : State
    s = r.state

    abbrev n : ℕ
    n = min limit (length s.frontier)

    -- what is left of the sweep
    left : swept p ≡ cond (finished p s.frontier) (accepted (finish p s)) (pick_by r.counters p s n >>= (λ (c : ℕ × ℕ). sweep_from p k (advance p s c.0 c.1)))
    unfolding sweep_from
    left = r.same ∙ ap (λ (o : Outcome (ℕ × ℕ)). cond (finished p s.frontier) (accepted (finish p s)) (o >>= (λ (c : ℕ × ℕ). sweep_from p k (advance p s c.0 c.1)))) (sym (picked p rules limit r.counters s r.ready))

    -- what is found is the model's
    abbrev Finds : Option Found → Type 0
    Finds found = (t : State) (cnt : List ℕ) → HoldsState p t cnt v → picked_as found ≡ pick_by cnt p t (min limit (length t.frontier))

    -- nothing is found
    pub settles : (found : Option Found) → Finds found → found ≡ None → Settles p v
    unfolding picked_as
    settles found e none =
        record {
          state = s;
          counters = r.counters;
          holds = r.holds;
          same = left ∙ ap (λ (o : Outcome (ℕ × ℕ)). cond (finished p s.frontier) (accepted (finish p s)) (o >>= (λ (c : ℕ × ℕ). sweep_from p k (advance p s c.0 c.1)))) (sym (e s r.counters r.holds) ∙ ap picked_as none);
        }

    -- a pair is found, and its list put in an array
    pub takes : (found : Option Found) {d : Found} {array : List ℕ} → Finds found → ((t : State) (cnt : List ℕ) → HoldsState p t cnt v → Listed p t.frontier array found) → found ≡ Some d → TakesFound p k v array d
    unfolding picked_as
    takes found {array = array} e l some =
        record { limit = limit; running = r; picked = sym (e s r.counters r.holds) ∙ ap picked_as some; lists = subst (Listed p s.frontier array) some (l s r.counters r.holds) }

  -- no step is left
  pub run_out : {limit : ℕ} {v : Course} → RunningBelow p 0 limit v → refused 14 0 ≡ mapped (zero_padded 1186) (swept p)
  unfolding sweep_from
  run_out r = sym (ap (mapped (zero_padded 1186)) r.same)

  -- ---- a step
  module _ {k : ℕ} {v : Course} {array : List ℕ} {d : Found} (t : TakesFound p k v array d) where
    abbrev st : State
    st = t.running.state

    abbrev cs : List ℕ
    cs = t.running.counters

    abbrev i : ℕ
    i = d.i

    abbrev j : ℕ
    j = d.j

    -- its list, as it stands in the array
    abbrev l : List ℕ
    l = take d.q array

    -- the model takes it
    chosen : Chosen p st i j
    chosen = picked_chosen p rules t.limit cs st t.running.ready (i, j) t.picked

    -- its list is what is below the position before j
    own-list : listed p st.frontier i j ≡ below p st.frontier (j - 1)
    own-list = picked_listed p rules t.limit cs st t.running.ready (i, j) t.picked

    -- where it stands
    pub take_inside : (i + 2 ≤ j) × (j < length st.frontier) × (length st.frontier ≤ 512) × (v.frontier.len ≡ length st.frontier)
    take_inside = (chosen.positions.apart, chosen.positions.inside, t.running.holds.front.rep.short, t.running.holds.front.rep.len)

    -- the arrays can take it
    pub take_steps : Steps p st cs v l i j
    take_steps = record { holds = t.running.holds; apart = chosen.positions.apart; inside = chosen.positions.inside; fits = chosen.fits; list = t.lists.same ∙ sym own-list }

    -- where the search goes on
    pub take_resumes : {limit : ℕ} → d.q ≤ length array → limit ≡ suc (suc (reach p (advance p st i j).frontier (i + 1 + d.q))) → limit ≡ resume p st i j
    unfolding resume landing
    take_resumes room z =
        let at : i + 1 + d.q ≡ suc i + length (listed p st.frontier i j) = omega (arith, sym (length-take-le d.q array room) ∙ ap length (t.lists.same ∙ sym own-list)) in
        z ∙ ap (λ (n : ℕ). suc (suc (reach p (advance p st i j).frontier n))) at

    -- what the sweep has come to afterwards
    pub take_runs : {limit : ℕ} {w : Course} → HoldsState p (advance p st i j) (counted p l cs) w → limit ≡ resume p st i j → RunningBelow p k limit w
    unfolding sweep_from
    take_runs {limit} {w} h z =
        let on = picked_unfinished p rules t.limit cs st t.running.ready (i, j) t.picked in
        record {
          state = advance p st i j;
          counters = counted p (below p st.frontier (j - 1)) cs;
          holds = subst (λ (m : List ℕ). HoldsState p (advance p st i j) (counted p m cs) w) t.lists.same h;
          ready = subst (λ (x : ℕ). Ready p x (counted p (below p st.frontier (j - 1)) cs) (advance p st i j)) (sym z) (ready_on p rules t.limit cs st t.running.ready (i, j) t.picked);
          same =
              left t.running
              ∙ ap (λ (b : Bool). cond b (accepted (finish p st)) (pick_by cs p st (min t.limit (length st.frontier)) >>= (λ (c : ℕ × ℕ). sweep_from p k (advance p st c.0 c.1)))) on
              ∙ ap (λ (o : Outcome (ℕ × ℕ)). o >>= (λ (c : ℕ × ℕ). sweep_from p k (advance p st c.0 c.1))) t.picked;
        }

-- ---- no step can be taken
module _ {p : Plan} {v : Course} (t : Settles p v) where
  -- the sweep is finished
  pub settled_done : finished p t.state.frontier ≡ true → {b : List ℕ} → b ≡ zero_padded 1186 (finish p t.state) → accepted b ≡ mapped (zero_padded 1186) (swept p)
  settled_done e q = ap {B = Outcome (List ℕ)} (λ (l : List ℕ). accepted l) q ∙ sym (ap (mapped (zero_padded 1186)) (t.same ∙ ap (λ (b : Bool). cond b (accepted (finish p t.state)) (refused 14 0)) e))

  -- it is stuck
  pub settled_stuck : finished p t.state.frontier ≡ false → refused 14 0 ≡ mapped (zero_padded 1186) (swept p)
  settled_stuck e = sym (ap (mapped (zero_padded 1186)) (t.same ∙ ap (λ (b : Bool). cond b (accepted (finish p t.state)) (refused 14 0)) e))
