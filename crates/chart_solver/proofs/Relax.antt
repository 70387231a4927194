-- What the solver's loops keep, each with a law for its start, its steps and its end; and that what the solver leaves is the least numbers.
use Prim.Native.Nat.{ℕ, zero, suc, ◌+◌, ◌-◌, ◌*◌, ◌≤◌, ◌<◌}
use mathlib.Core.Path.{◌≡◌, refl, sym, ap, ◌∙◌, subst}
use mathlib.Core.List.{List, [], ◌∷◌, Memᴰ}
use mathlib.Core.Logic.{◌≢◌, ◌⊎◌, inl, inr}
use mathlib.Core.Bool.{Bool, true, false, cond, false≢true, true≢false}
use native.Mathlib.Omega.{arith}
use lib.ListN.{length, get_or, set, take, drop, replicate, length-set, get_or-eq_default}
use lib.Seq.{get_or-set_same, get_or-set_other, length-take-le}
use lib.Dec.{eqb}
use borrow.Author.Tests.{eqb-true, eqb-false, leb-true, le-leb, lt-leb}
use Rattle.chart_solver.proofs.Listed.{mem-listed, listed-mem, listed_small}
use Rattle.std.specs.Prelude.{Option, Some, None, is_some, unwrap_or, max, min}
use Rattle.std.specs.List.{list_all}
use Rattle.lists.proofs.Bools.{and_yes}
use Rattle.lists.proofs.Tests.{list_all_of}
use Rattle.chart_solver.specs.declared.Constraint.{Constraint as Stored}
use Rattle.chart_solver.specs.Constraints.{rise, constraint_of, constraint_at, constraints_in}
use Rattle.lists.proofs.Padded.{get_or-zeros}
use Rattle.lists.specs.Spans.{zeros}
use Rattle.model.specs.Chart.{Constraint, meets, least_numbers}
use Rattle.model.proofs.Least.{Fits, fits_low, least-is, least_refuses}
use Rattle.rings.specs.Tables.{sum_of}
use Rattle.chart_solver.specs.declared.System.{System}
use Rattle.chart_solver.specs.Relaxing.{Keeps, Raised, RaisedIn, Hopeless, MetAt, Relaxed, pass_index, Passing, Passed}
use Rattle.chart_solver.specs.Solved.{solved, numbers_of, kept_at}
use Rattle.chart_solver.proofs.Arrays.{get_or-first, zero_padded-first, sum-raise, sum-most}

-- ---- the order of a pass
pub pass_index-below : (back : Bool) (count i : ℕ) → i < count → pass_index back count i < count
unfolding pass_index
pass_index-below true count i h = omega arith
pass_index-below false count i h = h

pass_index_twice : (back : Bool) (count i : ℕ) → i < count → pass_index back count (pass_index back count i) ≡ i
unfolding pass_index
pass_index_twice true count i h = omega arith
pass_index_twice false count i h = refl

-- ---- numbers raised from 0
pub raised-start : {n : ℕ} {cs : List Constraint} {ks : List ℕ} → n ≤ 200 → ks ≡ replicate 200 0 → Raised n cs ks
unfolding zeros
raised-start {n} {cs} {ks} few e =
    let list_all : (u : ℕ) → get_or ks u 0 ≡ 0 = λ u. ap (λ (l : List ℕ). get_or l u 0) e ∙ get_or-zeros 200 u in
    record { few = few; size = ap length e; past = λ u _. list_all u; most = λ u. let z = list_all u in omega arith; under = λ d _ u. let z = list_all u in omega arith }

-- number v is set, to at most n and at most what it is among any numbers that meet the constraints
raised-set : {n : ℕ} {cs : List Constraint} {ks : List ℕ} → Raised n cs ks → (v x : ℕ) → v < n → x ≤ n → ((d : ℕ → ℕ) → Keeps n cs d → x ≤ d v) → Raised n cs (set ks v x)
raised-set {n} {cs} {ks} r v x h b low = record { few = r.few; size = length-set ks v x ∙ r.size; past = λ u k. go_past u k (at u); most = λ u. go_most u (at u); under = λ d k u. go_under d k u (at u) }
  where
    at : (u : ℕ) → ((u ≡ v) × (get_or (set ks v x) u 0 ≡ x)) ⊎ ((u ≢ v) × (get_or (set ks v x) u 0 ≡ get_or ks u 0))
    at u = go (eqb u v) refl
      where
        go : (t : Bool) → eqb u v ≡ t → ((u ≡ v) × (get_or (set ks v x) u 0 ≡ x)) ⊎ ((u ≢ v) × (get_or (set ks v x) u 0 ≡ get_or ks u 0))
        go true s = let w = eqb-true u v s in inl (w, ap (λ (j : ℕ). get_or (set ks v x) j 0) w ∙ get_or-set_same ks v x 0 (let z = r.size in let f = r.few in omega arith))
        go false s = let w = eqb-false u v s in inr (w, get_or-set_other ks v u x 0 w)

    go_past : (u : ℕ) → n ≤ u → ((u ≡ v) × (get_or (set ks v x) u 0 ≡ x)) ⊎ ((u ≢ v) × (get_or (set ks v x) u 0 ≡ get_or ks u 0)) → get_or (set ks v x) u 0 ≡ 0
    go_past u k (inl w) = let z = w.0 in absurd (omega arith)
    go_past u k (inr w) = w.1 ∙ r.past u k

    go_most : (u : ℕ) → ((u ≡ v) × (get_or (set ks v x) u 0 ≡ x)) ⊎ ((u ≢ v) × (get_or (set ks v x) u 0 ≡ get_or ks u 0)) → get_or (set ks v x) u 0 ≤ n
    go_most u (inl w) = let z = w.1 in omega arith
    go_most u (inr w) = let z = w.1 in let y = r.most u in omega arith

    go_under : (d : ℕ → ℕ) → Keeps n cs d → (u : ℕ) → ((u ≡ v) × (get_or (set ks v x) u 0 ≡ x)) ⊎ ((u ≢ v) × (get_or (set ks v x) u 0 ≡ get_or ks u 0)) → get_or (set ks v x) u 0 ≤ d u
    go_under d k u (inl w) = let z = w.1 in let s : d u ≡ d v = ap d w.0 in let y = low d k in omega arith
    go_under d k u (inr w) = let z = w.1 in let y = r.under d k u in omega arith

-- ---- one constraint
-- what the answers none and some of a flag are not
none_some : {t : Bool} → None ≡ Some t → ⊥
none_some e = absurd (false≢true (ap (λ (r : Option Bool). is_some r) e))

some_none : {t : Bool} → Some t ≡ None → ⊥
some_none e = none_some (sym e)

flag : {s t : Bool} → Some s ≡ Some t → s ≡ t
flag {s} {t} e = ap (λ (r : Option Bool). unwrap_or r s) e

abbrev nothing : Stored
nothing = record { low = 0; high = 0; gap = 0 }

module _ (s : System) (k : ℕ) {ks : List ℕ} (r : RaisedIn s ks) where
  -- it is met, and the numbers stay
  taken_met : MetAt s ks k → Relaxed s k ks ks (Some false)
  taken_met m = record { raised = r; none = λ e. absurd (some_none e); still = λ _. (refl, m); more = λ e. absurd (false≢true (flag e)) }

  -- there are not as many
  pub taken-past : length s.constraints.now ≤ k → Relaxed s k ks ks (Some false)
  unfolding constraint_at constraint_of rise
  taken-past h = taken_met (λ _. rw (get_or-eq_default s.constraints.now nothing h) (omega arith))

  module _ (h : k < length s.constraints.now) {c : Stored} (same : c ≡ get_or s.constraints.now k nothing) {v : ℕ} (top : v ≡ c.high) where
    high : v ≡ (get_or s.constraints.now k nothing).high
    high = top ∙ ap (λ (d : Stored). d.high) same

    -- it is not on one of the first n
    pub taken_off : s.n ≤ v → Relaxed s k ks ks (Some false)
    unfolding constraint_at constraint_of
    taken_off b = taken_met (λ on. let z = high in absurd (omega arith))

    module _ {due have : ℕ} (wants : due ≡ get_or ks c.low 0 + rise c.gap) (e : have ≡ get_or ks v 0) where
      asks : due ≡ get_or ks (get_or s.constraints.now k nothing).low 0 + rise (get_or s.constraints.now k nothing).gap
      asks = wants ∙ ap (λ (d : Stored). get_or ks d.low 0 + rise d.gap) same

      here : have ≡ get_or ks (get_or s.constraints.now k nothing).high 0
      here = e ∙ ap (λ (j : ℕ). get_or ks j 0) high

      -- it is met already
      pub taken_still : due ≤ have → Relaxed s k ks ks (Some false)
      unfolding constraint_at constraint_of
      taken_still b = taken_met (λ _. let z = here in let y = asks in omega arith)

      -- what it asks is at most what numbers that meet the constraints have there
      asks-under : v < s.n → (d : ℕ → ℕ) → Keeps s.n (constraints_in s.constraints.now) d → due ≤ d v
      unfolding constraint_at constraint_of
      asks-under on d keeps =
          let a = asks in
          let w = high in
          let z : d v ≡ d (get_or s.constraints.now k nothing).high = ap d w in
          let x = keeps (constraint_at s.constraints.now k) (mem-listed s.constraints.now k h) (omega arith) in
          let y = r.under d keeps (get_or s.constraints.now k nothing).low in
          omega arith

      -- its higher number would pass n
      pub taken-none : v < s.n → s.n < due → Relaxed s k ks ks None
      taken-none on b = record {
        raised = r;
        none = λ _ d keeps most.
            let a = asks-under on d keeps in
            let z = most v in
            omega arith;
        still = λ q. absurd (none_some q);
        more = λ q. absurd (none_some q);
      }

      -- its higher number is raised, but to n at most
      pub lifted : v < s.n → {x : ℕ} → x ≡ max have (min due s.n) → RaisedIn s (set ks v x)
      lifted on {x} q =
          let m = r.most v in
          raised-set r v x on (omega arith) (λ d keeps. let a = asks-under on d keeps in let y = r.under d keeps v in omega arith)

      -- its higher number is raised
      pub taken_up : v < s.n → have < due → due ≤ s.n → Relaxed s k ks (set ks v due) (Some true)
      taken_up on low b = record {
        raised = raised-set r v due on b (asks-under on);
        none = λ q. absurd (some_none q);
        still = λ q. absurd (true≢false (flag q));
        more = λ _. sum-raise ks v due (let z = r.size in let f = r.few in omega arith) (omega arith);
      }

-- ---- a pass
pub passed_end : {s : System} {back : Bool} {old ks : List ℕ} {i : ℕ} {rose : Bool} → Passing s back old ks i rose → length s.constraints.now ≤ i → Passed s old ks (Some rose)
passed_end {s} {back} {old} {ks} {i} inv b = record {
  raised = inv.raised;
  none = λ e. absurd (some_none e);
  still = λ e j h.
      let count = length s.constraints.now in
      subst (λ (l : ℕ). MetAt s ks l) (pass_index_twice back count j h) ((inv.still (flag e)).1 (pass_index back count j) (let z = pass_index-below back count j h in omega arith));
  more = λ e. inv.more (flag e);
}

-- ---- passes
-- the sum rises with each pass that goes on, and is at most 200 n
pub fewer : {n : ℕ} {cs : List Constraint} (old : List ℕ) {ks : List ℕ} → Raised n cs ks → sum_of old < sum_of ks → 200 * n - sum_of ks < 200 * n - sum_of old
fewer {n} {cs} old {ks} r h = let a = sum-most ks n r.most in let b : length ks * n ≡ 200 * n = ap (λ (j : ℕ). j * n) r.size in omega arith

module _ (s : System) where
  abbrev n : ℕ
  n = s.n

  abbrev cs : List Stored
  cs = s.constraints.now

  solved_in : n ≤ 200 → solved n (constraints_in cs) ≡ least_numbers n (constraints_in cs)
  unfolding solved
  solved_in h = rw (le-leb n 200 h)

  -- where a number would pass n there are none
  pub solved-none : n ≤ 200 → Hopeless s → None ≡ numbers_of (solved n (constraints_in cs))
  unfolding numbers_of
  solved-none h none =
      let small = listed_small cs in
      let e = least_refuses n (constraints_in cs) small (λ ds f. let r = fits_low n (constraints_in cs) small ds f in none r.low r.low_meets r.low_most) in
      ap numbers_of (sym (solved_in h ∙ e))

  -- numbers raised from 0 that meet every constraint are the least
  pub solved-found : (ks : List ℕ) → RaisedIn s ks → ((i : ℕ) → i < length cs → MetAt s ks i) → Some ks ≡ numbers_of (solved n (constraints_in cs))
  unfolding numbers_of constraint_at
  solved-found ks r m =
      let few = r.few in
      let same = get_or-first 200 n ks r.size few r.past in
      let met : (c : Constraint) → Memᴰ c (constraints_in cs) → c.high < n → get_or (take n ks) c.low 0 + c.gap ≤ get_or (take n ks) c.high 0 =
      λ c i b. let a = meets-all c i b in let x = same c.low in let y = same c.high in omega arith in
      let fits : Fits n (constraints_in cs) (take n ks) = record { for_all = length-take-le n ks (let z = r.size in omega arith); met = met } in
      let e = least-is n (constraints_in cs) (listed_small cs) (take n ks) fits (λ ds f u. let x = r.under (λ (w : ℕ). get_or ds w 0) f.met u in let y = same u in omega arith) in
      let p = zero_padded-first 200 n ks r.size few r.past in
      ap Some p ∙ sym (ap numbers_of (solved_in few ∙ e))
    where
      meets-all : (c : Constraint) → Memᴰ c (constraints_in cs) → c.high < n → get_or ks c.low 0 + c.gap ≤ get_or ks c.high 0
      meets-all c i b =
          let (k, l, e) = listed-mem cs c i in
          subst (λ (d : Constraint). get_or ks d.low 0 + d.gap ≤ get_or ks d.high 0) e (m k l (let z : (constraint_at cs k).high ≡ c.high = ap (λ (d : Constraint). d.high) e in omega arith))

-- numbers that meet all constraints meet each
pub met-each : (s : System) (ks : List ℕ) → true ≡ list_all (meets ks) (constraints_in s.constraints.now) → (i : ℕ) → i < length s.constraints.now → MetAt s ks i
unfolding meets
met-each s ks e i h = λ _. leb-true _ _ (list_all_of (meets ks) (constraints_in s.constraints.now) (sym e) (constraint_at s.constraints.now i) (mem-listed s.constraints.now i h))

-- and those behind so many
met-behind : (ks : List ℕ) (k : ℕ) (stored : List Stored) → list_all (meets ks) (constraints_in stored) ≡ true → list_all (meets ks) (constraints_in (drop k stored)) ≡ true
met-behind ks zero stored e = e
met-behind ks (suc k) [] e = e
met-behind ks (suc k) (c ∷ cs) e = met-behind ks k cs ((and_yes (meets ks (constraint_of c)) (list_all (meets ks) (constraints_in cs)) e).1)

-- numbers that the constraints have raised and that meet them all are the answer
pub settled-kept : (s : System) (ks : List ℕ) (k : ℕ) → RaisedIn s ks → true ≡ list_all (meets ks) (constraints_in s.constraints.now)
    → Some ks ≡ kept_at (constraints_in (drop k s.constraints.now)) (numbers_of (solved s.n (constraints_in s.constraints.now)))
settled-kept s ks k r e =
    sym (ap (λ (t : Bool). cond t (Some ks) None) (met-behind ks k s.constraints.now (sym e)))
    ∙ ap (kept_at (constraints_in (drop k s.constraints.now))) (solved-found s ks r (met-each s ks e))

-- of more than 200 numbers all are refused
pub solved_large : (n : ℕ) (cs : List Constraint) → 200 < n → None ≡ numbers_of (solved n cs)
unfolding solved numbers_of
solved_large n cs h = rw (lt-leb n 200 h)
