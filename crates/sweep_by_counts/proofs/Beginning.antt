-- What the arrays hold before the first step.
use Prim.Native.Nat.{ℕ, ◌-◌, ◌≤◌, min}
use mathlib.Core.Path.{◌≡◌, refl, sym, ap, ◌∙◌, subst}
use mathlib.Core.List.{List}
use mathlib.Core.Bool.{Bool, true, false, cond, not}
use native.Mathlib.Omega.{arith}
use lib.ListN.{length, get_or, take}
use Rattle.std.proofs.Math.Seq.{take-append_seam}
use Rattle.lists.specs.Spans.{zeros, zero_padded}
use Rattle.lists.proofs.Spans.{length-zeros}
use Rattle.lists.proofs.Padded.{get_or-zeros}
use Rattle.model.specs.Plan.{Plan, context_count}
use Rattle.model.specs.Sound.{Sound}
use Rattle.model.specs.Sweep.{first_state, chordless, sweep_from}
use Rattle.model.proofs.SweepEnds.{ring-inside}
use Rattle.sweep_frontier.specs.Frontiers.{whole}
use Rattle.sweep_frontier.specs.Held.{HoldsFrontier}
use Rattle.sweep_labelling.specs.Labelling.{Labelled, first_labels, swept}
use Rattle.sweep_labelling.proofs.Frontiers.{first_labelled}
use Rattle.sweep_theory.specs.Counter.{counted}
use Rattle.sweep_theory.specs.Ready.{Ready}
use Rattle.sweep_theory.proofs.FirstTrail.{once_first}
use Rattle.sweep_theory.proofs.Tells.{counted_size}
use Rattle.sweep_theory.proofs.CountSweep.{ready_first}
use Rattle.sweep_by_counts.specs.declared.course.Course.{Course}
use Rattle.sweep_by_counts.specs.Courses.{CountersIn, HoldsState}
use Rattle.sweep_by_counts.specs.Strays.{chorded}
use Rattle.sweep_by_counts.specs.Running.{RunningBelow}
use Rattle.sweep_by_counts.proofs.Strays.{chorded_is}

-- the list that an array holds is its front
pub take_padded : (k : ℕ) (l : List ℕ) → take (length l) (zero_padded k l) ≡ l
unfolding zero_padded
take_padded k l = take-append_seam l (zeros (k - length l))

-- counters of nothing
pub counts_zero : (n : ℕ) {z : List ℕ} → z ≡ zeros 256 → n ≤ 256 → CountersIn z (zeros n)
counts_zero n {z} e few =
    record {
      size = ap length e ∙ length-zeros 256;
      few = let s = length-zeros n in omega arith;
      count = λ c h. ap (λ (l : List ℕ). get_or l c 0) e ∙ get_or-zeros 256 c ∙ sym (ap (λ (x : ℕ). min x 65535) (get_or-zeros n c));
    }

module _ {p : Plan} (rules : Sound p) where
  abbrev f : List ℕ
  f = (first_state p).frontier

  module _ (few : context_count p ≤ 200) {v : Course} (front : HoldsFrontier (first_state p) (whole v.frontier)) (labels : v.labels ≡ first_labels p v.frontier.at v.frontier.len)
      (counts : CountersIn v.counts (counted p f (zeros (context_count p)))) where
    holds_first : HoldsState p (first_state p) (counted p f (zeros (context_count p))) v
    holds_first =
        record {
          front = front;
          counts = counts;
          all = counted_size p f (zeros (context_count p)) ∙ length-zeros (context_count p);
          inside = ring-inside p rules;
          labels = subst (Labelled p (first_state p)) (sym labels) (first_labelled p front.rep.at front.rep.len);
        }

    -- before the first step
    pub running_first : {n limit : ℕ} {b : Bool} → n ≡ context_count p → b ≡ chorded p v.frontier.marks v.frontier.at v.frontier.len → limit ≡ cond b 0 v.frontier.len → RunningBelow p n limit v
    unfolding swept first_state
    running_first {n} {limit} {b} size told is =
        let chord : b ≡ not (chordless p f) = told ∙ chorded_is p rules f v.frontier.marks (once_first p rules) (λ u a m. let x = ring-inside p rules u a m in omega arith) front.marks front.rep.at front.rep.len in
        let low : limit ≡ cond (chordless p f) (length f) 0 = is ∙ (λ i. cond (chord i) 0 (front.rep.len i)) ∙ turn (chordless p f) in
        record {
          state = first_state p;
          counters = counted p f (zeros (context_count p));
          holds = holds_first;
          ready = subst (λ (x : ℕ). Ready p x (counted p f (zeros (context_count p))) (first_state p)) (sym low) (ready_first p rules);
          same = ap (λ (k : ℕ). sweep_from p k (first_state p)) (sym size);
        }
      where
        turn : (c : Bool) → cond (not c) 0 (length f) ≡ cond c (length f) 0
        turn true = refl
        turn false = refl
