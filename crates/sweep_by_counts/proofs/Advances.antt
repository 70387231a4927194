-- A step on the arrays of a course: what they hold then.
use Prim.Native.Nat.{ℕ, suc, ◌+◌, ◌≤◌}
use mathlib.Core.Path.{◌≡◌, refl, sym, ap, ◌∙◌, subst}
use mathlib.Core.List.{List, ◌++◌}
use mathlib.Core.Bool.{Bool, true, ◌||◌}
use native.Mathlib.Omega.{arith}
use lib.ListN.{length, take, drop}
use lib.Dec.{eqb}
use Rattle.lists.specs.Tests.{member}
use Rattle.lists.specs.Spans.{zero_padded}
use Rattle.lists.proofs.Tests.{list_any-append}
use Rattle.lists.proofs.Stretches.{span_whole}
use Rattle.model.specs.Plan.{Plan}
use Rattle.model.specs.Sweep.{State, listed, replaced, advance}
use Rattle.sweep_frontier.specs.Held.{EntriesBelow200, HoldsList, Marks, HoldsFrontier}
use Rattle.sweep_frontier.specs.Frontiers.{frontier_of, whole}
use Rattle.sweep_frontier.proofs.Holding.{marks-same}
use Rattle.sweep_by_definition.proofs.Dirt.{clean_once, clean_new}
use Rattle.sweep_by_definition.proofs.Pairs.{news-fit, gathered, next-front}
use Rattle.sweep_labelling.specs.Labelling.{step_labels, Labelled}
use Rattle.sweep_labelling.proofs.Frontiers.{step_labelled}
use Rattle.sweep_theory.specs.Counter.{counted}
use Rattle.sweep_by_counts.specs.declared.course.Course.{Course}
use Rattle.sweep_by_counts.specs.Courses.{CountersIn, HoldsState}
use Rattle.sweep_by_counts.specs.Moves.{Steps, Spliced}
use Rattle.sweep_theory.proofs.Tells.{counted_size}

module _ {p : Plan} (sane : EntriesBelow200 p) {s : State} {cnt l : List ℕ} {v : Course} {i j : ℕ} (t : Steps p s cnt v l i j) where
  -- there is room for the list
  pub step_room : length l + v.frontier.len ≤ 455
  step_room =
      let front = t.holds.front in
      let g = gathered p sane s (whole v.frontier) front i j t.apart t.inside t.fits in
      let k = listed p s.frontier i j in
      let fit = news-fit p sane s (whole v.frontier) front k (clean_once s.seen k g.clean) (clean_new s.seen k g.clean) g.small in
      let size = front.rep.len in
      let same = ap length t.list in
      omega arith

  -- the arrays after the step
  module _ {len : ℕ} {at marks : List ℕ} (put : Spliced v.frontier.at at v.frontier.len (i + 1) j l len) (mark : (q : ℕ → Bool) → Marks v.frontier.marks q → Marks marks (λ (c : ℕ). member c l || q c)) where
    -- the frontier
    new_rep : HoldsList (frontier_of true len at marks) (advance p s i j).frontier
    unfolding advance replaced
    new_rep =
        let r = t.holds.front.rep in
        let e : i + 1 ≡ suc i = omega arith in
        let n = next-front p sane s (whole v.frontier) t.holds.front i j t.apart t.inside t.fits in
        record {
          ok = refl;
          len = put.size s.frontier r.at (sym r.len) ∙ (λ d. length (take (e d) s.frontier ++ t.list d ++ drop j s.frontier));
          at = put.at s.frontier r.at (sym r.len) ∙ (λ d. zero_padded 512 (take (e d) s.frontier ++ t.list d ++ drop j s.frontier));
          short = n.rep.short;
        }

    -- the marks
    new_marks : Marks marks (λ (c : ℕ). member c (advance p s i j).seen)
    unfolding advance
    new_marks =
        marks-same (λ (c : ℕ). member c l || member c s.seen) (λ (c : ℕ). member c (listed p s.frontier i j ++ s.seen))
        (λ c. sym (list_any-append (eqb c) l s.seen) ∙ ap (λ (k : List ℕ). member c (k ++ s.seen)) t.list) (mark (λ (c : ℕ). member c s.seen) t.holds.front.marks)

    new_front : HoldsFrontier (advance p s i j) (frontier_of true len at marks)
    new_front =
        let n = next-front p sane s (whole v.frontier) t.holds.front i j t.apart t.inside t.fits in
        record { rep = new_rep; marks = new_marks; small = n.small; news = n.news; olds = n.olds; parts = n.parts; once = n.once; few = n.few; room = n.room }

    -- THE COURSE HOLDS THE STATE AFTER THE STEP
    pub advance_holds : {counts labels : List ℕ} → ((c : List ℕ) → CountersIn v.counts c → CountersIn counts (counted p l c)) → labels ≡ step_labels p v.frontier.at l (length l) i j v.labels
        → HoldsState p (advance p s i j) (counted p l cnt) (record { frontier = record { len = len; at = at; marks = marks }; counts = counts; labels = labels })
    advance_holds {counts} {labels} count e =
        let h = t.holds in
        record {
          front = new_front;
          counts = count cnt h.counts;
          all = counted_size p l cnt ∙ h.all;
          inside = h.inside;
          labels = subst (Labelled p (advance p s i j)) (sym e) (step_labelled p h.labels h.front.rep.at l (length l) i j t.apart t.inside (span_whole l (length l) refl ∙ t.list));
        }
