-- begin meets its contract.
use mathlib.Core.Path.{refl, sym, subst, ◌∙◌}
use mathlib.Core.List.{List}
use Prim.Native.Nat.{ℕ}
use lib.ListN.{take}
use native.Mathlib.Omega.{arith}
use Rattle.lists.specs.Spans.{zeros}
use Rattle.model.specs.Plan.{context_count}
use Rattle.model.specs.Sweep.{first_state}
use Rattle.rings.specs.Tables.{plan_of}
use Rattle.rings.proofs.Rows.{count-rows}
use Rattle.sweep_theory.specs.Counter.{counted}
use Rattle.sweep_by_counts.specs.Courses.{CountersIn}
use Rattle.sweep_by_counts.proofs.Beginning.{take_padded, counts_zero, running_first}
use Rattle.sweep_by_counts.proofs.CountingSweep.begin.Goals as goal

pub returns : goal.returns
unfolding zeros
returns c =
    let r = c.args.self.now.guided.located.rings in
    let p = plan_of r in
    let few = c.args.self.now.guided.guide.few in
    let front = c.requires in
    let counts = c.raise_all.ensures (zeros (context_count p)) (counts_zero (context_count p) refl (omega arith)) in
    let part = (λ i. take (front.rep.len i) (front.rep.at i)) ∙ take_padded 512 (first_state p).frontier in
    let first = subst (λ (l : List ℕ). CountersIn c.raise_all.new.counts (counted p l (zeros (context_count p)))) part counts in
    running_first c.args.self.now.sound few front c.first_labels-labels.ensures first (sym (count-rows r.starts.now r.sizes.now r.entries.now r.n)) refl c.first_limit-limit.ensures
