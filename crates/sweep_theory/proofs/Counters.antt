-- Counters that only rise: for a context that never was on the frontier, a step adds to the count of frontier contexts that touch it those of the list, and takes none away.
use Prim.Native.Nat.{ℕ, suc, ◌+◌, ◌-◌, ◌<◌}
use mathlib.Core.Path.{◌≡◌, refl, sym, ap, ◌∙◌}
use mathlib.Core.List.{List, ◌++◌}
use mathlib.Core.Bool.{Bool, true, false}
use native.Mathlib.Omega.{arith}
use lib.ListN.{take, drop, take-append-drop, length-drop}
use lib.Seq.{length-take-le, get_or-take, get_or-drop, drop-drop}
use lib.Dec.{eqb}
use Rattle.lists.specs.Tests.{member, tally}
use Rattle.lists.proofs.Bools.{both, or_no}
use Rattle.lists.proofs.Tests.{list_any-append, mem-member}
use Rattle.lists.proofs.Sums.{tally-none}
use Rattle.model.specs.Plan.{Plan, adjacent, border}
use Rattle.model.specs.Sound.{Sound}
use Rattle.model.specs.Sweep.{State, listed, replaced, eligible, advance}
use Rattle.model.specs.SweepStates.{Positions}
use Rattle.model.proofs.Eligible.{mem-get_or, below-listed}
use Rattle.sweep_theory.specs.Local.{touching}
use Rattle.sweep_theory.proofs.Trails.{at}
use Rattle.sweep_theory.proofs.Touches.{tally-append}
use Rattle.sweep_theory.proofs.Frontiers.{Flat, new_below}

module _ (p : Plan) (sound : Sound p) (s : State) (h : Flat p s) (i j : ℕ) (o : Positions s i j) (e : eligible p s i j ≡ true) (c : ℕ) (inner : border c ≡ false) (new : member c (advance p s i j).seen ≡ false) where
  abbrev f : List ℕ
  f = s.frontier

  abbrev l : List ℕ
  l = listed p f i j

  abbrev q : ℕ → Bool
  q u = adjacent p u c

  -- the contexts that the list replaces
  abbrev gone : List ℕ
  gone = take (j - suc i) (drop (suc i) f)

  parts : (member c l ≡ false) × (member c s.seen ≡ false)
  unfolding advance
  parts = or_no (member c l) (member c s.seen) (sym (list_any-append (eqb c) l s.seen) ∙ new)

  -- none of them touches c
  untouched : (k : ℕ) → i < k → k < j → q (at f k) ≡ false
  untouched k a b = go (q (at f k)) refl
    where
      go : (t : Bool) → q (at f k) ≡ t → t ≡ false
      go false x = refl
      go true x =
          let w = o.inside in
          both (member c l) (mem-member c l (below-listed p s i j o e k c a b (new_below p sound s h k c (omega arith) (omega arith) x inner parts.1))) parts.0

  gone_none : tally q gone ≡ 0
  gone_none = tally-none q gone (λ u m.
      let (k, b, r) = mem-get_or gone u m in
      let x = o.apart in
      let y = o.inside in
      let z = length-take-le (j - suc i) (drop (suc i) f) (let v = length-drop (suc i) f in omega arith) in
      ap q (sym r ∙ get_or-take (j - suc i) (drop (suc i) f) k 0 (omega arith) ∙ get_or-drop (suc i) f k 0) ∙ untouched (suc i + k) (omega arith) (omega arith))

  -- A COUNTER AFTER A STEP
  pub touching_on : touching p (advance p s i j).frontier c ≡ touching p f c + touching p l c
  unfolding advance replaced touching
  touching_on =
      let x = o.apart in
      let back : suc i + (j - suc i) ≡ j = omega arith in
      let rest : List ℕ = drop (suc i) f in
      let after : drop (j - suc i) rest ≡ drop j f = drop-drop (j - suc i) (suc i) f ∙ ap (λ (k : ℕ). drop k f) back in
      let inner_part : tally q rest ≡ tally q gone + tally q (drop j f) = ap (tally q) (sym (take-append-drop (j - suc i) rest)) ∙ tally-append q gone (drop (j - suc i) rest) ∙ ap (λ (v : List ℕ). tally q gone + tally q v) after in
      let old : tally q f ≡ tally q (take (suc i) f) + tally q rest = ap (tally q) (sym (take-append-drop (suc i) f)) ∙ tally-append q (take (suc i) f) rest in
      let a = tally-append q (take (suc i) f ++ l) (drop j f) in
      let b = tally-append q (take (suc i) f) l in
      let z = gone_none in
      omega arith
