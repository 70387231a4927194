-- Counters that tell how many contexts of the frontier touch a context: what raising does to them, that the test by them is the test by counts, and that they tell it still after a step.
use Prim.Native.Nat.{ℕ, zero, suc, ◌+◌, ◌-◌, ◌<◌}
use mathlib.Core.Path.{◌≡◌, refl, sym, ap, ◌∙◌, subst}
use mathlib.Core.List.{List, [], ◌∷◌, Memᴰ}
use mathlib.Core.Bool.{Bool, true, false, cond, not, ◌&&◌, ◌||◌}
use native.Mathlib.Omega.{arith}
use lib.ListN.{length, get_or, set, length-set}
use lib.Seq.{get_or-set_same, get_or-set_other}
use lib.Dec.{eqb}
use borrow.Author.Tests.{eqb-true, eqb-false}
use Rattle.std.specs.List.{list_all}
use Rattle.lists.specs.Tests.{is_empty, member, tally}
use Rattle.lists.specs.Spans.{zeros}
use Rattle.lists.proofs.Bools.{or_no}
use Rattle.lists.proofs.Tests.{list_any-append}
use Rattle.lists.proofs.Padded.{get_or-zeros}
use Rattle.lists.proofs.Spans.{length-zeros}
use Rattle.lists.proofs.Sums.{tally-none}
use Rattle.lists.proofs.Once.{Once}
use Rattle.model.specs.Outcome.{accepted}
use Rattle.model.specs.Plan.{Plan, context_count, ring, adjacent, border}
use Rattle.model.specs.Sound.{Sound}
use Rattle.model.specs.Sweep.{State, first_state, below, listed, chordless, advance}
use Rattle.model.specs.SweepStates.{Chosen, Reached}
use Rattle.sweep_theory.specs.Quick.{candidate, open_at}
use Rattle.sweep_theory.specs.Local.{touching, positions_due, fair, good, local, pick}
use Rattle.sweep_theory.specs.Counter.{raised, counted, fair_by, good_by, local_by, pick_by}
use Rattle.sweep_theory.specs.Ready.{Tells}
use Rattle.sweep_theory.proofs.Faces.{once-ring}
use Rattle.sweep_theory.proofs.Trails.{at, below_near}
use Rattle.sweep_theory.proofs.Frontiers.{flat}
use Rattle.sweep_theory.proofs.Counters.{touching_on}

-- ---- what raising does to one counter
pub raised_size : (r cnt : List ℕ) → length (raised r cnt) ≡ length cnt
unfolding raised
raised_size [] cnt = refl
raised_size (w ∷ r) cnt = raised_size r (set cnt w (suc (get_or cnt w 0))) ∙ length-set cnt w (suc (get_or cnt w 0))

pub raised_at : (r cnt : List ℕ) (c : ℕ) → c < length cnt → get_or (raised r cnt) c 0 ≡ get_or cnt c 0 + tally (eqb c) r
unfolding raised
raised_at [] cnt c h = omega arith
raised_at (w ∷ r) cnt c h =
    let next : List ℕ = set cnt w (suc (get_or cnt w 0)) in
    let z = length-set cnt w (suc (get_or cnt w 0)) in
    let x = raised_at r next c (omega arith) in
    let y = go (eqb c w) refl in
    omega arith
  where
    go : (t : Bool) → eqb c w ≡ t → get_or (set cnt w (suc (get_or cnt w 0))) c 0 ≡ get_or cnt c 0 + cond (eqb c w) 1 0
    go true e =
        let q = eqb-true c w e in
        let one : ◌≡◌ {A = ℕ} (cond (eqb c w) 1 0) 1 = ap (λ (t : Bool). cond {A = ℕ} t 1 0) e in
        let same : get_or (set cnt w (suc (get_or cnt w 0))) c 0 ≡ suc (get_or cnt c 0) = subst (λ (v : ℕ). get_or (set cnt v (suc (get_or cnt v 0))) c 0 ≡ suc (get_or cnt c 0)) q (get_or-set_same cnt c (suc (get_or cnt c 0)) 0 h) in
        omega arith
    go false e =
        let none : ◌≡◌ {A = ℕ} (cond (eqb c w) 1 0) 0 = ap (λ (t : Bool). cond {A = ℕ} t 1 0) e in
        let same = get_or-set_other cnt w c (suc (get_or cnt w 0)) 0 (eqb-false c w e) in
        omega arith

-- in a ring an entry stands at most once
once-tally : (c : ℕ) (r : List ℕ) → Once r → tally (eqb c) r ≡ cond (member c r) 1 0
once-tally c [] o = refl
once-tally c (w ∷ r) o = go (eqb c w) refl (once-tally c r o.1)
  where
    go : (t : Bool) → eqb c w ≡ t → tally (eqb c) r ≡ cond (member c r) 1 0 → cond (eqb c w) 1 0 + tally (eqb c) r ≡ cond (eqb c w || member c r) 1 0
    go true e rest = let z = tally-none (eqb c) r (λ a m. off a m (eqb c a) refl) in rw e (omega arith)
      where
        off : (a : ℕ) → Memᴰ a r → (t : Bool) → eqb c a ≡ t → t ≡ false
        off a m false q = refl
        off a m true q = absurd (o.0 (subst (λ (v : ℕ). Memᴰ v r) (sym (eqb-true c a q) ∙ eqb-true c w e) m))
    go false e rest = rw e (omega arith)

pub counted_size : (p : Plan) (l cnt : List ℕ) → length (counted p l cnt) ≡ length cnt
unfolding counted
counted_size p [] cnt = refl
counted_size p (e ∷ l) cnt = counted_size p l (raised (ring p e) cnt) ∙ raised_size (ring p e) cnt

-- tests that say the same of each entry
pub all_same : (f g : ℕ → Bool) (l : List ℕ) → ((c : ℕ) → Memᴰ c l → f c ≡ g c) → list_all f l ≡ list_all g l
all_same f g [] h = refl
all_same f g (c ∷ l) h = λ i. h c (Memᴰ.head refl) i && all_same f g l (λ d m. h d (Memᴰ.tail m)) i

module _ (p : Plan) (rules : Sound p) where
  pub counted_at : (l cnt : List ℕ) (c : ℕ) → c < length cnt → get_or (counted p l cnt) c 0 ≡ get_or cnt c 0 + touching p l c
  unfolding counted touching adjacent
  counted_at [] cnt c h = omega arith
  counted_at (e ∷ l) cnt c h =
      let z = raised_size (ring p e) cnt in
      let x = counted_at l (raised (ring p e) cnt) c (omega arith) in
      let y = raised_at (ring p e) cnt c h in
      let w = once-tally c (ring p e) (once-ring p rules e) in
      omega arith

  -- ---- the test
  module _ (s : State) (cnt : List ℕ) (t : Tells p s cnt) where
    fair_same : (i j : ℕ) (l : List ℕ) (c : ℕ) → c < context_count p → fair_by cnt s i j l c ≡ fair p s i j l c
    unfolding fair_by fair
    fair_same i j l c h = go (border c) refl (member c s.seen) refl
      where
        -- the test with the count k
        with : ℕ → Bool
        with k = not (border c) && (not (member c s.seen) && eqb k (positions_due i j l c))

        go : (a : Bool) → border c ≡ a → (b : Bool) → member c s.seen ≡ b → with (get_or cnt c 0) ≡ with (touching p s.frontier c)
        go true x b y = rw x refl
        go false x true y = rw (x, y) refl
        go false x false y = ap with (t.tells c h x y)

    local_same : (j : ℕ) → local_by cnt p s j ≡ local p s j
    unfolding local_by local good_by good
    local_same j =
        let f = s.frontier in
        let l = below p f (j - 1) in
        let i = candidate p f j in
        let in_plan : (c : ℕ) → Memᴰ c l → c < context_count p = λ c m. rules.inside (at f (j - 1)) c (below_near p f (j - 1) c m) in
        ap (λ (b : Bool). not (is_empty l) && (b && chordless p l)) (all_same (fair_by cnt s i j l) (fair p s i j l) l (λ c m. fair_same i j l c (in_plan c m)))

    pub pick_same : (n : ℕ) → pick_by cnt p s n ≡ pick p s n
    unfolding pick_by pick
    pick_same zero = refl
    pick_same (suc n) = λ i. cond (open_at p s.frontier n && local_same n i) (accepted (candidate p s.frontier n, n)) (pick_same n i)

  -- ---- the counters after a step
  -- what is new after it was new before
  old_new : (s : State) (i j c : ℕ) → member c (advance p s i j).seen ≡ false → member c s.seen ≡ false
  unfolding advance
  old_new s i j c e = (or_no (member c (listed p s.frontier i j)) (member c s.seen) (sym (list_any-append (eqb c) (listed p s.frontier i j) s.seen) ∙ e)).1

  pub tells_on : (s : State) (cnt : List ℕ) (i j : ℕ) → Reached p s → Chosen p s i j → Tells p s cnt → listed p s.frontier i j ≡ below p s.frontier (j - 1) → Tells p (advance p s i j) (counted p (below p s.frontier (j - 1)) cnt)
  tells_on s cnt i j r c t e =
      let f = s.frontier in
      let l = below p f (j - 1) in
      record {
        size = counted_size p l cnt ∙ t.size;
        tells = λ a h inner new.
            let z = t.size in
            let x = counted_at l cnt a (omega arith) in
            let y = t.tells a h inner (old_new s i j a new) in
            let w = touching_on p rules s (flat p rules s r) i j c.positions c.fits a inner new in
            let v = ap (λ (k : List ℕ). touching p k a) e in
            omega arith;
      }

  pub tells_first : Tells p (first_state p) (counted p (first_state p).frontier (zeros (context_count p)))
  tells_first =
      let f = (first_state p).frontier in
      let z = length-zeros (context_count p) in
      record {
        size = counted_size p f (zeros (context_count p)) ∙ z;
        tells = λ a h inner new. let x = counted_at f (zeros (context_count p)) a (omega arith) in let y = get_or-zeros (context_count p) a in omega arith;
      }
