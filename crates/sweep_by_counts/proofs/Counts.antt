-- Contexts counted and marked one after the other: what the counters and the marks hold.
use Prim.Native.Nat.{ℕ, suc, ◌+◌, ◌≤◌, ◌<◌, min}
use mathlib.Core.Path.{◌≡◌, refl, sym, ap, ◌∙◌, subst}
use mathlib.Core.List.{List, [], ◌∷◌, ◌++◌}
use mathlib.Core.Bool.{Bool, true, false, ◌||◌}
use mathlib.Core.Logic.{◌⊎◌, inl, inr, ◌≢◌}
use native.Mathlib.Omega.{arith}
use lib.ListN.{length, get_or, set, take, length-set}
use lib.Seq.{get_or-set_same, get_or-set_other, take_all}
use lib.Dec.{eqb}
use borrow.Author.Tests.{eqb-true, eqb-false, ne_eqb}
use Rattle.std.proofs.lemmas.List.{take_more}
use Rattle.lists.specs.Tests.{member}
use Rattle.lists.proofs.Tests.{list_any-append}
use Rattle.lists.proofs.Ranges.{lt-or-le}
use Rattle.model.specs.Plan.{Plan, ring}
use Rattle.sweep_frontier.specs.Held.{Marks}
use Rattle.sweep_frontier.proofs.Holding.{marks-same, marks-set}
use Rattle.sweep_theory.specs.Counter.{raised, counted}
use Rattle.sweep_by_counts.specs.Courses.{CountersIn}

-- ---- counters
-- one counter raised
module _ {counts cnt : List ℕ} (h : CountersIn counts cnt) (w x : ℕ) (is : x ≡ min (get_or counts w 0 + 1) 65535) where
  -- the counters then
  abbrev next : List ℕ
  next = set cnt w (suc (get_or cnt w 0))

  -- how many there are
  next-size : length next ≡ length cnt
  next-size = length-set cnt w (suc (get_or cnt w 0))

  -- what the array holds of each
  next-count : (c : ℕ) → c < length cnt → (t : Bool) → eqb c w ≡ t → get_or (set counts w x) c 0 ≡ min (get_or next c 0) 65535
  next-count c u true e =
      let q : c ≡ w = eqb-true c w e in
      let size = h.size in
      let few = h.few in
      let old = h.count w (omega arith) in
      let a = get_or-set_same counts w x 0 (omega arith) in
      let b = get_or-set_same cnt w (suc (get_or cnt w 0)) 0 (omega arith) in
      let same : get_or (set counts w x) w 0 ≡ min (get_or next w 0) 65535 = omega arith in
      subst (λ (v : ℕ). get_or (set counts w x) v 0 ≡ min (get_or next v 0) 65535) (sym q) same
  next-count c u false e =
      let old = h.count c u in
      let a = get_or-set_other counts w c x 0 (eqb-false c w e) in
      let b = get_or-set_other cnt w c (suc (get_or cnt w 0)) 0 (eqb-false c w e) in
      omega arith

  counts-set : CountersIn (set counts w x) next
  counts-set =
      let n = next-size in
      let few = h.few in
      record {
        size = length-set counts w x ∙ h.size;
        few = omega arith;
        count = λ c u. next-count c (omega arith) (eqb c w) refl;
      }

-- one entry more
raised-more : (r : List ℕ) (w : ℕ) (cnt : List ℕ) → raised (r ++ (w ∷ [])) cnt ≡ set (raised r cnt) w (suc (get_or (raised r cnt) w 0))
unfolding raised
raised-more [] w cnt = refl
raised-more (a ∷ r) w cnt = raised-more r w (set cnt a (suc (get_or cnt a 0)))

-- one context more
counted-more : (p : Plan) (l : List ℕ) (e : ℕ) (cnt : List ℕ) → counted p (l ++ (e ∷ [])) cnt ≡ raised (ring p e) (counted p l cnt)
unfolding counted
counted-more p [] e cnt = refl
counted-more p (a ∷ l) e cnt = counted-more p l e (raised (ring p a) cnt)

-- ---- while i < end { counts[es[i]] += 1; i += 1; }: k entries of the ring r are counted
pub record Raises (r old : List ℕ) (k : ℕ) (new : List ℕ) : Type 0 where
  pub so : (cnt : List ℕ) → CountersIn old cnt → CountersIn new (raised (take k r) cnt)

-- before the loop
pub raises_start : {r old : List ℕ} {k : ℕ} → k ≡ 0 → Raises r old k old
unfolding raised
raises_start {r} {old} e = record { so = λ cnt h. subst (λ (k : ℕ). CountersIn old (raised (take k r) cnt)) (sym e) h }

module _ {r old new : List ℕ} {k : ℕ} (inv : Raises r old k new) where
  -- after a turn of the loop
  pub raises_on : {k' w x : ℕ} {new' : List ℕ} → k' ≡ k + 1 → k < length r → w ≡ get_or r k 0 → x ≡ min (get_or new w 0 + 1) 65535 → new' ≡ set new w x → Raises r old k' new'
  raises_on {k'} {w} {x} {new'} s h q v e =
      record {
        so = λ cnt c.
            let more : raised (take k' r) cnt ≡ set (raised (take k r) cnt) w (suc (get_or (raised (take k r) cnt) w 0)) =
            ap (λ (l : List ℕ). raised l cnt) (ap (λ (j : ℕ). take j r) s ∙ take_more r k 0 h ∙ ap (λ (a : ℕ). take k r ++ (a ∷ [])) (sym q)) ∙ raised-more (take k r) w cnt in
            subst (λ (l : List ℕ). CountersIn l (raised (take k' r) cnt)) (sym e) (subst (CountersIn (set new w x)) (sym more) (counts-set (inv.so cnt c) w x v));
      }

  -- after the loop
  pub raises_end : length r ≤ k → (cnt : List ℕ) → CountersIn old cnt → CountersIn new (raised r cnt)
  raises_end h cnt c = subst (λ (l : List ℕ). CountersIn new (raised l cnt)) (take_all k r h) (inv.so cnt c)

-- ---- for c in l { raise(counts, rings, c); }
pub record Raised (p : Plan) (l old : List ℕ) (k : ℕ) (new : List ℕ) : Type 0 where
  pub so : (cnt : List ℕ) → CountersIn old cnt → CountersIn new (counted p (take k l) cnt)

-- before the loop
pub raised_start : {p : Plan} {l old : List ℕ} → Raised p l old 0 old
unfolding counted
raised_start = record { so = λ cnt h. h }

module _ {p : Plan} {l old new : List ℕ} {k : ℕ} (inv : Raised p l old k new) where
  -- after a turn of the loop
  pub raised_on : {c : ℕ} {new' : List ℕ} → k < length l → c ≡ get_or l k 0 → ((cnt : List ℕ) → CountersIn new cnt → CountersIn new' (raised (ring p c) cnt)) → Raised p l old (k + 1) new'
  raised_on {c} {new'} h q more =
      record {
        so = λ cnt u.
            let one : counted p (take (k + 1) l) cnt ≡ raised (ring p c) (counted p (take k l) cnt) =
            ap (λ (m : List ℕ). counted p m cnt) (take_more l k 0 h ∙ ap (λ (a : ℕ). take k l ++ (a ∷ [])) (sym q)) ∙ counted-more p (take k l) c cnt in
            subst (CountersIn new') (sym one) (more (counted p (take k l) cnt) (inv.so cnt u));
      }

  -- after the loop
  pub raised_end : length l ≤ k → (cnt : List ℕ) → CountersIn old cnt → CountersIn new (counted p l cnt)
  raised_end h cnt c = subst (λ (m : List ℕ). CountersIn new (counted p m cnt)) (take_all k l h) (inv.so cnt c)

-- ---- for c in l { marks[c] = 1; }
pub record Marked (l old : List ℕ) (k : ℕ) (new : List ℕ) : Type 0 where
  pub so : (q : ℕ → Bool) → Marks old q → Marks new (λ (c : ℕ). member c (take k l) || q c)

-- before the loop
pub marked_start : {l old : List ℕ} → Marked l old 0 old
marked_start = record { so = λ q h. h }

-- one mark more; past the array there is none
mark_one : {marks : List ℕ} (q : ℕ → Bool) (c : ℕ) → Marks marks q → Marks (set marks c 1) (λ (d : ℕ). eqb d c || q d)
mark_one {marks} q c h = go (lt-or-le c 256)
  where
    go : (c < 256) ⊎ (256 ≤ c) → Marks (set marks c 1) (λ (d : ℕ). eqb d c || q d)
    go (inl u) = marks-set q c 1 u (omega arith) h
    go (inr u) = record { size = length-set marks c 1 ∙ h.size; mark = λ d v. let n : d ≢ c = (λ e. absurd (omega arith)) in rw (ne_eqb d c n, get_or-set_other marks c d 1 0 n) (h.mark d v) }

module _ {l old new : List ℕ} {k : ℕ} (inv : Marked l old k new) where
  -- after a turn of the loop
  pub marked_on : {c : ℕ} {new' : List ℕ} → k < length l → c ≡ get_or l k 0 → new' ≡ set new c 1 → Marked l old (k + 1) new'
  marked_on {c} {new'} h e put =
      record {
        so = λ q m.
            let before = λ (d : ℕ). member d (take k l) || q d in
            let after = λ (d : ℕ). member d (take (k + 1) l) || q d in
            subst (λ (b : List ℕ). Marks b after) (sym put) (marks-same (λ (d : ℕ). eqb d c || before d) after (λ d. swap q d) (mark_one before c (inv.so q m)));
      }
    where
      three : (a b r : Bool) → (a || (b || r)) ≡ (b || (a || false) || r)
      three true true r = refl
      three true false r = refl
      three false true r = refl
      three false false r = refl

      swap : (q : ℕ → Bool) (d : ℕ) → (eqb d c || (member d (take k l) || q d)) ≡ (member d (take (k + 1) l) || q d)
      swap q d = three (eqb d c) (member d (take k l)) (q d) ∙ ap (λ (t : Bool). t || q d) (sym (list_any-append (eqb d) (take k l) (c ∷ [])) ∙ ap (member d) (ap (λ (a : ℕ). take k l ++ (a ∷ [])) e ∙ sym (take_more l k 0 h)))

  -- after the loop
  pub marked_end : length l ≤ k → (q : ℕ → Bool) → Marks old q → Marks new (λ (c : ℕ). member c l || q c)
  marked_end h q m = subst (λ (b : List ℕ). Marks new (λ (c : ℕ). member c b || q c)) (take_all k l h) (inv.so q m)
