-- A ring's labels are four runs exactly when the changes of label around it weigh 4; and the loop that weighs them.
use Prim.Native.Nat.{ℕ, zero, suc, ◌+◌, ◌-◌, ◌%◌, ◌≤◌, ◌<◌, min}
use mathlib.Core.Path.{◌≡◌, refl, sym, ap, ◌∙◌, subst}
use mathlib.Core.List.{List, [], ◌∷◌, ◌++◌, append-nil, cons-ne-nil}
use mathlib.Core.Logic.{◌⊎◌, inl, inr}
use mathlib.Core.Bool.{Bool, true, false, cond}
use native.Mathlib.Omega.{arith}
use lib.ListN.{length, get_or, take, drop, take-append-drop, length-append, length-take, drop_of_length-le}
use lib.Seq.{slice, drop-cons, take_all, drop-append_seam, take-append_seam}
use lib.Dec.{eqb, ltb}
use borrow.Author.Tests.{eqb-true, eqb-false, eq-eqb, ne_eqb, ltb-true, ltb-false, lt-ltb}
use Rattle.std.proofs.lemmas.List.{drop-take}
use Rattle.lists.specs.Tests.{same_list}
use Rattle.lists.specs.Ranges.{from}
use Rattle.lists.specs.Parts.{squeeze_after, squeeze}
use Rattle.lists.proofs.Tests.{list_any_of, of_list_any, list_any-map, same-eq, eq-same}
use Rattle.lists.proofs.Ranges.{from-mem}
use Rattle.lists.proofs.Spans.{get_or-inside}
use Rattle.model.specs.Labels.{unlabelled, four_runs}
use Rattle.labels.specs.Changes.{change_weight}

-- the changes from a through a list, weighed together
pub change_sum : ℕ → List ℕ → ℕ
change_sum a [] = 0
change_sum a (b ∷ l) = change_weight a b + change_sum b l

-- the last entry, or a
last_of : ℕ → List ℕ → ℕ
last_of a [] = a
last_of a (b ∷ l) = last_of b l

-- the changes around a ring, weighed together
pub round_sum : List ℕ → ℕ
round_sum r = change_sum (last_of unlabelled r) r

-- ---- what a change weighs
weight_same : (a b : ℕ) → a ≡ b → change_weight a b ≡ 0
unfolding change_weight
weight_same a b e = rw (eq-eqb a b e)

weight_next : (a b : ℕ) → b ≡ suc a → b < 4 → change_weight a b ≡ 1
unfolding change_weight
weight_next a b e h = rw (ne_eqb a b (λ q. omega arith), lt-ltb a 4 (omega arith), eq-eqb b ((a + 1) % 4) (omega arith))

data Change (a b : ℕ) : Type 0 where
  none : a ≡ b → change_weight a b ≡ 0 → Change a b
  next : a < 4 → b ≡ (a + 1) % 4 → change_weight a b ≡ 1 → Change a b
  other : change_weight a b ≡ 5 → Change a b

change_of : (a b : ℕ) → Change a b
unfolding change_weight
change_of a b = go (eqb a b) refl (ltb a 4) refl (eqb b ((a + 1) % 4)) refl
  where
    go : (s : Bool) → eqb a b ≡ s → (t : Bool) → ltb a 4 ≡ t → (w : Bool) → eqb b ((a + 1) % 4) ≡ w → Change a b
    go true p t q w r = none (eqb-true a b p) (rw p)
    go false p true q true r = next (ltb-true a 4 q) (eqb-true b ((a + 1) % 4) r) (rw (p, q, r))
    go false p true q false r = other (rw (p, q, r))
    go false p false q w r = other (rw (p, q))

-- ---- going round from another entry weighs the same
sum-append : (a : ℕ) (l m : List ℕ) → change_sum a (l ++ m) ≡ change_sum a l + change_sum (last_of a l) m
unfolding change_sum last_of
sum-append a [] m = omega arith
sum-append a (b ∷ l) m = let r = sum-append b l m in omega arith

last_append : (a : ℕ) (l m : List ℕ) → last_of a (l ++ m) ≡ last_of (last_of a l) m
unfolding last_of
last_append a [] m = refl
last_append a (b ∷ l) m = last_append b l m

round_rotate : (l m : List ℕ) → round_sum (l ++ m) ≡ round_sum (m ++ l)
unfolding round_sum last_of
round_rotate [] m = ap round_sum (sym (append-nil m))
round_rotate (b ∷ l) [] = ap round_sum (append-nil (b ∷ l))
round_rotate (b ∷ l) (c ∷ m) =
    let e : last_of 5 ((b ∷ l) ++ c ∷ m) ≡ last_of c m = last_append 5 (b ∷ l) (c ∷ m) in
    let f : last_of 5 ((c ∷ m) ++ b ∷ l) ≡ last_of b l = last_append 5 (c ∷ m) (b ∷ l) in
    let x = sum-append (last_of c m) (b ∷ l) (c ∷ m) in
    let y = sum-append (last_of b l) (c ∷ m) (b ∷ l) in
    ap (λ (a : ℕ). change_sum a ((b ∷ l) ++ c ∷ m)) e ∙ x ∙ omega arith ∙ sym y ∙ ap (λ (a : ℕ). change_sum a ((c ∷ m) ++ b ∷ l)) (sym f)

-- ---- labels that rise from a by c, and are below 4
-- squeezed they are a + 1, a + 2, ..: their changes weigh c and they end with a + c
rises : (a c : ℕ) (l : List ℕ) → a + c < 4 → squeeze_after a l ≡ from (suc a) c → (change_sum a l ≡ c) × (last_of a l ≡ a + c)
unfolding change_sum last_of
rises a zero [] h e = omega arith
rises a (suc c) [] h e = absurd (cons-ne-nil _ _ (sym e))
rises a c (b ∷ l) h e = go (λ k. rises b k l) (eqb a b) refl c h e
  where
    go : ((k : ℕ) → b + k < 4 → squeeze_after b l ≡ from (suc b) k → (change_sum b l ≡ k) × (last_of b l ≡ b + k))
        → (t : Bool) → eqb a b ≡ t → (c : ℕ) → a + c < 4 → cond t (squeeze_after a l) (b ∷ squeeze_after b l) ≡ from (suc a) c
        → (change_weight a b + change_sum b l ≡ c) × (last_of b l ≡ a + c)
    go r true q c h e =
        let s = eqb-true a b q in
        let w = weight_same a b s in
        let x = r c (omega arith) (subst (λ (k : ℕ). squeeze_after k l ≡ from (suc k) c) s e) in
        omega arith
    go r false q zero h e = absurd (cons-ne-nil _ _ e)
    go r false q (suc c) h e =
        let s : b ≡ suc a = ap (λ (m : List ℕ). get_or m 0 0) e in
        let w = weight_next a b s (omega arith) in
        let x = r c (omega arith) (subst (λ (k : ℕ). squeeze_after b l ≡ from (suc k) c) (sym s) (ap (drop 1) e)) in
        omega arith

-- and the other way round
of_rise : (a c : ℕ) (l : List ℕ) → a + c < 4 → change_sum a l ≡ c → squeeze_after a l ≡ from (suc a) c
unfolding change_sum
of_rise a zero [] h e = refl
of_rise a (suc c) [] h e = absurd (omega arith)
of_rise a c (b ∷ l) h e = go (λ k. of_rise b k l) (change_of a b) c h e
  where
    go : ((k : ℕ) → b + k < 4 → change_sum b l ≡ k → squeeze_after b l ≡ from (suc b) k)
        → Change a b → (c : ℕ) → a + c < 4 → change_weight a b + change_sum b l ≡ c → cond (eqb a b) (squeeze_after a l) (b ∷ squeeze_after b l) ≡ from (suc a) c
    go r (none s w) c h e = rw (eq-eqb a b s, s) (r c (omega arith) (omega arith))
    go r (next lo s w) zero h e = absurd (omega arith)
    go r (next lo s w) (suc c) h e =
        let t : b ≡ suc a = omega arith in
        rw (ne_eqb a b (λ q. omega arith)) ((λ i. t i ∷ r c (omega arith) (omega arith) i) ∙ ap (λ (k : ℕ). suc a ∷ from (suc k) c) t)
    go r (other w) c h e = absurd (omega arith)

-- ---- from four runs to the weight
squeezed_round : (t : List ℕ) → squeeze t ≡ 0 ∷ 1 ∷ 2 ∷ 3 ∷ [] → round_sum t ≡ 4
unfolding round_sum last_of change_sum change_weight
squeezed_round [] e = absurd (cons-ne-nil _ _ (sym e))
squeezed_round (x ∷ l) e = go x (ap (λ (m : List ℕ). get_or m 0 0) e) (ap (drop 1) e)
  where
    go : (x : ℕ) → x ≡ 0 → squeeze_after x l ≡ 1 ∷ 2 ∷ 3 ∷ [] → round_sum (x ∷ l) ≡ 4
    go x z e =
        let f : squeeze_after 0 l ≡ from 1 3 = subst (λ (k : ℕ). squeeze_after k l ≡ 1 ∷ 2 ∷ 3 ∷ []) z e in
        let (s, w) = rises 0 3 l (omega arith) f in
        rw (z, w) (omega arith)

-- the ring begun at its entry k reads up, right, down, left
reads : List ℕ → ℕ → Bool
reads r k = same_list (squeeze (drop k r ++ take k r)) (0 ∷ 1 ∷ 2 ∷ 3 ∷ [])

runs_weigh : (r : List ℕ) → four_runs r ≡ true → round_sum r ≡ 4
unfolding reads four_runs
runs_weigh r e =
    let (k, m, q) = list_any_of (reads r) (from 0 (length r)) (list_any-map _ _ (from 0 (length r)) ∙ e) in
    ap round_sum (sym (take-append-drop k r)) ∙ round_rotate (take k r) (drop k r) ∙ squeezed_round (drop k r ++ take k r) (same-eq _ _ q)

-- ---- from the weight to four runs
-- what begins with no label below 4 stays there, or changes at a weight above 4
stays : (a : ℕ) (l : List ℕ) → 4 ≤ a → (change_sum a l ≡ 0) ⊎ (5 ≤ change_sum a l)
unfolding change_sum
stays a [] h = inl refl
stays a (b ∷ l) h = go (stays b l) (change_of a b)
  where
    go : (4 ≤ b → (change_sum b l ≡ 0) ⊎ (5 ≤ change_sum b l)) → Change a b → (change_weight a b + change_sum b l ≡ 0) ⊎ (5 ≤ change_weight a b + change_sum b l)
    go r (none s w) = on (r (omega arith))
      where
        on : (change_sum b l ≡ 0) ⊎ (5 ≤ change_sum b l) → (change_weight a b + change_sum b l ≡ 0) ⊎ (5 ≤ change_weight a b + change_sum b l)
        on (inl z) = inl (omega arith)
        on (inr z) = inr (omega arith)
    go r (next lo s w) = absurd (omega arith)
    go r (other w) = inr (omega arith)

-- a list in which the label changes from 3 to 0: what stands before the change, and what after it
record Turns (a : ℕ) (l : List ℕ) : Type 0 where
  head : List ℕ
  tail : List ℕ
  parts : l ≡ head ++ 0 ∷ tail
  ends : last_of a head ≡ 3

turns : (a : ℕ) (l : List ℕ) → a < 4 → 4 ≤ a + change_sum a l → change_sum a l ≤ 4 → Turns a l
unfolding change_sum last_of
turns a [] h p q = absurd (omega arith)
turns a (b ∷ l) h p q = go (turns b l) (change_of a b) (ltb a 3) refl
  where
    longer : Turns b l → Turns a (b ∷ l)
    longer t = record { head = b ∷ t.head; tail = t.tail; parts = ap (λ (m : List ℕ). b ∷ m) t.parts; ends = t.ends }

    go : (b < 4 → 4 ≤ b + change_sum b l → change_sum b l ≤ 4 → Turns b l) → Change a b → (t : Bool) → ltb a 3 ≡ t → Turns a (b ∷ l)
    go r (none s w) t e = longer (r (omega arith) (omega arith) (omega arith))
    go r (next lo s w) true e = let k = ltb-true a 3 e in longer (r (omega arith) (omega arith) (omega arith))
    go r (next lo s w) false e =
        let k = ltb-false a 3 e in
        let z : b ≡ 0 = omega arith in
        record { head = []; tail = l; parts = ap (λ (c : ℕ). c ∷ l) z; ends = omega arith }
    go r (other w) t e = absurd (omega arith)

-- the part after the change, then the part before it, read 0, 1, 2, 3
turned-runs : (y t : List ℕ) → last_of (last_of 0 t) y ≡ 3 → round_sum (y ++ 0 ∷ t) ≡ 4 → squeeze ((0 ∷ t) ++ y) ≡ 0 ∷ 1 ∷ 2 ∷ 3 ∷ []
unfolding round_sum change_sum last_of change_weight
turned-runs y t e w =
    let turn : round_sum ((0 ∷ t) ++ y) ≡ 4 = sym (round_rotate y (0 ∷ t)) ∙ w in
    let end : last_of 0 (t ++ y) ≡ 3 = last_append 0 t y ∙ e in
    let from-3 : change_weight 3 0 + change_sum 0 (t ++ y) ≡ 4 = subst (λ (k : ℕ). change_weight k 0 + change_sum 0 (t ++ y) ≡ 4) end turn in
    ap (λ (l : List ℕ). 0 ∷ l) (of_rise 0 3 (t ++ y) (omega arith) (omega arith))

weigh_runs : (r : List ℕ) → round_sum r ≡ 4 → four_runs r ≡ true
unfolding round_sum reads four_runs last_of
weigh_runs r w = go (ltb (last_of 5 r) 4) refl
  where
    runs : Turns (last_of 5 r) r → four_runs r ≡ true
    runs t =
        let y = t.head in
        let x : List ℕ = 0 ∷ t.tail in
        let e : last_of 5 r ≡ last_of 0 t.tail = ap (last_of 5) t.parts ∙ last_append 5 y x in
        let begun : drop (length y) r ++ take (length y) r ≡ x ++ y = (λ i. drop (length y) (t.parts i) ++ take (length y) (t.parts i)) ∙ (λ i. drop-append_seam y x i ++ take-append_seam y x i) in
        let four = turned-runs y t.tail (subst (λ (k : ℕ). last_of k y ≡ 3) e t.ends) (ap round_sum (sym t.parts) ∙ w) in
        let long = ap length t.parts ∙ length-append y x in
        sym (list_any-map _ _ (from 0 (length r))) ∙ of_list_any (reads r) (from 0 (length r)) (length y) (from-mem 0 (length r) (length y) (omega arith) (omega arith)) (eq-same _ (0 ∷ 1 ∷ 2 ∷ 3 ∷ []) (ap squeeze begun ∙ four))

    high : (change_sum (last_of 5 r) r ≡ 0) ⊎ (5 ≤ change_sum (last_of 5 r) r) → four_runs r ≡ true
    high (inl z) = absurd (omega arith)
    high (inr z) = absurd (omega arith)

    go : (t : Bool) → ltb (last_of 5 r) 4 ≡ t → four_runs r ≡ true
    go true e = runs (turns (last_of 5 r) r (ltb-true _ _ e) (omega arith) (omega arith))
    go false e = high (stays (last_of 5 r) r (ltb-false _ _ e))

same_bool : (s t : Bool) → (s ≡ true → t ≡ true) → (t ≡ true → s ≡ true) → s ≡ t
same_bool true t f g = sym (f refl)
same_bool false true f g = g refl
same_bool false false f g = refl

-- Four runs are four changes to the next label, and no other
pub runs_exactly : (r : List ℕ) → four_runs r ≡ eqb (round_sum r) 4
runs_exactly r = same_bool (four_runs r) (eqb (round_sum r) 4) (λ e. eq-eqb (round_sum r) 4 (runs_weigh r e)) (λ e. weigh_runs r (eqb-true (round_sum r) 4 e))

-- ---- for label in r { changes = min(changes + change_weight(last, label), 255); last = label; } changes == 4
pub record Weighs (r : List ℕ) (i last weight : ℕ) : Type 0 where
  pub few : weight ≤ 255
  pub same : min (round_sum r) 255 ≡ min (weight + change_sum last (drop i r)) 255

last_at : (a : ℕ) (l : List ℕ) → 0 < length l → last_of a l ≡ get_or l (length l - 1) a
unfolding last_of
last_at a [] h = absurd (omega arith)
last_at a (b ∷ []) h = refl
last_at a (b ∷ c ∷ l) h =
    let z : suc (suc (length l)) - 1 ≡ suc (suc (length l) - 1) = omega arith in
    last_at a (c ∷ l) (omega arith) ∙ sym (rw z)

pub weighs_start : {r : List ℕ} {last : ℕ} → 0 < length r → last ≡ get_or r (length r - 1) 0 → Weighs r 0 last 0
unfolding round_sum
weighs_start {r} {last} h q =
    let begun : round_sum r ≡ change_sum last r = ap (λ (b : ℕ). change_sum b r) (last_at 5 r h ∙ get_or-inside r (length r - 1) 5 0 (omega arith) ∙ sym q) in
    record { few = omega arith; same = omega arith }

module _ {r : List ℕ} {i last weight : ℕ} (inv : Weighs r i last weight) where
  -- one label more
  pub weighs_on : {label w weight' : ℕ} → i < length r → label ≡ get_or r i 0 → w ≡ change_weight last label → weight' ≡ min (weight + w) 255 → Weighs r (i + 1) label weight'
  unfolding change_sum
  weighs_on {label} {w} h q p e =
      let z : suc i ≡ i + 1 = omega arith in
      let cut : drop i r ≡ label ∷ drop (i + 1) r = drop-cons r i 0 h ∙ (λ j. sym q j ∷ drop (z j) r) in
      let s = inv.same ∙ ap (λ (m : List ℕ). min (weight + change_sum last m) 255) cut in
      record { few = omega arith; same = omega arith }

  pub weighs_end : {s : List ℕ} → r ≡ s → length r ≤ i → eqb weight 4 ≡ four_runs s
  unfolding change_sum
  weighs_end is h =
      let gone : drop i r ≡ [] = drop_of_length-le r {i = i} h in
      let few = inv.few in
      let s : min (round_sum r) 255 ≡ weight = inv.same ∙ ap (λ (m : List ℕ). min (weight + change_sum last m) 255) gone ∙ omega arith in
      go (eqb weight 4) refl s ∙ sym (runs_exactly r) ∙ ap four_runs is
    where
      go : (t : Bool) → eqb weight 4 ≡ t → min (round_sum r) 255 ≡ weight → t ≡ eqb (round_sum r) 4
      go true e s = let z = eqb-true weight 4 e in sym (eq-eqb (round_sum r) 4 (omega arith))
      go false e s = sym (ne_eqb (round_sum r) 4 (λ z. eqb-false weight 4 e (omega arith)))

-- ---- the labels up to the last
slice_end : (l : List ℕ) (a e end : ℕ) → end ≡ min e (length l) → slice a end l ≡ slice a e l
slice_end l a e end q = ap (drop a) (go (ltb e (length l)) refl)
  where
    go : (t : Bool) → ltb e (length l) ≡ t → take end l ≡ take e l
    go true p = let h = ltb-true e (length l) p in ap (λ (j : ℕ). take j l) (let z : end ≡ e = omega arith in z)
    go false p = let h = ltb-false e (length l) p in take_all end l (omega arith) ∙ sym (take_all e l (omega arith))

-- a round that the code cuts out
pub round_is : (l : List ℕ) (a e end : ℕ) → end ≡ min e (length l) → a < end → take (end - a) (drop a l) ≡ slice a e l
round_is l a e end q h =
    let z : a + (end - a) ≡ end = omega arith in
    sym (drop-take a (end - a) l) ∙ ap (λ (j : ℕ). drop a (take j l)) z ∙ slice_end l a e end q

-- no label, no run
pub runs_none : (l : List ℕ) (a e end : ℕ) → end ≡ min e (length l) → end ≤ a → false ≡ four_runs (slice a e l)
unfolding four_runs
runs_none l a e end q h =
    let gone : slice a e l ≡ [] = sym (slice_end l a e end q) ∙ drop_of_length-le (take end l) {i = a} (let k = length-take end l in omega arith) in
    sym (rw gone)
