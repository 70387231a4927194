-- The engine's first frontier is the model's.
use Prim.Native.Nat.{ℕ, zero, suc, ◌+◌, ◌-◌, ◌≤◌, ◌<◌}
use mathlib.Core.Path.{◌≡◌, refl, sym, ap, ◌∙◌, subst}
use mathlib.Core.List.{List, [], ◌∷◌, ◌++◌, reverse, append-nil, Memᴰ}
use mathlib.Core.Bool.{Bool, true, false, ◌||◌, or-false, false≢true}
use native.Mathlib.Omega.{arith}
use Rattle.std.specs.Prelude.{None}
use lib.ListN.{length, get_or, set, take, drop, length-append, length-drop, length-take, length-reverse}
use lib.Seq.{slice, take-nil, append_snoc, get_or-drop}
use lib.Dec.{eqb}
use borrow.Author.Tests.{eq-eqb}
use Rattle.sweep_frontier.specs.Frontiers.{Frontier}
use Rattle.lists.specs.Tests.{member}
use Rattle.lists.specs.Spans.{stretch, zeros, zero_padded}
use Rattle.lists.proofs.Spans.{length-zeros}
use Rattle.lists.proofs.Members.{mem-take, mem-drop, mem-reverse}
use Rattle.lists.proofs.Padded.{get_or-zeros, get_or-zero_padded}
use Rattle.model.specs.Plan.{Plan, ring, east, west}
use Rattle.model.specs.Sweep.{top, first_state}
use Rattle.rings.specs.declared.Rings.{Rings}
use Rattle.rings.specs.Tables.{plan_of, size_of}
use Rattle.rings.proofs.Rows.{ring-size}
use Rattle.lists.specs.Folds.{each, each_down}
use Rattle.sweep_frontier.specs.Held.{AllBelow200, EntriesBelow200, HoldsList, Marks, HoldsFrontier}
use Rattle.sweep_frontier.proofs.Holding.{small-append, mem-small, small-get_or, push_rep, marks-same, marks-set, fresh-rep, stretch-all}
use Rattle.sweep_frontier.proofs.Fails.{unless_failed_none}
use Rattle.sweep_frontier.proofs.Under.{back_suc}
use Rattle.sweep_frontier.specs.Frontiers as run
use Rattle.sweep_ends.specs.Ends.{first_contexts, marked, first_frontier}

-- ---- marks of the contexts of a list
marks-none : Marks (zeros 256) (λ (c : ℕ). false)
marks-none = record { size = length-zeros 256; mark = λ c h. eq-eqb (get_or (zeros 256) c 0) 0 (get_or-zeros 256 c) }

-- three tests in another order
or_swap : (a b c : Bool) → (a || (b || c)) ≡ (b || a || c)
or_swap true true c = refl
or_swap true false c = refl
or_swap false true c = refl
or_swap false false c = refl

-- marks put for a stretch of contexts, one after the other
marks-list : (f : List ℕ) (a k : ℕ) (m : List ℕ) (q : ℕ → Bool) → ((t : ℕ) → get_or f t 0 < 200) → Marks m q → Marks (each (λ (i : ℕ) on. set on (get_or f i 0) 1) a k m) (λ (c : ℕ). member c (stretch f a k) || q c)
unfolding each stretch
marks-list f a zero m q h n = n
marks-list f a (suc k) m q h n =
    let more : ℕ → Bool = λ c. eqb c (get_or f a 0) || q c in
    let later : ℕ → Bool = λ c. member c (stretch f (suc a) k) in
    marks-same (λ (c : ℕ). later c || more c) (λ (c : ℕ). eqb c (get_or f a 0) || later c || q c) (λ c. or_swap (later c) (eqb c (get_or f a 0)) (q c))
    (marks-list f (suc a) k (set m (get_or f a 0) 1) more h (marks-set q (get_or f a 0) 1 (let s = h a in omega arith) (omega arith) n))

-- the marks of a frontier are those of its contexts
front-marks : (f : List ℕ) → AllBelow200 f → Marks (marked (zero_padded 512 f) (length f)) (λ (c : ℕ). member c f)
unfolding marked
front-marks f s =
    let z : length f - 0 ≡ length f = omega arith in
    marks-same (λ (c : ℕ). member c (stretch (zero_padded 512 f) 0 (length f - 0)) || false) (λ (c : ℕ). member c f)
    (λ c. or-false (member c (stretch (zero_padded 512 f) 0 (length f - 0))) ∙ ap (member c) (ap (stretch (zero_padded 512 f) 0) z ∙ stretch-all f))
    (marks-list (zero_padded 512 f) 0 (length f - 0) (zeros 256) (λ (c : ℕ). false) (λ t. let e = get_or-zero_padded 512 f t in let h = small-get_or f t s in omega arith) marks-none)

-- ---- North's inner neighbours
-- the size of North's ring
pub north_long : (r : Rings) {u q : ℕ} → u ≡ 0 → q ≡ size_of r.sizes.now r.n u → q ≡ length (ring (plan_of r) 0)
north_long r z e = e ∙ ap (size_of r.sizes.now r.n) z ∙ sym (ring-size r.starts.now r.sizes.now r.entries.now r.n 0)

-- an inner part of a list, by what is dropped and what is taken
slice_drop : (q : ℕ) (r : List ℕ) → slice 1 q r ≡ take (q - 1) (drop 1 r)
slice_drop zero [] = refl
slice_drop zero (a ∷ r) = refl
slice_drop (suc q) [] = sym (take-nil (suc q - 1))
slice_drop (suc q) (a ∷ r) = let z : suc q - 1 ≡ q = omega arith in ap (λ (n : ℕ). take n r) (sym z)

-- North has fewer than 256 neighbours where the size of its ring is below that
pub north_size : (r : Rings) {u q : ℕ} → u ≡ 0 → q ≡ size_of r.sizes.now r.n u → q < 256 → length (ring (plan_of r) 0) < 256
north_size r z e h = let size = north_long r z e in omega arith

module _ (p : Plan) where
  -- North's ring
  abbrev r : List ℕ
  r = ring p 0

  -- North's inner neighbours, as a part of its ring reversed
  top-is : top p ≡ reverse (take (length r - 2) (drop 1 r))
  unfolding top
  top-is = let z : length r - 1 - 1 ≡ length r - 2 = omega arith in ap reverse (slice_drop (length r - 1) r ∙ ap (λ (n : ℕ). take n (drop 1 r)) z)

  -- they are two fewer than its ring
  length-top : length (top p) ≤ length r - 2
  length-top = let a = ap length top-is ∙ length-reverse (take (length r - 2) (drop 1 r)) ∙ length-take (length r - 2) (drop 1 r) in omega arith

  -- a frontier that these are put on holds them
  push_top : (q : ℕ) (v : Frontier) (l : List ℕ) → HoldsList v l → length l + q ≤ 512 → q ≤ length r - 2 → HoldsList (each_down (λ (t : ℕ) w. run.pushed w (get_or r (suc t) 0)) q v) (l ++ reverse (take q (drop 1 r)))
  unfolding each_down
  push_top zero v l h s k = subst (HoldsList v) (sym (append-nil l)) h
  push_top (suc q) v l h s k =
      let x = get_or r (suc q) 0 in
      let z : 1 + q ≡ suc q = omega arith in
      let e : get_or (drop 1 r) q 0 ≡ x = get_or-drop 1 r q 0 ∙ ap (λ (i : ℕ). get_or r i 0) z in
      let size = length-append l (x ∷ []) in
      subst (HoldsList (each_down (λ (t : ℕ) w. run.pushed w (get_or r (suc t) 0)) q (run.pushed v x)))
      (append_snoc l x (reverse (take q (drop 1 r))) ∙ ap (λ (y : ℕ). l ++ (y ∷ reverse (take q (drop 1 r)))) (sym e) ∙ ap (λ (m : List ℕ). l ++ m) (sym (back_suc (drop 1 r) q (let w = length-drop 1 r in omega arith))))
      (push_top q (run.pushed v x) (l ++ (x ∷ [])) (push_rep v l x h (omega arith)) (omega arith) (omega arith))

  -- the first frontier
  abbrev pub first_front : List ℕ
  first_front = west ∷ top p ++ (east ∷ [])

  module _ (sane : EntriesBelow200 p) (long : length r ≤ 255) where
    -- the first frontier that the engine makes holds the contexts of the model's
    front-rep : HoldsList (first_contexts p) first_front
    unfolding first_contexts
    front-rep =
        let one = push_rep (run.empty_frontier (zeros 256)) [] 3 (fresh-rep (zeros 256)) (omega arith) in
        let two : HoldsList (each_down (λ (t : ℕ) w. run.pushed w (get_or r (suc t) 0)) (length r - 2) (run.pushed (run.empty_frontier (zeros 256)) 3)) (west ∷ top p) =
        subst (λ (m : List ℕ). HoldsList (each_down (λ (t : ℕ) w. run.pushed w (get_or r (suc t) 0)) (length r - 2) (run.pushed (run.empty_frontier (zeros 256)) 3)) (west ∷ m)) (sym top-is)
        (push_top (length r - 2) (run.pushed (run.empty_frontier (zeros 256)) 3) (3 ∷ []) one (omega arith) (omega arith)) in
        let size = length-top in
        push_rep (each_down (λ (t : ℕ) w. run.pushed w (get_or r (suc t) 0)) (length r - 2) (run.pushed (run.empty_frontier (zeros 256)) 3)) (west ∷ top p) 1 two (omega arith)

    -- every context of the first frontier is below 200
    front-small : AllBelow200 first_front
    front-small = (
      omega arith,
      small-append (top p) (east ∷ []) (mem-small (top p) (λ a m. sane.entry 0 a (mem-drop 1 r a (mem-take (length r - 2) (drop 1 r) a (mem-reverse (take (length r - 2) (drop 1 r)) a (subst (Memᴰ a) top-is m)))))) (omega arith, tt),
    )

    -- With its marks it holds the frontier of the first state
    pub first-frontier : HoldsFrontier (first_state p) (first_frontier p)
    unfolding first_state first_frontier
    first-frontier =
        let h = front-rep in
        record {
          rep = record { ok = h.ok; len = h.len; at = h.at; short = h.short };
          marks = subst (λ (m : List ℕ). Marks m (λ (c : ℕ). member c first_front)) (λ d. marked (sym h.at d) (sym h.len d)) (front-marks first_front front-small);
          small = front-small;
          news = [];
          olds = first_front;
          parts = refl;
          once = refl;
          few = tt;
          room = let a = length-top in let b = length-append (top p) (east ∷ []) in omega arith;
        }

    -- there is room for it
    pub first_whole : run.unless_failed (first_frontier p) ≡ None → ⊥
    first_whole none = false≢true (sym (unless_failed_none (first_frontier p) none) ∙ first-frontier.rep.ok)
