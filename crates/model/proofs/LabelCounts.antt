-- How many labels there are: a label is put in place of another, so sweep and turn give as many labels as the plan has entries.
use Prim.Native.Nat.{ℕ, zero, suc, ◌+◌, ◌-◌, ◌%◌}
use mathlib.Core.Path.{◌≡◌, refl, sym, ap, ◌∙◌}
use mathlib.Core.List.{List, [], ◌∷◌, map}
use mathlib.Core.Bool.{Bool, true, false, cond, ◌&&◌}
use native.Mathlib.Omega.{arith}
use lib.ListN.{length, get_or, set, length-append, length-map, length-set}
use lib.Seq.{slice}
use lib.Dec.{eqb, ltb}
use Rattle.lists.specs.Ranges.{from}
use Rattle.lists.specs.Parts.{flatten, index_of, pairs, steps}
use Rattle.model.specs.Outcome.{Outcome, accepted, refused, ◌>>=◌, ◌>>◌, require, rule}
use Rattle.model.specs.Plan.{Plan, Dart, context_count, neighbour, entries, ring, adjacent, border, darts_from, darts, entry_count, north, south}
use Rattle.model.specs.Labels.{up, right, border_label, unlabelled, start, label_of, turned, put_label, label_rules}
use Rattle.model.specs.Sweep.{State, label_edges, all_pairs, top, bare_labels, first_state, finished, finish, listed, choices, choose, advance, sweep_from, sweep}
use Rattle.model.specs.Turn.{reverse_dart, bad_pair, quarters, turn_dart, turned_edges, turn}
use Rattle.model.proofs.Outcomes.{not-both, same-value, bind_accepted, then_accepted}

-- a label put on a dart
pub put_long : (p : Plan) (u v l : ℕ) (ls : List ℕ) → length (put_label p u v l ls) ≡ length ls
unfolding put_label
put_long p u v l ls = go (adjacent p u v)
  where
    go : (t : Bool) → length (cond t (set ls (start p u + index_of v (ring p u)) l) ls) ≡ length ls
    go true = length-set ls (start p u + index_of v (ring p u)) l
    go false = refl

-- ---- the sweep
-- a label put on edges
pub edges_long : (p : Plan) (l : ℕ) (ds : List Dart) (ls : List ℕ) → length (label_edges p l ds ls) ≡ length ls
unfolding label_edges
edges_long p l [] ls = refl
edges_long p l ((u, v) ∷ ds) ls = edges_long p l ds (put_label p u v l (put_label p v u (turned l 2) ls)) ∙ put_long p u v l (put_label p v u (turned l 2) ls) ∙ put_long p v u (turned l 2) ls

-- lists over a range, as long as the lists of another list
joined_long : {A B : Type 0} (rs : List (List A)) (a : ℕ) (f : ℕ → List B) → ((u i : ℕ) → i ≡ a + u → length (f i) ≡ length (get_or rs u [])) → length (flatten (map f (from a (length rs)))) ≡ length (flatten rs)
joined_long [] a f h = refl
joined_long (r ∷ rs) a f h =
    let here = h 0 a (omega arith) in
    let rest = joined_long rs (suc a) f (λ u i e. h (suc u) i (omega arith)) in
    let l = length-append (f a) (flatten (map f (from (suc a) (length rs)))) in
    let m = length-append r (flatten rs) in
    omega arith

-- how many darts leave a context
from_each : (p : Plan) (u : ℕ) → length (darts_from p u) ≡ length (entries p u)
unfolding darts_from ring
from_each p u = length-map {B = Dart} (ring p u) (λ (v : ℕ). (u, v)) ∙ length-map (entries p u) neighbour

-- before any label is put there is one place for each entry
pub bare_long : (p : Plan) → length (bare_labels p) ≡ entry_count p
unfolding bare_labels darts entries entry_count
bare_long p =
    length-map (darts p) (λ (d : Dart). cond (border d.0 && border d.1) border_label unlabelled)
    ∙ joined_long p.rings 0 (darts_from p) (λ u i e. ap (λ (j : ℕ). length (darts_from p j)) (let q : i ≡ u = omega arith in q) ∙ from_each p u)

finish_long : (p : Plan) (s : State) → length s.labels ≡ entry_count p → length (finish p s) ≡ entry_count p
unfolding finish
finish_long p s h =
    let f = s.frontier in
    let south-darts = all_pairs (south ∷ []) (slice 1 (length f - 1) f) in
    edges_long p right (steps f) (label_edges p up south-darts s.labels) ∙ edges_long p up south-darts s.labels ∙ h

advance_long : (p : Plan) (s : State) → length s.labels ≡ entry_count p → (i j : ℕ) → length (advance p s i j).labels ≡ entry_count p
unfolding advance
advance_long p s h i j =
    let f = s.frontier in
    let ups = all_pairs (listed p f i j) (slice (suc i) j f) in
    edges_long p right (steps (slice i (suc j) f)) (label_edges p up ups s.labels) ∙ edges_long p up ups s.labels ∙ h

-- a sweep that finishes
pub from_long : (p : Plan) (k : ℕ) (s : State) → length s.labels ≡ entry_count p → (ls : List ℕ) → sweep_from p k s ≡ accepted ls → length ls ≡ entry_count p
unfolding sweep_from
from_long p zero s h ls e = not-both e
from_long p (suc k) s h ls e = go (finished p s.frontier) (choose p s (choices s.frontier)) (from_long p k) e
  where
    go : (t : Bool) (o : Outcome (ℕ × ℕ)) → ((s' : State) → length s'.labels ≡ entry_count p → (ls : List ℕ) → sweep_from p k s' ≡ accepted ls → length ls ≡ entry_count p)
        → cond t (accepted (finish p s)) (o >>= (λ (c : ℕ × ℕ). sweep_from p k (advance p s c.0 c.1))) ≡ accepted ls → length ls ≡ entry_count p
    go true o r e = ap length (sym (same-value e)) ∙ finish_long p s h
    go false (accepted c) r e = r (advance p s c.0 c.1) (advance_long p s h c.0 c.1) ls e
    go false (refused n at) r e = not-both e

pub first_long : (p : Plan) → length (first_state p).labels ≡ entry_count p
unfolding first_state
first_long p = edges_long p up (all_pairs (top p) (north ∷ [])) (bare_labels p) ∙ bare_long p

-- labels that were tested and handed on
tested_same : (p : Plan) (ls ms : List ℕ) → (label_rules p ls >> accepted ls) ≡ accepted ms → ls ≡ ms
tested_same p ls ms e = same-value (then_accepted (label_rules p ls) (accepted ls) ms e).1

pub sweep_long : (p : Plan) (ms : List ℕ) → sweep p ≡ accepted ms → length ms ≡ entry_count p
unfolding sweep
sweep_long p ms e =
    let (ls, f, r) = bind_accepted (sweep_from p (context_count p) (first_state p)) (λ (l : List ℕ). label_rules p l >> accepted l) ms e in
    ap length (sym (tested_same p ls ms r)) ∙ from_long p (context_count p) (first_state p) (first_long p) ls f

-- ---- the turn
pub turns_long : (p : Plan) (q : ℕ) (es : List Dart) (ls : List ℕ) → length (turned_edges p q es ls) ≡ length ls
unfolding turned_edges turn_dart
turns_long p q [] ls = refl
turns_long p q (e ∷ es) ls =
    let back = turn_dart p q (reverse_dart e) ls in
    turns_long p q es (turn_dart p q e back)
    ∙ put_long p e.0 e.1 (turned (label_of p back e.0 e.1) q) back
    ∙ put_long p e.1 e.0 (turned (label_of p ls e.1 e.0) q) ls

-- a turn that is accepted turns the edges that are named, tests the labels and hands them on
pub turn-accepted : (p : Plan) (ls items : List ℕ) (d : ℕ) (ms : List ℕ) → turn p ls items d ≡ accepted ms
    → (label_rules p (turned_edges p (quarters d) (pairs items) ls) >> accepted (turned_edges p (quarters d) (pairs items) ls)) ≡ accepted ms
unfolding turn
turn-accepted p ls items d ms e =
    let es = pairs items in
    let (_, e₁) = then_accepted (rule 15 (length es) (bad_pair p es)) _ ms e in
    let (_, e₂) = then_accepted (require (eqb (length items % 2) 0) 15 (length es)) _ ms e₁ in
    (then_accepted (require (ltb d 2) 15 (length es)) _ ms e₂).1

pub turn_long : (p : Plan) (ls items : List ℕ) (d : ℕ) (ms : List ℕ) → turn p ls items d ≡ accepted ms → length ms ≡ length ls
turn_long p ls items d ms e =
    let new = turned_edges p (quarters d) (pairs items) ls in
    ap length (sym (tested_same p new ms (turn-accepted p ls items d ms e))) ∙ turns_long p (quarters d) (pairs items) ls
