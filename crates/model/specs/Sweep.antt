-- The sweep: labels worked out from North down to South.
use Rattle.std.specs.Prelude.{ℕ, zero, suc, ◌-◌, List, [], ◌∷◌, ◌++◌, map, reverse, Bool, true, cond, not, ◌&&◌, ◌||◌, length, get_or, take, drop}
use Rattle.std.proofs.Math.Seq.{slice}
use Rattle.std.specs.List.{list_any, list_all}
use Rattle.lists.specs.Tests.{is_empty, member, repeats, same_list}
use Rattle.lists.specs.Ranges.{from, countdown}
use Rattle.lists.specs.Parts.{flatten, steps, squeeze}
use Rattle.model.specs.Outcome.{Outcome, accepted, refused, ◌>>=◌, ◌>>◌}
use Rattle.model.specs.Plan.{Plan, Dart, context_count, ring, darts, border, adjacent, strictly_between, north, east, south, west}
use Rattle.model.specs.Labels.{up, right, border_label, unlabelled, turned, put_label, label_rules}

-- The frontier from West to East, the contexts that are or were on it, and the labels so far
pub record State : Type 0 where
  pub frontier : List ℕ
  pub seen : List ℕ
  pub labels : List ℕ

-- label l on each of these darts, and its opposite on the reverse
unfoldable pub label_edges : Plan → ℕ → List Dart → List ℕ → List ℕ
label_edges p l [] ls = ls
label_edges p l ((u, v) ∷ ds) ls = label_edges p l ds (put_label p u v l (put_label p v u (turned l 2) ls))

-- each of these contexts with each of those
unfoldable pub all_pairs : List ℕ → List ℕ → List Dart
all_pairs us vs = flatten (map (λ (u : ℕ). map (λ (v : ℕ). (u, v)) vs) us)

-- North's inner neighbours from West's side to East's
unfoldable pub top : Plan → List ℕ
top p = let r = ring p north in reverse (slice 1 (length r - 1) r)

-- 4 between border contexts, and no other label yet
unfoldable pub bare_labels : Plan → List ℕ
bare_labels p = map (λ (d : Dart). cond (border d.0 && border d.1) border_label unlabelled) (darts p)

-- The frontier starts as West, North's inner neighbours, East; darts from these to North are up
unfoldable pub first_state : Plan → State
first_state p =
    let f = west ∷ top p ++ (east ∷ []) in
    record { frontier = f; seen = f; labels = label_edges p up (all_pairs (top p) (north ∷ [])) (bare_labels p) }

-- Below the context at position k of a frontier: the entries of its ring strictly between its right and its left frontier neighbour, clockwise, read in reverse
unfoldable pub below : Plan → List ℕ → ℕ → List ℕ
below p f k = reverse (strictly_between (get_or f (suc k) 0) (get_or f (k - 1) 0) (ring p (get_or f k 0)))

-- every inner frontier context has South alone below
unfoldable pub finished : Plan → List ℕ → Bool
finished p f = list_all (λ (k : ℕ). same_list (below p f k) (south ∷ [])) (from 1 (length f - 2))

-- South's darts to them become up, all frontier edges right
unfoldable pub finish : Plan → State → List ℕ
finish p s = let f = s.frontier in label_edges p right (steps f) (label_edges p up (all_pairs (south ∷ []) (slice 1 (length f - 1) f)) s.labels)

-- what is below positions i + 1 to j − 1, an entry equal to the one before it dropped
unfoldable pub listed : Plan → List ℕ → ℕ → ℕ → List ℕ
listed p f i j = squeeze (flatten (map (below p f) (from (suc i) (j - suc i))))

-- the frontier with a list put in place of positions i + 1 to j − 1
unfoldable pub replaced : List ℕ → ℕ → ℕ → List ℕ → List ℕ
replaced f i j l = take (suc i) f ++ l ++ drop j f

-- no two contexts that are not adjacent on the frontier are neighbours
unfoldable pub chordless : Plan → List ℕ → Bool
chordless p [] = true
chordless p (a ∷ f) = not (list_any (adjacent p a) (drop 1 f)) && chordless p f

-- Each position between i and j has something below; the list has no repeat, no border context and none that is or was on the frontier; the new frontier has no chord
unfoldable pub eligible : Plan → State → ℕ → ℕ → Bool
eligible p s i j =
    let f = s.frontier in
    let l = listed p f i j in
    list_all (λ (k : ℕ). not (is_empty (below p f k))) (from (suc i) (j - suc i))
    && not (repeats l || list_any border l || list_any (λ (c : ℕ). member c s.seen) l)
    && chordless p (replaced f i j l)

-- positions i and j, j at least i + 2: the largest j first, then the largest i
unfoldable pub choices : List ℕ → List (ℕ × ℕ)
choices f = flatten (map (λ (j : ℕ). map (λ (i : ℕ). (i, j)) (countdown (j - 1))) (countdown (length f)))

-- the first eligible pair of a list, or 14
unfoldable pub choose : Plan → State → List (ℕ × ℕ) → Outcome (ℕ × ℕ)
choose p s [] = refused 14 0
choose p s ((i, j) ∷ cs) = let later = choose p s cs in cond (eligible p s i j) (accepted (i, j)) later

-- Edges along i to j become right; edges from the list to the replaced contexts become up
unfoldable pub advance : Plan → State → ℕ → ℕ → State
advance p s i j =
    let f = s.frontier in
    let l = listed p f i j in
    record {
      frontier = replaced f i j l;
      seen = l ++ s.seen;
      labels = label_edges p right (steps (slice i (suc j) f)) (label_edges p up (all_pairs l (slice (suc i) j f)) s.labels);
    }

-- steps until the sweep finishes; each puts a new context on the frontier, so n steps are enough
unfoldable pub sweep_from : Plan → ℕ → State → Outcome (List ℕ)
sweep_from p zero s = refused 14 0
sweep_from p (suc fuel) s =
    let more = do
      (i, j) ← choose p s (choices s.frontier)
      sweep_from p fuel (advance p s i j)
    in
    cond (finished p s.frontier) (accepted (finish p s)) more

-- The sweep; after finishing, the label rules are tested
unfoldable pub sweep : Plan → Outcome (List ℕ)
sweep p = do
  ls ← sweep_from p (context_count p) (first_state p)
  label_rules p ls
  accepted ls

-- who unfolds this unfolds all of the above: for facts that are computed
unfoldable pub sweep_computes : Unit {0}
unfolding label_edges all_pairs top bare_labels first_state below finished finish listed replaced chordless eligible choices choose advance sweep_from sweep
sweep_computes = tt
