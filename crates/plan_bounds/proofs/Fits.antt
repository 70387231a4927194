-- What the test of a plan says: where it fails, and what holds of a plan that fits.
use Prim.Native.Nat.{ℕ, zero, suc, ◌+◌, ◌-◌, ◌*◌, ◌≤◌, ◌<◌, min}
use mathlib.Core.Path.{◌≡◌, refl, sym, ap, ◌∙◌}
use mathlib.Core.List.{List, [], ◌∷◌, map, Memᴰ}
use mathlib.Core.Bool.{Bool, true, false, not, ◌&&◌, ◌||◌}
use native.Mathlib.Omega.{arith}
use lib.ListN.{length, get_or, take}
use lib.Dec.{eqb, leb}
use borrow.Author.Tests.{le-leb, lt-leb, leb-true, leb-false, not-true}
use Rattle.std.specs.List.{fold, list_any}
use Rattle.std.proofs.Common.{map-id}
use Rattle.std.proofs.lemmas.List.{take_min}
use Rattle.std.proofs.lemmas.List.Recursion.{is_sum_by}
use Rattle.lists.specs.Parts.{flatten}
use Rattle.lists.specs.Spans.{stretch, span}
use Rattle.lists.proofs.Bools.{or_no, no_or, and_yes, yes_and, yes-not}
use Rattle.lists.proofs.Spans.{length-stretch}
use Rattle.lists.proofs.Tests.{none_of, list_any-append, list_any-map}
use Rattle.model.specs.Plan.{Plan, context_count, neighbour, entries, ring, entry_count, bad_entry}
use Rattle.rings.specs.Tables.{sum_of, start_of, starts_of, table}
use Rattle.rings.proofs.Rows.{start_first, start-more, count-rows}
use Rattle.rings.proofs.Joined.{table-entries}
use Rattle.plan_bounds.specs.Fits.{out_of_range, fit}

-- ---- tests over joined lists
-- no entry of the joined lists passes, and none of each list
pub none-joined : (f : ℕ → Bool) (rs : List (List ℕ)) → ((u : ℕ) → u < length rs → list_any f (get_or rs u []) ≡ false) → list_any f (flatten rs) ≡ false
none-joined f [] h = refl
none-joined f (r ∷ rs) h = list_any-append f r (flatten rs) ∙ no_or (list_any f r) (list_any f (flatten rs)) (h 0 (omega arith)) (none-joined f rs (λ u k. h (suc u) (omega arith)))

pub none_each : (f : ℕ → Bool) (rs : List (List ℕ)) → list_any f (flatten rs) ≡ false → (u : ℕ) → list_any f (get_or rs u []) ≡ false
none_each f [] h u = refl
none_each f (r ∷ rs) h zero = (or_no (list_any f r) (list_any f (flatten rs)) (sym (list_any-append f r (flatten rs)) ∙ h)).0
none_each f (r ∷ rs) h (suc u) = none_each f rs (or_no (list_any f r) (list_any f (flatten rs)) (sym (list_any-append f r (flatten rs)) ∙ h)).1 u

-- of at most 200 rings all are counted
pub all-counted : (sizes : List ℕ) {n k : ℕ} → n ≤ 200 → k ≡ start_of sizes (min n 200) → k ≡ start_of sizes n
all-counted sizes {n} h e = e ∙ ap (start_of sizes) (omega arith)

-- what is given by `sum` over the sizes that are there
pub summed : (sizes : List ℕ) (n : ℕ) {k m : ℕ} → k ≡ min n 200 → m ≡ min k (length sizes) → fold (λ (a x : ℕ). a + x) 0 (map (λ (x : ℕ). x) (take m sizes)) ≡ start_of sizes (min n 200)
unfolding start_of sum_of
summed sizes n {k} {m} few there =
    ap (fold (λ (a x : ℕ). a + x) 0) (map-id (take m sizes))
    ∙ sym (is_sum_by sum_of (λ (x : ℕ). x) refl (λ x xs. refl) (take m sizes))
    ∙ ap sum_of (ap (λ (j : ℕ). take j sizes) there ∙ take_min k sizes ∙ ap (λ (j : ℕ). take j sizes) few)

-- each ring has fewer than 256 entries
pub start-low : (sizes : List ℕ) → ((i : ℕ) → get_or sizes i 0 < 256) → (u : ℕ) → start_of sizes u ≤ 255 * u
start-low sizes h zero = let e = start_first sizes in omega arith
start-low sizes h (suc u) =
    let r = start-low sizes h u in
    let m = start-more sizes u in
    let k = h u in
    omega arith

-- ---- the bounds
-- at most 200 rings, with at most 1186 entries in all
abbrev in_bounds : List ℕ → ℕ → Bool
in_bounds sizes n = leb n 200 && leb (start_of sizes n) 1186

-- n rings are in bounds where there is room for as many as they are, and for the entries of the first 200 of them
room_is : (sizes : List ℕ) (n : ℕ) {k : ℕ} → k ≡ start_of sizes (min n 200) → (leb n 200 && leb k 1186) ≡ in_bounds sizes n
room_is sizes n {k} e = go (leb n 200) refl
  where
    go : (b : Bool) → leb n 200 ≡ b → (b && leb k 1186) ≡ (b && leb (start_of sizes n) 1186)
    go false q = refl
    go true q = ap (λ (j : ℕ). leb j 1186) (all-counted sizes (leb-true n 200 q) e)

-- what the test says
bounds_say : (sizes : List ℕ) (n : ℕ) → in_bounds sizes n ≡ true → (n ≤ 200) × (start_of sizes n ≤ 1186)
bounds_say sizes n e = let (a, b) = and_yes (leb n 200) (leb (start_of sizes n) 1186) e in (leb-true n 200 a, leb-true (start_of sizes n) 1186 b)

-- ---- the test
module _ (sizes es : List ℕ) (n : ℕ) where
  abbrev p : Plan
  p = table sizes es n

  n_is : context_count p ≡ n
  unfolding table
  n_is = count-rows (starts_of sizes) sizes es n

  -- how many entries a table has
  pub total-is : n ≤ 200 → entry_count p ≡ start_of sizes n
  unfolding entry_count
  total-is h = ap length (table-entries sizes es n h) ∙ length-stretch es 0 (start_of sizes n)

  fit_many : 200 < n → false ≡ fit p
  unfolding fit
  fit_many h = sym (rw (lt-leb (context_count p) 200 (let e = n_is in omega arith)))

  fit_long : n ≤ 200 → 1186 < start_of sizes n → false ≡ fit p
  unfolding fit
  fit_long h k = sym (rw (le-leb (context_count p) 200 (let e = n_is in omega arith), lt-leb (entry_count p) 1186 (let e = total-is h in omega arith)))

  fit-rest : {k : ℕ} → n ≤ 200 → k ≡ start_of sizes n → k ≤ 1186 → not (list_any (out_of_range n) (span es 0 k)) ≡ fit p
  unfolding fit
  fit-rest {k} h e q =
      let m = n_is in
      let t = total-is h in
      let z : k - 0 ≡ start_of sizes n = omega arith in
      ap (λ (j : ℕ). not (list_any (out_of_range n) (stretch es 0 j))) z
      ∙ (λ i. not (list_any (out_of_range (sym m i)) (sym (table-entries sizes es n h) i)))
      ∙ sym (rw (le-leb (context_count p) 200 (omega arith), le-leb (entry_count p) 1186 (omega arith)))

  -- b says whether there is room, and k how many entries there are
  module _ {b : Bool} {k : ℕ} (e : b ≡ (leb n 200 && leb k 1186)) (t : k ≡ start_of sizes (min n 200)) where
    -- without room a plan does not fit
    pub fit_out : b ≡ false → false ≡ fit p
    fit_out h = go (leb n 200) refl (sym (room_is sizes n t) ∙ sym e ∙ h)
      where
        go : (b : Bool) → leb n 200 ≡ b → (b && leb (start_of sizes n) 1186) ≡ false → false ≡ fit p
        go false q z = fit_many (leb-false n 200 q)
        go true q z = fit_long (leb-true n 200 q) (leb-false (start_of sizes n) 1186 z)

    -- with room it fits where no entry is out of range
    pub fit_in : {d : Bool} → b ≡ true → d ≡ list_any (out_of_range n) (span es 0 k) → not d ≡ fit p
    fit_in h d =
        let (few, room) = bounds_say sizes n (sym (room_is sizes n t) ∙ sym e ∙ h) in
        let all = all-counted sizes few t in
        ap not d ∙ fit-rest few all (omega arith)

-- ---- what fits
pub record Fit (p : Plan) : Type 0 where
  pub few : context_count p ≤ 200
  pub room : entry_count p ≤ 1186
  pub inside : (u v : ℕ) → Memᴰ v (ring p u) → v < context_count p

pub fit-says : (p : Plan) → fit p ≡ true → Fit p
unfolding fit out_of_range ring entries
fit-says p e =
    let odd = list_any (out_of_range (context_count p)) (flatten p.rings) in
    let (a, b) = and_yes (leb (context_count p) 200) (leb (entry_count p) 1186 && not odd) e in
    let (c, d) = and_yes (leb (entry_count p) 1186) (not odd) b in
    record { few = leb-true (context_count p) 200 a; room = leb-true (entry_count p) 1186 c; inside = λ u v m. go u v m (not-true odd d) }
  where
    go : (u v : ℕ) → Memᴰ v (ring p u) → list_any (out_of_range (context_count p)) (flatten p.rings) ≡ false → v < context_count p
    go u v m h =
        leb-false (context_count p) v (none_of (leb (context_count p)) (ring p u) (sym (list_any-map (leb (context_count p)) neighbour (entries p u)) ∙ none_each (out_of_range (context_count p)) p.rings h u) v m)

-- where one of two tests passes nowhere, the first passes nowhere
none_first : (f g : ℕ → Bool) (l : List ℕ) → list_any (λ (a : ℕ). f a || g a) l ≡ false → list_any f l ≡ false
none_first f g [] h = refl
none_first f g (a ∷ l) h = let (x, y) = or_no (f a || g a) (list_any (λ (b : ℕ). f b || g b) l) h in no_or (f a) (list_any f l) (or_no (f a) (g a) x).0 (none_first f g l y)

-- A plan that is small enough and keeps rule 4 fits
pub says-fit : (p : Plan) → context_count p ≤ 200 → entry_count p ≤ 1186 → ((u : ℕ) → u < context_count p → bad_entry p u ≡ false) → fit p ≡ true
unfolding fit out_of_range bad_entry ring entries
says-fit p few room good =
    let odd = list_any (out_of_range (context_count p)) (flatten p.rings) in
    yes_and (leb (context_count p) 200) (leb (entry_count p) 1186 && not odd) (le-leb (context_count p) 200 few)
    (yes_and (leb (entry_count p) 1186) (not odd) (le-leb (entry_count p) 1186 room) (yes-not odd (none-joined (out_of_range (context_count p)) p.rings each)))
  where
    each : (u : ℕ) → u < context_count p → list_any (out_of_range (context_count p)) (get_or p.rings u []) ≡ false
    each u h = list_any-map (leb (context_count p)) neighbour (entries p u) ∙ none_first (leb (context_count p)) (λ (v : ℕ). eqb v u) (ring p u) (good u h)
