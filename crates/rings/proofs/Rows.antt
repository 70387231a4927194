-- The ring of a context in flat arrays, and look-ups in it.
use Prim.Native.Nat.{ℕ, zero, suc, ◌+◌, ◌-◌, ◌*◌, ◌≤◌, ◌<◌}
use Rattle.std.specs.Prelude.{Option, Some, None}
use mathlib.Core.Path.{◌≡◌, refl, sym, ap, ◌∙◌}
use mathlib.Core.List.{List, [], ◌∷◌, map}
use mathlib.Core.Bool.{Bool, true, false, cond, ◌||◌, ◌&&◌}
use native.Mathlib.Omega.{arith}
use lib.ListN.{length, get_or, drop, drop_of_length-le}
use lib.Seq.{get_or-take, drop-cons}
use lib.Dec.{eqb, ltb}
use borrow.Author.Tests.{ltb-true, ltb-false, lt-ltb, le-ltb}
use Rattle.lists.specs.Tests.{member}
use Rattle.lists.specs.Parts.{index_of}
use Rattle.lists.specs.Spans.{stretch, span}
use Rattle.lists.proofs.Spans.{length-stretch, get_or-stretch}
use Rattle.model.specs.Plan.{context_count, neighbour, entries, ring, onward, next}
use Rattle.rings.specs.declared.Table as tables
use Rattle.rings.specs.declared.Rings as rings
use Rattle.rings.specs.Tables.{sum_of, start_of, starts_of, size_of, rows, table, table_of, plan_of, cell}
use Rattle.rings.proofs.Made.{Reads, entries-made, ring-made, count-made, size-made, past-made, at-made}

-- ---- starts: each ring begins where the one before ends
pub start_first : (sizes : List ℕ) → 0 ≡ start_of sizes 0
unfolding start_of sum_of
start_first sizes = refl

pub start-more : (sizes : List ℕ) (u : ℕ) → start_of sizes (suc u) ≡ start_of sizes u + get_or sizes u 0
unfolding start_of sum_of
start-more [] zero = refl
start-more [] (suc u) = refl
start-more (k ∷ ks) zero = omega arith
start-more (k ∷ ks) (suc u) = let r = start-more ks u in omega arith

pub start-next : (sizes : List ℕ) (u u' k s : ℕ) → u' ≡ suc u → s ≡ start_of sizes u → k ≡ get_or sizes u 0 → s + k ≡ start_of sizes u'
start-next sizes u u' k s q e f = (λ i. e i + f i) ∙ sym (start-more sizes u) ∙ ap (start_of sizes) (sym q)

-- no ring begins before an earlier one
pub start_mono : (sizes : List ℕ) (u k : ℕ) → start_of sizes u ≤ start_of sizes (u + k)
start_mono sizes u zero = let q : start_of sizes (u + 0) ≡ start_of sizes u = ap (start_of sizes) (omega arith) in omega arith
start_mono sizes u (suc k) =
    let q : start_of sizes (u + suc k) ≡ start_of sizes (suc (u + k)) = ap (start_of sizes) (omega arith) in
    let r = start_mono sizes u k in
    let m = start-more sizes (u + k) in
    omega arith

-- a ring ends where the last ring ends, or before
pub ring_ends : (sizes : List ℕ) (u n : ℕ) → u < n → start_of sizes u + get_or sizes u 0 ≤ start_of sizes n
ring_ends sizes u n h =
    let m = start-more sizes u in
    let r = start_mono sizes (suc u) (n - suc u) in
    let q : start_of sizes (suc u + (n - suc u)) ≡ start_of sizes n = ap (start_of sizes) (omega arith) in
    omega arith

-- the size of a ring, of a context and past the last
pub size-inside : (sizes : List ℕ) (n u : ℕ) → u < n → size_of sizes n u ≡ get_or sizes u 0
unfolding size_of
size-inside sizes n u h = rw (lt-ltb u n h)

pub size_outside : (sizes : List ℕ) (n u : ℕ) → n ≤ u → size_of sizes n u ≡ 0
unfolding size_of
size_outside sizes n u h = rw (le-ltb u n h)

-- the cell of a pair: where both numbers are below 200, and where one is not
pub cell_in : (u v : ℕ) → u < 200 → v < 200 → Some (200 * u + v) ≡ cell u v
unfolding cell
cell_in u v h i = rw (lt-ltb u 200 h, lt-ltb v 200 i)

pub cell_past : (u v : ℕ) → 200 ≤ u → None ≡ cell u v
unfolding cell
cell_past u v h = rw (le-ltb u 200 h)

pub cell_beyond : (u v : ℕ) → u < 200 → 200 ≤ v → None ≡ cell u v
unfolding cell
cell_beyond u v h i = rw (lt-ltb u 200 h, le-ltb v 200 i)

-- what a cell says of its pair, and what it says where there is none
module _ (u v : ℕ) {r : Option ℕ} (is : r ≡ cell u v) where
  pub cell_some : {at : ℕ} → r ≡ Some at → (u < 200) × (v < 200) × (at ≡ 200 * u + v)
  unfolding cell
  cell_some {at} e = go (ltb u 200) (ltb v 200) refl refl (sym e ∙ is)
    where
      go : (x y : Bool) → ltb u 200 ≡ x → ltb v 200 ≡ y → Some at ≡ cond (x && y) (Some (200 * u + v)) None → (u < 200) × (v < 200) × (at ≡ 200 * u + v)
      go false y p q e = cc
      go true false p q e = cc
      go true true p q e = (ltb-true u 200 p, ltb-true v 200 q, cc)

  pub cell_none : ((at : ℕ) → r ≡ Some at → ⊥) → (ltb u 200 && ltb v 200) ≡ false
  unfolding cell
  cell_none never = go (ltb u 200 && ltb v 200) is
    where
      go : (x : Bool) → r ≡ cond x (Some (200 * u + v)) None → x ≡ false
      go false e = refl
      go true e = absurd (never (200 * u + v) e)

-- the entries from each start on
pub row_reads : (starts es : List ℕ) → Reads (λ (u k : ℕ). stretch es (get_or starts u 0) k) (λ (u i : ℕ). get_or es (get_or starts u 0 + i) 0)
unfolding stretch
row_reads starts es = record { none = λ u. refl; long = λ u k. length-stretch es (get_or starts u 0) k; at = λ u k i h. get_or-stretch es (get_or starts u 0) k i h }

module _ (starts sizes es : List ℕ) (n : ℕ) where
  abbrev Row : ℕ → List ℕ
  Row u = stretch es (get_or starts u 0) (size_of sizes n u)

  -- u's ring as it is given, for every u
  pub entries-rows : (u : ℕ) → entries (rows starts sizes es n) u ≡ Row u
  unfolding rows
  entries-rows u = entries-made (row_reads starts es) sizes n u

  pub ring-rows : (u : ℕ) → ring (rows starts sizes es n) u ≡ map neighbour (Row u)
  unfolding rows
  ring-rows u = ring-made (row_reads starts es) sizes n u

  pub count-rows : context_count (rows starts sizes es n) ≡ n
  unfolding rows
  count-rows = count-made (row_reads starts es) sizes n

  pub ring-size : (u : ℕ) → length (ring (rows starts sizes es n) u) ≡ size_of sizes n u
  unfolding rows
  ring-size u = size-made (row_reads starts es) sizes n u

  -- the entry at i; past the end there is 0
  pub ring-past : (u i : ℕ) → size_of sizes n u ≤ i → get_or (ring (rows starts sizes es n) u) i 0 ≡ 0
  unfolding rows
  ring-past u i h = past-made (row_reads starts es) sizes n u i h

  pub ring-at : (u i : ℕ) → i < size_of sizes n u → get_or (ring (rows starts sizes es n) u) i 0 ≡ neighbour (get_or es (get_or starts u 0 + i) 0)
  unfolding rows
  ring-at u i h = at-made (row_reads starts es) sizes n u i h

  -- where an entry stands
  pub ring_index : (u v : ℕ) → index_of v (map neighbour (span es (get_or starts u 0) (get_or starts u 0 + size_of sizes n u))) ≡ index_of v (ring (rows starts sizes es n) u)
  ring_index u v =
      let k : get_or starts u 0 + size_of sizes n u - get_or starts u 0 ≡ size_of sizes n u = omega arith in
      ap (λ (j : ℕ). index_of v (map neighbour (stretch es (get_or starts u 0) j))) k ∙ ap (index_of v) (sym (ring-rows u))

-- the plan of rings that begin where the sizes of a table say is the plan of the table
pub as_table : (t : tables.Table) (r : rings.Rings) → r.starts.now ≡ starts_of t.sizes.now → r.sizes.now ≡ t.sizes.now → r.entries.now ≡ t.entries.now → r.n ≡ t.n → plan_of r ≡ table_of t
unfolding table
as_table t r starts sizes entries n = λ i. rows (starts i) (sizes i) (entries i) (n i)

-- an index in a list, or its length
pub index_le : (v : ℕ) (l : List ℕ) → index_of v l ≤ length l
index_le v [] = omega arith
index_le v (a ∷ l) = go (eqb v a) (index_le v l)
  where
    go : (t : Bool) → index_of v l ≤ length l → cond t 0 (suc (index_of v l)) ≤ suc (length l)
    go true h = omega arith
    go false h = omega arith

-- an entry is there exactly where its index is below the length
pub member_index : (v : ℕ) (l : List ℕ) → member v l ≡ ltb (index_of v l) (length l)
member_index v [] = refl
member_index v (a ∷ l) = go (eqb v a) (member_index v l)
  where
    go : (t : Bool) → member v l ≡ ltb (index_of v l) (length l) → (t || member v l) ≡ ltb (cond t 0 (suc (index_of v l))) (suc (length l))
    go true h = sym (lt-ltb 0 (suc (length l)) (omega arith))
    go false h = h ∙ same (ltb (index_of v l) (length l)) refl
      where
        same : (t : Bool) → ltb (index_of v l) (length l) ≡ t → ltb (index_of v l) (length l) ≡ ltb (suc (index_of v l)) (suc (length l))
        same true q = q ∙ sym (lt-ltb (suc (index_of v l)) (suc (length l)) (let h = ltb-true (index_of v l) (length l) q in omega arith))
        same false q = q ∙ sym (le-ltb (suc (index_of v l)) (suc (length l)) (let h = ltb-false (index_of v l) (length l) q in omega arith))

-- ---- the entry after a, by the index i of a and the length k
module _ (a : ℕ) (r : List ℕ) (i k : ℕ) (at : i ≡ index_of a r) (long : k ≡ length r) where
  past_end : k ≤ i + 1 → drop (suc (index_of a r)) r ≡ []
  past_end h = let l : length r ≤ suc (index_of a r) = omega arith in drop_of_length-le r l

  -- a is not the last: the one after it
  pub next-after : i + 1 < k → get_or r (i + 1) 0 ≡ next a r
  unfolding next onward
  next-after h = let e : i + 1 ≡ suc (index_of a r) = omega arith in rw (e, drop-cons r (suc (index_of a r)) 0 (omega arith))

  -- a is the last, or not there: the first
  pub next_round : k ≤ i + 1 → 0 < i → get_or r 0 0 ≡ next a r
  unfolding next onward
  next_round h q = sym (rw (past_end h) (get_or-take (index_of a r) r 0 a (omega arith) ∙ first r (let l = index_le a r in omega arith)))
    where
      first : (l : List ℕ) → 0 < length l → get_or l 0 a ≡ get_or l 0 0
      first [] q = absurd (omega arith)
      first (b ∷ l) q = refl

  -- the ring is empty, or a alone
  pub next-alone : k ≤ i + 1 → i ≤ 0 → a ≡ next a r
  unfolding next onward
  next-alone h q = let z : index_of a r ≡ 0 = omega arith in sym (rw (past_end h, z))
