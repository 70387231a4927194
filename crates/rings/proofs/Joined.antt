-- The rings of a table, joined: their sizes are the table's sizes, their entries are the table's entries.
use Prim.Native.Nat.{ℕ, zero, suc, ◌+◌, ◌≤◌, ◌<◌}
use mathlib.Core.Path.{◌≡◌, refl, sym, ap, ◌∙◌}
use mathlib.Core.List.{List, [], ◌∷◌, ◌++◌, map, append-nil}
use native.Mathlib.Omega.{arith}
use lib.ListN.{length, get_or}
use Rattle.lists.specs.Ranges.{from}
use Rattle.lists.specs.Parts.{flatten}
use Rattle.lists.specs.Spans.{stretch}
use Rattle.lists.proofs.Ranges.{get_or-map-from}
use Rattle.lists.proofs.Spans.{length-stretch}
use Rattle.lists.proofs.Concats.{map-append, flatten-append}
use Rattle.rings.specs.Tables.{start_of, starts_of, rows, table}
use Rattle.rings.proofs.Rows.{start_first, start-more}

-- the entries of an array one by one
pub entries-stretch : (l : List ℕ) (i k : ℕ) → map (λ (j : ℕ). get_or l j 0) (from i k) ≡ stretch l i k
unfolding stretch
entries-stretch l i zero = refl
entries-stretch l i (suc k) = ap (λ (m : List ℕ). get_or l i 0 ∷ m) (entries-stretch l (suc i) k)

-- two stretches, one behind the other
stretch-on : (l : List ℕ) (i a b : ℕ) → stretch l i a ++ stretch l (i + a) b ≡ stretch l i (a + b)
unfolding stretch
stretch-on l i zero b = let z : i + 0 ≡ i = omega arith in let y : b ≡ 0 + b = omega arith in λ t. stretch l (z t) (y t)
stretch-on l i (suc a) b =
    let z : i + suc a ≡ suc i + a = omega arith in
    let y : suc a + b ≡ suc (a + b) = omega arith in
    ap (λ (m : List ℕ). get_or l i 0 ∷ m) (ap (λ (j : ℕ). stretch l (suc i) a ++ stretch l j b) z ∙ stretch-on l (suc i) a b) ∙ ap (stretch l i) (sym y)

-- a range and the number after it
range_more : (a k : ℕ) → from a (suc k) ≡ from a k ++ ((a + k) ∷ [])
range_more a zero = let z : a + 0 ≡ a = omega arith in ap (λ (j : ℕ). j ∷ []) (sym z)
range_more a (suc k) = let z : suc a + k ≡ a + suc k = omega arith in ap (λ (l : List ℕ). a ∷ l) (range_more (suc a) k ∙ ap (λ (j : ℕ). from (suc a) k ++ (j ∷ [])) z)

-- lists of known lengths
lengths : (f : ℕ → List ℕ) (g : ℕ → ℕ) → ((u : ℕ) → length (f u) ≡ g u) → (a k : ℕ) → map length (map f (from a k)) ≡ map g (from a k)
lengths f g h a zero = refl
lengths f g h a (suc k) = λ i. h a i ∷ lengths f g h (suc a) k i

module _ (sizes es : List ℕ) where
  Row : ℕ → List ℕ
  Row u = stretch es (get_or (starts_of sizes) u 0) (get_or sizes u 0)

  -- the sizes of a table's rings
  pub table_sizes : (n : ℕ) → map length (table sizes es n).rings ≡ stretch sizes 0 n
  unfolding table rows
  table_sizes n = lengths (λ (u : ℕ). stretch es (get_or (starts_of sizes) u 0) (get_or sizes u 0)) (λ (u : ℕ). get_or sizes u 0) (λ u. length-stretch es (get_or (starts_of sizes) u 0) (get_or sizes u 0)) 0 n ∙ entries-stretch sizes 0 n

  start-at : (u : ℕ) → u < 200 → get_or (starts_of sizes) u 0 ≡ start_of sizes u
  unfolding starts_of
  start-at u h = get_or-map-from (start_of sizes) 0 200 u 0 h ∙ ap (start_of sizes) (omega arith)

  rows-joined : (n : ℕ) → n ≤ 200 → flatten (map Row (from 0 n)) ≡ stretch es 0 (start_of sizes n)
  unfolding stretch Row
  rows-joined zero h = ap (stretch es 0) (start_first sizes)
  rows-joined (suc n) h =
      let z : 0 + n ≡ n = omega arith in
      let s : get_or (starts_of sizes) n 0 ≡ 0 + start_of sizes n = start-at n (omega arith) ∙ omega arith in
      ap (λ (l : List ℕ). flatten (map Row l)) (range_more 0 n ∙ ap (λ (j : ℕ). from 0 n ++ (j ∷ [])) z)
      ∙ ap flatten (map-append Row (from 0 n) (n ∷ []))
      ∙ flatten-append (map Row (from 0 n)) (Row n ∷ [])
      ∙ (λ i. rows-joined n (omega arith) i ++ append-nil (Row n) i)
      ∙ ap (λ (j : ℕ). stretch es 0 (start_of sizes n) ++ stretch es j (get_or sizes n 0)) s
      ∙ stretch-on es 0 (start_of sizes n) (get_or sizes n 0)
      ∙ ap (stretch es 0) (sym (start-more sizes n))

  -- the entries of a table's rings, joined
  pub table-entries : (n : ℕ) → n ≤ 200 → flatten (table sizes es n).rings ≡ stretch es 0 (start_of sizes n)
  unfolding table rows Row
  table-entries n h = rows-joined n h
