-- The entries of a lent file, copied in order: the flat arrays hold the plan that the file holds.
use Prim.Native.Nat.{ℕ, zero, suc, ◌-◌, ◌≤◌, ◌<◌}
use mathlib.Core.Path.{◌≡◌, sym, ap, ◌∙◌}
use mathlib.Core.List.{List, [], ◌++◌, map}
use native.Mathlib.Omega.{arith}
use lib.ListN.{length, get_or, take}
use lib.Seq.{take-length}
use Rattle.lists.specs.Ranges.{from}
use Rattle.lists.specs.Parts.{flatten}
use Rattle.lists.specs.Spans.{stretch, zeros, zero_padded}
use Rattle.lists.proofs.Ranges.{length-map-from, get_or-map-from}
use Rattle.lists.proofs.Stretches.{length-joined-more, stretch-joined, map-from-same}
use Rattle.model.specs.Plan.{Plan, entry_count}
use Rattle.rings.specs.Tables.{start_of, starts_of, rows, table}
use Rattle.rings.specs.FilePlans.{words_at, body_at, plan_in_file}
use Rattle.rings.proofs.Rows.{start_first, start-more}
use Rattle.file_rings.proofs.Rings.{length-words-at}

-- rings of these sizes, one for each of the first n contexts
module _ (f : ℕ → List ℕ) (sizes : List ℕ) (n : ℕ) (long : (u : ℕ) → length (f u) ≡ get_or sizes u 0) where
  abbrev all-rings : List (List ℕ)
  all-rings = map f (from 0 n)

  ring-at : (u : ℕ) → u < n → get_or all-rings u [] ≡ f u
  ring-at u h = get_or-map-from f 0 n u [] h ∙ ap f (omega arith)

  -- a ring begins where the rings before it end
  start-joined : (u : ℕ) → u ≤ n → start_of sizes u ≡ length (flatten (take u all-rings))
  start-joined zero h = sym (start_first sizes)
  start-joined (suc u) h =
      let r = start-joined u (omega arith) in
      let m = length-joined-more all-rings u in
      let s = start-more sizes u in
      let k = ap length (ring-at u h) ∙ long u in
      omega arith

  -- all rings together have as many entries as their sizes add up to
  total-joined : length (flatten all-rings) ≡ start_of sizes n
  total-joined = ap (λ (l : List (List ℕ)). length (flatten l)) (sym (take-length all-rings) ∙ ap (λ (k : ℕ). take k all-rings) (length-map-from f 0 n)) ∙ sym (start-joined n (omega arith))

  -- the stretch of the entries that the sizes give a context is its ring
  row-joined : (rest : List ℕ) → n ≤ 200 → (u : ℕ) → u < n → stretch (flatten all-rings ++ rest) (get_or (starts_of sizes) u 0) (get_or sizes u 0) ≡ f u
  unfolding starts_of
  row-joined rest t u h =
      let start : get_or (starts_of sizes) u 0 ≡ length (flatten (take u all-rings)) = get_or-map-from (start_of sizes) 0 200 u 0 (omega arith) ∙ ap (start_of sizes) (omega arith) ∙ start-joined u (omega arith) in
      let size : get_or sizes u 0 ≡ length (get_or all-rings u []) = sym (ap length (ring-at u h) ∙ long u) in
      (λ i. stretch (flatten all-rings ++ rest) (start i) (size i)) ∙ stretch-joined all-rings rest u ∙ ring-at u h

module _ (sizes file : List ℕ) (n : ℕ) where
  abbrev held : Plan
  held = plan_in_file (starts_of sizes) sizes file n

  abbrev body : ℕ → List ℕ
  body u = words_at file (body_at (starts_of sizes) u) (get_or sizes u 0)

  -- Entries that begin with all rings of the file, in context order, make the file's plan
  pub copied : (rest : List ℕ) → n ≤ 200 → table sizes (flatten held.rings ++ rest) n ≡ held
  unfolding table rows plan_in_file
  copied rest t = ap {B = Plan} (λ (rs : List (List ℕ)). record { rings = rs }) (map-from-same _ _ 0 n (λ u p q. row-joined body sizes n (λ w. length-words-at file (body_at (starts_of sizes) w) (get_or sizes w 0)) rest t u (omega arith)))

  -- so do the file's rings in an array of k, with zeros behind
  pub copied-zero_padded : (k : ℕ) → n ≤ 200 → table sizes (zero_padded k (flatten held.rings)) n ≡ held
  unfolding zero_padded
  copied-zero_padded k t = copied (zeros (k - length (flatten held.rings))) t

-- 7: all rings of a lent file together have as many entries as their sizes add up to
pub entry-count-lent : (starts sizes file : List ℕ) (n : ℕ) → entry_count (plan_in_file starts sizes file n) ≡ start_of sizes n
unfolding entry_count plan_in_file
entry-count-lent starts sizes file n = total-joined (λ (u : ℕ). words_at file (body_at starts u) (get_or sizes u 0)) sizes n (λ u. length-words-at file (body_at starts u) (get_or sizes u 0))
