-- Parts of a lent file copied into arrays: what the loops keep, and that the arrays hold what the file holds.
use Prim.Native.Nat.{ℕ, zero, suc, ◌+◌, ◌-◌, ◌*◌, ◌^◌, ◌≤◌, ◌<◌, min}
use mathlib.Core.Path.{◌≡◌, refl, sym, ap, ◌∙◌}
use mathlib.Core.List.{List, [], ◌∷◌, ◌++◌, append_assoc, append-nil}
use mathlib.Core.Logic.{◌⊎◌, inl, inr}
use native.Mathlib.Omega.{arith}
use lib.ListN.{length, get_or, take, drop, set, replicate, length-take, length-drop, length-append, drop_of_length-le}
use lib.Seq.{get_or-drop, take_all, take_at, drop_at, set_at, take-suc, drop-cons, append_snoc}
use borrow.Rule.Slice.PartMut.{put_mid}
use Rattle.std.proofs.lemmas.List.{drop-replicate}
use Rattle.lists.specs.Parts.{flatten}
use Rattle.lists.specs.Spans.{stretch, zeros, zero_padded}
use Rattle.lists.proofs.Concats.{flatten-append}
use Rattle.lists.proofs.Loops.{zero_padded-none}
use Rattle.lists.proofs.Ranges.{lt-or-le, length-map-from, get_or-map-from}
use Rattle.lists.proofs.Stretches.{length-joined-more}
use Rattle.model.specs.File.{entry_offset}
use Rattle.rings.specs.Tables.{start_of, starts_of}
use Rattle.rings.specs.FilePlans.{words_at, body_at, plan_in_file}
use Rattle.rings.proofs.Rows.{start_first, start-more, ring_ends}
use Rattle.arrays.specs.ArrayParts.{word_of}
use Rattle.file_rings.proofs.Rings.{length-words-at}
use Rattle.file_framing.specs.Layouts.{plan_in}
use Rattle.sheet.proofs.Made.{take-there, part_padded}

-- ---- for i in 0..k { to[i] = word(at + 2 * i); }
-- one number more
words_more : (file : List ℕ) (at k : ℕ) → words_at file at (suc k) ≡ words_at file at k ++ (word_of file (at + 2 * k) ∷ [])
unfolding words_at
words_more file at zero = ap (λ (j : ℕ). word_of file j ∷ []) (omega arith)
words_more file at (suc k) = ap (λ (l : List ℕ). word_of file at ∷ l) (words_more file (at + 2) k ∙ ap (λ (j : ℕ). words_at file (at + 2) k ++ (word_of file j ∷ [])) (omega arith))

-- the first i numbers are copied, and what stands behind them is as it was
pub record Copied (file : List ℕ) (at i : ℕ) (before now : List ℕ) : Type 0 where
  pub reached : i ≤ length before
  pub same : now ≡ words_at file at i ++ drop i before

pub copied_start : {file before : List ℕ} {at : ℕ} → Copied file at 0 before before
unfolding words_at
copied_start = record { reached = omega arith; same = refl }

module _ {file before now : List ℕ} {at i : ℕ} (inv : Copied file at i before now) where
  pub copied_on : {x i' : ℕ} {now' : List ℕ} → i < length before → i' ≡ suc i → x ≡ word_of file (at + 2 * i) → now' ≡ set now i x → Copied file at i' before now'
  copied_on {x} {i'} {now'} h e w p =
      let front : List ℕ = words_at file at i in
      let rest : List ℕ = drop (suc i) before in
      record {
        reached = omega arith;
        same =
            p ∙ ap (λ (l : List ℕ). set l i x) (inv.same ∙ ap (front ++◌) (drop-cons before i 0 h))
            ∙ set_at front (get_or before i 0) rest x i (length-words-at file at i)
            ∙ sym (append_snoc front x rest)
            ∙ ap (λ (y : ℕ). (front ++ (y ∷ [])) ++ rest) w
            ∙ (λ t. sym (words_more file at i) t ++ rest)
            ∙ ap (λ (j : ℕ). words_at file at j ++ drop j before) (sym e);
      }

-- all that is left from an offset on, or from the end
pub rest-from : (s : List ℕ) (at : ℕ) {from : ℕ} → from ≡ min at (length s) → take (length s - from) (drop from s) ≡ drop at s
rest-from s at {from} e = take_all (length s - from) (drop from s) (omega (arith, length-drop from s)) ∙ go (lt-or-le at (length s))
  where
    go : (at < length s) ⊎ (length s ≤ at) → drop from s ≡ drop at s
    go (inl h) = ap (λ (k : ℕ). drop k s) (omega arith)
    go (inr h) = drop_of_length-le s (omega arith) ∙ sym (drop_of_length-le s h)

-- so a number there
pub word_in_rest : (s : List ℕ) (at j : ℕ) {from : ℕ} → from ≡ min at (length s) → word_of (take (length s - from) (drop from s)) j ≡ word_of s (at + j)
word_in_rest s at j e =
    let z : at + (j + 1) ≡ at + j + 1 = omega arith in
    ap (λ (l : List ℕ). word_of l j) (rest-from s at e) ∙ (λ t. get_or-drop at s j 0 t + 256 * (get_or-drop at s (j + 1) 0 ∙ ap (λ (k : ℕ). get_or s k 0) z) t)

-- ---- the entries of all rings
-- numbers behind those that an array holds
zero_padded_mid : (m a k : ℕ) (l r : List ℕ) → a ≡ length l → k ≡ length r → a + k ≤ m → put_mid a k (zero_padded m l) r ≡ zero_padded m (l ++ r)
unfolding zero_padded zeros
zero_padded_mid m a k l r e f h =
    let back : List ℕ = zeros (m - length l) in
    let z : m - length l - k ≡ m - length (l ++ r) = let n = length-append l r in omega arith in
    let front : take a (l ++ back) ≡ l = take_at l back a (sym e) in
    let behind : drop k (drop a (l ++ back)) ≡ zeros (m - length (l ++ r)) = ap (drop k) (drop_at l back a (sym e)) ∙ drop-replicate k (m - length l) 0 ∙ ap zeros z in
    (λ t. front t ++ (r ++ behind t)) ∙ sym (append_assoc l r (zeros (m - length (l ++ r))))

module _ (file sizes : List ℕ) (n : ℕ) where
  abbrev rings : List (List ℕ)
  rings = (plan_in file sizes n).rings

  body : ℕ → List ℕ
  body u = words_at file (body_at (starts_of sizes) u) (get_or sizes u 0)

  ring-at : (u : ℕ) → u < n → get_or rings u [] ≡ body u
  unfolding plan_in_file body
  ring-at u h = get_or-map-from body 0 n u [] h ∙ ap body (omega arith)

  rings-size : length rings ≡ n
  unfolding plan_in_file body
  rings-size = length-map-from body 0 n

  body-size : (u : ℕ) → length (body u) ≡ get_or sizes u 0
  unfolding body
  body-size u = length-words-at file (body_at (starts_of sizes) u) (get_or sizes u 0)

  -- a ring begins where the rings before it end
  start-at : (u : ℕ) → u ≤ n → length (flatten (take u rings)) ≡ start_of sizes u
  start-at zero h = start_first sizes
  start-at (suc u) h =
      let r = start-at u (omega arith) in
      let m = length-joined-more rings u in
      let s = start-more sizes u in
      let k = ap length (ring-at u h) ∙ body-size u in
      omega arith

  -- where its entries stand in the file
  body-there : (u : ℕ) → u < n → n ≤ 200 → body u ≡ words_at file (entry_offset u (start_of sizes u)) (get_or sizes u 0)
  unfolding body body_at starts_of
  body-there u h few =
      let begin : get_or (starts_of sizes) u 0 ≡ start_of sizes u = get_or-map-from (start_of sizes) 0 200 u 0 (omega arith) ∙ ap (start_of sizes) (omega arith) in
      ap (λ (s : ℕ). words_at file (entry_offset u s) (get_or sizes u 0)) begin

  -- one ring more
  rings-more : (u : ℕ) → u < n → flatten (take (suc u) rings) ≡ flatten (take u rings) ++ body u
  rings-more u h =
      ap flatten (take-suc rings u [] (omega (arith, rings-size))) ∙ flatten-append (take u rings) (get_or rings u [] ∷ []) ∙ ap (flatten (take u rings) ++◌) (append-nil (get_or rings u []) ∙ ring-at u h)

-- ---- for u in 0..n { copy_words(&mut entries[at..at + size], ..); at += size; }
-- the rings before u's are copied
pub record Copies (file sizes : List ℕ) (n u at : ℕ) (es : List ℕ) : Type 0 where
  pub reached : u ≤ n
  pub stands : at ≡ start_of sizes u
  pub filled : es ≡ zero_padded 1186 (flatten (take u (plan_in file sizes n).rings))

pub copies_start : {file sizes : List ℕ} {n : ℕ} {es : List ℕ} → es ≡ replicate 1186 0 → Copies file sizes n 0 0 es
unfolding zeros
copies_start {sizes = sizes} e = record { reached = omega arith; stands = start_first sizes; filled = e ∙ sym (zero_padded-none 1186) }

module _ {file sizes : List ℕ} {n u at : ℕ} {es : List ℕ} (inv : Copies file sizes n u at es) (room : start_of sizes n ≤ 1186) where
  -- there is room for u's ring
  pub copies_room : {k : ℕ} → u < n → k ≡ get_or sizes u 0 → at + k ≤ 1186
  copies_room h q = let m = ring_ends sizes u n h in let s = inv.stands in omega arith

  pub copies_fit : {k : ℕ} → u < n → k ≡ get_or sizes u 0 → length es ≡ 1186 → at + k ≤ length es
  copies_fit h q e = let r = copies_room h q in omega arith

  -- it is copied
  pub copies_ring : {k from at' u' : ℕ} {es' ws : List ℕ} → n ≤ 200 → u < n → k ≡ get_or sizes u 0 → length es ≡ 1186
      → from ≡ min (entry_offset u at) (2 ^ 64 - 1) → ws ≡ words_at file from (length (take (at + k - at) (drop at es))) → es' ≡ put_mid at (at + k - at) es ws → at' ≡ at + k → u' ≡ suc u → Copies file sizes n u' at' es'
  copies_ring {k} {from} {at'} {u'} {es'} {ws} few h q long o w p e r =
      let s = inv.stands in
      let fits = copies_room h q in
      let more = start-more sizes u in
      let b = body-size file sizes n u in
      let t = length-take (at + k - at) (drop at es) in
      let d = length-drop at es in
      let whole : length (take (at + k - at) (drop at es)) ≡ get_or sizes u 0 = omega arith in
      let next : start_of sizes u' ≡ start_of sizes (suc u) = ap (start_of sizes) r in
      let l : List ℕ = flatten (take u (plan_in file sizes n).rings) in
      let here : from ≡ entry_offset u (start_of sizes u) = omega arith in
      let there : ws ≡ body file sizes n u = w ∙ (λ t. words_at file (here t) (whole t)) ∙ sym (body-there file sizes n u h few) in
      record {
        reached = omega arith;
        stands = omega arith;
        filled =
            p ∙ (λ t. put_mid at (at + k - at) (inv.filled t) (there t))
            ∙ zero_padded_mid 1186 at (at + k - at) l (body file sizes n u) (s ∙ sym (start-at file sizes n u (omega arith))) (omega arith) (omega arith)
            ∙ ap (zero_padded 1186) (sym (rings-more file sizes n u h) ∙ ap (λ (v : ℕ). flatten (take v (plan_in file sizes n).rings)) (sym r));
      }

  -- all rings are copied
  pub copies_end : n ≤ u → es ≡ zero_padded 1186 (flatten (plan_in file sizes n).rings)
  copies_end h = let q = inv.reached in let z = rings-size file sizes n in inv.filled ∙ ap (λ (l : List (List ℕ)). zero_padded 1186 (flatten l)) (take_all u (plan_in file sizes n).rings (omega arith))

-- ---- the label bytes
-- what is lent of the rest, at most k bytes
pub labels-lent : (s : List ℕ) (at k m : ℕ) {r l : List ℕ} {j : ℕ} → k ≤ m → r ≡ drop at s → j ≡ min k (length r) → l ≡ take j r → (length l ≤ m) × (zero_padded m l ≡ zero_padded m (stretch s at k))
labels-lent s at k m {r} {l} {j} h e q f =
    let there : l ≡ take k (drop at s) = f ∙ ap (λ (i : ℕ). take i r) q ∙ take-there r k ∙ ap (take k) e in
    (omega (arith, ap length there, length-take k (drop at s)), ap (zero_padded m) there ∙ part_padded s at k m h)
