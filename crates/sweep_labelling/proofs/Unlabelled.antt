-- The labels before the sweep, put into an array ring by ring.
use Prim.Native.Nat.{ℕ, zero, suc, ◌+◌, ◌-◌, ◌≤◌, ◌<◌, min}
use mathlib.Core.Path.{◌≡◌, refl, sym, ap, subst, ◌∙◌}
use mathlib.Core.List.{List, [], ◌∷◌, ◌++◌, map, append-nil, append_assoc}
use mathlib.Core.Bool.{cond, ◌&&◌}
use mathlib.Core.Logic.{◌⊎◌, inl, inr}
use native.Mathlib.Omega.{arith}
use borrow.Author.Tests.{le-ltb}
use borrow.Rule.Slice.PartMut.{put_mid}
use lib.ListN.{length, get_or, set, take, drop, replicate, length-append, length-map, length-replicate, get_or-map, replicate-append-replicate}
use lib.Seq.{take-suc, take_all, length-take-le}
use Rattle.std.proofs.lemmas.List.{take_at, drop_at, drop-replicate}
use Rattle.labels.proofs.Darts.{start-after, start-below, start_last, ring-length}
use Rattle.lists.proofs.Ranges.{lt-or-le}
use Rattle.lists.specs.Ranges.{from}
use Rattle.lists.specs.Parts.{flatten}
use Rattle.lists.specs.Spans.{zeros, zero_padded}
use Rattle.lists.proofs.Concats.{map-append}
use Rattle.lists.proofs.Loops.{zero_padded-put, zero_padded-none}
use Rattle.model.specs.Plan.{Plan, Dart, context_count, ring, border, darts_from, darts, entry_count}
use Rattle.model.specs.Labels.{start, border_label, unlabelled}
use Rattle.model.specs.Sweep.{bare_labels}
use Rattle.sweep_labelling.specs.Labelling.{bare_label, Adds}
use Rattle.sweep_labelling.proofs.Arrays.{start-zero}

-- the labels of u's ring
abbrev pub ring_labels : Plan → ℕ → List ℕ
ring_labels p u = map (bare_label u) (ring p u)

-- ---- while t < q { b[k + t] = bare_label(u, ring[t]); t += 1; }
pub record Adding (p : Plan) (k u : ℕ) (labels : List ℕ) (t : ℕ) (b : List ℕ) : Type 0 where
  pub same : (l : List ℕ) → labels ≡ zero_padded 1186 l → length l ≡ k → k + length (ring p u) ≤ 1186 → b ≡ zero_padded 1186 (l ++ take t (ring_labels p u))

module _ {p : Plan} {k u : ℕ} {labels : List ℕ} {t : ℕ} {b : List ℕ} (inv : Adding p k u labels t b) where
  -- after a turn of the loop
  pub adding_on : {t' i x : ℕ} {b' : List ℕ} → t' ≡ t + 1 → t < length (ring p u) → i ≡ k + t → x ≡ bare_label u (get_or (ring p u) t 0) → b' ≡ set b i x → Adding p k u labels t' b'
  adding_on {t'} {i} {x} {b'} q h at v e = record { same = go }
    where
      go : (l : List ℕ) → labels ≡ zero_padded 1186 l → length l ≡ k → k + length (ring p u) ≤ 1186 → b' ≡ zero_padded 1186 (l ++ take t' (ring_labels p u))
      go l w s m =
          let size = length-map (ring p u) (bare_label u) in
          let part = length-take-le t (ring_labels p u) (omega arith) in
          let both = length-append l (take t (ring_labels p u)) in
          let place : i ≡ length (l ++ take t (ring_labels p u)) = omega arith in
          let z : suc t ≡ t' = omega arith in
          e
          ∙ (λ d. set (inv.same l w s m d) (place d) (v d))
          ∙ zero_padded-put 1186 (l ++ take t (ring_labels p u)) (bare_label u (get_or (ring p u) t 0)) (omega arith)
          ∙ ap (zero_padded 1186)
          (append_assoc l (take t (ring_labels p u)) (bare_label u (get_or (ring p u) t 0) ∷ [])
          ∙ ap (λ (a : ℕ). l ++ (take t (ring_labels p u) ++ (a ∷ []))) (sym (get_or-map (bare_label u) (ring p u) t 0))
          ∙ ap (λ (a : List ℕ). l ++ a) (sym (take-suc (ring_labels p u) t (bare_label u 0) (omega arith)) ∙ ap (λ (a : ℕ). take a (ring_labels p u)) z))

  -- after the loop
  pub adding_end : length (ring p u) ≤ t → Adds p k u labels b
  adding_end h = record { same = λ l e s m. inv.same l e s m ∙ ap (λ (a : List ℕ). zero_padded 1186 (l ++ a)) (take_all t (ring_labels p u) (let z = length-map (ring p u) (bare_label u) in omega arith)) }

-- ---- all rings
module _ (p : Plan) where
  -- the labels of the rings before u
  abbrev pub before : ℕ → List ℕ
  before u = flatten (map (ring_labels p) (from 0 u))

  -- one ring more
  join_more : (a k : ℕ) → flatten (map (ring_labels p) (from a (suc k))) ≡ flatten (map (ring_labels p) (from a k)) ++ ring_labels p (a + k)
  join_more a zero = let z : a + 0 ≡ a = omega arith in append-nil (ring_labels p a) ∙ ap (ring_labels p) (sym z)
  join_more a (suc k) =
      let z : suc a + k ≡ a + suc k = omega arith in
      ap (λ (l : List ℕ). ring_labels p a ++ l) (join_more (suc a) k ∙ ap (λ (i : ℕ). flatten (map (ring_labels p) (from (suc a) k)) ++ ring_labels p i) z)
      ∙ sym (append_assoc (ring_labels p a) (flatten (map (ring_labels p) (from (suc a) k))) (ring_labels p (a + suc k)))

  -- the labels of the rings before u, and of u
  before_more : (u : ℕ) → before (suc u) ≡ before u ++ ring_labels p u
  before_more u = let z : 0 + u ≡ u = omega arith in join_more 0 u ∙ ap (λ (i : ℕ). before u ++ ring_labels p i) z

  -- how many they are
  pub before_long : (u : ℕ) → u ≤ context_count p → length (before u) ≡ start p u
  before_long zero h = sym (start-zero p)
  before_long (suc u) h =
      let a = before_long u (omega arith) in
      let b = start-after p u in
      let c = ring-length p u in
      let d = length-map (ring p u) (bare_label u) in
      let e = ap length (before_more u) ∙ length-append (before u) (ring_labels p u) in
      omega arith

  -- the labels of the darts, ring by ring
  map-darts : (l : List ℕ) → map (λ (d : Dart). cond (border d.0 && border d.1) border_label unlabelled) (flatten (map (darts_from p) l)) ≡ flatten (map (ring_labels p) l)
  unfolding darts_from bare_label
  map-darts [] = refl
  map-darts (u ∷ l) = map-append (λ (d : Dart). cond (border d.0 && border d.1) border_label unlabelled) (darts_from p u) (flatten (map (darts_from p) l)) ∙ (λ i. one u i ++ map-darts l i)
    where
      each : (u : ℕ) (r : List ℕ) → map (λ (d : Dart). cond (border d.0 && border d.1) border_label unlabelled) (map (λ (v : ℕ). (u, v)) r) ≡ map (λ (v : ℕ). cond (border u && border v) border_label unlabelled) r
      each u [] = refl
      each u (v ∷ r) = ap {B = List ℕ} (λ m. cond (border u && border v) border_label unlabelled ∷ m) (each u r)

      one : (u : ℕ) → map (λ (d : Dart). cond (border d.0 && border d.1) border_label unlabelled) (darts_from p u) ≡ ring_labels p u
      one u = each u (ring p u)

  -- all rings: the labels before the sweep
  pub before-all : before (context_count p) ≡ bare_labels p
  unfolding bare_labels darts
  before-all = sym (map-darts (from 0 (context_count p)))

  -- ---- the rings of inner contexts
  -- they have no label
  inner_none : (u : ℕ) (r : List ℕ) → 4 ≤ u → map (bare_label u) r ≡ replicate (length r) unlabelled
  unfolding bare_label
  inner_none u [] h = refl
  inner_none u (v ∷ r) h = (λ i. cond (le-ltb u 4 h i && border v) border_label unlabelled ∷ inner_none u r h i)

  -- behind the labels of the rings before u, those of the rings from u up to e, which are of inner contexts
  abbrev Behind : ℕ → ℕ → Type 0
  Behind u e = (m : ℕ) × (before e ≡ before u ++ replicate m unlabelled) × (start p u + m ≡ start p e)

  -- where there are no such rings
  none_behind : (u e : ℕ) → e ≡ u → Behind u e
  none_behind u e z = let s = ap (start p) z in (0, ap before z ∙ sym (append-nil (before u)), omega arith)

  -- where there are k
  inner_behind : (u k : ℕ) → 4 ≤ u → Behind u (u + k)
  inner_behind u zero h = none_behind u (u + 0) (omega arith)
  inner_behind u (suc k) h =
      let (m, same, size) = inner_behind u k h in
      let q = length (ring p (u + k)) in
      let z : u + suc k ≡ suc (u + k) = omega arith in
      let next = start-after p (u + k) in
      let ringed = ring-length p (u + k) in
      let long = ap (start p) z in (
        m + q,
        ap before z
            ∙ before_more (u + k)
            ∙ (λ i. same i ++ inner_none (u + k) (ring p (u + k)) (omega arith) i)
            ∙ append_assoc (before u) (replicate m unlabelled) (replicate q unlabelled)
            ∙ ap (λ (l : List ℕ). before u ++ l) (replicate-append-replicate m q unlabelled),
        omega arith,
      )

  -- behind the labels of the border contexts
  all_behind : (u : ℕ) → u ≡ min (context_count p) 4 → Behind u (context_count p)
  all_behind u e = go (lt-or-le 4 (context_count p))
    where
      go : (4 < context_count p) ⊎ (context_count p ≤ 4) → Behind u (context_count p)
      go (inl h) = let z : u + (context_count p - u) ≡ context_count p = omega arith in subst (Behind u) z (inner_behind u (context_count p - u) (omega arith))
      go (inr h) = none_behind u (context_count p) (omega arith)

-- ---- a list put right behind another
-- by what stays of the array behind it
put_more : (l ys rest rest' : List ℕ) (k : ℕ) → drop k rest ≡ rest' → put_mid (length l) k (l ++ rest) ys ≡ l ++ (ys ++ rest')
put_more l ys rest rest' k e = λ i. take_at l rest (length l) refl i ++ (ys ++ (ap (drop k) (drop_at l rest (length l) refl) ∙ e) i)

-- fewer zeros
pub drop-zeros : (k n : ℕ) → drop k (zeros n) ≡ zeros (n - k)
unfolding zeros
drop-zeros k n = drop-replicate k n 0

-- in an array that holds the first
zero_padded-more : (n : ℕ) (l ys : List ℕ) (k : ℕ) → length ys ≡ k → put_mid (length l) k (zero_padded n l) ys ≡ zero_padded n (l ++ ys)
unfolding zero_padded
zero_padded-more n l ys k s =
    let long = length-append l ys in
    let z : n - length l - k ≡ n - length (l ++ ys) = omega arith in
    put_more l ys (zeros (n - length l)) (zeros (n - length (l ++ ys))) k (drop-zeros k (n - length l) ∙ ap zeros z)
    ∙ sym (append_assoc l ys (zeros (n - length (l ++ ys))))

-- ---- while u < n { k += size(u); u += 1; }
-- the rings before u have k entries
pub record Counted (p : Plan) (u k : ℕ) : Type 0 where
  pub size : k ≡ start p u

-- before the loop
pub counted_start : {p : Plan} → Counted p 0 0
counted_start {p} = record { size = sym (start-zero p) }

module _ {p : Plan} {u k : ℕ} (inv : Counted p u k) where
  -- after a turn of the loop
  pub counted_on : {k' u' q : ℕ} → u' ≡ u + 1 → q ≡ length (ring p u) → k' ≡ k + q → Counted p u' k'
  counted_on {k'} {u'} s r e =
      let z : suc u ≡ u' = omega arith in
      let size = inv.size in
      let next = start-after p u in
      let ringed = ring-length p u in
      record { size = (let w = ap (start p) z in omega arith) }

  -- after the loop
  pub counted_end : u ≡ context_count p → k ≡ entry_count p
  counted_end e = inv.size ∙ ap (start p) e ∙ start_last p

  -- there is room
  pub counted-room : entry_count p ≤ 1186 → k ≤ 1186
  counted-room few = let size = inv.size in let most = start-below p u in omega arith

-- ---- while u < min(n, 4) { b = bare_ring(b, k, u); k += size(u); u += 1; }
pub record Filled (p : Plan) (b : List ℕ) (k u : ℕ) : Type 0 where
  pub same : b ≡ zero_padded 1186 (before p u)
  pub counted : Counted p u k

-- before the loop
pub filled-start : {p : Plan} {b : List ℕ} → b ≡ zeros 1186 → Filled p b 0 0
filled-start {p} e = record { same = e ∙ sym (zero_padded-none 1186); counted = counted_start }

module _ {p : Plan} {b : List ℕ} {k u : ℕ} (inv : Filled p b k u) where
  -- after a turn of the loop
  pub filled_on : {k' u' q : ℕ} {b' : List ℕ} → u < context_count p → entry_count p ≤ 1186 → u' ≡ u + 1 → q ≡ length (ring p u) → k' ≡ k + q → Adds p k u b b' → Filled p b' k' u'
  filled_on {k'} {u'} {q} {b'} h few s r e a =
      let z : suc u ≡ u' = omega arith in
      let long = before_long p u (omega arith) in
      let size = inv.counted.size in
      let next = start-after p u in
      let ringed = ring-length p u in
      let most = start-below p (suc u) in
      record {
        same = a.same (before p u) inv.same (omega arith) (omega arith) ∙ ap (zero_padded 1186) (sym (before_more p u) ∙ ap (before p) z);
        counted = counted_on inv.counted s r e;
      }

  -- after the loop, with none put behind
  pub filled_end : {end : ℕ} {ys : List ℕ} → u ≡ min (context_count p) 4 → end ≡ entry_count p → ys ≡ replicate (end - k) unlabelled → put_mid k (end - k) b ys ≡ zero_padded 1186 (bare_labels p)
  filled_end {end} {ys} e all none =
      let size = inv.counted.size in
      let long : k ≡ length (before p u) = size ∙ sym (before_long p u (omega arith)) in
      let (m, same, most) = all_behind p u e in
      let last = start_last p in
      let z : end - k ≡ m = omega arith in
      (λ i. put_mid (long i) (end - k) (inv.same i) ys)
      ∙ zero_padded-more 1186 (before p u) ys (end - k) (ap length none ∙ length-replicate (end - k) unlabelled)
      ∙ ap (zero_padded 1186) (ap (λ (l : List ℕ). before p u ++ l) (none ∙ ap (λ (j : ℕ). replicate j unlabelled) z) ∙ sym same ∙ before-all p)

  -- there is room for more, up to the end of all entries
  pub filled-room : {end : ℕ} → end ≡ entry_count p → k ≤ end
  filled-room e = let size = inv.counted.size in let most = start-below p u in omega arith
