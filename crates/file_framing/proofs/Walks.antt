-- The walk over the ring records: what its loop keeps, and the plan that the sizes and the file make.
use Prim.Native.Nat.{ℕ, zero, suc, ◌+◌, ◌-◌, ◌*◌, ◌≤◌, ◌<◌}
use mathlib.Core.Path.{◌≡◌, refl, sym, ap, ◌∙◌}
use mathlib.Core.List.{List, [], ◌∷◌, ◌++◌, map, append_assoc, append-nil}
use native.Mathlib.Omega.{arith}
use lib.ListN.{length, get_or, set, take, replicate, length-append}
use lib.Seq.{take-append_seam}
use Rattle.lists.specs.Ranges.{from}
use Rattle.lists.specs.Words.{words}
use Rattle.lists.specs.Spans.{stretch, zeros, zero_padded}
use Rattle.lists.proofs.Ranges.{get_or-map-from}
use Rattle.lists.proofs.Loops.{zero_padded-none, zero_padded-put}
use Rattle.lists.proofs.Padded.{stretch-zero_padded}
use Rattle.model.specs.Outcome.{Outcome, accepted, refused, mapped, ◌>>=◌}
use Rattle.model.specs.File.{Cursor, Framed, frame, fits_ring, frame_rings}
use Rattle.rings.specs.Tables.{sum_of, start_of, starts_of}
use Rattle.rings.specs.FilePlans.{words_at, body_at, plan_in_file}
use Rattle.rings.proofs.Rows.{start_first, start-more}
use Rattle.file_framing.specs.Offsets.{cursor}
use Rattle.file_framing.proofs.Offsets.{words-stretch}

-- the rings of these sizes, record after record from an offset on
unfoldable pub rings_in : List ℕ → ℕ → List ℕ → List (List ℕ)
rings_in file at [] = []
rings_in file at (z ∷ l) = words_at file (at + 4) z ∷ rings_in file (at + 4 + 2 * z) l

-- the offset behind them
unfoldable pub behind : ℕ → List ℕ → ℕ
behind at [] = at
behind at (z ∷ l) = behind (at + 4 + 2 * z) l

rings-more : (file : List ℕ) (at : ℕ) (l : List ℕ) (z : ℕ) → rings_in file at (l ++ z ∷ []) ≡ rings_in file at l ++ (words_at file (behind at l + 4) z ∷ [])
unfolding rings_in behind
rings-more file at [] z = refl
rings-more file at (k ∷ l) z = ap (λ (rs : List (List ℕ)). words_at file (at + 4) k ∷ rs) (rings-more file (at + 4 + 2 * k) l z)

behind_more : (at : ℕ) (l : List ℕ) (z : ℕ) → behind at (l ++ z ∷ []) ≡ behind at l + 4 + 2 * z
unfolding behind
behind_more at [] z = refl
behind_more at (k ∷ l) z = behind_more (at + 4 + 2 * k) l z

-- which is 4 bytes for each ring and 2 for each entry on
behind-sum : (at : ℕ) (l : List ℕ) → behind at l ≡ at + 4 * length l + 2 * sum_of l
unfolding behind sum_of
behind-sum at [] = omega arith
behind-sum at (z ∷ l) = let r = behind-sum (at + 4 + 2 * z) l in omega arith

-- rings record after record are those of the plan that the sizes and the file make
rings-lent : (file b : List ℕ) (u k at : ℕ) → u + k ≤ 200 → at ≡ 6 + 4 * u + 2 * start_of b u
    → rings_in file at (stretch b u k) ≡ map (λ (v : ℕ). words_at file (body_at (starts_of b) v) (get_or b v 0)) (from u k)
unfolding rings_in stretch body_at starts_of
rings-lent file b u zero at h e = refl
rings-lent file b u (suc k) at h e =
    let z = get_or b u 0 in
    let begin : get_or (starts_of b) u 0 ≡ start_of b (0 + u) = get_or-map-from (start_of b) 0 200 u 0 (omega arith) in
    let same : start_of b (0 + u) ≡ start_of b u = ap (start_of b) (omega arith) in
    let more = start-more b u in
    let here : at + 4 ≡ body_at (starts_of b) u = omega arith in
    λ i. words_at file (here i) z ∷ rings-lent file b (suc u) k (at + 4 + 2 * z) (omega arith) (omega arith) i

-- rings put before those that are still to be framed
abbrev after : List (List ℕ) → Outcome (List (List ℕ) × Cursor) → Outcome (List (List ℕ) × Cursor)
after done o = mapped (λ (r : List (List ℕ) × Cursor). (done ++ r.0, r.1)) o

after_more : (done : List (List ℕ)) (r : List ℕ) (o : Outcome (List (List ℕ) × Cursor))
    → after done (o >>= λ (t : List (List ℕ) × Cursor). accepted (r ∷ t.0, t.1)) ≡ after (done ++ r ∷ []) o
after_more done r (accepted t) = ap (λ (rs : List (List ℕ)). accepted (rs, t.1)) (sym (append_assoc done (r ∷ []) t.0))
after_more done r (refused k p) = refl

after_none : (o : Outcome (List (List ℕ) × Cursor)) → o ≡ after [] o
after_none (accepted t) = refl
after_none (refused k p) = refl

-- ---- while i < n { .. sizes[i] = size; at = at + 4 + 2 * size; i += 1; }
pub record Walks (file : List ℕ) (n at i : ℕ) (sizes : List ℕ) : Type 0 where
  pub reached : i ≤ n
  pub near : at ≤ 6 + 402 * i
  pub seen : List ℕ
  pub count : length seen ≡ i
  pub filled : sizes ≡ zero_padded 200 seen
  pub stands : at ≡ behind 6 seen
  pub same : frame_rings n n (cursor file 6) ≡ after (rings_in file 6 seen) (frame_rings n (n - i) (cursor file at))

pub walks_start : {file : List ℕ} {n : ℕ} {sizes : List ℕ} → sizes ≡ replicate 200 0 → Walks file n 6 0 sizes
unfolding behind rings_in zeros
walks_start {file} {n} {sizes} e =
    let z : n - 0 ≡ n = omega arith in
    record {
      reached = omega arith;
      near = omega arith;
      seen = [];
      count = refl;
      filled = e ∙ sym (zero_padded-none 200);
      stands = refl;
      same = rw z (after_none (frame_rings n n (cursor file 6)));
    }

module _ {file : List ℕ} {n at i : ℕ} {sizes : List ℕ} (inv : Walks file n at i sizes) where
  -- one record more of those that are left
  one_more : i < n
      → frame_rings n n (cursor file 6)
      ≡ after (rings_in file 6 inv.seen) (frame (cursor file at) 2 (fits_ring n) >>= λ (f : Framed). frame_rings n (n - suc i) f.1 >>= λ (t : List (List ℕ) × Cursor). accepted (words f.0 ∷ t.0, t.1))
  unfolding frame_rings
  one_more h = let s : n - i ≡ suc (n - suc i) = omega arith in inv.same ∙ ap (λ (k : ℕ). after (rings_in file 6 inv.seen) (frame_rings n k (cursor file at))) s

  pub walks_refused : {k p : ℕ} → i < n → refused k p ≡ frame (cursor file at) 2 (fits_ring n) → refused k p ≡ frame_rings n n (cursor file 6)
  walks_refused h e = sym (one_more h ∙ rw (← e))

  pub walks_on : {at' i' z : ℕ} {sizes' : List ℕ} → i < n → n ≤ 200 → z < n → accepted (stretch file (at + 4) (2 * z), cursor file (at + 4 + 2 * z)) ≡ frame (cursor file at) 2 (fits_ring n)
      → at' ≡ at + 4 + 2 * z → i' ≡ suc i → sizes' ≡ set sizes i z → Walks file n at' i' sizes'
  walks_on {at'} {i'} {z} {sizes'} h few low e p q f =
      let l = inv.seen in
      let near = inv.near in
      let count = inv.count in
      let body = words-stretch file (at + 4) z (2 * z) refl in
      let stand = inv.stands in
      let ring = body ∙ ap (λ (k : ℕ). words_at file (k + 4) z) stand in
      let last : rings_in file 6 l ++ (words (stretch file (at + 4) (2 * z)) ∷ []) ≡ rings_in file 6 (l ++ z ∷ []) = (λ t. rings_in file 6 l ++ (ring t ∷ [])) ∙ sym (rings-more file 6 l z) in
      record {
        reached = omega arith;
        near = omega arith;
        seen = l ++ z ∷ [];
        count = length-append l (z ∷ []) ∙ (omega arith);
        filled = f ∙ (λ t. set (inv.filled t) (sym count t) z) ∙ zero_padded-put 200 l z (omega arith);
        stands = p ∙ ap (λ (k : ℕ). k + 4 + 2 * z) stand ∙ sym (behind_more 6 l z);
        same =
            one_more h ∙ rw (← e)
            (after_more (rings_in file 6 l) (words (stretch file (at + 4) (2 * z))) (frame_rings n (n - suc i) (cursor file (at + 4 + 2 * z)))
            ∙ λ t. after (last t) (frame_rings n (n - sym q t) (cursor file (sym p t))));
      }

  -- the sizes of all rings, and zeros after them
  pub walks_sizes : i ≡ n → sizes ≡ zero_padded 200 (stretch sizes 0 n)
  walks_sizes q =
      let b = inv.filled in
      let l = inv.seen in
      b ∙ ap (zero_padded 200) (sym (stretch-zero_padded 200 l)) ∙ λ t. zero_padded 200 (stretch (sym b t) 0 ((inv.count ∙ q) t))

  -- where they end
  pub walks_at : i ≡ n → at ≡ 6 + 4 * n + 2 * start_of sizes n
  unfolding start_of zero_padded
  walks_at q =
      let l = inv.seen in
      let count = inv.count in
      let stand = inv.stands in
      let far = behind-sum 6 l in
      let all : take n sizes ≡ l = (λ t. take (sym (count ∙ q) t) (inv.filled t)) ∙ take-append_seam l (zeros (200 - length l)) in
      let sum = ap sum_of all in
      omega arith

  pub walks_end : i ≡ n → n ≤ 200 → accepted ((plan_in_file (starts_of sizes) sizes file n).rings, cursor file at) ≡ frame_rings n n (cursor file 6)
  unfolding frame_rings plan_in_file
  walks_end q few =
      let l = inv.seen in
      let b = inv.filled in
      let z : n - i ≡ 0 = omega arith in
      let all : stretch sizes 0 n ≡ l = (λ t. stretch (b t) 0 (sym (inv.count ∙ q) t)) ∙ stretch-zero_padded 200 l in
      let begin = start_first sizes in
      let rings = sym (rings-lent file sizes 0 n 6 (omega arith) (omega arith)) ∙ ap (rings_in file 6) all ∙ sym (append-nil (rings_in file 6 l)) in
      (λ t. accepted (rings t, cursor file at)) ∙ sym (inv.same ∙ ap (λ (k : ℕ). after (rings_in file 6 l) (frame_rings n k (cursor file at))) z)
