-- What an eligible pair asks of the contexts below it: cheap tests by which a search can pass over pairs that are not eligible.
use Prim.Native.Nat.{ℕ, zero, suc, ◌+◌, ◌-◌, ◌≤◌, ◌<◌}
use mathlib.Core.Path.{◌≡◌, refl, sym, ap, ◌∙◌}
use mathlib.Core.List.{List, [], ◌∷◌, ◌++◌, map, Memᴰ}
use mathlib.Core.Bool.{Bool, true, false, cond, not, ◌&&◌, ◌||◌}
use native.Mathlib.Omega.{arith}
use lib.ListN.{length, get_or, take, drop, length-append, length-drop, get_or-append}
use lib.Seq.{length-take-le, get_or-take, get_or-drop, get_or-append-add}
use lib.Dec.{eqb}
use borrow.Author.Tests.{not-true, eqb-true}
use Rattle.std.specs.List.{list_any, list_all}
use Rattle.lists.specs.Tests.{is_empty, member, repeats}
use Rattle.lists.specs.Ranges.{from}
use Rattle.lists.specs.Parts.{flatten, squeeze, squeeze_after}
use Rattle.lists.proofs.Bools.{and_yes, or_no}
use Rattle.lists.proofs.Tests.{none_of}
use Rattle.lists.proofs.Ranges.{from-mem}
use Rattle.lists.proofs.Joins.{join_mem}
use Rattle.model.specs.Plan.{Plan, adjacent, border}
use Rattle.model.specs.Sweep.{State, below, listed, replaced, chordless, eligible}
use Rattle.model.specs.SweepStates.{Positions}

-- the entry at an index is a member
pub get_or-mem : (l : List ℕ) (k : ℕ) → k < length l → Memᴰ (get_or l k 0) l
get_or-mem [] k h = absurd (omega arith)
get_or-mem (a ∷ l) zero h = Memᴰ.head refl
get_or-mem (a ∷ l) (suc k) h = Memᴰ.tail (get_or-mem l k (omega arith))

-- and a member has an index
pub mem-get_or : (l : List ℕ) (a : ℕ) → Memᴰ a l → (k : ℕ) × (k < length l) × (get_or l k 0 ≡ a)
mem-get_or [] a x' = elim x' [ ]
mem-get_or (b ∷ l) a (Memᴰ.head e) = (0, omega arith, sym e)
mem-get_or (b ∷ l) a (Memᴰ.tail m) = let (k, h, e) = mem-get_or l a m in (suc k, omega arith, e)

-- squeezing a list drops no member
squeeze-after-mem : (b : ℕ) (l : List ℕ) (a : ℕ) → Memᴰ a l → Memᴰ a (b ∷ squeeze_after b l)
squeeze-after-mem b [] a m = elim m [ ]
squeeze-after-mem b (c ∷ l) a m = go (squeeze-after-mem b l a) (squeeze-after-mem c l a) (eqb b c) refl m
  where
    go : (Memᴰ a l → Memᴰ a (b ∷ squeeze_after b l)) → (Memᴰ a l → Memᴰ a (c ∷ squeeze_after c l))
        → (t : Bool) → eqb b c ≡ t → Memᴰ a (c ∷ l) → Memᴰ a (b ∷ cond t (squeeze_after b l) (c ∷ squeeze_after c l))
    go r s true q (Memᴰ.head e) = Memᴰ.head (e ∙ sym (eqb-true b c q))
    go r s true q (Memᴰ.tail n) = r n
    go r s false q (Memᴰ.head e) = Memᴰ.tail (Memᴰ.head e)
    go r s false q (Memᴰ.tail n) = Memᴰ.tail (s n)

pub squeeze-mem : (l : List ℕ) (a : ℕ) → Memᴰ a l → Memᴰ a (squeeze l)
squeeze-mem [] a x' = elim x' [ ]
squeeze-mem (b ∷ l) a (Memᴰ.head e) = Memᴰ.head e
squeeze-mem (b ∷ l) a (Memᴰ.tail m) = squeeze-after-mem b l a m

-- no two contexts of a chordless frontier that are not adjacent on it are neighbours
pub chordless-apart : (p : Plan) (g : List ℕ) → chordless p g ≡ true → (k l : ℕ) → k + 2 ≤ l → l < length g → adjacent p (get_or g k 0) (get_or g l 0) ≡ false
unfolding chordless
chordless-apart p [] e k l h q = absurd (omega arith)
chordless-apart p (a ∷ g) e zero zero h q = absurd (omega arith)
chordless-apart p (a ∷ g) e zero (suc l) h q =
    let (t, _) = and_yes (not (list_any (adjacent p a) (drop 1 g))) (chordless p g) e in
    first g l (omega arith) (omega arith) (not-true (list_any (adjacent p a) (drop 1 g)) t)
  where
    first : (g : List ℕ) (l : ℕ) → 1 ≤ l → l < length g → list_any (adjacent p a) (drop 1 g) ≡ false → adjacent p a (get_or g l 0) ≡ false
    first [] l h q t = absurd (omega arith)
    first (b ∷ g) zero h q t = absurd (omega arith)
    first (b ∷ g) (suc l) h q t = none_of (adjacent p a) g t (get_or g l 0) (get_or-mem g l (omega arith))
chordless-apart p (a ∷ g) e (suc k) zero h q = absurd (omega arith)
chordless-apart p (a ∷ g) e (suc k) (suc l) h q = chordless-apart p g (and_yes (not (list_any (adjacent p a) (drop 1 g))) (chordless p g) e).1 k l (omega arith) (omega arith)

-- ---- where things stand in the frontier with a list put in place
module _ (f l : List ℕ) (i j : ℕ) (h : i + 2 ≤ j) (q : j < length f) where
  front_length : length (take (suc i) f) ≡ suc i
  front_length = length-take-le (suc i) f (omega arith)

  both-length : length (take (suc i) f ++ l) ≡ suc i + length l
  both-length = let a = length-append (take (suc i) f) l in let b = front_length in omega arith

  pub replaced-left : (t : ℕ) → t ≤ i → get_or (replaced f i j l) t 0 ≡ get_or f t 0
  unfolding replaced
  replaced-left t b =
      get_or-append (take (suc i) f ++ l) (drop j f) 0 t (let c = both-length in omega arith)
      ∙ get_or-append (take (suc i) f) l 0 t (let c = front_length in omega arith) ∙ get_or-take (suc i) f t 0 (omega arith)

  pub replaced-list : (t : ℕ) → t < length l → get_or (replaced f i j l) (suc i + t) 0 ≡ get_or l t 0
  unfolding replaced
  replaced-list t b =
      get_or-append (take (suc i) f ++ l) (drop j f) 0 (suc i + t) (let c = both-length in omega arith)
      ∙ ap (λ (k : ℕ). get_or (take (suc i) f ++ l) (k + t) 0) (sym front_length) ∙ get_or-append-add (take (suc i) f) l t 0

  pub replaced-right : (t : ℕ) → get_or (replaced f i j l) (suc i + length l + t) 0 ≡ get_or f (j + t) 0
  unfolding replaced
  replaced-right t = ap (λ (k : ℕ). get_or (take (suc i) f ++ l ++ drop j f) (k + t) 0) (sym both-length) ∙ get_or-append-add (take (suc i) f ++ l) (drop j f) t 0 ∙ get_or-drop j f t 0

  pub replaced-length : length (replaced f i j l) ≡ suc i + length l + (length f - j)
  unfolding replaced
  replaced-length =
      let a = length-append (take (suc i) f ++ l) (drop j f) in
      let b = both-length in
      let c = length-drop j f in
      omega arith

-- What an eligible pair asks of each context c below a position k between i and j
pub record Clear (p : Plan) (s : State) (i j k c : ℕ) : Type 0 where
  pub inner : border c ≡ false
  pub new : member c s.seen ≡ false
  -- c is no neighbour of what stays on the frontier beyond j, nor is what stays before i of c
  pub right_clear : (t : ℕ) → j < t → t < length s.frontier → adjacent p c (get_or s.frontier t 0) ≡ false
  pub left_clear : (t : ℕ) → t < i → adjacent p (get_or s.frontier t 0) c ≡ false

module _ (p : Plan) (s : State) (i j : ℕ) (o : Positions s i j) (e : eligible p s i j ≡ true) where
  abbrev f : List ℕ
  f = s.frontier

  abbrev l : List ℕ
  l = listed p f i j

  abbrev something : ℕ → Bool
  something k = not (is_empty (below p f k))

  parts : (list_all something (from (suc i) (j - suc i)) ≡ true) × (list_any border l ≡ false) × (list_any (λ (c : ℕ). member c s.seen) l ≡ false) × (chordless p (replaced f i j l) ≡ true)
  unfolding eligible
  parts =
      let seen : Bool = list_any (λ (c : ℕ). member c s.seen) l in
      let bad : Bool = repeats l || list_any border l || seen in
      let (ab, c) = and_yes (list_all something (from (suc i) (j - suc i)) && not bad) (chordless p (replaced f i j l)) e in
      let (a, b) = and_yes (list_all something (from (suc i) (j - suc i))) (not bad) ab in
      let (x, y) = or_no (repeats l || list_any border l) seen (not-true bad b) in
      (a, (or_no (repeats l) (list_any border l) x).1, y, c)

  -- what is below is listed
  pub below-listed : (k c : ℕ) → i < k → k < j → Memᴰ c (below p f k) → Memᴰ c l
  unfolding listed
  below-listed k c a b m = squeeze-mem (flatten (map (below p f) (from (suc i) (j - suc i)))) c (join_mem (below p f) (from (suc i) (j - suc i)) k c (from-mem (suc i) (j - suc i) k (omega arith) (omega arith)) m)

  -- THE CHEAP TESTS: each context below a position between is clear
  pub eligible_clear : (k c : ℕ) → i < k → k < j → Memᴰ c (below p f k) → Clear p s i j k c
  eligible_clear k c a b m =
      let n = below-listed k c a b m in
      let (x, x-in, x-is) = mem-get_or l c n in
      let two = o.apart in
      let last = o.inside in
      let size = replaced-length f l i j two last in
      let here = replaced-list f l i j two last x x-in ∙ x-is in
      record {
        inner = none_of border l parts.1 c n;
        new = none_of (λ (d : ℕ). member d s.seen) l parts.2 c n;
        right_clear = λ t g r.
            let y : ℕ = t - j in
            let there = replaced-right f l i j two last y in
            let is-t : j + y ≡ t = omega arith in
            let apart = chordless-apart p (replaced f i j l) parts.3 (suc i + x) (suc i + length l + y) (omega arith) (omega arith) in
            sym (λ d. adjacent p (here d) ((there ∙ ap (λ (w : ℕ). get_or f w 0) is-t) d)) ∙ apart;
        left_clear = λ t g.
            let there = replaced-left f l i j two last t (omega arith) in
            let apart = chordless-apart p (replaced f i j l) parts.3 t (suc i + x) (omega arith) (omega arith) in
            sym (λ d. adjacent p (there d) (here d)) ∙ apart;
      }
