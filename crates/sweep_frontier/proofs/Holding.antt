-- What the engine's frontier holds: a list in an array, and marks.
use Prim.Native.Nat.{ℕ, zero, suc, ◌+◌, ◌≤◌, ◌<◌}
use mathlib.Core.Path.{◌≡◌, refl, ap, ◌∙◌}
use mathlib.Core.List.{List, [], ◌∷◌, ◌++◌, Memᴰ}
use mathlib.Core.Bool.{Bool, true, false, cond, not, ◌||◌}
use native.Mathlib.Omega.{arith}
use lib.ListN.{length, get_or, set, length-append, length-set, take, drop}
use lib.Seq.{get_or-set_same, get_or-set_other}
use lib.Dec.{eqb, ltb}
use borrow.Author.Tests.{ne_eqb, eqb-true, eqb-false, lt-ltb}
use Rattle.lists.specs.Tests.{member, repeats}
use Rattle.lists.specs.Spans.{zero_padded, stretch}
use Rattle.lists.proofs.Counts.{count_below-le, length-count_below}
use Rattle.lists.proofs.Loops.{zero_padded-put}
use Rattle.lists.proofs.Spans as spans
use Rattle.lists.proofs.Padded.{stretch-held, stretch-zero_padded}
use Rattle.sweep_frontier.specs.Held.{AllBelow200, HoldsList, Marks}
use Rattle.sweep_frontier.specs.Frontiers.{Frontier, frontier_of, pushed, empty_frontier}

-- ---- lists of numbers below 200
-- two such lists joined
pub small-append : (l m : List ℕ) → AllBelow200 l → AllBelow200 m → AllBelow200 (l ++ m)
small-append [] m h k = k
small-append (a ∷ l) m h k = (h.0, small-append l m h.1 k)

-- an entry of such a list
pub small-mem : (l : List ℕ) (a : ℕ) → AllBelow200 l → Memᴰ a l → a < 200
small-mem [] a h x'' = elim x'' [ ]
small-mem (b ∷ l) a h (Memᴰ.head e) = let z = h.0 in omega arith
small-mem (b ∷ l) a h (Memᴰ.tail m) = small-mem l a h.1 m

-- a list whose entries are all below 200
pub mem-small : (l : List ℕ) → ((a : ℕ) → Memᴰ a l → a < 200) → AllBelow200 l
mem-small [] h = tt
mem-small (a ∷ l) h = (h a (Memᴰ.head refl), mem-small l (λ b m. h b (Memᴰ.tail m)))

-- an entry of such a list by its position; past the end stands 0
pub small-get_or : (l : List ℕ) (k : ℕ) → AllBelow200 l → get_or l k 0 < 200
small-get_or [] k h = omega arith
small-get_or (a ∷ l) zero h = h.0
small-get_or (a ∷ l) (suc k) h = small-get_or l k h.1

-- a list of these with no repeat is no longer than 200
pub no_longer : (l : List ℕ) → repeats l ≡ false → AllBelow200 l → length l ≤ 200
no_longer l r h =
    let x = length-count_below 200 l r (λ a m. small-mem l a h m) in
    let y = count_below-le (λ (w : ℕ). member w l) 200 in
    omega arith

-- ---- arrays that hold a list
-- a frontier with an entry put at its end holds the list with it
pub push_rep : (v : Frontier) (l : List ℕ) (x : ℕ) → HoldsList v l → length l < 512 → HoldsList (pushed v x) (l ++ (x ∷ []))
unfolding pushed
push_rep v l x r h =
    let e : ltb v.len 512 ≡ true = lt-ltb v.len 512 (let q = r.len in omega arith) in
    let s = length-append l (x ∷ []) in
    let q = r.len in
    rw e (record { ok = r.ok; len = omega arith; at = (λ i. set (r.at i) (r.len i) x) ∙ zero_padded-put 512 l x h; short = omega arith })

-- ---- marks
-- marks for tests that agree
pub marks-same : {m : List ℕ} (p q : ℕ → Bool) → ((c : ℕ) → p c ≡ q c) → Marks m p → Marks m q
marks-same p q h k = record { size = k.size; mark = λ c u. k.mark c u ∙ ap not (h c) }

-- marks with one more context
pub marks-set : {m : List ℕ} (p : ℕ → Bool) (c x : ℕ) → c < 256 → 0 < x → Marks m p → Marks (set m c x) (λ (d : ℕ). eqb d c || p d)
marks-set {m} p c x h y k = record { size = simp length-set k.size; mark = λ d u. go d u (eqb d c) refl }
  where
    go : (d : ℕ) → d < 256 → (t : Bool) → eqb d c ≡ t → eqb (get_or (set m c x) d 0) 0 ≡ not (t || p d)
    go d u true e = rw (eqb-true d c e, get_or-set_same m c x 0 (let z = k.size in omega arith)) (ne_eqb x 0 (λ z. omega arith))
    go d u false e = rw (get_or-set_other m c d x 0 (eqb-false d c e)) (k.mark d u)

-- ---- a frontier that grows
-- what is put at the end of a frontier changes no mark
pub pushed-marks : (v : Frontier) (x : ℕ) → (pushed v x).marks ≡ v.marks
unfolding pushed
pushed-marks v x = go (ltb v.len 512)
  where
    go : (t : Bool) → (cond t (frontier_of v.ok (v.len + 1) (set v.at v.len x) v.marks) (frontier_of false v.len v.at v.marks)).marks ≡ v.marks
    go true = refl
    go false = refl

-- ---- an array that holds a list, read back
-- a stretch of the array is a part of the list
pub stretch_part : (f : List ℕ) (a k : ℕ) → a + k ≤ length f → stretch (zero_padded 512 f) a k ≡ take k (drop a f)
stretch_part f a k h = stretch-held 512 f a k ∙ spans.stretch_part f a k h

-- the whole list read back
pub stretch-all : (f : List ℕ) → stretch (zero_padded 512 f) 0 (length f) ≡ f
stretch-all f = stretch-zero_padded 512 f

-- a fresh frontier holds nothing
pub fresh-rep : (m : List ℕ) → HoldsList (empty_frontier m) []
unfolding empty_frontier zero_padded
fresh-rep m = record { ok = refl; len = refl; at = refl; short = omega arith }
