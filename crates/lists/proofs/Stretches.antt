-- Stretches of lists joined: the front, what stands behind it, each of several lists; maps over a range.
use Prim.Native.Nat.{ℕ, zero, suc, ◌+◌, ◌-◌, ◌≤◌, ◌<◌}
use mathlib.Core.Path.{◌≡◌, refl, sym, ap, ◌∙◌}
use mathlib.Core.List.{List, [], ◌∷◌, ◌++◌, map, append_assoc, append-nil}
use native.Mathlib.Omega.{arith}
use lib.ListN.{length, get_or, take, length-append}
use Rattle.lists.specs.Ranges.{from}
use Rattle.lists.specs.Parts.{flatten}
use Rattle.lists.specs.Spans.{stretch, span}

stretch_tail : (a : ℕ) (l : List ℕ) (i k : ℕ) → stretch (a ∷ l) (suc i) k ≡ stretch l i k
unfolding stretch
stretch_tail a l i zero = refl
stretch_tail a l i (suc k) = ap (λ (m : List ℕ). get_or l i 0 ∷ m) (stretch_tail a l (suc i) k)

-- what stands behind a front
pub stretch-behind : (x l : List ℕ) (i k : ℕ) → stretch (x ++ l) (length x + i) k ≡ stretch l i k
stretch-behind [] l i k = let z : length {A = ℕ} [] + i ≡ i = omega arith in rw z
stretch-behind (a ∷ x) l i k = let z : suc (length x) + i ≡ suc (length x + i) = omega arith in rw z (stretch_tail a (x ++ l) (length x + i) k ∙ stretch-behind x l i k)

-- the front itself
pub stretch-front : (l m : List ℕ) → stretch (l ++ m) 0 (length l) ≡ l
unfolding stretch
stretch-front [] m = refl
stretch-front (a ∷ l) m = ap (λ (r : List ℕ). a ∷ r) (stretch_tail a (l ++ m) 0 (length l) ∙ stretch-front l m)

-- a list from its beginning to its end
pub span_whole : (l : List ℕ) (e : ℕ) → e ≡ length l → span l 0 e ≡ l
span_whole l e q = let k : e - 0 ≡ length l = omega arith in ap (stretch l 0) k ∙ ap (λ (m : List ℕ). stretch m 0 (length l)) (sym (append-nil l)) ∙ stretch-front l []

-- how many entries the lists before one have, and that one
pub length-joined-more : {A : Type 0} (ls : List (List A)) (u : ℕ) → length (flatten (take (suc u) ls)) ≡ length (flatten (take u ls)) + length (get_or ls u [])
length-joined-more [] zero = refl
length-joined-more [] (suc u) = refl
length-joined-more (l ∷ ls) zero = ap length (append-nil l) ∙ omega arith
length-joined-more (l ∷ ls) (suc u) = let r = length-joined-more ls u in let a = length-append l (flatten (take (suc u) ls)) in let b = length-append l (flatten (take u ls)) in omega arith

-- each of the lists that are joined
pub stretch-joined : (ls : List (List ℕ)) (rest : List ℕ) (u : ℕ) → stretch (flatten ls ++ rest) (length (flatten (take u ls))) (length (get_or ls u [])) ≡ get_or ls u []
unfolding stretch
stretch-joined [] rest zero = refl
stretch-joined [] rest (suc u) = refl
stretch-joined (l ∷ ls) rest zero = ap (λ (m : List ℕ). stretch m 0 (length l)) (append_assoc l (flatten ls) rest) ∙ stretch-front l (flatten ls ++ rest)
stretch-joined (l ∷ ls) rest (suc u) =
    let k = length (get_or ls u []) in
    (λ i. stretch (append_assoc l (flatten ls) rest i) (length-append l (flatten (take u ls)) i) k)
    ∙ stretch-behind l (flatten ls ++ rest) (length (flatten (take u ls))) k
    ∙ stretch-joined ls rest u

-- two maps over a range that agree on its numbers
pub map-from-same : {A : Type 0} (f g : ℕ → A) (a k : ℕ) → ((u : ℕ) → a ≤ u → u < a + k → f u ≡ g u) → map f (from a k) ≡ map g (from a k)
map-from-same f g a zero h = refl
map-from-same f g a (suc k) h = λ i. h a (omega arith) (omega arith) i ∷ map-from-same f g (suc a) k (λ u p q. h u (omega arith) (omega arith)) i

-- a map over a range with one more number
pub map-from-more : {A : Type 0} (f : ℕ → A) (a k : ℕ) → map f (from a (suc k)) ≡ map f (from a k) ++ (f (a + k) ∷ [])
map-from-more f a zero = let z : a + 0 ≡ a = omega arith in rw z
map-from-more {A} f a (suc k) = let z : suc a + k ≡ a + suc k = omega arith in ap (λ (l : List A). f a ∷ l) (map-from-more f (suc a) k ∙ rw z)
