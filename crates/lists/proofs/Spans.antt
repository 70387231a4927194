-- Spans: how they are gone through entry by entry, which parts of a list they are, and what stands outside an array.
use Prim.Native.Nat.{ℕ, zero, suc, ◌+◌, ◌-◌, ◌*◌, ◌≤◌, ◌<◌}
use mathlib.Core.Path.{◌≡◌, refl, sym, ap, ◌∙◌}
use mathlib.Core.List.{List, [], ◌∷◌, ◌++◌}
use native.Mathlib.Omega.{arith}
use native.Mathlib.Numerals.{add-one}
use lib.ListN.{length, get_or, take, drop, get_or-eq_default, length-replicate, replicate-append-replicate}
use lib.Seq.{drop-cons}
use Rattle.lists.specs.Spans.{stretch, span, zeros}

-- outside an array there is 0
pub past : (l : List ℕ) (i : ℕ) → length l ≤ i → 0 ≡ get_or l i 0
past l i h = sym (get_or-eq_default l 0 h)

pub past_word : (l : List ℕ) (i : ℕ) → length l ≤ i → 0 ≡ get_or l i 0 + 256 * get_or l (i + 1) 0
past_word l i h = omega (arith, past l i h, past l (i + 1) (omega arith))

pub span_more : (l : List ℕ) (i e : ℕ) → i < e → span l i e ≡ get_or l i 0 ∷ span l (i + 1) e
unfolding stretch
span_more l i e h = let s : e - i ≡ suc (e - (i + 1)) = omega arith in rw (s, add-one)

-- the same by what a range says of its next number
pub span_next : (l : List ℕ) {i e j d x : ℕ} → (d ≡ e) × ((0 < e - i) × (x ≡ i) × (j ≡ i + 1)) → span l i e ≡ get_or l x 0 ∷ span l j d
span_next l {i} {e} (q, (h, p, s)) = span_more l i e (omega arith) ∙ (λ t. get_or l (sym p t) 0 ∷ span l (sym s t) (sym q t))

pub span_end : (l : List ℕ) (i e : ℕ) → e ≤ i → span l i e ≡ []
unfolding stretch
span_end l i e h = let z : e - i ≡ 0 = omega arith in rw z

pub length-stretch : (l : List ℕ) (i k : ℕ) → length (stretch l i k) ≡ k
unfolding stretch
length-stretch l i zero = refl
length-stretch l i (suc k) = ap suc (length-stretch l (suc i) k)

pub get_or-stretch : (l : List ℕ) (i k j : ℕ) → j < k → get_or (stretch l i k) j 0 ≡ get_or l (i + j) 0
unfolding stretch
get_or-stretch l i zero j h = absurd (omega arith)
get_or-stretch l i (suc k) zero h = ap (λ (m : ℕ). get_or l m 0) (omega arith)
get_or-stretch l i (suc k) (suc j) h = get_or-stretch l (suc i) k j (omega arith) ∙ ap (λ (m : ℕ). get_or l m 0) (omega arith)

pub length-zeros : (k : ℕ) → length (zeros k) ≡ k
unfolding zeros
length-zeros k = length-replicate k 0

-- zeros and zeros after them
pub zeros-append : (k m : ℕ) → zeros k ++ zeros m ≡ zeros (k + m)
unfolding zeros
zeros-append k m = replicate-append-replicate k m 0

-- inside a list it does not matter what is read outside
pub get_or-inside : (l : List ℕ) (i a b : ℕ) → i < length l → get_or l i a ≡ get_or l i b
get_or-inside [] i a b h = absurd (omega arith)
get_or-inside (k ∷ l) zero a b h = refl
get_or-inside (k ∷ l) (suc i) a b h = get_or-inside l i a b (omega arith)

-- a stretch inside a list is a part of it
pub stretch_part : (l : List ℕ) (i k : ℕ) → i + k ≤ length l → stretch l i k ≡ take k (drop i l)
unfolding stretch
stretch_part l i zero h = refl
stretch_part l i (suc k) h = rw (drop-cons l i 0 (omega arith), stretch_part l (suc i) k (omega arith))

pub stretch-first : (l : List ℕ) (k : ℕ) → k ≤ length l → stretch l 0 k ≡ take k l
stretch-first l k h = stretch_part l 0 k (omega arith)
