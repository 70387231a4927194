-- The entries of parts of a list, of a list reversed or squeezed are entries of the whole; which numbers a countdown has; a reversed list repeats no more than the list.
use Prim.Native.Nat.{ℕ, zero, suc, ◌-◌, ◌≤◌, ◌<◌}
use mathlib.Core.Path.{◌≡◌, refl, sym, ap, ◌∙◌, subst}
use mathlib.Core.List.Memᴰ
use mathlib.Core.List.{List, [], ◌∷◌, ◌++◌, reverse, reverse-cons, Memᴰ}
use mathlib.Core.Bool.{Bool, true, false, cond}
use mathlib.Core.Logic.{◌⊎◌, inl, inr, ◌≢◌}
use native.Mathlib.Omega.{arith}
use lib.ListN.{length, get_or, take, drop}
use lib.Seq.{slice, take-length, take-suc}
use lib.Dec.{eqb}
use borrow.Author.Tests.{eqb-true, eqb-false, ne_eqb}
use Rattle.std.specs.List.{list_any}
use Rattle.lists.specs.Tests.{member, repeats}
use Rattle.lists.specs.Ranges.{countdown}
use Rattle.lists.specs.Parts.{before, squeeze, squeeze_after}
use Rattle.lists.proofs.Bools.{or_no, no_or}
use Rattle.lists.proofs.Tests.{none_of, of_none, repeats-append}

module _ {A : Type 0} where
  pub mem-take : (k : ℕ) (l : List A) (a : A) → Memᴰ a (take k l) → Memᴰ a l
  mem-take zero l a m = absurd (Memᴰ.not-nil m)
  mem-take (suc k) [] a m = m
  mem-take (suc k) (b ∷ l) a (Memᴰ.head e) = Memᴰ.head e
  mem-take (suc k) (b ∷ l) a (Memᴰ.tail m) = Memᴰ.tail (mem-take k l a m)

  pub mem-drop : (k : ℕ) (l : List A) (a : A) → Memᴰ a (drop k l) → Memᴰ a l
  mem-drop zero l a m = m
  mem-drop (suc k) [] a m = m
  mem-drop (suc k) (b ∷ l) a m = Memᴰ.tail (mem-drop k l a m)

  pub mem-reverse : (l : List A) (a : A) → Memᴰ a (reverse l) → Memᴰ a l
  mem-reverse [] a m = m
  mem-reverse (b ∷ l) a m = go (mem-reverse l a) (Memᴰ.append_cases (reverse l) (subst (Memᴰ a) (reverse-cons b l) m))
    where
      go : (Memᴰ a (reverse l) → Memᴰ a l) → Memᴰ a (reverse l) ⊎ Memᴰ a (b ∷ []) → Memᴰ a (b ∷ l)
      go r (inl m) = Memᴰ.tail (r m)
      go r (inr (Memᴰ.head e)) = Memᴰ.head e
      go r (inr (Memᴰ.tail m)) = absurd (Memᴰ.not-nil m)

-- a list of two or more is its first entry, those between, and its last
pub first_last : {A : Type 0} (l : List A) (d : A) → 2 ≤ length l → l ≡ get_or l 0 d ∷ (slice 1 (length l - 1) l ++ (get_or l (length l - 1) d ∷ []))
first_last [] d h = absurd (omega arith)
first_last (a ∷ []) d h = absurd (omega arith)
first_last {A} (a ∷ b ∷ l) d h =
    let size : suc (suc (length l)) - 1 ≡ suc (length l) = omega arith in
    rw size (ap {B = List A} (λ r. a ∷ r) (sym (take-length (b ∷ l)) ∙ take-suc (b ∷ l) (length l) d (omega arith)))

pub mem-before : (b : ℕ) (l : List ℕ) (a : ℕ) → Memᴰ a (before b l) → Memᴰ a l
mem-before b [] a m = m
mem-before b (c ∷ l) a m = go (mem-before b l a) (eqb b c) m
  where
    go : (Memᴰ a (before b l) → Memᴰ a l) → (t : Bool) → Memᴰ a (cond t [] (c ∷ before b l)) → Memᴰ a (c ∷ l)
    go r true m = absurd (Memᴰ.not-nil m)
    go r false (Memᴰ.head e) = Memᴰ.head e
    go r false (Memᴰ.tail m) = Memᴰ.tail (r m)

mem-squeeze_after : (b : ℕ) (l : List ℕ) (a : ℕ) → Memᴰ a (squeeze_after b l) → Memᴰ a l
mem-squeeze_after b [] a m = m
mem-squeeze_after b (c ∷ l) a m = go (mem-squeeze_after b l a) (mem-squeeze_after c l a) (eqb b c) m
  where
    go : (Memᴰ a (squeeze_after b l) → Memᴰ a l) → (Memᴰ a (squeeze_after c l) → Memᴰ a l)
        → (t : Bool) → Memᴰ a (cond t (squeeze_after b l) (c ∷ squeeze_after c l)) → Memᴰ a (c ∷ l)
    go r s true m = Memᴰ.tail (r m)
    go r s false (Memᴰ.head e) = Memᴰ.head e
    go r s false (Memᴰ.tail m) = Memᴰ.tail (s m)

pub mem-squeeze : (l : List ℕ) (a : ℕ) → Memᴰ a (squeeze l) → Memᴰ a l
mem-squeeze [] a m = m
mem-squeeze (b ∷ l) a (Memᴰ.head e) = Memᴰ.head e
mem-squeeze (b ∷ l) a (Memᴰ.tail m) = Memᴰ.tail (mem-squeeze_after b l a m)

pub mem-countdown : (k u : ℕ) → Memᴰ u (countdown k) → u < k
mem-countdown zero u m = absurd (Memᴰ.not-nil m)
mem-countdown (suc k) u (Memᴰ.head e) = omega arith
mem-countdown (suc k) u (Memᴰ.tail m) = let h = mem-countdown k u m in omega arith

pub countdown-mem : (k u : ℕ) → u < k → Memᴰ u (countdown k)
countdown-mem zero u h = absurd (omega arith)
countdown-mem (suc k) u h = go (countdown-mem k u) (eqb u k) refl
  where
    go : (u < k → Memᴰ u (countdown k)) → (t : Bool) → eqb u k ≡ t → Memᴰ u (countdown (suc k))
    go r true e = Memᴰ.head (eqb-true u k e)
    go r false e = Memᴰ.tail (r (let n : u ≢ k = eqb-false u k e in omega arith))

-- a reversed list has no repeat if the list has none
pub repeats-reverse : (l : List ℕ) → repeats l ≡ false → repeats (reverse l) ≡ false
repeats-reverse [] e = e
repeats-reverse (a ∷ l) e =
    let (out, rest) = or_no (member a l) (repeats l) e in
    let apart : list_any (λ (c : ℕ). member c (a ∷ [])) (reverse l) ≡ false = of_none (λ (c : ℕ). member c (a ∷ [])) (reverse l) (λ b m. no_or (eqb b a) false (ne_eqb b a (λ q. absurd (off out (mem-reverse l b m) q))) refl) in
    subst (λ (r : List ℕ). repeats r ≡ false) (sym (reverse-cons a l)) (repeats-append (reverse l) (a ∷ []) (repeats-reverse l rest) refl apart)
  where
    off : member a l ≡ false → {b : ℕ} → Memᴰ b l → b ≡ a → ⊥
    off out {b} m q = eqb-false a b (none_of (eqb a) l out b m) (sym q)
