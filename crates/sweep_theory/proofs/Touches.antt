-- How many contexts of a frontier touch a context: exactly those of a range of positions, if and only if none touches it outside.
use Prim.Native.Nat.{ℕ, suc, ◌+◌, ◌-◌, ◌≤◌, ◌<◌}
use mathlib.Core.Path.{◌≡◌, refl, sym, ap, ◌∙◌}
use mathlib.Core.List.{List, [], ◌∷◌, ◌++◌, Memᴰ}
use mathlib.Core.Bool.{Bool, true, false, cond}
use mathlib.Core.Logic.{◌⊎◌, inl, inr}
use native.Mathlib.Omega.{arith}
use lib.ListN.{length, take, drop, take-append-drop, length-drop}
use lib.Seq.{length-take-le, get_or-take, get_or-drop}
use Rattle.lists.specs.Tests.{tally}
use Rattle.lists.proofs.Sums.{tally-none}
use Rattle.model.proofs.Eligible.{get_or-mem, mem-get_or}
use Rattle.sweep_theory.proofs.Trails.{at}

module _ (q : ℕ → Bool) where
  pub tally-append : (l m : List ℕ) → tally q (l ++ m) ≡ tally q l + tally q m
  tally-append [] m = omega arith
  tally-append (a ∷ l) m = omega (arith, tally-append l m)

  none_tally : (l : List ℕ) → tally q l ≡ 0 → (c : ℕ) → Memᴰ c l → q c ≡ false
  none_tally [] e c m = elim m [ ]
  none_tally (a ∷ l) e c (Memᴰ.head h) = go (q a) refl
    where
      go : (t : Bool) → q a ≡ t → q c ≡ false
      go false x = ap q h ∙ x
      go true x = let y : ◌≡◌ {A = ℕ} (cond (q a) 1 0) 1 = ap (λ (t : Bool). cond {A = ℕ} t 1 0) x in absurd (omega arith)
  none_tally (a ∷ l) e c (Memᴰ.tail m) = none_tally l (omega arith) c m

  all_tally : (l : List ℕ) → ((k : ℕ) → k < length l → q (at l k) ≡ true) → tally q l ≡ length l
  all_tally [] h = refl
  all_tally (a ∷ l) h =
      let x : ◌≡◌ {A = ℕ} (cond (q a) 1 0) 1 = ap (λ (t : Bool). cond {A = ℕ} t 1 0) (h 0 (omega arith)) in
      let y = all_tally l (λ k b. h (suc k) (omega arith)) in
      omega arith

  module _ (f : List ℕ) (lo hi : ℕ) (order : lo ≤ hi) (inside : hi < length f) (touch : (t : ℕ) → lo ≤ t → t ≤ hi → q (at f t) ≡ true) where
    -- the positions before, of, and after the range
    abbrev n : ℕ
    n = suc (hi - lo)

    abbrev x : List ℕ
    x = take lo f

    abbrev y : List ℕ
    y = take n (drop lo f)

    abbrev z : List ℕ
    z = drop n (drop lo f)

    size_y : length y ≡ n
    size_y = length-take-le n (drop lo f) (let e = length-drop lo f in omega arith)

    at_y : (k : ℕ) → k < n → at y k ≡ at f (lo + k)
    at_y k h = get_or-take n (drop lo f) k 0 h ∙ get_or-drop lo f k 0

    at_z : (k : ℕ) → at z k ≡ at f (lo + (n + k))
    at_z k = get_or-drop n (drop lo f) k 0 ∙ get_or-drop lo f (n + k) 0

    size_z : length z ≡ length f - lo - n
    size_z = length-drop n (drop lo f) ∙ ap (◌- n) (length-drop lo f)

    parts : tally q f ≡ tally q x + (n + tally q z)
    parts =
        let e = ap (tally q) (sym (take-append-drop lo f)) ∙ tally-append x (drop lo f) in
        let g = ap (tally q) (sym (take-append-drop n (drop lo f))) ∙ tally-append y z in
        let h = all_tally y (λ k b. let s = size_y in ap q (at_y k (omega arith)) ∙ touch (lo + k) (omega arith) (let s = size_y in omega arith)) in
        let s = size_y in
        omega arith

    -- THE COUNT OF A RANGE
    pub none_count : ((t : ℕ) → t < length f → (t < lo) ⊎ (hi < t) → q (at f t) ≡ false) → tally q f ≡ n
    none_count h =
        let a = tally-none q x (λ c m. let (k, b, e) = mem-get_or x c m in let s = length-take-le lo f (omega arith) in ap q (sym e ∙ get_or-take lo f k 0 (omega arith)) ∙ h k (omega arith) (inl (omega arith))) in
        let b = tally-none q z (λ c m. let (k, b, e) = mem-get_or z c m in let s = size_z in ap q (sym e ∙ at_z k) ∙ h (lo + (n + k)) (omega arith) (inr (omega arith))) in
        let e = parts in
        omega arith

    pub count_none : tally q f ≡ n → (t : ℕ) → t < length f → (t < lo) ⊎ (hi < t) → q (at f t) ≡ false
    count_none c t h (inl b) =
        let e = parts in
        let s = length-take-le lo f (omega arith) in
        ap q (sym (get_or-take lo f t 0 b)) ∙ none_tally x (omega arith) (at x t) (get_or-mem x t (omega arith))
    count_none c t h (inr b) =
        let e = parts in
        let s = size_z in
        let k : ℕ = t - suc hi in
        let w : lo + (n + k) ≡ t = omega arith in
        ap q (ap (at f) (sym w) ∙ sym (at_z k)) ∙ none_tally z (omega arith) (at z k) (get_or-mem z k (omega arith))
