-- Rings read clockwise: lists in which each entry is the one after the entry before it.
use Prim.Native.Nat.{ℕ, suc, ◌+◌}
use mathlib.Core.Path.{◌≡◌, refl, sym, ap, ◌∙◌, subst}
use mathlib.Core.List.Memᴰ
use mathlib.Core.List.{List, [], ◌∷◌, ◌++◌, reverse, reverse-cons, reverse-append, append_assoc, Memᴰ}
use mathlib.Core.Bool.{Bool, true, false, cond}
use mathlib.Core.Logic.{◌⊎◌, inl, inr}
use native.Mathlib.Omega.{arith}
use lib.ListN.{length, get_or, take, drop}
use lib.Seq.{take-append_seam, drop-append-add}
use lib.Dec.{eqb}
use borrow.Author.Tests.{eqb-true, eqb-false, eq-eqb, ne_eqb}
use Rattle.lists.specs.Parts.{index_of, before}
use Rattle.lists.proofs.Once.{Once, once-append, once-left, once-right, once-apart}
use Rattle.lists.proofs.Members.{mem-reverse, mem-before}
use Rattle.model.specs.Plan.{onward, next, strictly_between}

-- a list with an entry is the part before it, it, and the part after it
pub record Cut (l : List ℕ) (a : ℕ) : Type 0 where
  pub left : List ℕ
  pub right : List ℕ
  pub is : l ≡ left ++ (a ∷ right)

pub cut : (l : List ℕ) (a : ℕ) → Memᴰ a l → Cut l a
cut [] a m = elim m [ ]
cut (b ∷ l) a (Memᴰ.head e) = record { left = []; right = l; is = ap {B = List ℕ} (λ c. c ∷ l) (sym e) }
cut (b ∷ l) a (Memᴰ.tail m) = let c = cut l a m in record { left = b ∷ c.left; right = c.right; is = ap {B = List ℕ} (λ k. b ∷ k) c.is }

-- ---- the entry after another
index_seam : (l : List ℕ) (a : ℕ) (m : List ℕ) → (Memᴰ a l → ⊥) → index_of a (l ++ (a ∷ m)) ≡ length l
index_seam [] a m out = rw (eq-eqb a a refl)
index_seam (b ∷ l) a m out = rw (ne_eqb a b (λ e. out (Memᴰ.head e))) (ap suc (index_seam l a m (λ i. out (Memᴰ.tail i))))

pub once_out : (l : List ℕ) (a : ℕ) (m : List ℕ) → Once (l ++ (a ∷ m)) → Memᴰ a l → ⊥
once_out l a m o i = once-apart l (a ∷ m) o a i (Memᴰ.head refl)

-- what is read onward from an entry
pub onward_seam : (l : List ℕ) (a : ℕ) (m : List ℕ) → Once (l ++ (a ∷ m)) → onward a (l ++ (a ∷ m)) ≡ m ++ l
unfolding onward
onward_seam l a m o =
    let size : suc (length l) ≡ length l + 1 = omega arith in
    let rest : drop (suc (length l)) (l ++ (a ∷ m)) ≡ m = ap (λ (k : ℕ). drop k (l ++ (a ∷ m))) size ∙ drop-append-add l (a ∷ m) 1 in
    ap (λ (k : ℕ). drop (suc k) (l ++ (a ∷ m)) ++ take k (l ++ (a ∷ m))) (index_seam l a m (once_out l a m o)) ∙ (λ i. rest i ++ take-append_seam l (a ∷ m) i)

next_seam : (l : List ℕ) (a : ℕ) (m : List ℕ) → Once (l ++ (a ∷ m)) → next a (l ++ (a ∷ m)) ≡ get_or (m ++ l) 0 a
unfolding next
next_seam l a m o = ap (λ (k : List ℕ). get_or k 0 a) (onward_seam l a m o)

once_swap : (l m : List ℕ) → Once (l ++ m) → Once (m ++ l)
once_swap l m o = once-append m l (once-right l m o) (once-left l m o) (λ a i j. once-apart l m o a j i)

-- it is the same where the ring begins elsewhere
next_swap : (l m : List ℕ) (a : ℕ) → Once (l ++ m) → Memᴰ a l → next a (l ++ m) ≡ next a (m ++ l)
next_swap l m a o i =
    let c = cut l a i in
    let x = c.left in
    let y = c.right in
    let one : l ++ m ≡ x ++ (a ∷ (y ++ m)) = ap (◌++ m) c.is ∙ append_assoc x (a ∷ y) m in
    let two : m ++ l ≡ (m ++ x) ++ (a ∷ y) = ap (m ++◌) c.is ∙ sym (append_assoc m x (a ∷ y)) in
    ap (next a) one ∙ next_seam x a (y ++ m) (subst Once one o) ∙ ap (λ (k : List ℕ). get_or k 0 a) (append_assoc y m x) ∙ sym (next_seam (m ++ x) a y (subst Once two (once_swap l m o))) ∙ ap (next a) (sym two)

pub next_turned : (l m : List ℕ) (a : ℕ) → Once (l ++ m) → Memᴰ a (l ++ m) → next a (l ++ m) ≡ next a (m ++ l)
next_turned l m a o i = go (Memᴰ.append_cases l i)
  where
    go : Memᴰ a l ⊎ Memᴰ a m → next a (l ++ m) ≡ next a (m ++ l)
    go (inl j) = next_swap l m a o j
    go (inr j) = sym (next_swap m l a (once_swap l m o) j)

-- ---- each entry of a list is the one after the entry before it, in the ring r
abbrev pub Turns : List ℕ → List ℕ → Type 0
Turns r [] = Unit {0}
Turns r (a ∷ []) = Unit {0}
Turns r (a ∷ b ∷ l) = (next a r ≡ b) × Turns r (b ∷ l)

-- the same of a list that is read from right to left
abbrev pub Backs : List ℕ → List ℕ → Type 0
Backs r [] = Unit {0}
Backs r (a ∷ []) = Unit {0}
Backs r (a ∷ b ∷ l) = (next b r ≡ a) × Backs r (b ∷ l)

pub turns-left : (r l m : List ℕ) → Turns r (l ++ m) → Turns r l
turns-left r [] m t = tt
turns-left r (a ∷ []) m t = tt
turns-left r (a ∷ b ∷ l) m t = (t.0, turns-left r (b ∷ l) m t.1)

pub turns-right : (r l m : List ℕ) → Turns r (l ++ m) → Turns r m
turns-right r [] m t = t
turns-right r (a ∷ []) [] t = tt
turns-right r (a ∷ []) (b ∷ m) t = t.1
turns-right r (a ∷ b ∷ l) m t = turns-right r (b ∷ l) m t.1

-- a ring, read from its beginning
pub turns-ring : (l m : List ℕ) → Once (l ++ m) → Turns (l ++ m) m
turns-ring l [] o = tt
turns-ring l (a ∷ []) o = tt
turns-ring l (a ∷ b ∷ m) o =
    let e : l ++ (a ∷ b ∷ m) ≡ (l ++ (a ∷ [])) ++ (b ∷ m) = sym (append_assoc l (a ∷ []) (b ∷ m)) in
    (next_seam l a (b ∷ m) o, subst (λ (r : List ℕ). Turns r (b ∷ m)) (sym e) (turns-ring (l ++ (a ∷ [])) (b ∷ m) (subst Once e o)))

-- after the last entry comes the first
turns_end : (r : List ℕ) (a : ℕ) (l : List ℕ) (z : ℕ) → Turns r (a ∷ l) → ((k : List ℕ) (b : ℕ) → a ∷ l ≡ k ++ (b ∷ []) → next b r ≡ z) → Turns r (a ∷ l ++ (z ∷ []))
turns_end r a [] z t h = (h [] a refl, tt)
turns_end r a (b ∷ l) z t h = (t.0, turns_end r b l z t.1 (λ k c e. h (a ∷ k) c (ap {B = List ℕ} (λ w. a ∷ w) e)))

turns_closed : (a : ℕ) (l : List ℕ) → Once (a ∷ l) → Turns (a ∷ l) (a ∷ l ++ (a ∷ []))
turns_closed a l o = turns_end (a ∷ l) a l a (turns-ring [] (a ∷ l) o) last
  where
    first : (k : List ℕ) (b : ℕ) → a ∷ l ≡ k ++ (b ∷ []) → get_or k 0 b ≡ a
    first [] b e = sym (ap (λ (w : List ℕ). get_or w 0 b) e)
    first (c ∷ k) b e = sym (ap (λ (w : List ℕ). get_or w 0 b) e)

    last : (k : List ℕ) (b : ℕ) → a ∷ l ≡ k ++ (b ∷ []) → next b (a ∷ l) ≡ a
    last k b e = ap (next b) e ∙ next_seam k b [] (subst Once e o) ∙ first k b e

-- and so in the ring that begins elsewhere
turns_same : (r q : List ℕ) (l : List ℕ) → ((a : ℕ) → Memᴰ a l → next a r ≡ next a q) → Turns q l → Turns r l
turns_same r q [] h t = tt
turns_same r q (a ∷ []) h t = tt
turns_same r q (a ∷ b ∷ l) h t = (h a (Memᴰ.head refl) ∙ t.0, turns_same r q (b ∷ l) (λ c i. h c (Memᴰ.tail i)) t.1)

-- A RING READ ROUND FROM AN ENTRY, AND BACK TO IT
pub round : (r : List ℕ) (b : ℕ) → Once r → Memᴰ b r → Turns r (b ∷ onward b r ++ (b ∷ []))
round r b o i =
    let c = cut r b i in
    let x = c.left in
    let y = c.right in
    let o' : Once (x ++ (b ∷ y)) = subst Once c.is o in
    let on : onward b r ≡ y ++ x = ap (onward b) c.is ∙ onward_seam x b y o' in
    let swapped : Once ((b ∷ y) ++ x) = once_swap x (b ∷ y) o' in
    let same : (a : ℕ) → Memᴰ a (b ∷ (y ++ x) ++ (b ∷ [])) → next a r ≡ next a ((b ∷ y) ++ x) = λ a j.
    ap (next a) c.is ∙ next_turned x (b ∷ y) a o' (back x y a (Memᴰ.append_cases (b ∷ y ++ x) j)) in
    subst (λ (k : List ℕ). Turns r (b ∷ k ++ (b ∷ []))) (sym on) (turns_same r ((b ∷ y) ++ x) (b ∷ (y ++ x) ++ (b ∷ [])) same (turns_closed b (y ++ x) swapped))
  where
    sides : (x y : List ℕ) (a : ℕ) → Memᴰ a (b ∷ y) ⊎ Memᴰ a x → Memᴰ a (x ++ (b ∷ y))
    sides x y a (inl j) = Memᴰ.append_right x j
    sides x y a (inr j) = Memᴰ.append_left (b ∷ y) j

    back : (x y : List ℕ) (a : ℕ) → Memᴰ a (b ∷ y ++ x) ⊎ Memᴰ a (b ∷ []) → Memᴰ a (x ++ (b ∷ y))
    back x y a (inl j) = sides x y a (Memᴰ.append_cases (b ∷ y) j)
    back x y a (inr (Memᴰ.tail m)) = elim m [ ]
    back x y a (inr (Memᴰ.head e)) = Memᴰ.append_right x (Memᴰ.head e)

-- the entries of a ring are b and what is read onward from it, b not among them
pub onward-mem : (r : List ℕ) (b a : ℕ) → Once r → Memᴰ b r → Memᴰ a r → (a ≡ b → ⊥) → Memᴰ a (onward b r)
onward-mem r b a o i j n =
    let c = cut r b i in
    let x = c.left in
    let y = c.right in
    subst (Memᴰ a) (sym (ap (onward b) c.is ∙ onward_seam x b y (subst Once c.is o))) (go x y (Memᴰ.append_cases x (subst (Memᴰ a) c.is j)))
  where
    go : (x y : List ℕ) → Memᴰ a x ⊎ Memᴰ a (b ∷ y) → Memᴰ a (y ++ x)
    go x y (inl m) = Memᴰ.append_right y m
    go x y (inr (Memᴰ.head e)) = absurd (n e)
    go x y (inr (Memᴰ.tail m)) = Memᴰ.append_left x m

pub onward_out : (r : List ℕ) (b : ℕ) → Once r → Memᴰ b r → Memᴰ b (onward b r) → ⊥
onward_out r b o i m =
    let c = cut r b i in
    let x = c.left in
    let y = c.right in
    let o' = subst Once c.is o in
    (once_swap x (b ∷ y) o').0 (subst (Memᴰ b) (ap (onward b) c.is ∙ onward_seam x b y o') m)

-- ---- the entries between two
pub before_cases : (a : ℕ) (l : List ℕ) (c : ℕ) → Memᴰ c l → Memᴰ c (before a l) ⊎ ((post : List ℕ) × (l ≡ before a l ++ (a ∷ post)) × Memᴰ c (a ∷ post))
before_cases a [] c m = elim m [ ]
before_cases a (b ∷ l) c m = go (before_cases a l c) (eqb a b) refl m
  where
    Result : List ℕ → List ℕ → Type 0
    Result k w = Memᴰ c w ⊎ ((post : List ℕ) × (k ≡ w ++ (a ∷ post)) × Memᴰ c (a ∷ post))

    later : Result l (before a l) → Result (b ∷ l) (b ∷ before a l)
    later (inl i) = inl (Memᴰ.tail i)
    later (inr (post, e, i)) = inr (post, ap {B = List ℕ} (λ k. b ∷ k) e, i)

    go : (Memᴰ c l → Result l (before a l)) → (t : Bool) → eqb a b ≡ t → Memᴰ c (b ∷ l) → Result (b ∷ l) (cond t [] (b ∷ before a l))
    go r true q i = let e = eqb-true a b q in inr (l, ap {B = List ℕ} (λ k. k ∷ l) (sym e), subst (λ (k : ℕ). Memᴰ c (k ∷ l)) (sym e) i)
    go r false q (Memᴰ.head e) = inl (Memᴰ.head e)
    go r false q (Memᴰ.tail i) = later (r i)

before_split : (a : ℕ) (l : List ℕ) → Memᴰ a l → (post : List ℕ) × (l ≡ before a l ++ (a ∷ post))
before_split a [] m = elim m [ ]
before_split a (b ∷ l) m = go (before_split a l) (eqb a b) refl m
  where
    go : (Memᴰ a l → (post : List ℕ) × (l ≡ before a l ++ (a ∷ post))) → (t : Bool) → eqb a b ≡ t → Memᴰ a (b ∷ l) → (post : List ℕ) × (b ∷ l ≡ cond t [] (b ∷ before a l) ++ (a ∷ post))
    go r true q i = (l, ap {B = List ℕ} (λ k. k ∷ l) (sym (eqb-true a b q)))
    go r false q (Memᴰ.head e) = absurd (eqb-false a b q e)
    go r false q (Memᴰ.tail i) = let (post, e) = r i in (post, ap {B = List ℕ} (λ k. b ∷ k) e)

before_end : (a : ℕ) (l : List ℕ) (b : ℕ) → Memᴰ a (l ++ (b ∷ [])) → before a (l ++ (b ∷ [])) ≡ before a l
before_end a [] b (Memᴰ.tail m) = elim m [ ]
before_end a [] b (Memᴰ.head e) = rw (eq-eqb a b e)
before_end a (c ∷ l) b m = go (before_end a l b) (eqb a c) refl m
  where
    go : (Memᴰ a (l ++ (b ∷ [])) → before a (l ++ (b ∷ [])) ≡ before a l) → (t : Bool) → eqb a c ≡ t → Memᴰ a (c ∷ l ++ (b ∷ [])) → cond t [] (c ∷ before a (l ++ (b ∷ []))) ≡ cond t [] (c ∷ before a l)
    go r true q i = refl
    go r false q (Memᴰ.head e) = absurd (eqb-false a c q e)
    go r false q (Memᴰ.tail i) = ap {B = List ℕ} (λ k. c ∷ k) (r i)

backs_end : (r m : List ℕ) (b a : ℕ) → Backs r (m ++ (b ∷ [])) → next a r ≡ b → Backs r (m ++ (b ∷ a ∷ []))
backs_end r [] b a t e = (e, tt)
backs_end r (c ∷ []) b a t e = (t.0, (e, tt))
backs_end r (c ∷ d ∷ m) b a t e = (t.0, backs_end r (d ∷ m) b a t.1 e)

-- what turns one way turns back the other
pub backs_reverse : (r l : List ℕ) → Turns r l → Backs r (reverse l)
backs_reverse r [] t = tt
backs_reverse r (a ∷ []) t = tt
backs_reverse r (a ∷ b ∷ l) t =
    let one : reverse (b ∷ l) ≡ reverse l ++ (b ∷ []) = reverse-cons b l in
    let two : reverse (a ∷ b ∷ l) ≡ reverse l ++ (b ∷ a ∷ []) = reverse-cons a (b ∷ l) ∙ ap (◌++ (a ∷ [])) one ∙ append_assoc (reverse l) (b ∷ []) (a ∷ []) in
    subst (Backs r) (sym two) (backs_end r (reverse l) b a (subst (Backs r) one (backs_reverse r (b ∷ l) t.1)) t.0)

-- THE ENTRIES BETWEEN TWO, READ IN REVERSE, AND THE TWO
pub strictly_between_backs : (r : List ℕ) (b a : ℕ) → Once r → Memᴰ b r → Memᴰ a r → Backs r (a ∷ reverse (strictly_between b a r) ++ (b ∷ []))
unfolding strictly_between
strictly_between_backs r b a o i j =
    let w = onward b r in
    let m : Memᴰ a (w ++ (b ∷ [])) = there (eqb a b) refl in
    let (post, e) = before_split a (w ++ (b ∷ [])) m in
    let x = before a w in
    let whole : b ∷ w ++ (b ∷ []) ≡ (b ∷ x ++ (a ∷ [])) ++ post = ap {B = List ℕ} (λ k. b ∷ k) (e ∙ ap (◌++ (a ∷ post)) (before_end a w b m) ∙ sym (append_assoc x (a ∷ []) post)) in
    let t : Turns r (b ∷ x ++ (a ∷ [])) = turns-left r (b ∷ x ++ (a ∷ [])) post (subst (Turns r) whole (round r b o i)) in
    let turned : reverse (b ∷ x ++ (a ∷ [])) ≡ a ∷ reverse x ++ (b ∷ []) = reverse-cons b (x ++ (a ∷ [])) ∙ ap (◌++ (b ∷ [])) (reverse-append x (a ∷ [])) in
    subst (Backs r) turned (backs_reverse r (b ∷ x ++ (a ∷ [])) t)
  where
    there : (t : Bool) → eqb a b ≡ t → Memᴰ a (onward b r ++ (b ∷ []))
    there true q = Memᴰ.append_right (onward b r) (Memᴰ.head (eqb-true a b q))
    there false q = Memᴰ.append_left (b ∷ []) (onward-mem r b a o i j (eqb-false a b q))

-- ---- no entry stands twice between two entries
pub once-reverse : (l : List ℕ) → Once l → Once (reverse l)
once-reverse [] o = tt
once-reverse (a ∷ l) o = subst Once (sym (reverse-cons a l)) (once-append (reverse l) (a ∷ []) (once-reverse l o.1) ((λ m. absurd (Memᴰ.not-nil m)), tt) (λ b i j. apart b i j))
  where
    apart : (b : ℕ) → Memᴰ b (reverse l) → Memᴰ b (a ∷ []) → ⊥
    apart b i (Memᴰ.tail m) = elim m [ ]
    apart b i (Memᴰ.head e) = o.0 (subst (λ (c : ℕ). Memᴰ c l) e (mem-reverse l b i))

once-before : (a : ℕ) (l : List ℕ) → Once l → Once (before a l)
once-before a [] o = tt
once-before a (b ∷ l) o = go (eqb a b) (once-before a l o.1)
  where
    go : (t : Bool) → Once (before a l) → Once (cond t [] (b ∷ before a l))
    go true r = tt
    go false r = ((λ m. o.0 (mem-before a l b m)), r)

pub once-strictly_between : (r : List ℕ) (b a : ℕ) → Once r → Memᴰ b r → Once (strictly_between b a r)
unfolding strictly_between
once-strictly_between r b a o i =
    let c = cut r b i in
    let x = c.left in
    let y = c.right in
    let o' = subst Once c.is o in
    once-before a (onward b r) (subst Once (sym (ap (onward b) c.is ∙ onward_seam x b y o')) (once_swap x (b ∷ y) o').1)
