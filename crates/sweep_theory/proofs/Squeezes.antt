-- What is below a range of positions, and what is left of it when repeats in a row are dropped: parts of it, and contexts that stand apart.
use Prim.Native.Nat.{ℕ, zero, suc, ◌+◌, ◌-◌, ◌<◌}
use mathlib.Core.Path.{◌≡◌, sym, ap, ◌∙◌, subst}
use mathlib.Core.List.Memᴰ
use mathlib.Core.List.{List, [], ◌∷◌, ◌++◌, append_assoc, Memᴰ}
use mathlib.Core.Bool.{Bool, true, false, cond, not}
use mathlib.Core.Logic.{◌≢◌}
use native.Mathlib.Omega.{arith}
use lib.ListN.{length, drop, length-append}
use lib.Seq.{get_or-append-add}
use lib.Dec.{eqb}
use borrow.Author.Tests.{ne_eqb}
use Rattle.std.specs.List.{list_any}
use Rattle.lists.specs.Parts.{squeeze, squeeze_after}
use Rattle.lists.proofs.Bools.{and_yes}
use Rattle.lists.proofs.Once.{Once, once-right}
use Rattle.lists.proofs.Parts.{squeeze-before}
use Rattle.model.specs.Plan.{Plan, adjacent}
use Rattle.model.specs.Sweep.{below, chordless}
use Rattle.model.proofs.Eligible.{squeeze-mem}
use Rattle.sweep_theory.proofs.Turns.{cut}
use Rattle.sweep_theory.proofs.Trails.{at}
use Rattle.sweep_theory.proofs.Strips.{raw}

-- the positions from a on, cut after x of them
pub raw_split : (p : Plan) (f : List ℕ) (a x y : ℕ) → raw p f a (x + y) ≡ raw p f a x ++ raw p f (a + x) y
raw_split p f a zero y = let z : 0 + y ≡ y = omega arith in let w : a + 0 ≡ a = omega arith in (λ i. raw p f (sym w i) (z i))
raw_split p f a (suc x) y =
    let z : suc x + y ≡ suc (x + y) = omega arith in
    let w : suc a + x ≡ a + suc x = omega arith in
    ap (raw p f a) z ∙ ap (λ (l : List ℕ). below p f a ++ l) (raw_split p f (suc a) x y) ∙ sym (append_assoc (below p f a) (raw p f (suc a) x) (raw p f (suc a + x) y)) ∙ ap (λ (b : ℕ). below p f a ++ raw p f (suc a) x ++ raw p f b y) w

-- ---- a squeezed list without repeats
-- c comes again after another context
again : (c : ℕ) (a : List ℕ) (d : ℕ) (b : List ℕ) → d ≢ c → Memᴰ c b → Memᴰ c (squeeze_after c (a ++ (d ∷ b)))
again c [] d b n m = subst (λ (t : Bool). Memᴰ c (cond t (squeeze_after c b) (d ∷ squeeze_after d b))) (sym (ne_eqb c d (λ e. n (sym e)))) (squeeze-mem (d ∷ b) c (Memᴰ.tail m))
again c (x ∷ a) d b n m = go (eqb c x) (again c a d b n m)
  where
    go : (t : Bool) → Memᴰ c (squeeze_after c (a ++ (d ∷ b))) → Memᴰ c (cond t (squeeze_after c (a ++ (d ∷ b))) (x ∷ squeeze_after x (a ++ (d ∷ b))))
    go true r = r
    go false r = squeeze-mem (x ∷ a ++ (d ∷ b)) c (Memᴰ.tail (Memᴰ.append_right a (Memᴰ.tail m)))

-- nothing else stands between two of c
pub apart : (a : List ℕ) (d : ℕ) (b : List ℕ) (c : ℕ) → Once (squeeze (a ++ (d ∷ b))) → Memᴰ c a → d ≢ c → Memᴰ c b → ⊥
apart a d b c o i n m =
    let k = cut a c i in
    let x = k.left in
    let y = k.right in
    let whole : a ++ (d ∷ b) ≡ x ++ (c ∷ y ++ (d ∷ b)) = ap (◌++ (d ∷ b)) k.is ∙ append_assoc x (c ∷ y) (d ∷ b) in
    let (r, e) = squeeze-before x (c ∷ y ++ (d ∷ b)) in
    (once-right r (squeeze (c ∷ y ++ (d ∷ b))) (subst Once (ap squeeze whole ∙ e) o)).0 (again c y d b n m)

-- ---- the end of a list
pub chordless_end : (p : Plan) (r m : List ℕ) → chordless p (r ++ m) ≡ true → chordless p m ≡ true
unfolding chordless
chordless_end p [] m e = e
chordless_end p (a ∷ r) m e = chordless_end p r m (and_yes (not (list_any (adjacent p a) (drop 1 (r ++ m)))) (chordless p (r ++ m)) e).1

pub last_end : (r m : List ℕ) → 0 < length m → at (r ++ m) (length (r ++ m) - 1) ≡ at m (length m - 1)
last_end r m h =
    let e = length-append r m in
    let z : length (r ++ m) - 1 ≡ length r + (length m - 1) = omega arith in
    ap (at (r ++ m)) z ∙ get_or-append-add r m (length m - 1) 0
