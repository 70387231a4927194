-- What `fold` gives of bytes, where the closure is a step that leaves what it captures as it is.
use Prim.Native.Nat.{ℕ, suc, ◌+◌}
use mathlib.Core.Path.{◌≡◌, refl, ap, sym, ◌∙◌}
use mathlib.Core.List.{List, [], ◌∷◌}
use native.Mathlib.Omega.{arith}
use lib.ListN.{length, get_or}
use Rattle.std.specs.List.{fold}
use Rattle.lists.specs.Folds.{each}
use Rattle.comparison.specs.Bytes.{checksum_step, checksum}

-- the bytes that the k entries from i on are, one after another
each_entry : (l m : List ℕ) (i : ℕ) → ((j : ℕ) → get_or m (i + j) 0 ≡ get_or l j 0) → (s : ℕ) → fold checksum_step s l ≡ each (λ j sum. checksum_step sum (get_or m j 0)) i (length l) s
unfolding each
each_entry [] m i e s = refl
each_entry (x ∷ l) m i e s =
    let first : get_or m i 0 ≡ x = ap (λ (j : ℕ). get_or m j 0) (omega arith) ∙ e 0 in
    each_entry l m (suc i) (λ j. ap (λ (k : ℕ). get_or m k 0) (omega arith) ∙ e (suc j)) (checksum_step s x)
    ∙ ap (λ (y : ℕ). each (λ j sum. checksum_step sum (get_or m j 0)) (suc i) (length l) (checksum_step s y)) (sym first)

pub summed : (bytes : List ℕ) {r : ℕ} → r ≡ fold checksum_step 0 bytes → r ≡ checksum bytes
unfolding checksum
summed bytes ran =
    ran
    ∙ each_entry bytes bytes 0 (λ j. ap (λ (k : ℕ). get_or bytes k 0) (omega arith)) 0
    ∙ ap (λ (k : ℕ). each (λ i sum. checksum_step sum (get_or bytes i 0)) 0 k 0) (omega arith)
