-- A search of all contexts for one above another, and what neighbours settle.
use Prim.Native.Nat.{ℕ, suc, ◌-◌}
use mathlib.Core.Path.{◌≡◌, refl, sym, ap, ◌∙◌}
use mathlib.Core.List.{Memᴰ}
use mathlib.Core.Bool.{Bool, true, false, ◌&&◌, true≢false}
use native.Mathlib.Omega.{arith}
use lib.Dec.{ltb}
use borrow.Author.Tests.{ltb-true, lt-ltb}
use Rattle.std.specs.List.{list_any, range_with_len}
use Rattle.lists.specs.Ranges.{from}
use Rattle.lists.proofs.Bools.{yes_and}
use Rattle.lists.proofs.Ranges.{from-mem, mem-from}
use Rattle.lists.proofs.Tests.{list_any_of, none_of, of_none, of_list_any}
use Rattle.model.specs.Plan.{Plan, context_count, adjacent}
use Rattle.model.specs.Scan.{contexts_after}
use Rattle.scan.specs.Scanned.{has_third}
use Rattle.scan.proofs.RingTests.{third_near}
use Rattle.scan.proofs.Scans.{range_from}

-- some context above b passes
pub any_after : (p : Plan) (n b : ℕ) (f : ℕ → Bool) → n ≡ context_count p → list_any (λ (c : ℕ). ltb b c && f c) (range_with_len 0 (n - 0)) ≡ list_any f (contexts_after p b)
unfolding contexts_after
any_after p n b f size = ap (list_any test) (range_from 0 (n - 0)) ∙ go (list_any f (from (suc b) (context_count p - suc b))) refl
  where
    test : ℕ → Bool
    test c = ltb b c && f c

    go : (t : Bool) → list_any f (from (suc b) (context_count p - suc b)) ≡ t → list_any test (from 0 (n - 0)) ≡ t
    go true e =
        let (c, m, t) = list_any_of f (from (suc b) (context_count p - suc b)) e in
        let (low, high) = mem-from (suc b) (context_count p - suc b) c m in
        of_list_any test (from 0 (n - 0)) c (from-mem 0 (n - 0) c (omega arith) (omega arith)) (yes_and (ltb b c) (f c) (lt-ltb b c (omega arith)) t)
    go false e = of_none test (from 0 (n - 0)) (λ c m. fails c m (ltb b c) refl)
      where
        fails : (c : ℕ) → Memᴰ c (from 0 (n - 0)) → (t : Bool) → ltb b c ≡ t → (t && f c) ≡ false
        fails c m false q = refl
        fails c m true q =
            let low = ltb-true b c q in
            let high = (mem-from 0 (n - 0) c m).1 in
            none_of f (from (suc b) (context_count p - suc b)) e c (from-mem (suc b) (context_count p - suc b) c (omega arith) (omega arith))

-- where a and b are no neighbours, no c encloses with them
pub no_third : (p : Plan) (a b : ℕ) {f : Bool} → f ≡ adjacent p a b → f ≡ false → false ≡ has_third p a b
no_third p a b e h = go (has_third p a b) refl
  where
    go : (t : Bool) → has_third p a b ≡ t → false ≡ t
    go false q = refl
    go true q = absurd (true≢false (sym (third_near p a b q) ∙ sym e ∙ h))
