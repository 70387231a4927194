-- Around an inner context, clockwise, each label is the one before it, or a quarter more.
use Prim.Native.Nat.{ℕ, zero, suc, ◌+◌, ◌%◌, ◌≤◌, ◌<◌}
use mathlib.Core.Path.{◌≡◌, refl, sym, subst}
use mathlib.Core.List.{List, [], ◌∷◌, ◌++◌, append_assoc, Memᴰ}
use native.Mathlib.Omega.{arith}
use lib.ListN.{take, drop, replicate, take-append-drop}
use Rattle.lists.specs.Parts.{steps, cycle}
use Rattle.lists.proofs.Cycles.{cycle_rotated}
use Rattle.model.specs.Transversal.{FourRuns}

-- k is l, or a quarter more, clockwise
pub record Onward (l k : ℕ) : Type 0 where
  pub quarters : ℕ
  pub most : quarters ≤ 1
  pub is : k ≡ (l + quarters) % 4

stays : (l : ℕ) → l < 4 → Onward l l
stays l h = record { quarters = 0; most = omega arith; is = omega arith }

turns : (l k : ℕ) → k ≡ (l + 1) % 4 → Onward l k
turns l k e = record { quarters = 1; most = omega arith; is = e }

-- so along a list
abbrev Rises : List ℕ → Type 0
Rises [] = Unit {0}
Rises (l ∷ []) = Unit {0}
Rises (l ∷ k ∷ ls) = Onward l k × Rises (k ∷ ls)

rises_at : (ls : List ℕ) → Rises ls → (c : ℕ × ℕ) → Memᴰ c (steps ls) → Onward c.0 c.1
rises_at [] r c x'' = elim x'' [ ]
rises_at (l ∷ []) r c x6 = elim x6 [ ]
rises_at (l ∷ k ∷ ls) r c (mathlib.Core.List.Memᴰ.head e) = subst (λ (d : ℕ × ℕ). Onward d.0 d.1) (sym e) r.0
rises_at (l ∷ k ∷ ls) r c (mathlib.Core.List.Memᴰ.tail m) = rises_at (k ∷ ls) r.1 c m

-- a run of l, then k
run : (l k n : ℕ) (ls : List ℕ) → l < 4 → k ≡ (l + 1) % 4 → 0 < n → Rises (k ∷ ls) → Rises (replicate n l ++ (k ∷ ls))
run l k zero ls h e some r = absurd (omega arith)
run l k (suc zero) ls h e some r = (turns l k e, r)
run l k (suc (suc n)) ls h e some r = (stays l h, run l k (suc n) ls h e (omega arith) r)

flat : (a b c d e : List ℕ) → (a ++ (b ++ (c ++ d))) ++ e ≡ a ++ (b ++ (c ++ (d ++ e)))
flat a b c d e = simp append_assoc

-- four runs, and up again
abbrev Runs : ℕ → ℕ → ℕ → ℕ → List ℕ
Runs a b c d = replicate a 0 ++ (replicate b 1 ++ (replicate c 2 ++ replicate d 3))

runs-rise : (a b c d : ℕ) → 0 < a → 0 < b → 0 < c → 0 < d → Rises (Runs a b c d ++ (0 ∷ []))
runs-rise zero b c d ha hb hc hd = absurd (omega arith)
runs-rise (suc a) zero c d ha hb hc hd = absurd (omega arith)
runs-rise (suc a) (suc b) zero d ha hb hc hd = absurd (omega arith)
runs-rise (suc a) (suc b) (suc c) zero ha hb hc hd = absurd (omega arith)
runs-rise (suc a) (suc b) (suc c) (suc d) ha hb hc hd =
    subst Rises (sym (flat (replicate (suc a) 0) (replicate (suc b) 1) (replicate (suc c) 2) (replicate (suc d) 3) (0 ∷ [])))
    (run 0 1 (suc a) _ (omega arith) refl ha (run 1 2 (suc b) _ (omega arith) refl hb (run 2 3 (suc c) _ (omega arith) refl hc (run 3 0 (suc d) [] (omega arith) refl hd tt))))

runs_begin : (a b c d : ℕ) → 0 < a → take 1 (Runs a b c d) ≡ 0 ∷ []
runs_begin zero b c d h = absurd (omega arith)
runs_begin (suc a) b c d h = refl

-- Around a ring that has four runs each label leads onward to the next, the last to the first
pub runs-onward : (r : List ℕ) → FourRuns r → (c : ℕ × ℕ) → Memᴰ c (cycle r) → Onward c.0 c.1
runs-onward r f c m =
    let before = take f.begins r in
    let after = drop f.begins r in
    let runs = Runs f.a f.b f.c f.d in
    let here : Memᴰ c (cycle (before ++ after)) = subst (λ (l : List ℕ). Memᴰ c (cycle l)) (sym (take-append-drop f.begins r)) m in
    let turned : Memᴰ c (cycle runs) = subst (λ (l : List ℕ). Memᴰ c (cycle l)) f.runs (cycle_rotated before after c here) in
    rises_at (runs ++ (0 ∷ [])) (runs-rise f.a f.b f.c f.d f.a_some f.b_some f.c_some f.d_some) c
    (subst (λ (l : List ℕ). Memᴰ c (steps (runs ++ l))) (runs_begin f.a f.b f.c f.d f.a_some) turned)
