-- How many bytes went out in some calls.
use Prim.Native.Nat.{ℕ, ◌+◌, ◌%◌, ◌^◌, ◌<◌}
use mathlib.Core.Path.{◌≡◌, sym, ap}
use mathlib.Core.List.{List, [], ◌∷◌}
use native.Mathlib.Omega.{arith}
use lib.ListN.{length, length-append}
use Rattle.std.specs.List.{FoldsTo, concat}
use Rattle.std.specs.Prelude.{Option, Some, None}
use Rattle.std.specs.Fmt.{WritesInCalls, WritesText}
use Rattle.console.specs.Writing.{Counts}
use Rattle.console.specs.declared.Output.{Output}

-- one call
abbrev pub Went : Output → List ℕ → Output → Type 0
Went s t u = u.count ≡ (s.count + length t) % 2 ^ 64

-- some calls, one after another
went_all : (parts : List (List ℕ)) (s u : Output) → s.count < 2 ^ 64 → FoldsTo Went s parts u → u.count ≡ (s.count + length (concat parts)) % 2 ^ 64
went_all [] s u h e = let c : u.count ≡ s.count = ap (λ (o : Output). o.count) (sym e) in omega arith
went_all (t ∷ parts) s u h e =
    let (o, one, rest) = e in
    let f = went_all parts o u (omega arith) rest in
    let n = length-append t (concat parts) in
    omega arith

-- from none on
pub went : {t : List ℕ} {u : Output} → WritesInCalls Went (record { count = 0 }) t u → u.count ≡ length t % 2 ^ 64
went {t} {u} w =
    let f = went_all w.parts (record { count = 0 }) u (omega arith) w.calls in
    let n = ap length w.whole in
    omega arith

-- a text is written
pub counted : (o : Option (List ℕ)) (k : ℕ) → WritesText Went (record { count = 0 }) o (record { count = k }) → Counts o (Some k)
counted (Some t) k w = went w
counted None k w = tt
