-- Neighbouring entries of a list that is closed to a ring: how many there are, under a renaming, and after a rotation.
use Prim.Native.Nat.{suc}
use mathlib.Core.Path.{◌≡◌, refl, sym, ap, ◌∙◌, subst}
use mathlib.Core.List.Memᴰ
use mathlib.Core.List.{List, [], ◌∷◌, ◌++◌, map, append_assoc, append-nil, Memᴰ}
use mathlib.Core.Logic.{◌⊎◌, inl, inr}
use native.Mathlib.Omega.{arith}
use lib.ListN.{length, take, length-append}
use Rattle.lists.specs.Parts.{steps, cycle}
use Rattle.lists.proofs.Members.{mem-take}
use Rattle.lists.proofs.Concats.{map-append}

module _ {A B : Type 0} (g : A → B) where
  abbrev both : A × A → B × B
  both d = (g d.0, g d.1)

  steps_map : (l : List A) → steps (map g l) ≡ map both (steps l)
  steps_map [] = refl
  steps_map (a ∷ []) = refl
  steps_map (a ∷ b ∷ l) = ap (λ (k : List (B × B)). (g a, g b) ∷ k) (steps_map (b ∷ l))

  pub cycle-map : (l : List A) → cycle (map g l) ≡ map both (cycle l)
  cycle-map [] = refl
  cycle-map (a ∷ l) = ap steps (sym (map-append g (a ∷ l) (a ∷ []))) ∙ steps_map (a ∷ l ++ (a ∷ []))

module _ {A : Type 0} where
  length-steps : (a : A) (l : List A) → length (steps (a ∷ l)) ≡ length l
  length-steps a [] = refl
  length-steps a (b ∷ l) = ap suc (length-steps b l)

  -- a ring has as many steps as entries
  pub length-cycle : (l : List A) → length (cycle l) ≡ length l
  length-cycle [] = refl
  length-cycle (a ∷ l) = length-steps a (l ++ (a ∷ [])) ∙ omega (arith, length-append l (a ∷ []))

  -- both entries of a step are entries
  mem-steps : (l : List A) (c : A × A) → Memᴰ c (steps l) → Memᴰ c.0 l × Memᴰ c.1 l
  mem-steps [] c x' = elim x' [ ]
  mem-steps (a ∷ []) c x4 = elim x4 [ ]
  mem-steps (a ∷ b ∷ l) c (Memᴰ.head e) = (Memᴰ.head (ap (λ (d : A × A). d.0) e), Memᴰ.tail (Memᴰ.head (ap (λ (d : A × A). d.1) e)))
  mem-steps (a ∷ b ∷ l) c (Memᴰ.tail m) = let (i, j) = mem-steps (b ∷ l) c m in (Memᴰ.tail i, Memᴰ.tail j)

  pub mem-cycle : (l : List A) (c : A × A) → Memᴰ c (cycle l) → Memᴰ c.0 l × Memᴰ c.1 l
  mem-cycle l c m = let (i, j) = mem-steps (l ++ take 1 l) c m in (go c.0 (Memᴰ.append_cases l i), go c.1 (Memᴰ.append_cases l j))
    where
      go : (a : A) → Memᴰ a l ⊎ Memᴰ a (take 1 l) → Memᴰ a l
      go a (inl h) = h
      go a (inr h) = mem-take 1 l a h

  -- two lists that meet in an entry
  steps_meet : (l : List A) (b : A) (m : List A) → steps (l ++ (b ∷ m)) ≡ steps (l ++ (b ∷ [])) ++ steps (b ∷ m)
  steps_meet [] b m = refl
  steps_meet (a ∷ []) b m = refl
  steps_meet (a ∷ c ∷ l) b m = ap (λ (k : List (A × A)). (a, c) ∷ k) (steps_meet (c ∷ l) b m)

  -- the entries of a ring and those of the ring begun elsewhere
  pub cycle_rotated : (l m : List A) (d : A × A) → Memᴰ d (cycle (l ++ m)) → Memᴰ d (cycle (m ++ l))
  cycle_rotated [] m d i = subst (λ (k : List A). Memᴰ d (cycle k)) (sym (append-nil m)) i
  cycle_rotated (a ∷ l) [] d i = subst (λ (k : List A). Memᴰ d (cycle k)) (append-nil (a ∷ l)) i
  cycle_rotated (a ∷ l) (b ∷ m) d i =
      let whole : cycle ((a ∷ l) ++ (b ∷ m)) ≡ steps ((a ∷ l) ++ (b ∷ [])) ++ steps ((b ∷ m) ++ (a ∷ [])) = ap steps (append_assoc (a ∷ l) (b ∷ m) (a ∷ [])) ∙ steps_meet (a ∷ l) b (m ++ (a ∷ [])) in
      let turned : cycle ((b ∷ m) ++ (a ∷ l)) ≡ steps ((b ∷ m) ++ (a ∷ [])) ++ steps ((a ∷ l) ++ (b ∷ [])) = ap steps (append_assoc (b ∷ m) (a ∷ l) (b ∷ [])) ∙ steps_meet (b ∷ m) a (l ++ (b ∷ [])) in
      subst (Memᴰ d) (sym turned) (go (Memᴰ.append_cases (steps ((a ∷ l) ++ (b ∷ []))) (subst (Memᴰ d) whole i)))
    where
      go : Memᴰ d (steps ((a ∷ l) ++ (b ∷ []))) ⊎ Memᴰ d (steps ((b ∷ m) ++ (a ∷ []))) → Memᴰ d (steps ((b ∷ m) ++ (a ∷ [])) ++ steps ((a ∷ l) ++ (b ∷ [])))
      go (inl h) = Memᴰ.append_right (steps ((b ∷ m) ++ (a ∷ []))) h
      go (inr h) = Memᴰ.append_left (steps ((a ∷ l) ++ (b ∷ []))) h
