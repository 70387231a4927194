-- The pair that a step of the sweep takes is the one that 01 names: of the eligible pairs that with the largest j, then with the largest i. It takes none exactly where no pair is eligible.
use Prim.Native.Nat.{ℕ, ◌-◌, ◌≤◌, ◌<◌}
use mathlib.Core.Path.{◌≡◌, refl, sym, ap, ◌∙◌, subst}
use mathlib.Core.List.Memᴰ
use mathlib.Core.List.{List, [], ◌∷◌, map, Memᴰ}
use mathlib.Core.Bool.{Bool, true, false, cond}
use mathlib.Core.Logic.{◌⊎◌, inl, inr}
use native.Mathlib.Omega.{arith}
use lib.ListN.{length}
use Rattle.lists.specs.Ranges.{countdown}
use Rattle.lists.proofs.Bools.{both}
use Rattle.lists.proofs.Joins.{mem_join, join_mem}
use Rattle.lists.proofs.Members.{mem-countdown, countdown-mem}
use Rattle.lists.proofs.Falling.{Falling, falling_countdown, falling_rows}
use Rattle.model.specs.Outcome.{Outcome, accepted, refused}
use Rattle.model.specs.Plan.{Plan}
use Rattle.model.specs.Sweep.{State, eligible, choices, choose}
use Rattle.model.specs.SweepStates.{Positions, NoneEligible, Chosen}
use Rattle.model.proofs.Outcomes.{not-both, same-value, same-refusal}

-- the pair d comes after the pair c, or is it
abbrev Under : ℕ × ℕ → ℕ × ℕ → Type 0
Under d c = (d.1 < c.1) ⊎ ((d.1 ≡ c.1) × (d.0 ≤ c.0))

abbrev row : ℕ → List (ℕ × ℕ)
row j = map (λ (i : ℕ). (i, j)) (countdown (j - 1))

row-mem : (j : ℕ) (c : ℕ × ℕ) → Memᴰ c (row j) → (c.0 < j - 1) × (c.1 ≡ j)
row-mem j c m =
    let (i, n, e) = Memᴰ.of_map {B = ℕ × ℕ} (λ (i : ℕ). (i, j)) (countdown (j - 1)) m in
    let h = mem-countdown (j - 1) i n in
    let e₀ : i ≡ c.0 = ap (λ (d : ℕ × ℕ). d.0) e in
    let e₁ : j ≡ c.1 = ap (λ (d : ℕ × ℕ). d.1) e in
    (omega arith, sym e₁)

choices_fall : (f : List ℕ) → Falling Under (choices f)
unfolding choices
choices_fall f =
    falling_rows Under row (λ j. falling_countdown Under (λ (i : ℕ). (i, j)) (λ i i' h. inr (refl, omega arith)) (j - 1))
    (λ i j a b h m n. let x = (row-mem j a m).1 in let y = (row-mem i b n).1 in inl (omega arith)) (length f)

-- the choices are the pairs of positions
choices_positions : (s : State) (c : ℕ × ℕ) → Memᴰ c (choices s.frontier) → Positions s c.0 c.1
unfolding choices
choices_positions s c m =
    let (j, n, h) = mem_join row (countdown (length s.frontier)) c m in
    let x = mem-countdown (length s.frontier) j n in
    let (y, z) = row-mem j c h in
    record { apart = omega arith; inside = omega arith }

positions_choices : (s : State) (i j : ℕ) → Positions s i j → Memᴰ (i, j) (choices s.frontier)
unfolding choices
positions_choices s i j q =
    let a = q.apart in
    join_mem row (countdown (length s.frontier)) j (i, j) (countdown-mem (length s.frontier) j q.inside)
    (Memᴰ.map {B = ℕ × ℕ} (λ (i : ℕ). (i, j)) (countdown-mem (j - 1) i (omega arith)))

module _ (p : Plan) (s : State) where
  abbrev Fits : ℕ × ℕ → Bool
  Fits c = eligible p s c.0 c.1

  -- of the eligible pairs of a list that falls, the first
  record Best (cs : List (ℕ × ℕ)) (c : ℕ × ℕ) : Type 0 where
    there : Memᴰ c cs
    fits : Fits c ≡ true
    largest : (d : ℕ × ℕ) → Memᴰ d cs → Fits d ≡ true → Under d c

  choose_best : (cs : List (ℕ × ℕ)) (c : ℕ × ℕ) → Falling Under cs → choose p s cs ≡ accepted c → Best cs c
  unfolding choose
  choose_best [] c f e = not-both e
  choose_best (b ∷ cs) c f e = go (choose_best cs c f.1) (Fits b) refl e
    where
      under : b ≡ c → (d : ℕ × ℕ) → Memᴰ d (b ∷ cs) → Under d c
      under q d (Memᴰ.head r) = let x = ap (λ (a : ℕ × ℕ). a.0) (r ∙ q) in let y = ap (λ (a : ℕ × ℕ). a.1) (r ∙ q) in inr (y, omega arith)
      under q d (Memᴰ.tail m) = subst (Under d) q (f.0 d m)

      later : Fits b ≡ false → Best cs c → (d : ℕ × ℕ) → Memᴰ d (b ∷ cs) → Fits d ≡ true → Under d c
      later q r d (Memᴰ.head h) t = both (Fits d) t (ap Fits h ∙ q)
      later q r d (Memᴰ.tail m) t = r.largest d m t

      go : (choose p s cs ≡ accepted c → Best cs c) → (t : Bool) → Fits b ≡ t → cond t (accepted b) (choose p s cs) ≡ accepted c → Best (b ∷ cs) c
      go r true q e = let h : b ≡ c = same-value e in record { there = Memᴰ.head (sym h); fits = sym (ap Fits h) ∙ q; largest = λ d m t. under h d m }
      go r false q e = let h = r e in record { there = Memᴰ.tail h.there; fits = h.fits; largest = later q h }

  choose-none : (cs : List (ℕ × ℕ)) (k at : ℕ) → choose p s cs ≡ refused k at → (k ≡ 14) × (at ≡ 0) × ((d : ℕ × ℕ) → Memᴰ d cs → Fits d ≡ false)
  unfolding choose
  choose-none [] k at e = let (h, z) = same-refusal e in (sym h, sym z, λ d m. absurd (Memᴰ.not-nil m))
  choose-none (b ∷ cs) k at e = go (choose-none cs k at) (Fits b) refl e
    where
      off : Fits b ≡ false → ((d : ℕ × ℕ) → Memᴰ d cs → Fits d ≡ false) → (d : ℕ × ℕ) → Memᴰ d (b ∷ cs) → Fits d ≡ false
      off q r d (Memᴰ.head h) = ap Fits h ∙ q
      off q r d (Memᴰ.tail m) = r d m

      go : (choose p s cs ≡ refused k at → (k ≡ 14) × (at ≡ 0) × ((d : ℕ × ℕ) → Memᴰ d cs → Fits d ≡ false)) → (t : Bool) → Fits b ≡ t → cond t (accepted b) (choose p s cs) ≡ refused k at
          → (k ≡ 14) × (at ≡ 0) × ((d : ℕ × ℕ) → Memᴰ d (b ∷ cs) → Fits d ≡ false)
      go r true q e = not-both (sym e)
      go r false q e = let (h, z, n) = r e in (h, z, off q n)

  -- The pair that is taken is the right one
  pub chosen : (i j : ℕ) → choose p s (choices s.frontier) ≡ accepted (i, j) → Chosen p s i j
  chosen i j e =
      let b = choose_best (choices s.frontier) (i, j) (choices_fall s.frontier) e in
      record { positions = choices_positions s (i, j) b.there; fits = b.fits; largest = λ i' j' q t. b.largest (i', j') (positions_choices s i' j' q) t }

  -- None is taken: no pair is eligible, and the refusal is 14 at 0
  pub none_chosen : (k at : ℕ) → choose p s (choices s.frontier) ≡ refused k at → (k ≡ 14) × (at ≡ 0) × NoneEligible p s
  none_chosen k at e = let (h, z, n) = choose-none (choices s.frontier) k at e in (h, z, λ i j q. n (i, j) (positions_choices s i j q))

  -- And the other way
  same-pair : (i j i' j' : ℕ) → Chosen p s i j → Chosen p s i' j' → (i ≡ i') × (j ≡ j')
  same-pair i j i' j' a b = go (a.largest i' j' b.positions b.fits) (b.largest i j a.positions a.fits)
    where
      go : Under (i', j') (i, j) → Under (i, j) (i', j') → (i ≡ i') × (j ≡ j')
      go (inl h) (inl k) = absurd (omega arith)
      go (inl h) (inr k) = absurd (omega arith)
      go (inr h) (inl k) = absurd (omega arith)
      go (inr h) (inr k) = omega arith

  pub chosen_taken : (i j : ℕ) → Chosen p s i j → choose p s (choices s.frontier) ≡ accepted (i, j)
  chosen_taken i j c = go (choose p s (choices s.frontier)) refl
    where
      go : (o : Outcome (ℕ × ℕ)) → choose p s (choices s.frontier) ≡ o → o ≡ accepted (i, j)
      go (accepted d) e = let (a, b) = same-pair d.0 d.1 i j (chosen d.0 d.1 e) c in λ t. accepted (a t, b t)
      go (refused k at) e = both (eligible p s i j) c.fits ((none_chosen k at e).2 i j c.positions)

  pub none-taken : NoneEligible p s → choose p s (choices s.frontier) ≡ refused 14 0
  none-taken n = go (choose p s (choices s.frontier)) refl
    where
      go : (o : Outcome (ℕ × ℕ)) → choose p s (choices s.frontier) ≡ o → o ≡ refused 14 0
      go (accepted d) e = let c = chosen d.0 d.1 e in both (eligible p s d.0 d.1) c.fits (n d.0 d.1 c.positions)
      go (refused k at) e = let (h, z, m) = none_chosen k at e in λ t. refused (h t) (z t)
