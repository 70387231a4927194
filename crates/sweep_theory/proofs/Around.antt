-- The way around a context, clockwise, from one entry of its ring to another, over entries of a kind; whatever is not of that kind lies on the other side.
use Prim.Native.Nat.{ℕ}
use mathlib.Core.Path.{◌≡◌, sym, ap, ◌∙◌, subst}
use mathlib.Core.List.Memᴰ
use mathlib.Core.List.{List, [], ◌∷◌, ◌++◌, append_assoc, Memᴰ}
use mathlib.Core.Logic.{◌⊎◌, inl, inr, ◌≢◌}
use Rattle.lists.specs.Parts.{before}
use Rattle.lists.proofs.Once.{Once}
use Rattle.model.specs.Plan.{onward, next, strictly_between}
use Rattle.sweep_theory.proofs.Turns.{Turns, turns-right, round, onward-mem, onward_out, before_cases}

-- from a clockwise to b, in the ring r, over entries of the kind S alone
pub data Over (S : ℕ → Type 0) (r : List ℕ) : ℕ → ℕ → Type 0 where
  one : {a b : ℕ} → next a r ≡ b → Over S r a b
  more : {a b : ℕ} (c : ℕ) → next a r ≡ c → S c → Over S r c b → Over S r a b

pub over_join : {S : ℕ → Type 0} {r : List ℕ} {a c b : ℕ} → Over S r a c → S c → Over S r c b → Over S r a b
over_join (one e) s o = more _ e s o
over_join (more d e k w) s o = more d e k (over_join w s o)

-- of a wider kind
pub over_wide : {S T : ℕ → Type 0} → ((c : ℕ) → S c → T c) → {r : List ℕ} {a b : ℕ} → Over S r a b → Over T r a b
over_wide h (one e) = one e
over_wide h (more d e k w) = more d e (h d k) (over_wide h w)

module _ {S : ℕ → Type 0} {r : List ℕ} where
  -- all that is passed is of the kind
  over_all : {x b : ℕ} (l : List ℕ) → Turns r (x ∷ l ++ (b ∷ [])) → (Memᴰ b l → ⊥) → Over S r x b → (c : ℕ) → Memᴰ c l → S c
  over_all {b = b} [] t out _ c m = elim m [ ]
  over_all (y ∷ l) t out (one e) c m = absurd (out (Memᴰ.head (sym e ∙ t.0)))
  over_all {b = b} (y ∷ l) t out (more d e k w) c m = go (over_all l t.1 (λ i. out (Memᴰ.tail i)) (subst (λ (z : ℕ). Over S r z b) (sym e ∙ t.0) w) c) m
    where
      go : (Memᴰ c l → S c) → Memᴰ c (y ∷ l) → S c
      go f (Memᴰ.head q) = subst S (sym (q ∙ sym t.0 ∙ e)) k
      go f (Memᴰ.tail i) = f i

  -- WHAT IS NOT OF THE KIND LIES ON THE OTHER SIDE
  pub other_side : (a b c : ℕ) → Once r → Memᴰ b r → Over S r a b → Memᴰ c r → c ≢ a → c ≢ b → (S c → ⊥) → Memᴰ c (strictly_between b a r)
  unfolding strictly_between
  other_side a b c o i w m na nb out = go (before_cases a (onward b r) c (onward-mem r b c o i m nb))
    where
      passed : (post : List ℕ) → onward b r ≡ before a (onward b r) ++ (a ∷ post) → Memᴰ c post → ⊥
      passed post e j =
          let x = before a (onward b r) in
          let whole : b ∷ onward b r ++ (b ∷ []) ≡ (b ∷ x) ++ (a ∷ post ++ (b ∷ [])) = ap (λ (k : List ℕ). b ∷ k ++ (b ∷ [])) e ∙ append_assoc (b ∷ x) (a ∷ post) (b ∷ []) in
          let t : Turns r (a ∷ post ++ (b ∷ [])) = turns-right r (b ∷ x) (a ∷ post ++ (b ∷ [])) (subst (Turns r) whole (round r b o i)) in
          let off : Memᴰ b post → ⊥ = λ k. onward_out r b o i (subst (Memᴰ b) (sym e) (Memᴰ.append_right x (Memᴰ.tail k))) in
          out (over_all post t off w c j)

      go : Memᴰ c (before a (onward b r)) ⊎ ((post : List ℕ) × (onward b r ≡ before a (onward b r) ++ (a ∷ post)) × Memᴰ c (a ∷ post)) → Memᴰ c (before a (onward b r))
      go (inl j) = j
      go (inr (post, e, Memᴰ.head q)) = absurd (na q)
      go (inr (post, e, Memᴰ.tail j)) = absurd (passed post e j)
