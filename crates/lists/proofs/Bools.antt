-- What a Boolean expression's value says of its parts.
use mathlib.Core.Path.{◌≡◌, refl}
use mathlib.Core.Bool.{Bool, true, false, ◌&&◌, ◌||◌, not, false≢true, true≢false}
use mathlib.Core.Logic.{◌⊎◌, inl, inr}

pub or_no : (a b : Bool) → (a || b) ≡ false → (a ≡ false) × (b ≡ false)
or_no true b e = absurd (true≢false e)
or_no false b e = (refl, e)

pub no_or : (a b : Bool) → a ≡ false → b ≡ false → (a || b) ≡ false
no_or a b p q = rw (p, q)

pub or_yes : (a b : Bool) → (a || b) ≡ true → (a ≡ true) ⊎ (b ≡ true)
or_yes true b e = inl refl
or_yes false b e = inr e

pub and_yes : (a b : Bool) → (a && b) ≡ true → (a ≡ true) × (b ≡ true)
and_yes true b e = (refl, e)
and_yes false b e = absurd (false≢true e)

pub yes_and : (a b : Bool) → a ≡ true → b ≡ true → (a && b) ≡ true
yes_and a b p q = rw (p, q)

pub no-not : (a : Bool) → a ≡ true → not a ≡ false
no-not a p = rw p

pub yes-not : (a : Bool) → a ≡ false → not a ≡ true
yes-not a p = rw p

-- no value is both
pub both {ℓ} : {A : Type ℓ} (b : Bool) → b ≡ true → b ≡ false → A
both true p q = absurd (true≢false q)
both false p q = absurd (false≢true p)
