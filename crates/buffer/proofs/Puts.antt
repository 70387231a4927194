-- Bytes put one after the other: how puts join, and what a buffer holds afterwards.
use Prim.Native.Nat.{ℕ, suc, ◌+◌, ◌-◌, ◌*◌, ◌/◌, ◌%◌, ◌≤◌, ◌<◌, min}
use mathlib.Core.Path.{◌≡◌, refl, sym, ap, ◌∙◌}
use mathlib.Core.List.{List, [], ◌∷◌, ◌++◌, append_assoc, append-nil}
use mathlib.Core.Bool.{Bool, true, false}
use mathlib.Core.Logic.{◌⊎◌, inl, inr}
use native.Mathlib.Omega.{arith}
use lib.ListN.{length, get_or, set, take, drop, length-set, length-append, length-take, drop_of_length-le}
use lib.Seq.{sets, sets-eq, length-sets, set_out, take-append_seam, take-suc, take_all, drop-drop}
use Rattle.std.proofs.lemmas.List.{take-append-drop}
use lib.Dec.{ltb}
use borrow.Author.Tests.{ltb-true, ltb-false}
use borrow.Rule.Slice.PartMut.{put_mid}
use Rattle.lists.specs.Words.{bytes}
use Rattle.lists.proofs.Ranges.{lt-or-le}
use Rattle.lists.proofs.Words.{length-bytes}
use Rattle.buffer.specs.declared.Buffer.{Buffer}
use Rattle.buffer.specs.Puts.{put}

-- ---- stores one after the other
-- behind the end nothing is stored
sets_out : (d : List ℕ) (i : ℕ) (t : List ℕ) → length d ≤ i → sets d i t ≡ d
sets_out d i [] h = refl
sets_out d i (a ∷ t) h = ap (λ (l : List ℕ). sets l (suc i) t) (set_out d i a h) ∙ sets_out d (suc i) t (omega arith)

-- one text, and another from the offset behind what the first has stored
sets_join : (d : List ℕ) (i : ℕ) (t u : List ℕ) → sets (sets d i t) (i + min (length t) (length d - i)) u ≡ sets d i (t ++ u)
sets_join d i [] u = let z : i + min 0 (length d - i) ≡ i = omega arith in ap (λ (j : ℕ). sets d j u) z
sets_join d i (a ∷ t) u = go (ltb i (length d)) refl (sets_join (set d i a) (suc i) t u)
  where
    go : (b : Bool) → ltb i (length d) ≡ b → sets (sets (set d i a) (suc i) t) (suc i + min (length t) (length (set d i a) - suc i)) u ≡ sets (set d i a) (suc i) (t ++ u)
        → sets (sets (set d i a) (suc i) t) (i + min (suc (length t)) (length d - i)) u ≡ sets (set d i a) (suc i) (t ++ u)
    go true e f =
        let h = ltb-true i (length d) e in
        let n = length-set d i a in
        let z : i + min (suc (length t)) (length d - i) ≡ suc i + min (length t) (length (set d i a) - suc i) = omega arith in
        ap (λ (j : ℕ). sets (sets (set d i a) (suc i) t) j u) z ∙ f
    go false e f =
        let h = ltb-false i (length d) e in
        let n = length-set d i a in
        let m = length-sets (set d i a) (suc i) t in
        sets_out (sets (set d i a) (suc i) t) (i + min (suc (length t)) (length d - i)) u (omega arith) ∙ sets_out (set d i a) (suc i) t (omega arith) ∙ sym (sets_out (set d i a) (suc i) (t ++ u) (omega arith))

-- what is stored from the beginning on, and the later entries as they were
pub sets_front : (d l : List ℕ) → length l ≤ length d → sets d 0 l ≡ l ++ drop (length l) d
sets_front d l h = let z : 0 + length l ≡ length l = omega arith in sets-eq l d 0 (omega arith) ∙ ap (λ (k : ℕ). l ++ drop k d) z

-- ---- stores at once
-- a part is the text that it is overwritten with
pub sets_mid : (d : List ℕ) (i k : ℕ) (t : List ℕ) → k ≡ length t → i + k ≤ length d → put_mid i k d t ≡ sets d i t
sets_mid d i k t e h = ap (λ (l : List ℕ). take i d ++ (t ++ l)) (drop-drop k i d ∙ ap (λ (j : ℕ). drop (i + j) d) e) ∙ sym (append_assoc (take i d) t (drop (i + length t) d)) ∙ sym (sets-eq t d i (omega arith))

-- what there is no room for is passed over
sets_room : (d : List ℕ) (i k : ℕ) (t : List ℕ) → k ≡ min (length t) (length d - i) → sets d i (take k t) ≡ sets d i t
sets_room d i k t e = go (lt-or-le k (length t)) (sets_join d i (take k t) (drop k t) ∙ ap (sets d i) (take-append-drop k t))
  where
    go : (k < length t) ⊎ (length t ≤ k) → sets (sets d i (take k t)) (i + min (length (take k t)) (length d - i)) (drop k t) ≡ sets d i t → sets d i (take k t) ≡ sets d i t
    go (inl h) f =
        let m = length-sets d i (take k t) in
        let n = length-take k t in
        sym (sets_out (sets d i (take k t)) (i + min (length (take k t)) (length d - i)) (drop k t) (omega arith)) ∙ f
    go (inr h) f = ap (sets d i) (take_all k t h)

-- a text from an offset on, where the offset may lie behind the end
sets_copied : (d : List ℕ) (i a k : ℕ) (t : List ℕ) → a ≡ min i (length d) → k ≡ min (length t) (length d - a) → put_mid a (a + k - a) d (take k t) ≡ sets d i t
sets_copied d i a k t e f =
    let n = length-take k t in
    let room : a + (a + k - a) ≤ length d = omega arith in
    sets_mid d a (a + k - a) (take k t) (omega arith) room ∙ sets_room d a k t f ∙ go (lt-or-le i (length d))
  where
    go : (i < length d) ⊎ (length d ≤ i) → sets d a t ≡ sets d i t
    go (inl h) = let z : a ≡ i = omega arith in ap (λ (j : ℕ). sets d j t) z
    go (inr h) = sets_out d a t (omega arith) ∙ sym (sets_out d i t h)

-- ---- numbers of two bytes
pub bytes_none : bytes [] ≡ []
unfolding bytes
bytes_none = refl

pub bytes_join : (l m : List ℕ) → bytes (l ++ m) ≡ bytes l ++ bytes m
unfolding bytes
bytes_join [] m = refl
bytes_join (a ∷ l) m = rw (bytes_join l m)

-- one more
pub bytes_more : (l : List ℕ) (i : ℕ) {i' : ℕ} → i < length l → i' ≡ suc i → bytes (take i l) ++ bytes (get_or l i 0 ∷ []) ≡ bytes (take i' l)
bytes_more l i h e = sym (bytes_join (take i l) (get_or l i 0 ∷ [])) ∙ ap bytes (sym (take-suc l i 0 h) ∙ ap (λ (j : ℕ). take j l) (sym e))

-- nothing stored
pub stored_none : (d : List ℕ) → sets d 0 (bytes []) ≡ d
unfolding bytes
stored_none d = refl

-- one more, low byte and high byte
pub stored_more : (d l : List ℕ) (i : ℕ) {i' a b : ℕ} → length d ≡ 2 * length l → i < length l → i' ≡ suc i → a ≡ get_or l i 0 % 256 → b ≡ get_or l i 0 / 256
    → set (set (sets d 0 (bytes (take i l))) (2 * i) a) (2 * i + 1) b ≡ sets d 0 (bytes (take i' l))
unfolding bytes
stored_more d l i e h r p q =
    let front : List ℕ = bytes (take i l) in
    let two : List ℕ = bytes (get_or l i 0 ∷ []) in
    let n = length-bytes (take i l) in
    let m = length-take i l in
    let z : 0 + min (length front) (length d - 0) ≡ 2 * i = omega arith in
    let s : 2 * i + 1 ≡ suc (2 * i) = omega arith in
    (λ t. set (set (sets d 0 front) (2 * i) (p t)) (s t) (q t)) ∙ ap (λ (j : ℕ). sets (sets d 0 front) j two) (sym z) ∙ sets_join d 0 front two ∙ ap (sets d 0) (bytes_more l i h r)

-- all of them
pub stored_all : (d l : List ℕ) → length d ≡ 2 * length l → sets d 0 (bytes l) ≡ bytes l
stored_all d l e = let n = length-bytes l in sets_front d (bytes l) (omega arith) ∙ ap (bytes l ++◌) (drop_of_length-le d (omega arith)) ∙ append-nil (bytes l)

-- for what stores numbers in a part of their size
pub ruleset stores = (stored_none, stored_all)

-- ---- puts
-- nothing
pub put-none : (b : Buffer) → put b [] ≡ b
unfolding put
put-none b = λ i. record { out = b.out; at = z i }
  where
    z : b.at + min 0 (length b.out.now - b.at) ≡ b.at
    z = omega arith

-- one text, then another
pub put_join : (b : Buffer) (t u : List ℕ) → put (put b t) u ≡ put b (t ++ u)
unfolding put
put_join b t u = λ i. record {
  out = record { ref_ptr = b.out.ref_ptr; ghost_name = b.out.ghost_name; now = sets_join b.out.now b.at t u i };
  at = behind i;
}
  where
    behind : b.at + min (length t) (length b.out.now - b.at) + min (length u) (length (sets b.out.now b.at t) - (b.at + min (length t) (length b.out.now - b.at))) ≡ b.at + min (length (t ++ u)) (length b.out.now - b.at)
    behind = let c = length-append t u in let n = length-sets b.out.now b.at t in omega arith

-- a text copied at once, as far as there is room for it
pub put_copied : (b : Buffer) (t : List ℕ) {a k : ℕ} {u : List ℕ} → a ≡ min b.at (length b.out.now) → k ≡ min (length t) (length b.out.now - a) → u ≡ take k t
    → ◌≡◌ {A = Buffer} record { out = record { ref_ptr = b.out.ref_ptr; ghost_name = b.out.ghost_name; now = put_mid a (a + k - a) b.out.now u }; at = b.at + k } (put b t)
unfolding put
put_copied b t {a} {k} {u} e f g = λ i. record {
  out = record { ref_ptr = b.out.ref_ptr; ghost_name = b.out.ghost_name; now = (ap (put_mid a (a + k - a) b.out.now) g ∙ sets_copied b.out.now b.at a k t e f) i };
  at = behind i;
}
  where
    behind : b.at + k ≡ b.at + min (length t) (length b.out.now - b.at)
    behind = omega arith

-- a text that there is room for
pub put_whole : (b : Buffer) (t : List ℕ) {k : ℕ} {u : List ℕ} → k ≡ length t → b.at + k ≤ length b.out.now → u ≡ t
    → ◌≡◌ {A = Buffer} record { out = record { ref_ptr = b.out.ref_ptr; ghost_name = b.out.ghost_name; now = put_mid b.at (b.at + k - b.at) b.out.now u }; at = b.at + k } (put b t)
put_whole b t {k} {u} e h g =
    let a : b.at ≡ min b.at (length b.out.now) = omega arith in
    put_copied b t a (omega arith) (g ∙ sym (take_all k t (omega arith)))

-- for what puts words one after another
pub ruleset puts = (put-none, put_join, bytes_none)

-- ---- a text at the front of a buffer that has room for it
module _ (b : Buffer) (t : List ℕ) where
  -- the buffer keeps its length
  pub put-size : length (put b t).out.now ≡ length b.out.now
  unfolding put
  put-size = length-sets b.out.now b.at t

  -- the offset is the text's length
  pub put_long : b.at ≡ 0 → length t ≤ length b.out.now → (put b t).at ≡ length t
  unfolding put
  put_long z h = omega arith

  -- and the text stands there
  pub put_front : b.at ≡ 0 → length t ≤ length b.out.now → take (length t) (put b t).out.now ≡ t
  unfolding put
  put_front z h = ap (λ (k : ℕ). take (length t) (sets b.out.now k t)) z ∙ ap (take (length t)) (sets_front b.out.now t h) ∙ take-append_seam t (drop (length t) b.out.now)

  -- what is lent is the same
  pub put_same : (put b t).out.ghost_name ≡ b.out.ghost_name
  unfolding put
  put_same = refl
