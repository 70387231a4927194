-- A list put into a frontier in place of a part of it: what the array holds after the rest of the frontier is moved, the list is copied there, and zeros are put behind.
use Prim.Native.Nat.{ℕ, ◌+◌, ◌-◌, ◌≤◌, ◌<◌}
use mathlib.Core.Path.{◌≡◌, refl, sym, ap, ◌∙◌}
use mathlib.Core.List.{List, ◌++◌, append_assoc}
use native.Mathlib.Omega.{arith}
use borrow.Rule.Slice.PartMut.{put_mid}
use lib.ListN.{length, take, drop, replicate, length-append, length-drop}
use lib.Seq.{paste, length-take-le, drop-append-add}
use Rattle.std.proofs.lemmas.List.{take-take, take_at, drop_at, drop-drop, take-append-le, drop-append-le}
use Rattle.std.proofs.lemmas.List.Edits.{paste_all}
use Rattle.std.proofs.lemmas.Slice.{put_mid-paste}
use Rattle.lists.specs.Spans.{zeros, zero_padded}
use Rattle.lists.proofs.Spans.{length-zeros, zeros-append}
use Rattle.lists.proofs.Padded.{length-zero_padded}
use Rattle.sweep_labelling.proofs.Unlabelled.{drop-zeros}
use Rattle.sweep_by_counts.specs.Moves.{Spliced}

-- a part overwritten
put_at : (a k : ℕ) (xs ys zs : List ℕ) → ys ≡ zs → k ≡ length zs → put_mid a k xs ys ≡ take a xs ++ (zs ++ drop (a + k) xs)
put_at a k xs ys zs e n = put_mid-paste a k xs ys zs k e refl n ∙ paste_all xs a zs k n

-- a part overwritten right behind a list
put_behind : (x y ys zs : List ℕ) (a k : ℕ) → a ≡ length x → ys ≡ zs → k ≡ length zs → put_mid a k (x ++ y) ys ≡ x ++ (zs ++ drop k y)
put_behind x y ys zs a k h e n = put_at a k (x ++ y) ys zs e n ∙ (λ i. take_at x y a (sym h) i ++ (zs ++ (ap (λ (t : ℕ). drop (t + k) (x ++ y)) h ∙ drop-append-add x y k) i))

-- ---- a list in an array that held f, and behind it what stood there
module _ (f x : List ℕ) (k : ℕ) (size : k ≡ length x) where
  -- behind one that is no shorter zeros stand
  zeros_stay : length f ≤ k → x ++ drop k (zero_padded 512 f) ≡ zero_padded 512 x
  unfolding zero_padded
  zeros_stay h =
      let more : ℕ = k - length f in
      let past : k ≡ length f + more = omega arith in
      let fill : 512 - length f - more ≡ 512 - length x = omega arith in
      ap (x ++◌) (ap (λ (t : ℕ). drop t (f ++ zeros (512 - length f))) past ∙ drop-append-add f (zeros (512 - length f)) more ∙ drop-zeros more (512 - length f) ∙ ap zeros fill)

  -- behind one that is shorter they are put
  zeros_put : (ys : List ℕ) (n : ℕ) → k + n ≡ length f → length f ≤ 512 → ys ≡ zeros n → put_mid k n (x ++ drop k (zero_padded 512 f)) ys ≡ zero_padded 512 x
  unfolding zero_padded
  zeros_put ys n past h e =
      let fill : n + (512 - length f) ≡ 512 - length x = omega arith in
      put_behind x (drop k (zero_padded 512 f)) ys (zeros n) k n size e (sym (length-zeros n))
      ∙ ap (λ (t : List ℕ). x ++ (zeros n ++ t)) (drop-drop n k (zero_padded 512 f) ∙ ap (λ (t : ℕ). drop t (zero_padded 512 f)) past ∙ drop_at f (zeros (512 - length f)) (length f) refl)
      ∙ ap (x ++◌) (zeros-append n (512 - length f) ∙ ap zeros fill)

-- ---- the rest of the array copied to position b
module _ (xs s : List ℕ) (b n : ℕ) (h : b ≤ length xs) where
  -- what stands before it stays
  moved_front : (a : ℕ) → a ≤ b → take a (paste xs b s n) ≡ take a xs
  moved_front a u =
      let k = length-take-le b xs h in
      let w = length-append (take b xs) (take n s) in
      take-append-le a (take b xs ++ take n s) (drop (b + n) xs) (omega arith) ∙ take-append-le a (take b xs) (take n s) (omega arith) ∙ take-take a b xs u

  -- from there on stand the copy and what was behind
  moved_back : drop b (paste xs b s n) ≡ take n s ++ drop (b + n) xs
  moved_back = ap (drop b) (append_assoc (take b xs) (take n s) (drop (b + n) xs)) ∙ drop_at (take b xs) (take n s ++ drop (b + n) xs) b (length-take-le b xs h)

-- ---- a list put in place of positions a to j − 1 of a frontier of m contexts
module _ (l : List ℕ) (m a j : ℕ) (order : a ≤ j) (inside : j ≤ m) (short : m ≤ 512) (room : a + length l + (m - j) ≤ 512) where
  -- how many contexts the frontier has then
  abbrev len : ℕ
  len = a + length l + (m - j)

  module _ (f : List ℕ) (long : length f ≡ m) where
    -- the array that holds the frontier
    abbrev held : List ℕ
    held = zero_padded 512 f

    -- the frontier with the list
    abbrev new : List ℕ
    new = take a f ++ l ++ drop j f

    new_size : len ≡ length new
    new_size =
        let x = length-append (take a f ++ l) (drop j f) in
        let y = length-append (take a f) l in
        let z = length-take-le a f (omega arith) in
        let w = length-drop j f in
        omega arith

    -- what is moved is the rest of the frontier
    rest : take (m - j) (drop j held) ≡ drop j f
    unfolding zero_padded
    rest = ap (take (m - j)) (drop-append-le j f (zeros (512 - length f)) (omega arith)) ∙ take_at (drop j f) (zeros (512 - length f)) (m - j) (let w = length-drop j f in omega arith)

    -- what stands before the list stays
    front : take a held ≡ take a f
    unfolding zero_padded
    front = take-append-le a f (zeros (512 - length f)) (omega arith)

    module _ {one l' : List ℕ} {k : ℕ} (moved : one ≡ paste held (a + length l) (drop j held) (m - j)) (is : l' ≡ l) (size : k ≡ length l) where
      -- after the list is put there the frontier stands in the array, and behind it what stood there before
      behind : put_mid a k one l' ≡ new ++ drop len held
      behind =
          let b : ℕ = a + length l in
          let e : a + k ≡ b = omega arith in
          let h = length-zero_padded 512 f (omega arith) in
          let before = moved_front held (drop j held) b (m - j) (omega arith) a (omega arith) in
          let after = moved_back held (drop j held) b (m - j) (omega arith) in
          put_at a k one l' l is size
          ∙ (λ i. take a (moved i) ++ (l ++ drop (e i) (moved i)))
          ∙ (λ i. (before ∙ front) i ++ (l ++ (after ∙ ap (◌++ drop len held) rest) i))
          ∙ sym (append_assoc (take a f) l (drop j f ++ drop len held))
          ∙ sym (append_assoc (take a f ++ l) (drop j f) (drop len held))

      -- where the frontier is no shorter
      longer : m ≤ len → put_mid a k one l' ≡ zero_padded 512 new
      longer h = behind ∙ zeros_stay f new len new_size (omega arith)

      -- where it is, and zeros are put behind
      shorter : {z : List ℕ} → len < m → z ≡ replicate (m - len) 0 → put_mid len (m - len) (put_mid a k one l') z ≡ zero_padded 512 new
      unfolding zeros
      shorter {z} h e = ap (λ (t : List ℕ). put_mid len (m - len) t z) behind ∙ zeros_put f new len new_size z (m - len) (omega arith) (omega arith) e

  -- ---- WHAT THE ARRAY HOLDS THEN
  module _ {old one l' : List ℕ} {k : ℕ} (moved : one ≡ paste old (a + length l) (drop j old) (m - j)) (is : l' ≡ l) (size : k ≡ length l) where
    -- the same of the array that holds f
    moved_of : (f : List ℕ) → old ≡ zero_padded 512 f → one ≡ paste (zero_padded 512 f) (a + length l) (drop j (zero_padded 512 f)) (m - j)
    moved_of f e = moved ∙ (λ i. paste (e i) (a + length l) (drop j (e i)) (m - j))

    -- where the frontier is no shorter
    pub spliced_longer : m ≤ len → Spliced old (put_mid a k one l') m a j l len
    spliced_longer h = record { at = λ f e long. longer f long (moved_of f e) is size h; size = λ f e long. new_size f long }

    -- where it is shorter, with zeros put behind
    pub spliced_shorter : {z : List ℕ} → len < m → z ≡ replicate (m - len) 0 → Spliced old (put_mid len (m - len) (put_mid a k one l') z) m a j l len
    spliced_shorter h q = record { at = λ f e long. shorter f long (moved_of f e) is size h q; size = λ f e long. new_size f long }
