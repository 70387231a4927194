-- Every list of calls whose arguments fit an item has a script of bytes: the calls of its script are that list, and the script ends at its length.
use Prim.Native.Nat.{ℕ, zero, suc, ◌+◌, ◌-◌, ◌/◌, ◌%◌, ◌^◌, ◌≤◌, ◌<◌}
use mathlib.Core.Path.{◌≡◌, refl, sym, ap, ◌∙◌}
use mathlib.Core.List.Memᴰ
use mathlib.Core.List.{List, [], ◌∷◌, ◌++◌}
use native.Mathlib.Omega.{arith}
use lib.ListN.{length, take, drop, length-append}
use lib.Seq.{take-append_seam, drop-append_seam}
use Rattle.std.specs.Prelude.{Some, None}
use Rattle.lists.specs.Words.{bytes}
use Rattle.lists.proofs.Words.{words-bytes, length-bytes}
use Rattle.model.specs.CallLists.{Call, open_file, offer_labels, sweep-labels, turn_edges, draw_chart}
use Rattle.script.specs.Scripts.{argument_size, call_of, call_at, behind, calls_from, rest_from, calls_of, end_of}
use Rattle.script.specs.Written.{item, item_of, script_of, Below, FitsItem, AllFitItems}
use Rattle.script.proofs.Turns.{turn_whole}
use Rattle.script.proofs.Items.{item-short, item_whole}
use Rattle.script.proofs.Walk.{calls_more, rest_more, calls_none, rest-none}

-- ---- the item at the front of a script
module _ (kind : ℕ) (a s : List ℕ) where
  -- its size is read back
  size-read : argument_size (item kind a ++ s) ≡ length a
  size-read = omega arith

  -- its call is that of its kind and argument
  item-read : call_at (item kind a ++ s) ≡ call_of kind a
  item-read =
      let w = item kind a ++ s in
      let long = length-append a s in
      let size = size-read in
      let same : 4 + length a - 4 ≡ length a = omega arith in
      sym (item_whole w {size = length a} refl (sym size) (omega arith) (omega arith)) ∙ ap (call_of kind) (ap (λ (k : ℕ). take k (a ++ s)) same ∙ take-append_seam a s)

  -- the rest stands behind it
  item-behind : behind (item kind a ++ s) ≡ s
  item-behind =
      let size = size-read in
      let far : 4 + argument_size (item kind a ++ s) ≡ suc (suc (suc (suc (length a)))) = omega arith in
      ap (λ (k : ℕ). drop k (item kind a ++ s)) far ∙ drop-append_seam a s

-- a turn's argument is read back
turn-read : (items : List ℕ) (direction : ℕ) → length items ≤ 1200 → call_of 4 (direction ∷ bytes items) ≡ Some (turn_edges items direction)
unfolding call_of
turn-read items direction h =
    let long = length-bytes items in
    turn_whole (direction ∷ bytes items) (omega arith) (omega arith) ∙ ap (λ (l : List ℕ). Some (turn_edges l direction)) (words-bytes items)

-- the item of a call, at the front of a script
module _ (s : List ℕ) where
  -- the call is read back
  call-read : (c : Call) → FitsItem c → call_at (item_of c ++ s) ≡ Some c
  unfolding item_of call_of
  call-read (open_file b) h = item-read 1 b s
  call-read (offer_labels ls) h = item-read 2 ls s
  call-read sweep-labels h = item-read 3 [] s
  call-read (turn_edges items direction) h = item-read 4 (direction ∷ bytes items) s ∙ turn-read items direction h.1
  call-read draw_chart h = item-read 5 [] s

  -- the rest stands behind it
  call-behind : (c : Call) → behind (item_of c ++ s) ≡ s
  unfolding item_of
  call-behind (open_file b) = item-behind 1 b s
  call-behind (offer_labels ls) = item-behind 2 ls s
  call-behind sweep-labels = item-behind 3 [] s
  call-behind (turn_edges items direction) = item-behind 4 (direction ∷ bytes items) s
  call-behind draw_chart = item-behind 5 [] s

  -- it has 4 bytes or more
  call_long : (c : Call) → 4 + length s ≤ length (item_of c ++ s)
  unfolding item_of
  call_long (open_file b) = omega (arith, length-append b s)
  call_long (offer_labels ls) = omega (arith, length-append ls s)
  call_long sweep-labels = omega arith
  call_long (turn_edges items direction) = omega (arith, length-append (bytes items) s)
  call_long draw_chart = omega arith

-- ---- the whole script
-- no call where nothing is left
none_left : call_at [] ≡ None
none_left = item-short [] (omega arith)

-- all calls are read back, and nothing is left, with fuel enough
calls_read : (cs : List Call) → AllFitItems cs → (fuel : ℕ) → length (script_of cs) ≤ fuel → (calls_from fuel (script_of cs) ≡ cs) × (rest_from fuel (script_of cs) ≡ [])
unfolding script_of
calls_read [] h fuel l = (calls_none fuel [] none_left, rest-none fuel [] none_left)
calls_read (c ∷ cs) h zero l = absurd (omega (arith, call_long (script_of cs) c))
calls_read (c ∷ cs) h (suc fuel) l =
    let s = script_of cs in
    let e = call-read s c h.0 in
    let b = call-behind s c in
    let r = calls_read cs h.1 fuel (omega (arith, call_long s c)) in
    (calls_more fuel (item_of c ++ s) c e ∙ ap (λ (ds : List Call). c ∷ ds) (ap (calls_from fuel) b ∙ r.0), rest_more fuel (item_of c ++ s) c e ∙ ap (rest_from fuel) b ∙ r.1)

-- THERE AND BACK: the calls of the script of a list are that list
pub script_calls : (cs : List Call) → AllFitItems cs → calls_of (script_of cs) ≡ cs
unfolding calls_of
script_calls cs h = (calls_read cs h (length (script_of cs)) (omega arith)).0

-- and the script ends at its length
pub script_ends : (cs : List Call) → AllFitItems cs → end_of (script_of cs) ≡ length (script_of cs)
unfolding end_of
script_ends cs h = let e = ap length (calls_read cs h (length (script_of cs)) (omega arith)).1 in omega arith

-- ---- the script is a list of bytes
-- no entries
below_none : (k : ℕ) → Below k []
below_none k a m = absurd (Memᴰ.not-nil m)

-- one more entry
below_more : (k b : ℕ) (l : List ℕ) → b < k → Below k l → Below k (b ∷ l)
below_more k b l p h a (Memᴰ.head e) = omega arith
below_more k b l p h a (Memᴰ.tail m) = h a m

-- two lists joined
below_join : (k : ℕ) (l m : List ℕ) → Below k l → Below k m → Below k (l ++ m)
below_join k [] m p q = q
below_join k (a ∷ l) m p q = below_more k a (l ++ m) (p a (Memᴰ.head refl)) (below_join k l m (λ b i. p b (Memᴰ.tail i)) q)

-- the bytes of numbers of two bytes
below-bytes : (l : List ℕ) → Below 65536 l → Below 256 (bytes l)
unfolding bytes
below-bytes [] h = below_none 256
below-bytes (e ∷ l) h =
    let p = h e (Memᴰ.head refl) in
    below_more 256 (e % 256) (e / 256 ∷ bytes l) (omega arith) (below_more 256 (e / 256) (bytes l) (omega arith) (below-bytes l (λ a i. h a (Memᴰ.tail i))))

-- an item of a kind
below-item : (kind : ℕ) (a : List ℕ) → kind < 256 → length a < 2 ^ 24 → Below 256 a → Below 256 (item kind a)
below-item kind a p q h =
    let n = length a in
    let two = n / 256 % 256 ∷ n / 65536 ∷ a in
    below_more 256 kind (n % 256 ∷ two) p (below_more 256 (n % 256) two (omega arith) (below_more 256 (n / 256 % 256) (n / 65536 ∷ a) (omega arith) (below_more 256 (n / 65536) a (omega arith) h)))

-- an item of a call
below-call : (c : Call) → FitsItem c → Below 256 (item_of c)
unfolding item_of
below-call (open_file b) h = below-item 1 b (omega arith) h.1 h.0
below-call (offer_labels ls) h = below-item 2 ls (omega arith) h.1 h.0
below-call sweep-labels h = below-item 3 [] (omega arith) (omega arith) (below_none 256)
below-call (turn_edges items direction) h =
    let few = h.1 in
    below-item 4 (direction ∷ bytes items) (omega arith) (omega (arith, length-bytes items)) (below_more 256 direction (bytes items) h.2 (below-bytes items h.0))
below-call draw_chart h = below-item 5 [] (omega arith) (omega arith) (below_none 256)

-- what run_script takes
pub script_bytes : (cs : List Call) → AllFitItems cs → Below 256 (script_of cs)
unfolding script_of
script_bytes [] h = below_none 256
script_bytes (c ∷ cs) h = below_join 256 (item_of c) (script_of cs) (below-call c h.0) (script_bytes cs h.1)
