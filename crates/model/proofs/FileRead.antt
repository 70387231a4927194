-- What is read was written: a file that decodes to a sheet is the sheet's file, and the sheet fits.
use Prim.Native.Nat.{ℕ, zero, suc, ◌+◌, ◌-◌, ◌*◌, ◌%◌, ◌≤◌, ◌<◌}
use mathlib.Core.Path.{◌≡◌, refl, sym, ap, ◌∙◌, subst}
use mathlib.Core.List.Memᴰ
use mathlib.Core.List.{List, [], ◌∷◌, ◌++◌, map, append_assoc, append-nil, Memᴰ}
use mathlib.Core.Bool.{Bool, true, false, cond, not, ◌&&◌, false≢true}
use mathlib.Core.Logic.{inl, inr}
use native.Mathlib.Omega.{arith}
use lib.ListN.{length, take, drop, length-drop, length-map, take-append-drop}
use lib.Seq.{length-take-le}
use lib.Dec.{eqb, leb}
use borrow.Author.Tests.{eqb-true, leb-true}
use Rattle.lists.specs.Tests.{is_empty}
use Rattle.lists.specs.Parts.{pairs}
use Rattle.lists.specs.Words.{word, words, bytes}
use Rattle.lists.proofs.Bools.{and_yes}
use Rattle.lists.proofs.Parts.{length_pairs}
use Rattle.lists.proofs.Words.{Bytes, bytes_left, bytes-right, low_byte, high_byte, length-words, bytes-words, bytes_word}
use Rattle.model.specs.Outcome.{Outcome, accepted, refused, ◌>>=◌, ◌>>◌, require}
use Rattle.model.specs.Plan.{Plan, context_count, labels_due}
use Rattle.model.specs.File.{Sheet, Cursor, Framed, frame, fits_ring, frame_rings, Due, Part, frame_rest, optional, kinds_of, body_of, chart_in, sheet_of, decode, entry, points, chart_out, rings_out, plan_out, encode}
use Rattle.model.proofs.Outcomes.{same-value, not-both, bind_accepted, then_accepted, require-passed}
use Rattle.model.proofs.FileWrite.{PlanFits, ChartFits, Fits, InOrder, parts_out}

-- bytes that begin with a length that they have are a record and what follows it
cut : (s : List ℕ) → Bytes s → 2 ≤ word s → 2 + word s ≤ length s → s ≡ entry (word (drop 2 s)) (take (word s - 2) (drop 4 s)) ++ drop (2 + word s) s
unfolding entry bytes word
cut [] h low fits = absurd (omega arith)
cut (a ∷ []) h low fits = absurd (omega arith)
cut (a ∷ b ∷ []) h low fits = absurd (omega arith)
cut (a ∷ b ∷ x ∷ []) h low fits = absurd (omega arith)
cut (a ∷ b ∷ x ∷ y ∷ t) h low fits =
    let k = a + 256 * b - 2 in
    let e : 2 + (a + 256 * b) ≡ suc (suc (suc (suc k))) = omega arith in
    let size : 2 + length (take k t) ≡ a + 256 * b = omega (arith, length-take-le k t (omega arith)) in
    let ha = h a (Memᴰ.head refl) in
    let hx = h x (Memᴰ.tail (Memᴰ.tail (Memᴰ.head refl))) in
    rw (e, size, low_byte a b ha, high_byte a b ha, low_byte x y hx, high_byte x y hx, take-append-drop k t)

-- What a framed record says of the bytes: they have its head and its body, of the kind and the size that are due, and the reading goes on behind it
pub record FrameSays (c : Cursor) (kind : ℕ) (fits : ℕ → Bool) (r : Framed) : Type 0 where
  pub some : 0 < length c.rest
  pub long : 2 ≤ word c.rest
  pub whole : 2 + word c.rest ≤ length c.rest
  pub is_kind : word (drop 2 c.rest) ≡ kind
  pub fitted : fits (word c.rest - 2) ≡ true
  pub body : take (word c.rest - 2) (drop 4 c.rest) ≡ r.0
  pub after : drop (2 + word c.rest) c.rest ≡ r.1.rest
  pub at : c.at + 2 + word c.rest ≡ r.1.at

pub frame-says : (c : Cursor) (kind : ℕ) (fits : ℕ → Bool) (r : Framed) → frame c kind fits ≡ accepted r → FrameSays c kind fits r
unfolding frame
frame-says c kind fits r e =
    let s = c.rest in
    let m = word s in
    let (t₁, e₁) = then_accepted (require (leb 2 (length s) && leb 2 m && leb m (length s - 2)) 1 c.at) _ r e in
    let (t₂, e₂) = then_accepted (require (eqb (word (drop 2 s)) kind && fits (m - 2)) 2 c.at) _ r e₁ in
    let (here, fit) = and_yes (leb 2 (length s) && leb 2 m) (leb m (length s - 2)) (require-passed _ 1 c.at t₁) in
    let (head, low) = and_yes (leb 2 (length s)) (leb 2 m) here in
    let (kind-due, size-due) = and_yes (eqb (word (drop 2 s)) kind) (fits (m - 2)) (require-passed _ 2 c.at t₂) in
    let l₁ : 2 ≤ length s = leb-true 2 (length s) head in
    let l₂ : m ≤ length s - 2 = leb-true m (length s - 2) fit in
    let same = same-value e₂ in
    record {
      some = omega arith;
      long = leb-true 2 m low;
      whole = omega arith;
      is_kind = eqb-true (word (drop 2 s)) kind kind-due;
      fitted = size-due;
      body = ap (λ (f : Framed). f.0) same;
      after = ap (λ (f : Framed). f.1.rest) same;
      at = ap (λ (f : Framed). f.1.at) same;
    }

-- A record that was framed: its body's length fits, and the bytes are the record, written, and what follows it
pub record FramedAs (c : Cursor) (kind : ℕ) (fits : ℕ → Bool) (body : List ℕ) (d : Cursor) : Type 0 where
  pub size : fits (length body) ≡ true
  pub written : Bytes c.rest → c.rest ≡ entry kind body ++ d.rest

-- A record is framed only where it was written
pub frame-read : (c : Cursor) (kind : ℕ) (fits : ℕ → Bool) (r : Framed) → frame c kind fits ≡ accepted r → FramedAs c kind fits r.0 r.1
frame-read c kind fits r e =
    let s = c.rest in
    let m = word s in
    let q = frame-says c kind fits r e in
    let whole = q.whole in
    let size : length (take (m - 2) (drop 4 s)) ≡ m - 2 = length-take-le (m - 2) (drop 4 s) (omega (arith, length-drop 4 s, q.long)) in
    record {
      size = subst (λ (l : List ℕ). fits (length l) ≡ true) q.body (rw size q.fitted);
      written = λ b. cut s b q.long whole ∙ λ i. entry (q.is_kind i) (q.body i) ++ q.after i;
    }

entry-bytes : (kind : ℕ) (body : List ℕ) → Bytes (entry kind body) → Bytes body
unfolding entry
entry-bytes kind body b = bytes-right (bytes ((2 + length body) ∷ kind ∷ [])) body b

framed_bytes : (c d : Cursor) (kind : ℕ) (fits : ℕ → Bool) (body : List ℕ) → FramedAs c kind fits body d → Bytes c.rest → Bytes body × Bytes d.rest
framed_bytes c d kind fits body f b =
    let b' : Bytes (entry kind body ++ d.rest) = subst Bytes (f.written b) b in
    (entry-bytes kind body (bytes_left (entry kind body) d.rest b'), bytes-right (entry kind body) d.rest b')

-- Rings that were framed: as many as asked for, each of them short, and the bytes are the rings, written, and what follows them
pub record RingsAs (n k : ℕ) (c : Cursor) (rs : List (List ℕ)) (d : Cursor) : Type 0 where
  pub size : length rs ≡ k
  pub short : (r : List ℕ) → Memᴰ r rs → length r ≤ n - 1
  pub written : Bytes c.rest → c.rest ≡ rings_out rs ++ d.rest

rings-none : (n : ℕ) (c : Cursor) → RingsAs n 0 c [] c
unfolding rings_out
rings-none n c = record { size = refl; short = λ r m. absurd (Memᴰ.not-nil m); written = λ b. refl }

short-cons : (n : ℕ) (a : List ℕ) (l : List (List ℕ)) → length a ≤ n → ((r : List ℕ) → Memᴰ r l → length r ≤ n) → (r : List ℕ) → Memᴰ r (a ∷ l) → length r ≤ n
short-cons n a l p h r (Memᴰ.head e) = subst (λ (q : List ℕ). length q ≤ n) (sym e) p
short-cons n a l p h r (Memᴰ.tail m) = h r m

rings-cons : (n k : ℕ) (c d e : Cursor) (body : List ℕ) (rs : List (List ℕ)) → FramedAs c 2 (fits_ring n) body d → RingsAs n k d rs e → RingsAs n (suc k) c (words body ∷ rs) e
unfolding rings_out fits_ring
rings-cons n k c d e body rs f g =
    let (even-yes, few-yes) = and_yes (eqb (length body % 2) 0) (leb (length body) (2 * (n - 1))) f.size in
    let even = eqb-true (length body % 2) 0 even-yes in
    let few = leb-true (length body) (2 * (n - 1)) few-yes in
    record {
      size = ap suc g.size;
      short = short-cons (n - 1) (words body) rs (omega (arith, length-words body)) g.short;
      written = λ b.
          let (y, z) = framed_bytes c d 2 (fits_ring n) body f b in
          f.written b ∙ (λ i. entry 2 (sym (bytes-words body y even) i) ++ g.written z i) ∙ sym (append_assoc (entry 2 (bytes (words body))) (rings_out rs) e.rest);
    }

pub rings-read : (n k : ℕ) (c : Cursor) (r : List (List ℕ) × Cursor) → frame_rings n k c ≡ accepted r → RingsAs n k c r.0 r.1
unfolding frame_rings
rings-read n zero c r e = subst (λ (t : List (List ℕ) × Cursor). RingsAs n zero c t.0 t.1) (same-value e) (rings-none n c)
rings-read n (suc k) c r e =
    let (t, e₁, f) = bind_accepted (frame c 2 (fits_ring n)) _ r e in
    let (u, e₂, g) = bind_accepted (frame_rings n k t.1) _ r f in
    subst (λ (v : List (List ℕ) × Cursor). RingsAs n (suc k) c v.0 v.1) (same-value g)
    (rings-cons n k c t.1 u.1 t.0 u.0 (frame-read c 2 (fits_ring n) t e₁) (rings-read n k t.1 u e₂))

-- the kind of the first part, where there is one
abbrev Begins : ℕ → List Part → Type 0
Begins kind [] = Unit {0}
Begins kind (q ∷ parts) = kind ≡ q.0

-- The parts after the rings: they stand in the order that is due, the bytes say the kind of the first, and the bytes are these records, written
record RestAs (due : List Due) (c : Cursor) (parts : List Part) : Type 0 where
  pub order : InOrder due parts
  pub first : Begins (word (drop 2 c.rest)) parts
  pub written : Bytes c.rest → c.rest ≡ parts_out parts

is_empty-nil : (l : List ℕ) → is_empty l ≡ true → l ≡ []
is_empty-nil [] e = refl
is_empty-nil (a ∷ l) e = absurd (false≢true e)

rest-none : (due : List Due) (c : Cursor) (parts : List Part) → is_empty c.rest ≡ true → accepted [] ≡ accepted parts → RestAs due c parts
rest-none due c parts y e = subst (RestAs due c) (same-value e) (record { order = tt; first = tt; written = λ b. is_empty-nil c.rest y })

rest-cons : (d : Due) (due : List Due) (c : Cursor) (r : Framed) (parts : List Part) → frame c d.kind (eqb d.size) ≡ accepted r → RestAs due r.1 parts → RestAs (d ∷ due) c ((d.kind, r.0) ∷ parts)
rest-cons d due c r parts e g =
    let f = frame-read c d.kind (eqb d.size) r e in
    record {
      order = inl (refl, eqb-true d.size (length r.0) f.size, g.order);
      first = (frame-says c d.kind (eqb d.size) r e).is_kind;
      written = λ y. f.written y ∙ ap (λ (l : List ℕ). entry d.kind r.0 ++ l) (g.written (framed_bytes c r.1 d.kind (eqb d.size) r.0 f y).1);
    }

rest-skip : (d : Due) (due : List Due) (c : Cursor) (parts : List Part) → d.skippable ≡ true → eqb (word (drop 2 c.rest)) d.kind ≡ false → RestAs due c parts → RestAs (d ∷ due) c parts
rest-skip d due c [] s n g = record { order = tt; first = tt; written = g.written }
rest-skip d due c (q ∷ parts) s n g = record { order = inr (s, ap (λ (k : ℕ). eqb k d.kind) (sym g.first) ∙ n, g.order); first = g.first; written = g.written }

-- a block whose first step is not accepted is not accepted
never : {A B : Type 0} (o : Outcome A) (b : Outcome B) (c : B) → ((a : A) → o ≡ accepted a → ⊥) → (o >> b) ≡ accepted c → ⊥
never (accepted a) b c h e = h a refl
never (refused k at) b c h e = not-both e

rest_there : (d : Due) (due : List Due) (c : Cursor) (parts : List Part) → ((e : Cursor) (l : List Part) → frame_rest due e ≡ accepted l → RestAs due e l)
    → (frame c d.kind (eqb d.size) >>= λ (f : Framed). frame_rest due f.1 >>= λ (l : List Part). accepted ((d.kind, f.0) ∷ l)) ≡ accepted parts → RestAs (d ∷ due) c parts
rest_there d due c parts r e =
    let (t, e₁, f) = bind_accepted (frame c d.kind (eqb d.size)) _ parts e in
    let (l, e₂, g) = bind_accepted (frame_rest due t.1) _ parts f in
    subst (RestAs (d ∷ due) c) (same-value g) (rest-cons d due c t l e₁ (r t.1 l e₂))

-- the record of the first row was framed, or one of a later row
rest_more : (d : Due) (due : List Due) (c : Cursor) (parts : List Part) → ((e : Cursor) (l : List Part) → frame_rest due e ≡ accepted l → RestAs due e l) → (b : Bool) → eqb (word (drop 2 c.rest)) d.kind ≡ b → (s : Bool) → d.skippable ≡ s
    → cond (s && not b) (frame_rest due c) (frame c d.kind (eqb d.size) >>= λ (f : Framed). frame_rest due f.1 >>= λ (l : List Part). accepted ((d.kind, f.0) ∷ l)) ≡ accepted parts
    → RestAs (d ∷ due) c parts
rest_more d due c parts r false n true s e = rest-skip d due c parts s n (r c parts e)
rest_more d due c parts r false n false s e = rest_there d due c parts r e
rest_more d due c parts r true n true s e = rest_there d due c parts r e
rest_more d due c parts r true n false s e = rest_there d due c parts r e

rest_read : (due : List Due) (c : Cursor) (parts : List Part) → frame_rest due c ≡ accepted parts → RestAs due c parts
unfolding frame_rest
rest_read [] c parts e = go (is_empty c.rest) refl e
  where
    go : (t : Bool) → is_empty c.rest ≡ t → cond t (accepted []) (frame c 0 (λ (m : ℕ). false) >> accepted []) ≡ accepted parts → RestAs [] c parts
    go true y e = rest-none [] c parts y e
    go false y e = absurd (never (frame c 0 (λ (m : ℕ). false)) (accepted []) parts (λ r q. false≢true (frame-read c 0 (λ (m : ℕ). false) r q).size) e)
rest_read (d ∷ due) c parts e = go (rest_read due) (is_empty c.rest) refl e
  where
    go : ((f : Cursor) (l : List Part) → frame_rest due f ≡ accepted l → RestAs due f l) → (t : Bool) → is_empty c.rest ≡ t
        → cond t (accepted [])
        (cond (d.skippable && not (eqb (word (drop 2 c.rest)) d.kind)) (frame_rest due c) (frame c d.kind (eqb d.size) >>= λ (f : Framed). frame_rest due f.1 >>= λ (l : List Part). accepted ((d.kind, f.0) ∷ l))) ≡ accepted parts
        → RestAs (d ∷ due) c parts
    go r true y e = rest-none (d ∷ due) c parts y e
    go r false y e = rest_more d due c parts r (eqb (word (drop 2 c.rest)) d.kind) refl d.skippable refl e

-- A file that was read: the plan and the parts after its rings fit, and the file is what is written of them
pub record ReadAs (b : List ℕ) (p : Plan) (parts : List Part) : Type 0 where
  pub plan_fits : PlanFits p
  pub order : InOrder (optional p) parts
  pub written : Bytes b → b ≡ plan_out p ++ parts_out parts

-- the records of a file, each read, make the file
joined : (b : List ℕ) (c d : Cursor) (r : List ℕ) (rs : List (List ℕ)) (parts : List Part) → FramedAs (record { at = 0; rest = b }) 1 (eqb 2) r c → 5 ≤ word r → word r ≤ 200
    → RingsAs (word r) (word r) c rs d → RestAs (optional (record { rings = rs })) d parts → ReadAs b (record { rings = rs }) parts
unfolding plan_out
joined b c d r rs parts f low high g h =
    let n = length rs in
    let same : word r ≡ n = sym g.size in
    record {
      plan_fits = record { low = rw same at low; high = rw same at high; short = λ q m. let l = g.short q m in omega arith };
      order = h.order;
      written = λ y.
          let (yr, yc) = framed_bytes (record { at = 0; rest = b }) c 1 (eqb 2) r f y in
          let yd : Bytes d.rest = bytes-right (rings_out rs) d.rest (subst Bytes (g.written yc) yc) in
          let head : bytes (n ∷ []) ≡ r = ap (λ (k : ℕ). bytes (k ∷ [])) (sym same) ∙ bytes_word r yr (eqb-true 2 (length r) f.size) in
          f.written y ∙ (λ i. entry 1 (sym head i) ++ (g.written yc ∙ ap (λ (l : List ℕ). rings_out rs ++ l) (h.written yd)) i) ∙ sym (append_assoc (entry 1 (bytes (n ∷ []))) (rings_out rs) (parts_out parts));
    }

-- A file that decodes was read so, and its sheet is made of that plan and those parts
pub decoded : (b : List ℕ) (s : Sheet) → decode b ≡ accepted s → (p : Plan) × (parts : List Part) × (sheet_of p parts ≡ s) × ReadAs b p parts
unfolding decode
decoded b s e =
    let start : Cursor = record { at = 0; rest = b } in
    let (f, e₁, q₁) = bind_accepted (frame start 1 (eqb 2)) _ s e in
    let n = word f.0 in
    let (t, q₂) = then_accepted (require (leb 5 n && leb n 200) 3 0) _ s q₁ in
    let (g, e₂, q₃) = bind_accepted (frame_rings n n f.1) _ s q₂ in
    let p : Plan = record { rings = g.0 } in
    let (parts, e₃, q₄) = bind_accepted (frame_rest (optional p) g.1) _ s q₃ in
    let (low, high) = and_yes (leb 5 n) (leb n 200) (require-passed _ 3 0 t) in
    (p, parts, same-value q₄, joined b f.1 g.1 f.0 g.0 parts (frame-read start 1 (eqb 2) f e₁) (leb-true 5 n low) (leb-true n 200 high) (rings-read n n f.1 g e₂) (rest_read (optional p) g.1 parts e₃))

-- The parts that can follow a plan's rings: none, labels, or labels and the numbers of a chart
data Follow (p : Plan) : List Part → Type 0 where
  nothing : Follow p []
  labels : (ls : List ℕ) → labels_due p ≡ length ls → Follow p ((3, ls) ∷ [])
  chart_too : (ls k : List ℕ) → labels_due p ≡ length ls → 4 + 4 * context_count p ≡ length k → Follow p ((3, ls) ∷ (4, k) ∷ [])

follow : (p : Plan) (parts : List Part) → InOrder (optional p) parts → Follow p parts
unfolding optional
follow p [] h = Follow.nothing
follow p (q ∷ []) (inl (k, s, h)) = subst (λ (j : ℕ). Follow p ((j, q.1) ∷ [])) k (Follow.labels q.1 s)
follow p (q ∷ r ∷ []) (inl (k, s, inl (l, t, h))) = subst (λ (j : ℕ). Follow p ((j, q.1) ∷ r ∷ [])) k (subst (λ (j : ℕ). Follow p ((3, q.1) ∷ (j, r.1) ∷ [])) l (Follow.chart_too q.1 r.1 s t))
follow p (q ∷ r ∷ u ∷ parts) (inl (k, s, inl (l, t, h))) = absurd h
follow p (q ∷ r ∷ parts) (inl (k, s, inr (t, l, h))) = absurd (false≢true t)
follow p (q ∷ parts) (inr (s, k, h)) = absurd (false≢true s)

-- points that were taken two by two are written as they were
points-pairs : (l : List ℕ) → length l % 2 ≡ 0 → points (map (λ (t : ℕ × ℕ). t.0) (pairs l)) (map (λ (t : ℕ × ℕ). t.1) (pairs l)) ≡ l
unfolding points
points-pairs [] h = refl
points-pairs (a ∷ []) h = absurd (omega arith)
points-pairs (a ∷ b ∷ l) h = ap (λ (m : List ℕ). a ∷ b ∷ m) (points-pairs l (omega arith))

chart_out_in : (n : ℕ) (l : List ℕ) → length l ≡ 2 + 2 * n → chart_out (chart_in l) ≡ l
unfolding chart_out chart_in
chart_out_in n [] h = absurd (omega arith)
chart_out_in n (a ∷ []) h = absurd (omega arith)
chart_out_in n (a ∷ b ∷ l) h = ap (λ (m : List ℕ). a ∷ b ∷ m) (points-pairs l (omega arith))

chart_in_fits : (p : Plan) (l : List ℕ) → length l ≡ 2 + 2 * context_count p → ChartFits p (chart_in l)
unfolding chart_in
chart_in_fits p l h =
    let ps = pairs (drop 2 l) in
    let size : length ps ≡ context_count p = omega (arith, length_pairs (drop 2 l), length-drop 2 l) in
    record { xs_each = length-map ps (λ (t : ℕ × ℕ). t.0) ∙ size; ys_each = length-map ps (λ (t : ℕ × ℕ). t.1) ∙ size }

sheet_fits : (p : Plan) {parts : List Part} → PlanFits p → Follow p parts → Fits (sheet_of p parts)
unfolding sheet_of kinds_of body_of
sheet_fits p f Follow.nothing = f
sheet_fits p f (Follow.labels ls h) = (f, sym h)
sheet_fits p f (Follow.chart_too ls k h size) = (f, sym h, chart_in_fits p (words k) (omega (arith, length-words k)))

sheet_written : (p : Plan) {parts : List Part} → Follow p parts → Bytes (parts_out parts) → encode (sheet_of p parts) ≡ plan_out p ++ parts_out parts
unfolding sheet_of kinds_of body_of encode
sheet_written p Follow.nothing y = sym (append-nil (plan_out p))
sheet_written p (Follow.labels ls h) y = ap (λ (l : List ℕ). plan_out p ++ l) (sym (append-nil (entry 3 ls)))
sheet_written p (Follow.chart_too ls k h size) y =
    let yk : Bytes k = entry-bytes 4 k (bytes_left (entry 4 k) [] (bytes-right (entry 3 ls) (entry 4 k ++ []) y)) in
    let same : bytes (chart_out (chart_in (words k))) ≡ k = ap bytes (chart_out_in (context_count p) (words k) (omega (arith, length-words k))) ∙ bytes-words k yk (omega arith) in
    ap (λ (l : List ℕ). plan_out p ++ entry 3 ls ++ entry 4 l) same ∙ append_assoc (plan_out p) (entry 3 ls) (entry 4 k) ∙ ap (λ (l : List ℕ). plan_out p ++ (entry 3 ls ++ l)) (sym (append-nil (entry 4 k)))

-- What was decoded fits, so that it can be written and read again
pub read_fits : (b : List ℕ) (s : Sheet) → decode b ≡ accepted s → Fits s
read_fits b s e = let (p, parts, q, r) = decoded b s e in subst Fits q (sheet_fits p r.plan_fits (follow p parts r.order))

-- What is read was written: a file of bytes that decodes is the file of the sheet that it decodes to
pub read-written : (b : List ℕ) (s : Sheet) → Bytes b → decode b ≡ accepted s → encode s ≡ b
read-written b s y e =
    let (p, parts, q, r) = decoded b s e in
    let w = r.written y in
    ap encode (sym q) ∙ sheet_written p (follow p parts r.order) (bytes-right (plan_out p) (parts_out parts) (subst Bytes w y)) ∙ sym w
