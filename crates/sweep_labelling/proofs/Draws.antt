-- Labels put on edges one after the other, as the loops put them.
use Prim.Native.Nat.{ℕ, zero, suc, ◌+◌, ◌-◌, ◌≤◌, ◌<◌}
use mathlib.Core.Path.{◌≡◌, refl, sym, ap, ◌∙◌}
use mathlib.Core.List.{List, [], ◌∷◌, ◌++◌}
use native.Mathlib.Omega.{arith}
use lib.ListN.{get_or}
use Rattle.lists.specs.Parts.{steps}
use Rattle.lists.specs.Spans.{stretch, span}
use Rattle.lists.proofs.Spans.{span_more, span_next, span_end}
use Rattle.model.specs.Plan.{Plan, Dart}
use Rattle.model.specs.Labels.{turned, put_label}
use Rattle.model.specs.Sweep.{label_edges, all_pairs}
use Rattle.sweep_labelling.specs.Edges.{darts_to}

-- a dart
abbrev pub dart : ℕ → ℕ → Dart
dart u v = (u, v)

-- ---- while there are darts { edge(dart); }
pub record Draws (p : Plan) (l : ℕ) (ds₀ : List Dart) (ls₀ : List ℕ) (ds : List Dart) (ls : List ℕ) : Type 0 where
  pub same : label_edges p l ds₀ ls₀ ≡ label_edges p l ds ls

module _ (p : Plan) (l : ℕ) where
  -- labels on the edges of two lists
  edges_append : (ds es : List Dart) (ls : List ℕ) → label_edges p l (ds ++ es) ls ≡ label_edges p l es (label_edges p l ds ls)
  unfolding label_edges
  edges_append [] es ls = refl
  edges_append ((u, v) ∷ ds) es ls = edges_append ds es (put_label p u v l (put_label p v u (turned l 2) ls))

module _ {p : Plan} {l : ℕ} {ds₀ : List Dart} {ls₀ : List ℕ} {ds : List Dart} {ls : List ℕ} (inv : Draws p l ds₀ ls₀ ds ls) where
  -- one edge
  pub draws-on : (u v : ℕ) {ds' : List Dart} {ls' : List ℕ} → ds ≡ dart u v ∷ ds' → ls' ≡ put_label p u v l (put_label p v u (turned l 2) ls) → Draws p l ds₀ ls₀ ds' ls'
  unfolding label_edges
  draws-on u v {ds'} e q = record { same = inv.same ∙ ap (λ (d : List Dart). label_edges p l d ls) e ∙ ap (label_edges p l ds') (sym q) }

  -- several edges
  pub draws_part : (es : List Dart) {ds' : List Dart} {ls' : List ℕ} → ds ≡ es ++ ds' → ls' ≡ label_edges p l es ls → Draws p l ds₀ ls₀ ds' ls'
  draws_part es {ds'} e q = record { same = inv.same ∙ ap (λ (d : List Dart). label_edges p l d ls) e ∙ edges_append p l es ds' ls ∙ ap (label_edges p l ds') (sym q) }

  -- after the loop
  pub draws_end : ds ≡ [] → ls ≡ label_edges p l ds₀ ls₀
  unfolding label_edges
  draws_end e = sym (inv.same ∙ ap (λ (d : List Dart). label_edges p l d ls) e)

-- ---- the darts of spans, one after the other
module _ (f : List ℕ) (k e : ℕ) where
  -- the next dart from u, by what the range says of its next number
  fan-next : (u : ℕ) {x j d : ℕ} → (d ≡ e) × ((0 < e - k) × (x ≡ k) × (j ≡ k + 1)) → darts_to u (span f k e) ≡ dart u (get_or f x 0) ∷ darts_to u (span f j d)
  unfolding darts_to
  fan-next u next = ap (darts_to u) (span_next f next)

  -- no dart from u is left
  pub fan_end : (u : ℕ) → e ≤ k → darts_to u (span f k e) ≡ []
  unfolding darts_to
  fan_end u h = ap (darts_to u) (span_end f k e h)

  -- the darts from the next context
  product-next : (vs : List ℕ) {x j d : ℕ} → (d ≡ e) × ((0 < e - k) × (x ≡ k) × (j ≡ k + 1)) → all_pairs (span f k e) vs ≡ darts_to (get_or f x 0) vs ++ all_pairs (span f j d) vs
  unfolding all_pairs darts_to
  product-next vs next = ap (λ (l : List ℕ). all_pairs l vs) (span_next f next)

  -- no context is left
  pub product_end : (vs : List ℕ) → e ≤ k → all_pairs (span f k e) vs ≡ []
  unfolding all_pairs
  product_end vs h = ap (λ (l : List ℕ). all_pairs l vs) (span_end f k e h)

  -- the next edge along the frontier
  steps-more : k + 1 < e → steps (span f k e) ≡ dart (get_or f k 0) (get_or f (k + 1) 0) ∷ steps (span f (k + 1) e)
  steps-more h =
      ap steps (span_more f k e (omega arith) ∙ ap {B = List ℕ} (λ l. get_or f k 0 ∷ l) (span_more f (k + 1) e h))
      ∙ ap {B = List Dart} (λ l. dart (get_or f k 0) (get_or f (k + 1) 0) ∷ steps l) (sym (span_more f (k + 1) e h))

  -- no edge is left
  pub steps_end : e ≤ k + 1 → steps (span f k e) ≡ []
  unfolding stretch
  steps_end h = go (e - k) refl
    where
      go : (m : ℕ) → e - k ≡ m → steps (stretch f k m) ≡ []
      go zero q = refl
      go (suc zero) q = refl
      go (suc (suc m)) q = absurd (omega arith)

-- ---- the loops over spans
module _ {p : Plan} {l : ℕ} {ds₀ : List Dart} {ls₀ : List ℕ} {ls ls' : List ℕ} (f : List ℕ) (k e u : ℕ) where
  -- a turn of the loop over the darts from u, by what the range says of its next number
  pub fan_on : {v x j d : ℕ} → Draws p l ds₀ ls₀ (darts_to u (span f k e)) ls → (d ≡ e) × ((0 < e - k) × (x ≡ k) × (j ≡ k + 1)) → v ≡ get_or f x 0
      → ls' ≡ put_label p u v l (put_label p v u (turned l 2) ls) → Draws p l ds₀ ls₀ (darts_to u (span f j d)) ls'
  fan_on {v} {x} inv next is q = draws-on inv u (get_or f x 0) (fan-next f k e u next) (q ∙ ap (λ (v : ℕ). put_label p u v l (put_label p v u (turned l 2) ls)) is)

  -- a turn of the loop over the darts from several contexts
  pub product_on : (vs : List ℕ) {x j d : ℕ} → Draws p l ds₀ ls₀ (all_pairs (span f k e) vs) ls → (d ≡ e) × ((0 < e - k) × (x ≡ k) × (j ≡ k + 1)) → u ≡ get_or f x 0
      → ls' ≡ label_edges p l (darts_to u vs) ls → Draws p l ds₀ ls₀ (all_pairs (span f j d) vs) ls'
  product_on vs {x} inv next is q = draws_part inv (darts_to (get_or f x 0) vs) (product-next f k e vs next) (q ∙ ap (λ (w : ℕ). label_edges p l (darts_to w vs) ls) is)

  -- a turn of the loop over the edges along the frontier
  pub steps_on : {v : ℕ} → Draws p l ds₀ ls₀ (steps (span f k e)) ls → k < e - 1 → u ≡ get_or f k 0 → v ≡ get_or f (k + 1) 0 → ls' ≡ put_label p u v l (put_label p v u (turned l 2) ls) → Draws p l ds₀ ls₀ (steps (span f (k + 1) e)) ls'
  steps_on inv h one two q = draws-on inv (get_or f k 0) (get_or f (k + 1) 0) (steps-more f k e (omega arith)) (q ∙ λ i. put_label p (one i) (two i) l (put_label p (two i) (one i) (turned l 2) ls))
