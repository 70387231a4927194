-- Labels put into an array: where those of a ring begin and end, and what is put edge by edge.
use Prim.Native.Nat.{ℕ, ◌-◌}
use mathlib.Core.Path.{◌≡◌, refl, sym, ap, ◌∙◌}
use mathlib.Core.List.{List, [], ◌∷◌, ◌++◌}
use lib.ListN.{length}
use Rattle.lists.specs.Spans.{zeros, zero_padded}
use Rattle.model.proofs.LabelCounts.{put_long}
use Rattle.model.specs.Plan.{Plan, Dart, entry_count}
use Rattle.model.specs.Labels.{start, put_label, turned}
use Rattle.model.specs.Sweep.{label_edges}
use Rattle.labels.proofs.Darts.{put-behind}

module _ (p : Plan) where
  -- the first ring begins at 0
  pub start-zero : start p 0 ≡ 0
  unfolding start
  start-zero = refl

  -- ---- labels in an array
  module _ (u v l : ℕ) (ls : List ℕ) where
    -- a label put into the array
    put-zero_padded : length ls ≡ entry_count p → put_label p u v l (zero_padded 1186 ls) ≡ zero_padded 1186 (put_label p u v l ls)
    unfolding zero_padded
    put-zero_padded s = put-behind p ls (zeros (1186 - length ls)) s u v l ∙ ap (λ (k : ℕ). put_label p u v l ls ++ zeros (1186 - k)) (sym (put_long p u v l ls))

  -- labels put into the array edge by edge
  pub edges_padded : (l : ℕ) (ds : List Dart) (ls : List ℕ) → length ls ≡ entry_count p → label_edges p l ds (zero_padded 1186 ls) ≡ zero_padded 1186 (label_edges p l ds ls)
  unfolding label_edges
  edges_padded l [] ls s = refl
  edges_padded l ((u, v) ∷ ds) ls s =
      let back = put_label p v u (turned l 2) ls in
      let t : length back ≡ entry_count p = put_long p v u (turned l 2) ls ∙ s in
      ap (λ (b : List ℕ). label_edges p l ds (put_label p u v l b)) (put-zero_padded v u (turned l 2) ls s)
      ∙ ap (label_edges p l ds) (put-zero_padded u v l back t)
      ∙ edges_padded l ds (put_label p u v l back) (put_long p u v l back ∙ t)
