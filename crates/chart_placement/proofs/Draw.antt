-- The chart of a plan: the numbers of both coordinates and the test that they are a placement give the answer of `chart`, in arrays; and the chart is what these read as.
use Prim.Native.Nat.{ℕ, ◌+◌, ◌≤◌}
use mathlib.Core.Path.{◌≡◌, refl, sym, ap, ◌∙◌}
use mathlib.Core.List.{List, [], ◌∷◌}
use mathlib.Core.Bool.{Bool, true, false, cond, ◌&&◌, false≢true, true≢false}
use Rattle.std.specs.Prelude.{Option, Some, None}
use lib.ListN.{length, get_or, drop}
use lib.Dec.{eqb, leb}
use Rattle.std.proofs.lemmas.List.{drop-map}
use borrow.Author.Tests.{eq-eqb, le-leb}
use Rattle.chart_solver.specs.declared.Constraint.{Constraint as Stored}
use Rattle.chart_solver.specs.Constraints.{constraint_of, constraints_in}
use Rattle.lists.proofs.Padded.{get_or-zero_padded, stretch-zero_padded}
use Rattle.std.specs.List.{list_all}
use Rattle.lists.specs.Spans.{stretch, zero_padded}
use Rattle.model.specs.Outcome.{Outcome, accepted, refused, mapped, ◌>>=◌, ◌>>◌, require}
use Rattle.model.specs.Plan.{Plan, context_count, north}
use Rattle.model.specs.Chart.{Chart, Constraint, meets, is_at, is_placement, least_numbers, least_placement, slope, chart, tie}
use Rattle.model.proofs.Least.{least-length, least_11}
use Rattle.model.proofs.Placements.{placed, chart-is}
use Rattle.chart_solver.specs.Solved.{solved, numbers_of, kept_at}
use Rattle.chart_placement.specs.declared.Drawn.{Drawn}
use Rattle.chart_points.specs.Charts.{chart_on}
use Rattle.chart_placement.specs.Drawing.{drawn_of, drawn_at, stands_at, has_corners, in_corners}
use Rattle.chart_placement.specs.DartConstraints.{ties, compass, dart_constraints}

-- ---- the test that the numbers are a placement
all_same : (f g : Constraint → Bool) → ((c : Constraint) → f c ≡ g c) → (l : List Constraint) → list_all f l ≡ list_all g l
all_same f g h [] = refl
all_same f g h (c ∷ l) = λ i. h c i && all_same f g h l i

meets-zero_padded : (ks : List ℕ) (c : Constraint) → meets (zero_padded 200 ks) c ≡ meets ks c
unfolding meets
meets-zero_padded ks c = λ i. leb (get_or-zero_padded 200 ks c.low i + c.gap) (get_or-zero_padded 200 ks c.high i)

shuffle : (s w e a b : Bool) → (s && w && true && e && a && b) ≡ (a && b && (s && w && e))
shuffle false w e true true = refl
shuffle false w e true false = refl
shuffle false w e false b = refl
shuffle true false e true true = refl
shuffle true false e true false = refl
shuffle true false e false b = refl
shuffle true true false true true = refl
shuffle true true false true false = refl
shuffle true true false false b = refl
shuffle true true true true true = refl
shuffle true true true true false = refl
shuffle true true true false b = refl

abbrev chart_at : List ℕ → List ℕ → Chart
chart_at xs ys = record { w = get_or xs north 0; h = get_or ys north 0; xs = xs; ys = ys }

module _ (p : Plan) (ls : List ℕ) where
  -- what the code tests of the arrays of both coordinates
  test_of : List ℕ → List ℕ → Bool
  test_of xs ys = list_all (meets xs) (compass false p ls) && list_all (meets ys) (compass true p ls) && has_corners xs ys

  test_is : (xs ys : List ℕ) → length xs ≡ context_count p → length ys ≡ context_count p → test_of (zero_padded 200 xs) (zero_padded 200 ys) ≡ is_placement slope p ls (chart_at xs ys)
  unfolding test_of is_placement is_at has_corners stands_at compass
  test_is xs ys ex ey =
      (λ i. all_same (meets (zero_padded 200 xs)) (meets xs) (meets-zero_padded xs) (compass false p ls) i && all_same (meets (zero_padded 200 ys)) (meets ys) (meets-zero_padded ys) (compass true p ls) i
      && (eqb (get_or-zero_padded 200 xs 2 i) 0 && eqb (get_or-zero_padded 200 ys 2 i) 0
      && (eqb (get_or-zero_padded 200 xs 3 i) 0 && eqb (get_or-zero_padded 200 ys 3 i) (get_or-zero_padded 200 ys 0 i))
      && (eqb (get_or-zero_padded 200 xs 1 i) (get_or-zero_padded 200 xs 0 i) && eqb (get_or-zero_padded 200 ys 1 i) 0)))
      ∙ sym (rw (eq-eqb (length xs) (context_count p) ex, eq-eqb (length ys) (context_count p) ey, eq-eqb (get_or xs 0 0) (get_or xs 0 0) refl, eq-eqb (get_or ys 0 0) (get_or ys 0 0) refl)
      (shuffle (eqb (get_or xs 2 0) 0 && eqb (get_or ys 2 0) 0) (eqb (get_or xs 3 0) 0 && eqb (get_or ys 3 0) (get_or ys 0 0)) (eqb (get_or xs 1 0) (get_or xs 0 0) && eqb (get_or ys 1 0) 0)
      (list_all (meets xs) (compass false p ls)) (list_all (meets ys) (compass true p ls))))

-- ---- from the numbers of both coordinates to the answer
-- the chart of the numbers of both coordinates, in arrays
abbrev pub joined : Option (List ℕ) → Option (List ℕ) → Outcome Drawn
joined None y = refused 11 0
joined (Some xs) None = refused 11 0
joined (Some xs) (Some ys) = in_corners xs ys

joined-none : (x : Option (List ℕ)) → joined x None ≡ refused 11 0
joined-none None = refl
joined-none (Some xs) = refl

joined_kept : (a b : Bool) (xs ys : List ℕ) → joined (cond a (Some xs) None) (cond b (Some ys) None) ≡ (require (a && b && has_corners xs ys) 11 0 >> accepted (drawn_at xs ys))
joined_kept true true xs ys = refl
joined_kept true false xs ys = refl
joined_kept false b xs ys = refl

-- numbers in arrays whose test is that of the chart
placed_points : (xs ys : List ℕ) (t r : Bool) → t ≡ r → (require t 11 0 >> accepted (drawn_at (zero_padded 200 xs) (zero_padded 200 ys))) ≡ mapped drawn_of (require r 11 0 >> accepted (chart_at xs ys))
unfolding drawn_at drawn_of
placed_points xs ys true true q = λ i. accepted (record { w = get_or-zero_padded 200 xs 0 i; h = get_or-zero_padded 200 ys 0 i; xs = zero_padded 200 xs; ys = zero_padded 200 ys })
placed_points xs ys true false q = absurd (true≢false q)
placed_points xs ys false true q = absurd (false≢true q)
placed_points xs ys false false q = refl

-- constraints behind the first two
after-ties : (cs : List Stored) (upright : Bool) (p : Plan) (ls : List ℕ) → constraints_in cs ≡ dart_constraints upright p ls → constraints_in (drop 2 cs) ≡ compass upright p ls
unfolding ties tie
after-ties cs upright p ls e = sym (drop-map constraint_of 2 cs) ∙ ap (drop 2) e ∙ two upright
  where
    two : (t : Bool) → drop 2 (dart_constraints t p ls) ≡ compass t p ls
    two true = refl
    two false = refl

module _ (p : Plan) (ls : List ℕ) where
  in_steps : chart p ls
      ≡ (least_numbers (context_count p) (dart_constraints false p ls) >>= λ xs. least_numbers (context_count p) (dart_constraints true p ls) >>= λ ys. require (is_placement slope p ls (chart_at xs ys)) 11 0 >> accepted (chart_at xs ys))
  unfolding chart least_placement ties compass
  in_steps = refl

  -- the numbers of a coordinate that meet what the darts ask for
  unfoldable pub axis_in : Bool → Option (List ℕ)
  axis_in upright = kept_at (compass upright p ls) (numbers_of (least_numbers (context_count p) (dart_constraints upright p ls)))

  -- what the solver finds
  pub axis-is : {n : ℕ} (cs : List Stored) (upright : Bool) → n ≤ 200 → n ≡ context_count p → constraints_in cs ≡ dart_constraints upright p ls
      → kept_at (constraints_in (drop 2 cs)) (numbers_of (solved n (constraints_in cs))) ≡ axis_in upright
  unfolding solved axis_in
  axis-is {n} cs upright small size same =
      let numbers : solved n (constraints_in cs) ≡ least_numbers (context_count p) (dart_constraints upright p ls) = rw (le-leb n 200 small) (λ i. least_numbers (size i) (same i)) in
      λ i. kept_at (after-ties cs upright p ls same i) (numbers_of (numbers i))

  -- without numbers of a coordinate the refusal is 11
  no_axis : (upright : Bool) {k place : ℕ} → least_numbers (context_count p) (dart_constraints upright p ls) ≡ refused k place → ◌≡◌ {A = Outcome Drawn} (refused 11 0) (refused k place)
  no_axis upright {k} {place} e = let (a, b) = least_11 (context_count p) (dart_constraints upright p ls) k place e in λ i. refused (sym a i) (sym b i)

  -- The answer: a chart where both coordinates are kept and the border contexts stand at the corners
  both_axes : (o o' : Outcome (List ℕ)) → least_numbers (context_count p) (dart_constraints false p ls) ≡ o → least_numbers (context_count p) (dart_constraints true p ls) ≡ o'
      → joined (kept_at (compass false p ls) (numbers_of o)) (kept_at (compass true p ls) (numbers_of o')) ≡ mapped drawn_of (o >>= λ xs. o' >>= λ ys. require (is_placement slope p ls (chart_at xs ys)) 11 0 >> accepted (chart_at xs ys))
  unfolding numbers_of test_of
  both_axes (refused k place) o' e f = no_axis false e
  both_axes (accepted xs) (refused k place) e f = joined-none (cond (list_all (meets (zero_padded 200 xs)) (compass false p ls)) (Some (zero_padded 200 xs)) None) ∙ no_axis true f
  both_axes (accepted xs) (accepted ys) e f =
      let is = test_is p ls xs ys (least-length (context_count p) (dart_constraints false p ls) xs e) (least-length (context_count p) (dart_constraints true p ls) ys f) in
      joined_kept (list_all (meets (zero_padded 200 xs)) (compass false p ls)) (list_all (meets (zero_padded 200 ys)) (compass true p ls)) (zero_padded 200 xs) (zero_padded 200 ys)
      ∙ placed_points xs ys _ (is_placement slope p ls (chart_at xs ys)) is

  pub chart-joined : {x y : Option (List ℕ)} → x ≡ axis_in false → y ≡ axis_in true → joined x y ≡ mapped drawn_of (chart p ls)
  unfolding axis_in
  chart-joined ex ey =
      (λ i. joined (ex i) (ey i)) ∙ both_axes (least_numbers (context_count p) (dart_constraints false p ls)) (least_numbers (context_count p) (dart_constraints true p ls)) refl refl ∙ ap (mapped drawn_of) (sym in_steps)

  -- What the drawn arrays read as: the chart
  pub drawn_reads : {n : ℕ} {o : Outcome Drawn} → o ≡ mapped drawn_of (chart p ls) → n ≡ context_count p → mapped (λ (d : Drawn). chart_on n d.w d.h d.xs d.ys) o ≡ chart p ls
  unfolding drawn_of chart_on
  drawn_reads {n} is size = ap (mapped (λ (d : Drawn). chart_on n d.w d.h d.xs d.ys)) is ∙ read (chart p ls) refl
    where
      back : (c : Chart) → length c.xs ≡ n → length c.ys ≡ n → chart_on n c.w c.h (zero_padded 200 c.xs) (zero_padded 200 c.ys) ≡ c
      back c ex ey =
          let sx : stretch (zero_padded 200 c.xs) 0 n ≡ c.xs = ap (λ (k : ℕ). stretch (zero_padded 200 c.xs) 0 k) (sym ex) ∙ stretch-zero_padded 200 c.xs in
          let sy : stretch (zero_padded 200 c.ys) 0 n ≡ c.ys = ap (λ (k : ℕ). stretch (zero_padded 200 c.ys) 0 k) (sym ey) ∙ stretch-zero_padded 200 c.ys in
          λ i. record { w = c.w; h = c.h; xs = sx i; ys = sy i }

      read : (o : Outcome Chart) → chart p ls ≡ o → mapped (λ (d : Drawn). chart_on n d.w d.h d.xs d.ys) (mapped drawn_of o) ≡ o
      read (accepted c) e = let k = placed slope p ls c (chart-is slope p ls c (unfold chart in e)).keeps in ap accepted (back c (k.count_x ∙ sym size) (k.count_y ∙ sym size))
      read (refused k place) e = refl
