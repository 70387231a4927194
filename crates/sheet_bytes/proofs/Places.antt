-- Every call on a good sheet is small: its refusals have a number up to 17 and a place below 2^17.
use Prim.Native.Nat.{ℕ, zero, suc, ◌*◌, ◌≤◌}
use mathlib.Core.Path.{◌≡◌, subst}
use mathlib.Core.List.{List, [], ◌∷◌, ◌++◌}
use mathlib.Core.Bool.{Bool, true, false, cond}
use native.Mathlib.Omega.{arith}
use lib.ListN.{length, get_or, replicate}
use lib.Dec.{eqb, ltb, leb}
use Rattle.lists.specs.Tests.{same_list}
use Rattle.model.specs.Outcome.{Outcome, accepted, passed, require, rule, ◌>>=◌, ◌>>◌}
use Rattle.model.specs.Plan.{Plan, context_count, dart_count, entry_count, bad_entry, bad_repeat, unreturned, bad_border, bad_face, plan_rules, north, east, west}
use Rattle.model.specs.Labels.{label_rules}
use Rattle.model.specs.Chart.{Chart, Constraint, pass, settle, least_numbers, tie, x_constraints, y_constraints, is_placement, least_placement, slope, chart, same_chart}
use Rattle.model.specs.Sweep.{State, eligible, choose, choices, finished, finish, advance, first_state, sweep_from, sweep}
use Rattle.model.specs.Turn.{turn}
use Rattle.model.specs.File.{Sheet, fresh, opened, labelled, charted, decode, encode}
use Rattle.model.specs.Calls.{require_plan, require_labels, require_chart, judge, open_call, offered, offer_call, sweep_call, turn_call, chart_call, write_call, scan_call, same_call, ring_call}
use Rattle.model.specs.CallLists.{Call, open_file, offer_labels, sweep-labels, turn_edges, draw_chart, call}
use Rattle.model.proofs.Outcomes.{not-both, same-value}
use Rattle.model.proofs.PlanRules.{sound}
use Rattle.model.proofs.FileWrite.{PlanFits, Fits}
use Rattle.model.proofs.FileRead.{read_fits}
use Rattle.guarantee.proofs.Sized.{Good}
use Rattle.sheet_bytes.proofs.Small.{Small, small-accepted, small-refused, small_bind, small_then, small-require, small-rule}
use Rattle.sheet_bytes.proofs.Framing.{small-decode}
use Rattle.sheet_bytes.proofs.Turning.{small-turn, small-labels}
use Rattle.sheet_bytes.proofs.Sizes.{file_short}

-- ---- the rules
-- 4 to 9
small-plan : (p : Plan) → context_count p ≤ 200 → Small (plan_rules p)
unfolding plan_rules
small-plan p h =
    let n = context_count p in
    small_then (rule 4 n (bad_entry p)) _ (small-rule 4 n (bad_entry p) (omega arith) (omega arith))
    (λ _ _. small_then (rule 5 n (bad_repeat p)) _ (small-rule 5 n (bad_repeat p) (omega arith) (omega arith))
    (λ _ _. small_then (rule 6 n (unreturned p)) _ (small-rule 6 n (unreturned p) (omega arith) (omega arith))
    (λ _ _. small_then (require (eqb (entry_count p) (dart_count n)) 7 0) _ (small-require (eqb (entry_count p) (dart_count n)) 7 0 (omega arith) (omega arith))
    (λ _ _. small_then (rule 8 4 (bad_border p)) _ (small-rule 8 4 (bad_border p) (omega arith) (omega arith))
    (λ _ _. small-rule 9 n (bad_face p) (omega arith) (omega arith))))))

-- numbers that are raised until nothing rises
small-settle : (ds : List Constraint) (fuel : ℕ) (ks : List ℕ) → Small (settle ds fuel ks)
unfolding settle
small-settle ds zero ks = small-refused _ _ (omega arith) (omega arith)
small-settle ds (suc fuel) ks = go (same_list (pass ds ks) ks) (small-settle ds fuel (pass ds ks))
  where
    go : (t : Bool) → Small (settle ds fuel (pass ds ks)) → Small (cond t (accepted ks) (settle ds fuel (pass ds ks)))
    go true h = small-accepted _
    go false h = h

-- 11
small-chart : (p : Plan) (ls : List ℕ) → Small (chart p ls)
unfolding chart least_placement least_numbers
small-chart p ls =
    let n = context_count p in
    let dx = tie north east ++ x_constraints slope p ls in
    let dy = tie north west ++ y_constraints slope p ls in
    small_bind (settle dx (suc (n * n)) (replicate n 0)) _ (small-settle dx (suc (n * n)) (replicate n 0))
    (λ xs _. small_bind (settle dy (suc (n * n)) (replicate n 0)) _ (small-settle dy (suc (n * n)) (replicate n 0))
    (λ ys _.
    let c : Chart = record { w = get_or xs north 0; h = get_or ys north 0; xs = xs; ys = ys } in
    small_then (require (is_placement slope p ls c) 11 0) _ (small-require (is_placement slope p ls c) 11 0 (omega arith) (omega arith)) (λ _ _. small-accepted _)))

-- ---- open
-- 4 to 12, of a sheet that fits a file
small-judge : (s : Sheet) → Fits s → Small (judge s)
unfolding judge
small-judge fresh f = small-accepted _
small-judge (opened p) f = small-plan p f.high
small-judge (labelled p ls) f = small_then (plan_rules p) _ (small-plan p f.0.high) (λ _ _. small-labels p ls f.0.high)
small-judge (charted p ls c) f =
    let rules = small_then (plan_rules p) (label_rules p ls) (small-plan p f.0.high) (λ _ _. small-labels p ls f.0.high) in
    small_then (plan_rules p >> label_rules p ls) _ rules
    (λ _ _. small_bind (chart p ls) _ (small-chart p ls) (λ d _. small-require (same_chart c d) 12 0 (omega arith) (omega arith)))

-- Open is small, whatever the bytes
pub small_open : (b : List ℕ) → Small (open_call b)
unfolding open_call
small_open b = small_bind (decode b) _ (small-decode b) (λ s e. small_then (judge s) _ (small-judge s (read_fits b s e)) (λ _ _. small-accepted _))

-- ---- the stages
-- what is known of a plan that a good sheet holds
pub record Held (p : Plan) : Type 0 where
  pub fits : PlanFits p
  pub kept : plan_rules p ≡ passed

-- the plan of a good sheet
pub plan-held : (s : Sheet) (p : Plan) → Good s → require_plan s ≡ accepted p → Held p
unfolding require_plan
plan-held fresh p g e = not-both e
plan-held (opened q) p g e = subst Held (same-value e) (record { fits = g.sized; kept = g.kept })
plan-held (labelled q ls) p g e = subst Held (same-value e) (record { fits = g.sized.0; kept = g.kept.0 })
plan-held (charted q ls c) p g e = subst Held (same-value e) (record { fits = g.sized.0; kept = g.kept.0 })

-- 13, and the plan of a good sheet
pub small-plan_of : {B : Type 0} (s : Sheet) (f : Plan → Outcome B) → Good s → ((p : Plan) → Held p → Small (f p)) → Small (require_plan s >>= f)
unfolding require_plan
small-plan_of fresh f g h = small-refused _ _ (omega arith) (omega arith)
small-plan_of (opened p) f g h = h p (record { fits = g.sized; kept = g.kept })
small-plan_of (labelled p ls) f g h = h p (record { fits = g.sized.0; kept = g.kept.0 })
small-plan_of (charted p ls c) f g h = h p (record { fits = g.sized.0; kept = g.kept.0 })

-- 13, and plan and labels of a good sheet
small-labels_of : {B : Type 0} (s : Sheet) (f : Plan × List ℕ → Outcome B) → Good s → ((p : Plan) (ls : List ℕ) → Held p → Small (f (p, ls))) → Small (require_labels s >>= f)
unfolding require_labels
small-labels_of fresh f g h = small-refused _ _ (omega arith) (omega arith)
small-labels_of (opened p) f g h = small-refused _ _ (omega arith) (omega arith)
small-labels_of (labelled p ls) f g h = h p ls (record { fits = g.sized.0; kept = g.kept.0 })
small-labels_of (charted p ls c) f g h = h p ls (record { fits = g.sized.0; kept = g.kept.0 })

-- 13, and plan and chart of a sheet
small-chart_of : {B : Type 0} (s : Sheet) (f : Plan × Chart → Outcome B) → ((a : Plan × Chart) → Small (f a)) → Small (require_chart s >>= f)
unfolding require_chart
small-chart_of fresh f h = small-refused _ _ (omega arith) (omega arith)
small-chart_of (opened p) f h = small-refused _ _ (omega arith) (omega arith)
small-chart_of (labelled p ls) f h = small-refused _ _ (omega arith) (omega arith)
small-chart_of (charted p ls c) f h = h (p, c)

-- ---- sweep
-- 14 has place 0
small-choose : (p : Plan) (s : State) (cs : List (ℕ × ℕ)) → Small (choose p s cs)
unfolding choose
small-choose p s [] = small-refused _ _ (omega arith) (omega arith)
small-choose p s (k ∷ cs) = go (eligible p s k.0 k.1) (small-choose p s cs)
  where
    go : (t : Bool) → Small (choose p s cs) → Small (cond t (accepted (k.0, k.1)) (choose p s cs))
    go true h = small-accepted _
    go false h = h

-- the steps of a sweep
small-steps : (p : Plan) (fuel : ℕ) (s : State) → Small (sweep_from p fuel s)
unfolding sweep_from
small-steps p zero s = small-refused _ _ (omega arith) (omega arith)
small-steps p (suc fuel) s = go (finished p s.frontier) (small-steps p fuel)
  where
    go : (t : Bool) → ((r : State) → Small (sweep_from p fuel r))
        → Small (cond t (accepted (finish p s)) (choose p s (choices s.frontier) >>= λ (k : ℕ × ℕ). sweep_from p fuel (advance p s k.0 k.1)))
    go true h = small-accepted _
    go false h = small_bind (choose p s (choices s.frontier)) _ (small-choose p s (choices s.frontier)) (λ k _. h (advance p s k.0 k.1))

-- 14, then 10
small-sweep : (p : Plan) → context_count p ≤ 200 → Small (sweep p)
unfolding sweep
small-sweep p h = small_bind (sweep_from p (context_count p) (first_state p)) _ (small-steps p (context_count p) (first_state p)) (λ ls _. small_then (label_rules p ls) _ (small-labels p ls h) (λ _ _. small-accepted _))

-- 2, then 10
small-offered : (p : Plan) (ls : List ℕ) → context_count p ≤ 200 → Small (offered p ls)
unfolding offered
small-offered p ls h =
    let right = eqb (length ls) (dart_count (context_count p)) in
    small_then (require right 2 0) _ (small-require right 2 0 (omega arith) (omega arith)) (λ _ _. small_then (label_rules p ls) _ (small-labels p ls h) (λ _ _. small-accepted _))

-- The calls that change a sheet
pub small-call : (s : Sheet) (c : Call) → Good s → Small (call s c)
unfolding call offer_call sweep_call turn_call chart_call
small-call s (open_file b) g = small_open b
small-call s (offer_labels ls) g = small-plan_of s _ g (λ p k. small_bind (offered p ls) _ (small-offered p ls k.fits.high) (λ ms _. small-accepted _))
small-call s sweep-labels g = small-plan_of s _ g (λ p k. small_bind (sweep p) _ (small-sweep p k.fits.high) (λ ms _. small-accepted _))
small-call s (turn_edges items d) g = small-labels_of s _ g (λ p ls k. small_bind (turn p ls items d) _ (small-turn p (sound p k.kept) k.fits.high ls items d) (λ ms _. small-accepted _))
small-call s draw_chart g = small-labels_of s _ g (λ p ls k. small_bind (chart p ls) _ (small-chart p ls) (λ c _. small-accepted _))

-- Write
pub small_write : (t : Sheet) (buffer : List ℕ) → Good t → Small (write_call t buffer)
unfolding write_call
small_write t buffer g =
    let short = file_short t g in
    let b = encode t in
    let room = leb (length b) (length buffer) in
    small-plan_of t _ g (λ p k. small_then (require room 16 (length b)) _ (small-require room 16 (length b) (omega arith) (omega arith)) (λ _ _. small-accepted _))

-- Scan
pub small-scan : (s : Sheet) → Small (scan_call s)
unfolding scan_call require_plan
small-scan fresh = small-refused _ _ (omega arith) (omega arith)
small-scan (opened p) = small-accepted _
small-scan (labelled p ls) = small-accepted _
small-scan (charted p ls c) = small-accepted _

-- Same
pub small_same : (s t : Sheet) → Small (same_call s t)
unfolding same_call
small_same s t = small-chart_of s _ (λ a. small-chart_of t _ (λ b. small-accepted _))

-- Ring, where what open leaves is good
pub small-ring : (b : List ℕ) (u : ℕ) → ((s : Sheet) → open_call b ≡ accepted s → Good s) → Small (ring_call b u)
unfolding ring_call
small-ring b u good =
    small_bind (open_call b) _ (small_open b)
    (λ s e. small-plan_of s _ (good s e) (λ p k.
    let h = k.fits.high in
    let n = context_count p in
    small_then (require (ltb u n) 17 n) _ (small-require (ltb u n) 17 n (omega arith) (omega arith)) (λ _ _. small-accepted _)))
