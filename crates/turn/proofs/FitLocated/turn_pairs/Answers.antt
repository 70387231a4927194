-- turn_pairs meets its contract.
use mathlib.Core.Path.{◌≡◌, sym, ap, ◌∙◌}
use Prim.Native.Nat.{ℕ}
use Rattle.std.proofs.Common.{Some, None, Err}
use Rattle.std.proofs.lemmas.Result.{err_from_is_err_and}
use Rattle.lists.proofs.Parts.{length_pairs}
use Rattle.model.specs.Plan.{Plan}
use Rattle.model.specs.Turn.{turn_dart}
use Rattle.refusal.specs.Refusals.{outcome_of}
use Rattle.refusal.specs.declared.Refusal.TheVariants.{BadPair}
use Rattle.rings.specs.Tables.{plan_of}
use Rattle.plan_bounds.proofs.Fits.{fit-says}
use Rattle.turn.proofs.Named.{dart}
use Rattle.turn.proofs.Turns.{chunk_is, turns-start, turns_long, turns_hit, turns-on, turns_end, turned-at, turned_none}
use native.Mathlib.Omega.{arith}
use mathlib.Core.List.{List, []}
use Prim.Native.Nat.{◌/◌}
use lib.ListN.{length, get_or}
use Rattle.lists.specs.Parts.{pairs}
use Rattle.turn.proofs.FitLocated.turn_pairs.Goals as goal
use Rattle.turn.proofs.FitLocated.turn_pairs.Goals.{in-Some, in_default}

pub loop-k-init : goal.loop-k-init
loop-k-init c = (let l = c.well_formed in omega arith, turns-start)

pub returns-in_err-i : goal.returns-in_err-i
returns-in_err-i c =
    let r = c.args.self.now.located.rings in
    let s = c.args.self.now in
    let items = c.args.items.now in
    let inv = c.loop-k.invariant in
    let none : c.unturned_position.result ≡ None = grind arith in
    let pair : get_or (pairs items) c.loop-k.k (0, 0) ≡ dart c.from-u.result c.from-v.result =
    let h = c.loop-k-test.true in
    let n = c.as_chunks.ensures.front_len in
    let f = c.as_chunks.ensures.front in
    let eu = c.from-u.ensures ∙ ap (λ (l : List (List ℕ)). get_or (get_or l c.loop-k.k []) 0 0) f in
    let ev = c.from-v.ensures ∙ ap (λ (l : List (List ℕ)). get_or (get_or l c.loop-k.k []) 1 0) f in
    chunk_is items (length items / 2) c.loop-k.k (omega arith) (omega arith) eu ev
    in
    let room = (fit-says (plan_of r) s.fits).room in
    let hit = turns_hit inv.1 room (omega arith) c.from-u.result c.from-v.result pair (sym (length_pairs items)) (omega arith) (sym none ∙ c.unturned_position.ensures) in
    let p = err_from_is_err_and c.from_residual.result c.from_residual.ensures.1 in
    let bad : c.in_err-i.field-0.0 ≡ BadPair c.loop-k.k = grind arith in
    ap outcome_of (p.1 ∙ ap Err (p.2 ∙ bad)) ∙ hit

pub loop-k-preserved : goal.loop-k-preserved
loop-k-preserved c =
    let r = c.args.self.now.located.rings in
    let s = c.args.self.now in
    let items = c.args.items.now in
    let plan : Plan = plan_of r in
    let u : ℕ = c.from-u.result in
    let v : ℕ = c.from-v.result in
    let inv = c.loop-k.invariant in
    let some : c.unturned_position.result ≡ Some c.in_ok-i.i = grind arith in
    let pair : get_or (pairs items) c.loop-k.k (0, 0) ≡ dart c.from-u.result c.from-v.result =
    let h = c.loop-k-test.true in
    let n = c.as_chunks.ensures.front_len in
    let f = c.as_chunks.ensures.front in
    let eu = c.from-u.ensures ∙ ap (λ (l : List (List ℕ)). get_or (get_or l c.loop-k.k []) 0 0) f in
    let ev = c.from-v.ensures ∙ ap (λ (l : List (List ℕ)). get_or (get_or l c.loop-k.k []) 1 0) f in
    chunk_is items (length items / 2) c.loop-k.k (omega arith) (omega arith) eu ev
    in
    let room = (fit-says plan s.fits).room in
    let back : c.match-position_of.turned ≡ turn_dart plan c.args.q (dart v u) c.loop-k.turned = elim c.match-position_of.branch [
      | in-Some w ↦ w.turned-is ∙ w.turn_at.ensures ∙ turned-at plan v u c.args.q c.loop-k.turned w.in-Some.ensures
      | in_default w ↦ w.turned-is ∙ turned_none plan v u c.args.q c.loop-k.turned w.in_default.ensures
    ] in
    let next = turns-on inv.1 room (omega arith) u v pair (sym (length_pairs items)) (omega arith) c.requires.1 (sym some ∙ c.unturned_position.ensures) back c.turn_at-in-loop-k.ensures in
    (turns_long next ∙ omega arith, next)

pub returns : goal.returns
returns c = let inv = c.loop-k.invariant in turns_end inv.1 (sym (length_pairs c.args.items.now)) (omega arith)
