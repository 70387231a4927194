-- The walk over a script: what its loop keeps, with a law for its start, its step and its two ends.
use Prim.Native.Nat.{ℕ, zero, suc, ◌+◌, ◌-◌, ◌≤◌}
use mathlib.Core.Path.{◌≡◌, refl, sym, ap, ◌∙◌}
use mathlib.Core.List.{List, [], ◌∷◌}
use native.Mathlib.Omega.{arith}
use lib.ListN.{length, take, drop, length-drop}
use lib.Seq.{take_all, drop-drop}
use Rattle.std.specs.Prelude.{Option, Some, None, Ok, is_ok}
use Rattle.std.specs.Int.{from_bool}
use Rattle.std.specs.List.{last_or}
use Rattle.std.specs.Result.{result_unwrap_or, result_and}
use Rattle.std.specs.declared.result.Result.{Result}
use Rattle.std.proofs.lemmas.Option.{none-some, same_Some}
use Rattle.lists.specs.Tests.{tally}
use Rattle.model.specs.CallLists.{Call, call}
use Rattle.refusal.specs.declared.Refusal.{Refusal}
use Rattle.sheet.specs.declared.Sheet.{Sheet}
use Rattle.sheet.specs.Sheets.{reads}
use Rattle.guarantee.specs.Engine.{fresh_sheet, sheet_after, answers_of}
use Rattle.script.specs.Scripts.{argument_size, call_at, behind, with_later, if_called, calls_from, rest_from, calls_of, end_of}
use Rattle.script.specs.declared.Step.{Step}
use Rattle.script.specs.ScriptAnswers.{ran, is_accepted}
use Rattle.script.specs.Items.{item_answer, step_ran}
use Rattle.script.proofs.Items.{result_says, item-fits}

-- ---- one item of the definitions
-- a call and those that follow it
pub calls_more : (fuel : ℕ) (s : List ℕ) (c : Call) → call_at s ≡ Some c → calls_from (suc fuel) s ≡ c ∷ calls_from fuel (behind s)
unfolding calls_from
calls_more fuel s c e = ap (λ (q : Option Call). with_later q (calls_from fuel (behind s))) e

-- the rest behind an item
pub rest_more : (fuel : ℕ) (s : List ℕ) (c : Call) → call_at s ≡ Some c → rest_from (suc fuel) s ≡ rest_from fuel (behind s)
unfolding rest_from
rest_more fuel s c e = ap (λ (q : Option Call). if_called q (rest_from fuel (behind s)) s) e

-- no calls from a malformed item on
pub calls_none : (fuel : ℕ) (s : List ℕ) → call_at s ≡ None → calls_from fuel s ≡ []
unfolding calls_from
calls_none zero s e = refl
calls_none (suc fuel) s e = ap (λ (q : Option Call). with_later q (calls_from fuel (behind s))) e

-- the rest from a malformed item on
pub rest-none : (fuel : ℕ) (s : List ℕ) → call_at s ≡ None → rest_from fuel s ≡ s
unfolding rest_from
rest-none zero s e = refl
rest-none (suc fuel) s e = ap (λ (q : Option Call). if_called q (rest_from fuel (behind s)) s) e

-- ---- the loop of run_script
-- the answer of the last call, as the code keeps it
abbrev Last : Type 0
Last = Option (Result (Unit {0}) Refusal)

-- what is told of a list of calls from a sheet on: how many are accepted
abbrev count_from : Sheet → List Call → ℕ
count_from s cs = tally is_accepted (answers_of s cs)

-- The calls that are left, from the sheet that stands, leave what the whole script leaves; with what was told so far, they tell what it tells.
pub record Runs (b : List ℕ) (s : Sheet) (at n : ℕ) (last : Last) : Type 0 where
  pub reached : at ≤ length b
  pub few : n ≤ at
  pub fuel : ℕ
  pub enough : length b ≤ at + fuel
  pub same : sheet_after fresh_sheet (calls_of b) ≡ sheet_after s (calls_from fuel (drop at b))
  pub count : count_from fresh_sheet (calls_of b) ≡ n + count_from s (calls_from fuel (drop at b))
  pub answer : last_or None (answers_of fresh_sheet (calls_of b)) ≡ last_or (ran last) (answers_of s (calls_from fuel (drop at b)))
  pub rest : rest_from (length b) b ≡ rest_from fuel (drop at b)

-- What stands at the end: what the contract says
pub record Ended (b : List ℕ) (s : Sheet) (at n : ℕ) (last : Last) : Type 0 where
  pub sheet : s ≡ sheet_after fresh_sheet (calls_of b)
  pub place : at ≡ end_of b
  pub count : n ≡ count_from fresh_sheet (calls_of b)
  pub answer : ran last ≡ last_or None (answers_of fresh_sheet (calls_of b))

-- at the script's beginning, with a fresh sheet
pub runs-start : {b : List ℕ} {s : Sheet} → s ≡ fresh_sheet → Runs b s 0 0 None
unfolding calls_of
runs-start {b} e =
    let all = calls_from (length b) b in
    let from = ap (λ (t : Sheet). count_from t all) (sym e) in
    record {
      reached = omega arith;
      few = omega arith;
      fuel = length b;
      enough = omega arith;
      same = ap (λ (t : Sheet). sheet_after t all) (sym e);
      count = omega (arith, from);
      answer = ap (λ (t : Sheet). last_or None (answers_of t all)) (sym e);
      rest = refl;
    }

-- all that is left from an offset on
pub rest_whole : (b : List ℕ) (at : ℕ) → take (length b - at) (drop at b) ≡ drop at b
rest_whole b at = take_all (length b - at) (drop at b) (omega (arith, length-drop at b))

module _ {b : List ℕ} {s : Sheet} {at n : ℕ} {last : Last} (inv : Runs b s at n last) where
  -- no call at this offset: the script ends here
  stops : call_at (drop at b) ≡ None → Ended b s at n last
  unfolding sheet_after answers_of end_of
  stops e =
      let r = inv.reached in
      let long = ap length (inv.rest ∙ rest-none inv.fuel (drop at b) e) ∙ length-drop at b in
      let none = calls_none inv.fuel (drop at b) e in
      let count = inv.count ∙ ap (λ (cs : List Call). n + count_from s cs) none in
      record {
        sheet = sym (inv.same ∙ ap (sheet_after s) none);
        place = omega arith;
        count = omega arith;
        answer = sym (inv.answer ∙ ap (λ (cs : List Call). last_or (ran last) (answers_of s cs)) none);
      }

  -- the part of the script from the offset on, as the code lends it
  module _ {w : List ℕ} (part : w ≡ drop at b) where
    -- nothing is left: the script ends here, or at a malformed item
    pub runs_end : {o : Option Step} → step_ran o ≡ item_answer s (call_at w) → ((r : Step) → o ≡ Some r → ⊥) → Ended b s at n last
    unfolding item_answer
    runs_end {o} e malformed = go (call_at w) refl o refl e
      where
        go : (q : Option Call) → call_at w ≡ q → (p : Option Step) → o ≡ p → step_ran p ≡ item_answer s q → Ended b s at n last
        go None f p g h = stops (ap call_at (sym part) ∙ f)
        go (Some c) f None g h = absurd (none-some _ h)
        go (Some c) f (Some r) g h = absurd (malformed r g)

    -- behind an item
    pub runs_on : (r : Step) → step_ran (Some r) ≡ item_answer s (call_at w) → r.size ≡ 4 + argument_size w
        → Runs b (result_unwrap_or r.answer s) (at + r.size) (n + from_bool (is_ok r.answer)) (Some (result_and r.answer (Ok tt)))
    unfolding sheet_after answers_of item_answer
    runs_on r e size = go (call_at w) refl e
      where
        go : (q : Option Call) → call_at w ≡ q → step_ran (Some r) ≡ item_answer s q
            → Runs b (result_unwrap_or r.answer s) (at + r.size) (n + from_bool (is_ok r.answer)) (Some (result_and r.answer (Ok tt)))
        go None p e = absurd (none-some _ (sym e))
        go (Some c) p e =
            let says = result_says s r.answer (call (reads s) c) (same_Some _ _ e) in
            let f = inv.fuel - 1 in
            let reach = inv.reached in
            let enough = inv.enough in
            let few = inv.few in
            let long = ap length part ∙ length-drop at b in
            let fits = item-fits w c p in
            let one : inv.fuel ≡ suc f = omega arith in
            let far : 4 + argument_size w ≡ r.size = omega arith in
            let next : drop (4 + argument_size w) w ≡ drop (at + r.size) b = (λ i. drop (far i) (part i)) ∙ drop-drop r.size at b in
            let later = calls_from f (drop (at + r.size) b) in
            let calls : calls_from inv.fuel (drop at b) ≡ c ∷ later = (λ i. calls_from (one i) (sym part i)) ∙ calls_more f w c p ∙ ap (λ (v : List ℕ). c ∷ calls_from f v) next in
            let count = inv.count ∙ ap (λ (cs : List Call). n + count_from s cs) calls ∙ (λ i. n + (sym says.counts i + count_from (sym says.leaves i) later)) in
            let once = says.once in
            record {
              reached = omega arith;
              few = omega arith;
              fuel = f;
              enough = omega arith;
              same = inv.same ∙ ap (sheet_after s) calls ∙ (λ i. sheet_after (sym says.leaves i) later);
              count = omega arith;
              answer = inv.answer ∙ ap (λ (cs : List Call). last_or (ran last) (answers_of s cs)) calls ∙ (λ i. last_or (Some (sym says.tells i)) (answers_of (sym says.leaves i) later));
              rest = inv.rest ∙ (λ i. rest_from (one i) (sym part i)) ∙ rest_more f w c p ∙ ap (rest_from f) next;
            }

-- for the loop: its start and its step
pub ruleset steps = (runs-start, rest_whole, runs_on)
