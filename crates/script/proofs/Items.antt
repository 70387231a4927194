-- One item of a script: which call it is, by the tests that the code makes, and what its answer leaves and tells.
use Prim.Native.Nat.{ℕ, ◌+◌, ◌-◌, ◌≤◌, ◌<◌}
use mathlib.Core.Path.{◌≡◌, refl, sym}
use mathlib.Core.List.{List}
use mathlib.Core.Bool.{Bool, true, false, cond, ◌&&◌}
use native.Mathlib.Omega.{arith}
use lib.ListN.{length, get_or, take, drop}
use lib.Dec.{leb}
use borrow.Author.Tests.{leb-true, le-leb, lt-leb, ne_eqb}
use Rattle.lists.proofs.Bools.{and_yes}
use Rattle.std.specs.Prelude.{Some, None, Ok, Err, is_ok}
use Rattle.std.specs.Int.{from_bool}
use Rattle.std.proofs.lemmas.Option.{none-some}
use Rattle.std.specs.Result.{result_unwrap_or, result_and}
use Rattle.std.specs.declared.result.Result.{Result}
use Rattle.model.specs.Outcome.{Outcome, accepted, refused}
use Rattle.model.specs.File as file
use Rattle.model.specs.CallLists.{Call}
use Rattle.model.proofs.Outcomes.{not-both, same-value, same-refusal}
use Rattle.refusal.specs.declared.Refusal.{Refusal}
use Rattle.refusal.specs.Refusals.{outcome_of}
use Rattle.sheet.specs.declared.Sheet.{Sheet}
use Rattle.sheet.specs.Answers.{packed_as, answer_of, after}
use Rattle.script.specs.Scripts.{argument_size, call_of, call_at}
use Rattle.script.specs.ScriptAnswers.{is_accepted}

-- ---- a result
-- What the result of a call leaves on a sheet, how often it counts as accepted, and what it tells
pub record Says (s : Sheet) (r : Result Sheet Refusal) (o : Outcome file.Sheet) : Type 0 where
  pub leaves : result_unwrap_or r s ≡ after s o
  pub counts : from_bool (is_ok r) ≡ cond (is_accepted (answer_of o)) 1 0
  pub once : from_bool (is_ok r) ≤ 1
  pub tells : outcome_of (result_and r (Ok tt)) ≡ answer_of o

-- it says so where it tells what the model's call gives
pub result_says : (s : Sheet) (r : Result Sheet Refusal) (o : Outcome file.Sheet) → outcome_of r ≡ packed_as o → Says s r o
unfolding packed_as answer_of after
result_says s (Ok t) (accepted u) e = record { leaves = same-value e; counts = refl; once = omega arith; tells = refl }
result_says s (Ok t) (refused k at) e = not-both (sym e)
result_says s (Err f) (accepted u) e = not-both e
result_says s (Err f) (refused k at) e =
    let (n, p) = same-refusal e in
    record { leaves = refl; counts = refl; once = omega arith; tells = λ i. refused (n i) (p i) }

-- ---- kinds
module _ (a : List ℕ) where
  -- a number that stands for no kind
  pub kind_other : (kind : ℕ) → (0 < kind → 5 < kind) → call_of kind a ≡ None
  unfolding call_of
  kind_other kind h = rw (ne_eqb kind 1 (λ e. omega arith), ne_eqb kind 2 (λ e. omega arith), ne_eqb kind 3 (λ e. omega arith), ne_eqb kind 4 (λ e. omega arith), ne_eqb kind 5 (λ e. omega arith))

-- ---- the item that the bytes begin with
module _ (s : List ℕ) where
  -- fewer than 4 bytes
  pub item-short : length s < 4 → call_at s ≡ None
  unfolding call_at
  item-short h = rw (lt-leb 4 (length s) h)

  -- an item that is all there, with its argument as the code lends it
  pub item_whole : {kind size : ℕ} → kind ≡ get_or s 0 0 → size ≡ argument_size s → 4 ≤ length s → size ≤ length s - 4 → call_of kind (take (4 + size - 4) (drop 4 s)) ≡ call_at s
  unfolding call_at
  item_whole {kind} {size} e f h l =
      let m : 4 + size - 4 ≡ argument_size s = omega arith in
      rw (le-leb 4 (length s) h, le-leb (argument_size s) (length s - 4) (omega arith)) (λ i. call_of (e i) (take (m i) (drop 4 s)))

  -- an item that is not malformed lies in the script
  pub item-fits : (c : Call) → call_at s ≡ Some c → 4 + argument_size s ≤ length s
  unfolding call_at
  item-fits c e = go (leb 4 (length s) && leb (argument_size s) (length s - 4)) refl e
    where
      go : (t : Bool) → (leb 4 (length s) && leb (argument_size s) (length s - 4)) ≡ t → cond t (call_of (get_or s 0 0) (take (argument_size s) (drop 4 s))) None ≡ Some c → 4 + argument_size s ≤ length s
      go false q f = absurd (none-some c f)
      go true q f =
          let (h, l) = and_yes (leb 4 (length s)) (leb (argument_size s) (length s - 4)) q in
          let h' = leb-true 4 (length s) h in
          let l' = leb-true (argument_size s) (length s - 4) l in
          omega arith
