-- end meets its contract.
use Prim.Native.Nat.{ℕ}
use mathlib.Core.List.{[]}
use mathlib.Core.Path.{sym, ◌∙◌}
use mathlib.Core.Bool.{Bool, false}
use Rattle.file_framing.proofs.Offsets.{as_broken, as_never}
use Rattle.file_framing.proofs.Layouts.{rest_end, end_refused}
use Rattle.file_framing.proofs.Cursor.end.Goals as goal

pub returns-then-is_end : goal.returns-then-is_end
returns-then-is_end c = let a = c.args.self.now in rest_end a.file.now [] a.at (sym c.is_end.ensures ∙ c.if-is_end.true)

pub returns-in-None : goal.returns-in-None
returns-in-None c =
    let a = c.args.self.now in
    let never : ℕ → Bool = λ (m : ℕ). false in
    end_refused a.file.now a.at 1 a.at (sym c.is_end.ensures ∙ c.if-is_end.false) (as_broken a.file.now a.at 0 never c.framed.ensures c.in-None.is)

pub returns-in-Some : goal.returns-in-Some
returns-in-Some c =
    let a = c.args.self.now in
    end_refused a.file.now a.at 2 a.at (sym c.is_end.ensures ∙ c.if-is_end.false) (as_never a.file.now a.at c.framed.ensures _ c.in-Some.is)
