-- The answers of the calls on a sheet: the struct that a call gives, or its refusal; the answer alone, and the struct after the call.
use Rattle.std.specs.Prelude.{ℕ, List}
use Rattle.model.specs.Outcome as model
use Rattle.model.specs.File as file
use Rattle.sheet.specs.declared.Sheet.{Sheet}
use Rattle.sheet.specs.Sheets.{packed}

-- what open, offer, sweep, turn and chart give: the sheet that the model's call gives, packed, or its refusal
unfoldable pub packed_as : model.Outcome file.Sheet → model.Outcome Sheet
packed_as o = model.mapped packed o

-- of what write gives, the file's length
unfoldable pub length_of : model.Outcome (ℕ × List ℕ) → model.Outcome ℕ
length_of o = model.mapped (λ (w : ℕ × List ℕ). w.0) o

-- of an accepted call, only that it is accepted
unfoldable pub answer_of : {A : Type 0} → model.Outcome A → model.Outcome (Unit {0})
answer_of {A} o = model.mapped (λ (a : A). tt) o

-- the struct after a call on s: what an accepted call leaves, packed; after a refused one the very struct
unfoldable pub after : Sheet → model.Outcome file.Sheet → Sheet
after s (model.accepted t) = packed t
after s (model.refused k at) = s
