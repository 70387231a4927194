-- Of every answer of the eight functions, number and value can be read off: no place and no value reaches 2^48.
use Rattle.std.specs.Prelude.{ℕ, List}
use Rattle.sheet.specs.Answers.{length_of}
use Rattle.sheet_bytes.specs.Codes.{Unpacks}
use Rattle.touchchart.specs.Interface.{opens_to, sweeps_to, offers_to, turns_to, charts_to, scans_to, compares_to, rings_to}

-- Each of the eight, for every input
pub record ReadOff : Type 0 where
  pub opens : (file out : List ℕ) → Unpacks (length_of (opens_to file out))
  pub sweeps : (sheet out : List ℕ) → Unpacks (length_of (sweeps_to sheet out))
  pub offers : (sheet labels out : List ℕ) → Unpacks (length_of (offers_to sheet labels out))
  pub turns : (sheet items : List ℕ) (direction : ℕ) (out : List ℕ) → Unpacks (length_of (turns_to sheet items direction out))
  pub charts : (sheet out : List ℕ) → Unpacks (length_of (charts_to sheet out))
  pub scans : (sheet : List ℕ) → Unpacks (scans_to sheet)
  pub compares : (a b : List ℕ) → Unpacks (compares_to a b)
  pub rings : (file : List ℕ) (context : ℕ) → Unpacks (rings_to file context)
