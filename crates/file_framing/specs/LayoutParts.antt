-- The offsets of what follows a plan in a file.
use Rattle.std.specs.Prelude.{◌^◌, ◌<◌}
use Rattle.std.specs.Coded.{×_prop, Unit-prop, le_prop}
use Rattle.file_framing.specs.declared.layout.PartOffsets.{PartOffsets}

-- the offsets are small numbers
abbrev pub Near : PartOffsets → Type 0
Near PartOffsets.Plan = Unit {0}
Near (PartOffsets.Labels labels) = labels < 2 ^ 17
Near (PartOffsets.Chart labels chart) = (labels < 2 ^ 17) × (chart < 2 ^ 17)

-- each in one way at most
pub Near-prop : (p : PartOffsets) → IsProp (Near p)
Near-prop PartOffsets.Plan = Unit-prop
Near-prop (PartOffsets.Labels labels) = le_prop
Near-prop (PartOffsets.Chart labels chart) = ×_prop le_prop le_prop
