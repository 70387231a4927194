pub mod RingParts
pub mod Rewritten
