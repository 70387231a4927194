pub mod RingTests
pub mod Scans
