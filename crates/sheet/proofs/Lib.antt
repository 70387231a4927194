pub mod Packed
pub mod Reading
pub mod RoundTrips
pub mod Made
pub mod Sweeps
pub mod Charts
