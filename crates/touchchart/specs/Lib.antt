pub mod Interface
pub mod ReadOff
pub mod HostCalls
