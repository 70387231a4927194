pub mod Charts
