pub mod FileQueries
