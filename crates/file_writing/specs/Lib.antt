pub mod WrittenFiles
