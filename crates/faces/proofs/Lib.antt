pub mod FaceTests
