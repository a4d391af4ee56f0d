pub mod Passes
pub mod ValueTests
pub mod FilesSoFar
