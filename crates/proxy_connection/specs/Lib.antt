pub mod History
pub mod State
pub mod Ways
pub mod Serving
pub mod Moves
pub mod Laws
