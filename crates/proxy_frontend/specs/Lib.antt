pub mod Histories
pub mod State
pub mod Serving
pub mod Moves
pub mod Places
pub mod Steps
pub mod Laws
