pub mod Places
pub mod Numbers
pub mod Served
pub mod Advancing
pub mod Writing
pub mod Running
