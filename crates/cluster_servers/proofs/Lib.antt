pub mod Outcomes
pub mod Asking
pub mod Telling
pub mod LawProofs
pub mod SlotTargets
