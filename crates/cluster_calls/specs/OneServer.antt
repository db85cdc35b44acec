-- The claim that a cluster answers like one server: operations and their responses, keyspaces, what commands
-- mean on one server, honest nodes, and the laws.
pub mod Operations
pub mod Keyspace
pub mod Meaning
pub mod Honest
pub mod Commands
pub mod Headline
pub mod AmongOthers
pub mod OneCall
pub mod Played
pub mod PlayedAmongOthers
pub mod Laws
pub mod Respelling
pub mod Bounds
pub mod RespelledPlays
pub mod Stretches
pub mod SentLists
pub mod Resending
pub mod RefusedPlays
pub mod ClosedLinks
pub mod TransactionLaws
pub mod PromisedPlays
pub mod Fates
