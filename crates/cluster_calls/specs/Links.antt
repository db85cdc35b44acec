-- What happened at the links: requests and the bytes that go out for them, replies paired with requests, link
-- calls, what became of each node, and what one call and a run of calls did.
pub mod Request
pub mod Reply
pub mod Log
pub mod World
pub mod Places
pub mod Play
pub mod Faults
pub mod Events
pub mod Lacking
pub mod Leaves
pub mod Nodes
pub mod Happened
pub mod Run
pub mod Converted
pub mod Typed
pub mod Accepted
pub mod Chains
pub mod PartRuns
pub mod Exchanges
pub mod Orders
pub mod Taken
pub mod Building
pub mod PipeReplies
pub mod EachMade
pub mod AttemptRuns
