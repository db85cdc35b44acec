-- What a client is asked, what it sends for it, and what it answers: from the call to its parts, their first
-- nodes, the redirects behind them, and the answer or the refusal that the replies make.
pub mod Call
pub mod Task
pub mod Parts
pub mod OneSlot
pub mod TaskParts
pub mod Plan
pub mod Picks
pub mod Redirects
pub mod Legal
pub mod Replies
pub mod Reads
pub mod Refusals
pub mod Answer
pub mod After
pub mod Each
pub mod EachInParts
pub mod InParts
pub mod Transactions
pub mod OneReply
