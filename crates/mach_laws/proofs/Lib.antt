mod Bodies
mod Meanings
mod Untouched
mod Steps
pub mod Counted
pub mod Slots
pub mod Onces
pub mod Promised
pub mod Playing
pub mod Dying
pub mod Working
mod ToldAtOnce
mod Destroyed
mod ToldOfDeath
mod Unanswered
mod Senderless
mod Deleted
mod Answering
mod Gathering
mod Handed
mod Naming
mod Tagged
pub mod Refusals
pub mod Requesting
pub mod Deciding
mod Rising
mod MemoryFree
mod Shrinking
mod Asked
mod Kept
mod NoticeMeans
mod OwedMeans
mod Making
mod Made
mod Leaving
pub mod Touching
pub mod QuietEnd
pub mod LoneDeath
pub mod Losing
pub mod Moving
pub mod Disbanding
pub mod EndingTask
pub mod TooLong
pub mod Carrying
pub mod Giving
