pub mod Twins
pub mod TwinWorlds
pub mod TwinLemmas
pub mod CallLemmas
pub mod DeathLemmas
pub mod ServingLemmas
pub mod MoveLemmas
pub mod RulesLemmas
pub mod SoundTwins
pub mod SameLemmas
pub mod DiaryLemmas
pub mod ItemLemmas
pub mod DiaryMoves
pub mod SoundDiaries
pub mod RunLemmas
pub mod EntryLemmas
pub mod EventEntries
pub mod ByteLemmas
mod Readies
mod ReadyCalls
mod Results
mod Returned
mod Seen
mod GoneOn
mod Keeping
mod Latest
mod Getting
mod Ordered
mod AreMade
mod Consoles
mod StillLemmas
