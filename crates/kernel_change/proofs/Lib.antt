-- What proves the functions of this crate.
mod NamesAsked
mod MovedRights
mod LostRights
mod ReceivedNames
mod SetMembers
