pub mod NumberLemmas
pub mod HexLemmas
pub mod WordLemmas
pub mod ReplyLemmas
pub mod CallLemmas
pub mod SameWords
pub mod SameCalls
pub mod SameReplies
