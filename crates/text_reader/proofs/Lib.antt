pub mod BlockLemmas
pub mod CallLemmas
pub mod KeywordLemmas
pub mod NumberReplyLemmas
