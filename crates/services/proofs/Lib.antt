-- Laws that the services share.
pub mod KeyTuples
pub mod Answers
