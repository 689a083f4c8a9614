-- When two results are the same, and which pointers a node has. The laws also use the definitions of the crates
-- below.
pub mod Answers
pub mod OnePointer
