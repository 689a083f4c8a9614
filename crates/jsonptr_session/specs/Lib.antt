-- The machine that every session is a run of, and its states and commands. How calls and replies are read as commands
-- and answers, and the keys of their values. The undo of an assignment.
pub mod Machine
pub mod States
pub mod Session
pub mod Order
pub mod Undo
pub mod PrivateTurn
