-- What the contracts cite.
pub mod Memory
pub mod Represents
pub mod Operations
pub mod Steps
pub mod Calls
pub mod Running
