-- What the contracts cite.
pub mod Program
pub mod Runs
pub mod Machine
pub mod Strict
pub mod FreeList
pub mod Kept
pub mod Values
pub mod Holders
pub mod Rows
pub mod Decode
pub mod Ends
pub mod VarSets
pub mod Views
pub mod Worked
pub mod Says
