-- What the contracts cite.
pub mod Going
