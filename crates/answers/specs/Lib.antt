-- What the calls leave in words.
pub mod Answers  -- form, references, rewrite, pad and field
pub mod Words  -- what read answers
pub mod Given  -- what write is given
pub mod Promise  -- the promise of each call
pub mod Held  -- which words a field is given by, and whether its type holds them
