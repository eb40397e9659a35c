-- What pad promises, and what the promises of `padding` cite besides the rules.
pub mod Lines  -- one line found in its bytes
pub mod Walks  -- walks over the lines
pub mod Promise  -- the call
