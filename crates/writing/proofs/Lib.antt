-- The laws that belong to no one function.
pub mod LineLaws  -- what was judged good, in its line, and what the call answers
pub mod WriteLaws  -- what the promise of write says
