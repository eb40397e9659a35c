-- What is proved of the promises of the calls for C and Rust.
pub mod Determined  -- two results that one promise allows are equal
pub mod Refusals  -- a refusal has no counts and no lines
