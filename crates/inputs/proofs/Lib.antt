-- What is proved of reading.
pub mod ReadLaws  -- what one more read adds
