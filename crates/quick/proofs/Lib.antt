pub mod ClassLaws  -- a row splits; what a class says of a column
pub mod NumberLaws  -- numbers and heights by their rows
pub mod WordLaws  -- blanks, words, media identifiers
pub mod AngleLaws  -- angles
pub mod RecordLaws  -- a record as a whole
pub mod KindLaws  -- the table of kinds: what fits has no fault
pub mod CodeLaws  -- one law for each way through the functions
