-- The laws behind the functions, each over plain values.
pub mod RowLaws  -- row by row is field by field; the loop over a kind's rows
pub mod CodeLaws  -- the kind of a code
pub mod ByteLaws  -- the lowest column at fault
pub mod SpotLaws  -- where a bad field is refused
pub mod FieldLaws  -- one field
pub mod LineLaws  -- a whole line
