-- Why the code of the listing keeps its promises, from the bottom up.
pub mod LayLaws  -- texts laid one after another, and numbers
pub mod LineLaws  -- the lines
pub mod SheetLaws  -- each way through the call
pub mod Lengths  -- how long a sheet can be
pub mod Numbers  -- how large its numbers can be
pub mod Determined  -- what the promise leaves open: nothing
