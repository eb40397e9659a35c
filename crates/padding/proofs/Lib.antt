-- Why pad keeps its promise, and what the promise tells.
pub mod FeedLaws  -- the first LF of a part
pub mod TextLaws  -- the first line of an input, and in 82 bytes of it
pub mod LineLaws  -- one line laid
pub mod PassLaws  -- from one line to the next, and the judge that goes so
pub mod WalkLaws  -- walks that take turns, which count the lines
pub mod StretchLaws  -- lines laid, two stretches in turn
pub mod PadDemands  -- demands 1 and 2, from the promise alone
pub mod PadLaws  -- the call
pub mod Refuted  -- wrong paddings that the promise does not allow
