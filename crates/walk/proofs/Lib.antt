-- Why the code of the walk keeps its promises, from the bottom up.
pub mod OrderLaws  -- the order of records
pub mod KeptLaws  -- what is kept of the records before
pub mod WordLaws  -- the lent table
pub mod NumberLaws  -- the numbers in the columns
pub mod StepLaws  -- one record
pub mod ReferLaws  -- 11 and 12
pub mod WalkLaws  -- the loop over the records
pub mod JudgeLaws  -- the whole file
pub mod TogetherDemands  -- demands 1 and 2 of both calls together
pub mod CallDemands  -- demands 1 and 2 of each call, from its promise alone, and what both say together
pub mod Refuted  -- wrong programs that the promises do not allow
