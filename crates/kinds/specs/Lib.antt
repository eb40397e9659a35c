-- What the promises above cite of the types: Values gives 01's numbers and values for each case of each enum, Tables the layouts as the code has them.
pub mod Values
pub mod Tables
