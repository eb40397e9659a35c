-- What is proved of the rules, from the bottom up.
pub mod Truth  -- tests that hold
pub mod DigitLaws  -- digits
pub mod Lawful  -- every kind of field: what is written reads back
pub mod SetLaws  -- sets of characters are the lists of their members
pub mod FormLaws  -- numbers and heights are what the paper says
pub mod SpellLaws  -- and so is every kind of field, and every code
pub mod BeginningLaws  -- the column that a bad field is refused at
pub mod FieldLaws  -- fields in a row
pub mod RecordLaws  -- one record
pub mod FileLaws  -- a file, and demand 3 for any edition
pub mod FaultLaws  -- the first fault of a record
pub mod FileFaults  -- the first fault of a file, and demand 2 for any edition
pub mod PaddingLaws  -- the padding step: one reading, the first fault, what is padded
pub mod ReferenceLaws  -- references and words
pub mod TableLaws  -- the table as it is filled, and the counts
pub mod Chapter4Laws  -- Chapter 4 is sound, and its order is the paper's table
pub mod Bounds  -- the bounds of a fault's number, record and column
pub mod PointLaws  -- where what is read is refused with 9
pub mod PullingLaws  -- the pull list: what stands for each entry, and all records of a file
pub mod Keeping  -- what is kept of the records before
pub mod AgreeLaws  -- agreement is what the paper says
pub mod Conforming  -- accepted exactly when it conforms
pub mod InstrumentLaws  -- the records of one instrument number stand together, and 10 is only where a number falls
pub mod Demands  -- the demands
pub mod Published  -- the published columns
pub mod Samples  -- files by computation
pub mod Edges  -- the edges of every field
pub mod Follows  -- what may follow what, at every place
pub mod Limits  -- the limits of every call, and what a refusal leaves
pub mod CallSamples  -- every call by computation
pub mod PaddingSamples  -- the padding step by computation
pub mod PullingSamples  -- a pull list by computation
