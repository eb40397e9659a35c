-- What the promises of read, field and write say together.
pub mod WrittenReadsBack  -- a record written from values reads back as those values
pub mod MeaningBack  -- a record and its long texts give the meaning back
pub mod TextsBack  -- a record's long texts are what field gives at their columns
pub mod ReadWritesBack  -- a record that was read is written, in house style under its own sequence number
