-- What read, field and rewrite say of pulled records, from the promises alone.
pub mod PulledReadsBack  -- a pulled good record reads back as the record's values
pub mod PulledWhole  -- all records of an accepted file, in order, are the rewritten file
