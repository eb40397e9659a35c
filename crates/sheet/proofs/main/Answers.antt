-- The sheet is a number of the text's bytes.
use Rattle.listing.proofs.Determined.{answer_fits, text_taken}
use Rattle.sheet.proofs.main.Goals as goal

pub slice_bounds-text-end : goal.slice_bounds-text-end
slice_bounds-text-end c = answer_fits _ _ _ c.list-k.ensures

pub slice_bounds-write_all-end : goal.slice_bounds-write_all-end
slice_bounds-write_all-end c = text_taken _ _ _ c.list-k.ensures
