use borrow.Author.Rules.{rules}
use Rattle.quick.proofs.CodeLaws.{no_job, fits_whole}
use Rattle.quick.proofs.fits.Goals as goal

pub returns : goal.returns
returns c = search (fits_whole, no_job, rules)
