-- The test as the definition has it; the zeros behind by their own.
use Rattle.quick.specs.Rest.{latitude_rest}
use Rattle.quick.proofs.values.has_latitude.Goals as goal

pub returns : goal.returns
unfolding latitude_rest
returns c = rw c.are_zeros.ensures
