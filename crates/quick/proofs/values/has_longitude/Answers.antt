-- The test as the definition has it; the zeros behind by their own.
use Rattle.quick.specs.Rest.{longitude_rest}
use Rattle.quick.proofs.values.has_longitude.Goals as goal

pub returns : goal.returns
unfolding longitude_rest
returns c = rw c.are_zeros.ensures
