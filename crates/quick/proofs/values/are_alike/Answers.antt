use Rattle.judging.proofs.FieldLaws.{truth_is}
use Rattle.quick.specs.Rest.{alike}
use Rattle.quick.proofs.values.are_alike.Goals as goal

pub returns : goal.returns
unfolding alike
returns c = truth_is _ _
