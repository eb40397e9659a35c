use Rattle.judging.proofs.CodeLaws.{data_is}
use Rattle.judging.proofs.codes.is_data.Goals as goal

pub returns : goal.returns
returns c = data_is c.args.a c.args.b
