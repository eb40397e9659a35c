use Rattle.std.proofs.Common.{◌∙◌}
use Rattle.reading.proofs.ValueLaws.{number-given}
use Rattle.reading.proofs.values.number_of.Goals as goal

pub returns : goal.returns
returns c = c.unwrap_or.ensures ∙ number-given c.args.part.now c.requires c.read_count.ensures
