use Rattle.reading.proofs.ValueLaws.{sequence_given_lem}
use Rattle.reading.proofs.values.read_sequence.Goals as goal

pub returns : goal.returns
returns c = sequence_given_lem c.args.line.now _ c.middle.ensures c.read_count.ensures
