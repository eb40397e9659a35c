use Rattle.rules.specs.Items.{render, on_number}
use Rattle.columns.specs.Types.{count_value}
use Rattle.styling.proofs.laying.lay_number.Goals as goal

pub returns : goal.returns
unfolding render on_number count_value
returns c = c.lay_count.ensures
