use mathlib.Core.Path.{◌∙◌}
use Rattle.kinds.specs.declared.Kind.TheVariants as K
use Rattle.kinds.specs.Values.{kind_index}
use Rattle.kinds.proofs.KindLaws.{same_index}
use Rattle.quick.specs.Rows.{is_text}
use Rattle.quick.proofs.rows.is_text_kind.Goals as goal

pub returns : goal.returns
unfolding is_text kind_index
returns c = c.eq.ensures ∙ same_index c.args.kind K.Comment
