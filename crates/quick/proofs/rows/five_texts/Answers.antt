-- The five columns of a step, as the definition has them.
use Rattle.quick.specs.Rows.{text_at, five_texts}
use Rattle.quick.proofs.rows.five_texts.Goals as goal

pub returns : goal.returns
unfolding text_at five_texts
returns c = rw (c.is_text-5.ensures, c.is_text-4.ensures, c.is_text-3.ensures, c.is_text-2.ensures, c.is_text.ensures)
