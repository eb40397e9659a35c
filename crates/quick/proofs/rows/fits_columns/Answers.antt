use mathlib.Core.Path.{refl}
use Rattle.quick.proofs.CodeLaws.{columns_fit, texts_fit}
use Rattle.quick.proofs.rows.fits_columns.Goals as goal

pub returns-then-is_text_kind : goal.returns-then-is_text_kind
returns-then-is_text_kind c = texts_fit c.args.line.now c.args.kind c.index.result c.index.ensures.value _ refl _ c.is_text_kind.ensures c.if-is_text_kind.true _ c.fits_texts.ensures

pub returns : goal.returns
returns c = columns_fit c.args.line.now c.args.kind c.index.result c.index.ensures.value _ refl _ c.fits_row.ensures
