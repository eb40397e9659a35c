-- Unfit, or the ten characters as one text. Assumes nothing.
use mathlib.Core.Path.{sym, ◌∙◌}
use native.Mathlib.Omega.{arith}
use Rattle.rules.specs.Items.{media}
use Rattle.columns.specs.Types.{media_value}
use Rattle.columns.proofs.WriteLaws.{kept_unfit}
use Rattle.columns.proofs.LabelLaws.{media-put, year_small}
use Rattle.columns.proofs.labels.put_media.Goals as goal

pub returns-then-not-media_fits : goal.returns-then-not-media_fits
returns-then-not-media_fits c = let a = c.args in kept_unfit media (media_value a.m) a.out.now (sym c.media_fits.ensures ∙ c.if-not-media_fits.true)

pub overflow_add-text : goal.overflow_add-text
overflow_add-text c = omega (arith, year_small c.args.m (sym c.media_fits.ensures ∙ c.if-not-media_fits.false))

pub returns : goal.returns
returns c =
    let a = c.args in
    media-put a.m a.out.now _ c.last_digit-a.ensures c.last_digit-b.ensures c.last_digit-c.ensures (sym c.media_fits.ensures ∙ c.if-not-media_fits.false) c.put_text.ensures
