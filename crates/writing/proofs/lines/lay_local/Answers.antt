-- Field after field: each is laid over what those before it have left.
use mathlib.Core.Path.{◌≡◌, ap, ◌∙◌}
use borrow.Author.Rules.{rules}
use mir.Syntax.{w64}
use mir.Val.{to_z, of_z}
use Rattle.rules.specs.Items.{render, on_number, on_text, on_gap}
use Rattle.kinds.specs.Tables.{field_of}
use Rattle.kinds.specs.Values.{values_of}
use Rattle.given_records.specs.Accuracies.{accuracy_fields, accuracy_values}
use Rattle.styling.specs.Laying.{lay_fields}
use Rattle.writing.proofs.lines.lay_local.Goals as goal

pub returns : goal.returns
unfolding lay_fields field_of values_of render on_number on_text on_gap
returns c =
    let a = c.args in
    let correlation-back : to_z w64 (of_z w64 a.l.correlation) ≡ a.l.correlation = search rules in
    rw (c.lay_text.ensures, c.lay_accuracy.ensures ∙ ap (λ z. lay_fields (accuracy_fields 23) (accuracy_values a.l.north a.l.east z a.l.ellipsoid a.l.scaled) c.lay_blank-2.new.line) correlation-back, c.lay_blank-2.ensures, c.lay_number-2.ensures, c.lay_blank.ensures, c.lay_number.ensures)
