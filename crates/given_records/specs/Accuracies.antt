-- *91* and *92*: the fields that both have, from column c on, what they say, and their judgement.
use Rattle.std.specs.Prelude.{List, [], ◌∷◌, map, ℕ, ℤ, pos}
use Rattle.rules.specs.Items.{Value, gap, num, text}
use Rattle.rules.specs.Fields.{Field, Verdict, anything, entries_of, judge}
use Rattle.kinds.specs.Tables.{field_of, accuracy_rows}

abbrev pub accuracy_fields : ℕ → List Field
accuracy_fields c = map field_of (accuracy_rows c)

abbrev pub accuracy_values : (north east : ℕ) → ℤ → (ellipsoid scaled : ℕ) → List Value
accuracy_values north east correlation ellipsoid scaled =
    num (pos north) ∷ num (pos east) ∷ num correlation ∷ num (pos ellipsoid) ∷ gap ∷ text (scaled ∷ []) ∷ []

unfoldable pub judge_accuracy : (c north east : ℕ) → ℤ → (ellipsoid scaled : ℕ) → Verdict
judge_accuracy c north east correlation ellipsoid scaled =
    judge anything (entries_of (accuracy_fields c) (accuracy_values north east correlation ellipsoid scaled))
