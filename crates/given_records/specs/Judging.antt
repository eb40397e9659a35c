-- Tests in a row, as the code makes them: the first fault counts.
use Rattle.std.specs.Prelude.{List, [], ℕ, take, drop, get_or}
use Rattle.rules.specs.Fields.{Field, Verdict, anything, check, ◌⨾◌, Entry, entries_of, judge_each, judge}
use Rattle.rules.specs.Layouts.{kept, heights, layouts}
use Rattle.rules.specs.Records.{told, of_kind}
use Rattle.rules.specs.Chapter4.{chapter4}
use Rattle.kinds.specs.declared.Record.{Record}
use Rattle.kinds.specs.declared.Heights.{Heights}
use Rattle.kinds.specs.declared.Record.TheVariants as R
use Rattle.kinds.specs.Values.{kind_number, values_of, meaning_of}

-- the fields of a kind, by its number
unfoldable pub layout_of : ℕ → List Field
layout_of k = get_or layouts k kept

-- columns 7 on of what is given
unfoldable pub judge_record : Record → (a b c : List ℕ) → Verdict
judge_record r a b c = check (of_kind chapter4 (kind_number r) (meaning_of r a b c)) 9 7 ⨾ judge anything (told chapter4 (meaning_of r a b c))

-- a record of heights in two parts: columns 11-35 with the first text, and columns 36-80 with the second
unfoldable pub height_entries : Heights → (a b : List ℕ) → List Entry
height_entries h a b = entries_of heights (values_of (R.Heights h) a b [])

unfoldable pub judge_orthometric : Heights → List ℕ → Verdict
judge_orthometric h a = judge_each anything (height_entries h a []) (take 8 (height_entries h a []))

unfoldable pub judge_others : Heights → List ℕ → Verdict
judge_others h b = judge_each anything (height_entries h [] b) (drop 8 (height_entries h [] b))
