-- 01, "What the shelf needs", "Memory": what each call answers and what it leaves in lent memory, for every input.
use Rattle.std.specs.Prelude.{Bool, true, false, cond, List, [], ◌∷◌, ◌++◌, ℕ, ◌+◌, ◌-◌, ◌*◌, length, take, drop, replicate}
use Rattle.rules.specs.Tests.{◌&◌, ◌≤?◌, ◌=?◌, within}
use Rattle.rules.specs.Items.{Value, value_of, parts}
use Rattle.rules.specs.Fields.{Field, Verdict, ok, fault, ◌⨾◌, check, is_ok}
use Rattle.rules.specs.Records.{Meaning, sequence, code_at, read_line, meaning, judge_given, line_of}
use Rattle.rules.specs.Files.{Result, accept, refuse, is_accept, line_at, begun, meanings, form_verdict, reference_verdict, verdict, rewritten}
use Rattle.rules.specs.Layouts.{layout}
use Rattle.rules.specs.References.{words, counts}
use Rattle.rules.specs.Chapter4.{chapter4}

-- ---- form, references and rewrite
-- fault 1 goes by lengths alone
unfoldable pub outcome : Bool → List ℕ → Result
outcome enough f = cond enough (verdict chapter4 f) (refuse 1 0 0)

unfoldable pub big_table : List ℕ → Bool
big_table table = 12_000 ≤? length table

unfoldable pub big_output : List ℕ → List ℕ → Bool
big_output f out = length f ≤? length out

-- number, record and column, and a count of each kind of record, all 0 after a refusal
pub record Answer : Type 0 where
  pub number : ℕ
  pub place : ℕ
  pub column : ℕ
  pub counts : List ℕ

unfoldable pub answer : Result → List Meaning → Answer
answer accept ms = record { number = 0; place = 0; column = 0; counts = counts ms }
answer (refuse n r c) ms = record { number = n; place = r; column = c; counts = replicate 14 0 }

-- refusal 1 touches nothing, any other puts zero in the first 12,000 words; later words stay
unfoldable pub table_left : Bool → List ℕ → List ℕ → List ℕ
table_left enough f table =
    cond enough (cond (is_accept (verdict chapter4 f)) (words (meanings chapter4 f)) (replicate 12_000 0) ++ drop 12_000 table) table

-- the rewritten file from the first byte on; a refusal leaves the output as it was
unfoldable pub output_left : Bool → List ℕ → List ℕ → List ℕ
output_left enough f out = cond (is_accept (outcome enough f)) (rewritten chapter4 f ++ drop (length f) out) out

-- 02, T-05: "one for form and order, with the counts and needing no table"
unfoldable pub form_answer : List ℕ → Answer
form_answer f = answer (form_verdict chapter4 f) (meanings chapter4 f)

-- "and one for references and the table": 1, then 14 where form is not good, then 11 and 12
unfoldable pub references_outcome : Bool → List ℕ → Result
references_outcome enough f = cond enough (cond (is_accept (form_verdict chapter4 f)) (reference_verdict chapter4 f) (refuse 14 0 0)) (refuse 1 0 0)

unfoldable pub references_answer : List ℕ → List ℕ → Result
references_answer f table = references_outcome (big_table table) f

unfoldable pub references_table : List ℕ → List ℕ → List ℕ
references_table f table = table_left (big_table table) f table

-- the first fault in the paper's order, 1 first, as both calls together tell it
unfoldable pub file_answer : List ℕ → List ℕ → Answer
file_answer f table = answer (outcome (big_table table) f) (meanings chapter4 f)

unfoldable pub rewrite_room : List ℕ → List ℕ → List ℕ → Bool
rewrite_room f table out = big_table table & big_output f out

unfoldable pub rewrite_answer : List ℕ → List ℕ → List ℕ → Answer
rewrite_answer f table out = answer (outcome (rewrite_room f table out) f) (meanings chapter4 f)

unfoldable pub rewrite_table : List ℕ → List ℕ → List ℕ → List ℕ
rewrite_table f table out = table_left (rewrite_room f table out) f table

unfoldable pub rewrite_output : List ℕ → List ℕ → List ℕ → List ℕ
rewrite_output f table out = output_left (rewrite_room f table out) f out

-- ---- read
pub data Reading : Type 0 where
  values : Value → Meaning → Reading  -- the sequence number, the rest
  unread : (number place column : ℕ) → Reading

unfoldable pub read_as : ℕ → List ℕ → Verdict → Reading
read_as r l ok = values (value_of sequence (take 6 l)) (meaning chapter4 l)
read_as r l (fault n c) = unread n r c

-- 13: record 0, above 99,999, or past the last
unfoldable pub read_of : List ℕ → ℕ → Reading
read_of f r = cond (within 1 99_999 r & r ≤? begun f) (read_as r (line_at f (r - 1)) (read_line chapter4 (line_at f (r - 1)))) (unread 13 r 0)

unfoldable pub is_read : Reading → Bool
is_read (values q m) = true
is_read (unread n r c) = false

-- ---- field: its columns, empty if read refuses or no field from 11 on starts there
-- the width of the field that starts at column c, among parts that start at column d; 0 where none does
unfoldable pub part_width : ℕ → ℕ → List ℕ → ℕ
part_width c d [] = 0
part_width c d (w ∷ ws) = cond (c =? d) w (part_width c (d + w) ws)

unfoldable pub field_width : ℕ → List Field → ℕ
field_width c [] = 0
field_width c (f ∷ fs) = let rest = field_width c fs in let w = part_width c f.from (parts f.item) in cond (w =? 0) rest w

unfoldable pub width_asked : List ℕ → ℕ → ℕ → ℕ
width_asked f r c = cond (is_read (read_of f r)) (field_width c (layout (code_at (line_at f (r - 1))))) 0

-- where the part starts in the file, 0 for the empty part
unfoldable pub field_offset : List ℕ → ℕ → ℕ → ℕ
field_offset f r c = cond (width_asked f r c =? 0) 0 (81 * (r - 1) + (c - 1))

unfoldable pub field_of : List ℕ → ℕ → ℕ → List ℕ
field_of f r c = take (width_asked f r c) (drop (field_offset f r c) f)

-- ---- write: 1, then by field from the left; record 0
unfoldable pub write_verdict : ℕ → ℕ → Value → Meaning → Verdict
write_verdict room k q m = check (81 ≤? room) 1 0 ⨾ judge_given chapter4 k q m

unfoldable pub write_output : ℕ → Value → Meaning → List ℕ → List ℕ
write_output k q m out = cond (is_ok (write_verdict (length out) k q m)) (line_of chapter4 q m ++ drop 81 out) out
