-- The limits of every call and what each refusal leaves, for every file, table, output and record: the value at a limit, and the value beside it.
use mathlib.Core.Path.{◌≡◌, refl, ◌∙◌, ap}
use mathlib.Core.Bool.{true, false}
use mathlib.Core.List.{List, [], ◌∷◌, ◌++◌, map}
use Prim.Native.Nat.{ℕ, ◌≤◌, ◌<◌}
use native.Mathlib.Omega.{arith}
use lib.ListN.{length, take, drop, replicate}
use Rattle.rules.specs.Tests.{within, ◌&◌, ◌≤?◌, ◌=?◌}
use Rattle.rules.specs.Items.{Value}
use Rattle.rules.specs.Fields.{ok, fault, ◌⨾◌, check, is_ok}
use Rattle.rules.specs.Records.{Meaning, read_line, judge_given, line_of}
use Rattle.rules.specs.Files.{accept, refuse, is_accept, and_then, line_at, begun, meanings, walk, form_verdict, verdict, rewritten}
use Rattle.rules.specs.References.{words, counts}
use Rattle.rules.specs.Chapter4.{at_start, chapter4}
use Rattle.rules.specs.Calls.{Answer, outcome, big_table, big_output, answer, table_left, output_left, references_outcome, references_answer, references_table, file_answer, rewrite_room, rewrite_answer, rewrite_table, rewrite_output, unread, read_as, read_of, is_read, width_asked, field_offset, field_of, write_verdict, write_output}
use Rattle.rules.specs.Sheet.{tabbed, file_line, listed, sheet}
use Rattle.rules.specs.Digits.{stripped, numeral}
use Rattle.rules.proofs.Truth.{and, of≤, of>, and_false}
use Rattle.rules.proofs.Samples.{judged, bytes_of}
use Rattle.rules.proofs.Edges.{lined}

-- a refusal with its number, record and column; counts all 0
unfoldable pub refusal : ℕ → ℕ → ℕ → Answer
refusal n r c = record { number = n; place = r; column = c; counts = 0 ∷ 0 ∷ 0 ∷ 0 ∷ 0 ∷ 0 ∷ 0 ∷ 0 ∷ 0 ∷ 0 ∷ 0 ∷ 0 ∷ 0 ∷ 0 ∷ [] }

-- ---- form and references together
module _ (f table : List ℕ) where
  pub enough_table : 12_000 ≤ length table → big_table table ≡ true
  unfolding big_table
  enough_table h = of≤ (omega (arith, h))

  pub low_table : length table < 12_000 → big_table table ≡ false
  unfolding big_table
  low_table h = of> (omega (arith, h))

  -- 1: a table below 12,000 words; nothing is touched
  pub short_table : length table < 12_000 → (file_answer f table ≡ refusal 1 0 0) × (references_table f table ≡ table)
  unfolding file_answer references_table outcome table_left answer refusal
  short_table h = (rw (low_table h), rw (low_table h))

  -- any other refusal: its number, record and column, counts all 0, the first 12,000 words 0, later words as they were
  pub refused_file : (n r c : ℕ) → 12_000 ≤ length table → verdict chapter4 f ≡ refuse n r c
      → (file_answer f table ≡ refusal n r c) × (references_table f table ≡ replicate 12_000 0 ++ drop 12_000 table)
  unfolding file_answer references_table outcome table_left answer refusal is_accept
  refused_file n r c h e = (rw (enough_table h, e), rw (enough_table h, e))

  -- acceptance: 0, and record and column 0
  pub taken_file : 12_000 ≤ length table → verdict chapter4 f ≡ accept
      → (file_answer f table ≡ record { number = 0; place = 0; column = 0; counts = counts (meanings chapter4 f) })
      × (references_table f table ≡ words (meanings chapter4 f) ++ drop 12_000 table)
  unfolding file_answer references_table outcome table_left answer is_accept
  taken_file h e = (rw (enough_table h, e), rw (enough_table h, e))

-- ---- references, 02, T-05
module _ (f table : List ℕ) where
  -- 1: a table below 12,000 words, whatever the form is; nothing is touched
  pub short_references : length table < 12_000 → (references_answer f table ≡ refuse 1 0 0) × (references_table f table ≡ table)
  unfolding references_answer references_outcome references_table table_left
  short_references h = (rw (low_table f table h), rw (low_table f table h))

  -- 14: a form that is not good; record and column 0, the first 12,000 words 0, later words as they were
  pub malformed_references : (n r c : ℕ) → 12_000 ≤ length table → form_verdict chapter4 f ≡ refuse n r c
      → (references_answer f table ≡ refuse 14 0 0) × (references_table f table ≡ replicate 12_000 0 ++ drop 12_000 table)
  unfolding references_answer references_outcome references_table table_left verdict and_then is_accept
  malformed_references n r c h e = (rw (enough_table f table h, e), rw (enough_table f table h, e))

-- ---- rewrite
pub record Untouched (f table out : List ℕ) : Type 0 where
  pub answered : rewrite_answer f table out ≡ refusal 1 0 0
  pub words_stay : rewrite_table f table out ≡ table
  pub bytes_stay : rewrite_output f table out ≡ out

module _ (f table out : List ℕ) where
  pub untouched : rewrite_room f table out ≡ false → Untouched f table out
  unfolding rewrite_answer rewrite_table rewrite_output outcome table_left output_left answer refusal is_accept
  untouched e = record { answered = rw e; words_stay = rw e; bytes_stay = rw e }

  pub low_output : length out < length f → big_output f out ≡ false
  unfolding big_output
  low_output h = of> (omega (arith, h))

  pub enough_output : length f ≤ length out → big_output f out ≡ true
  unfolding big_output
  enough_output h = of≤ (omega (arith, h))

  -- 1: an output shorter than the file, a table below 12,000 words
  pub short_output : length out < length f → Untouched f table out
  short_output h = untouched (unfold rewrite_room in ap (big_table table &◌) (low_output h) ∙ and_false (big_table table))

  pub short_table_too : length table < 12_000 → Untouched f table out
  short_table_too h = untouched (unfold rewrite_room in ap (◌& big_output f out) (low_table f table h) ∙ (unfold ◌&◌ in refl))

  room : 12_000 ≤ length table → length f ≤ length out → rewrite_room f table out ≡ true
  unfolding rewrite_room
  room h k = and (enough_table f table h) (enough_output k)

  -- any other refusal: as both have it, and the output as it was
  pub refused_rewrite : (n r c : ℕ) → 12_000 ≤ length table → length f ≤ length out → verdict chapter4 f ≡ refuse n r c
      → (rewrite_answer f table out ≡ refusal n r c) × (rewrite_table f table out ≡ replicate 12_000 0 ++ drop 12_000 table) × (rewrite_output f table out ≡ out)
  unfolding rewrite_answer rewrite_table rewrite_output outcome table_left output_left answer refusal is_accept
  refused_rewrite n r c h k e = (rw (room h k, e), rw (room h k, e), rw (room h k, e))

  -- acceptance: as both have it, and the rewritten file from the first byte on
  pub taken_rewrite : 12_000 ≤ length table → length f ≤ length out → verdict chapter4 f ≡ accept
      → (rewrite_answer f table out ≡ file_answer f table) × (rewrite_table f table out ≡ references_table f table)
      × (rewrite_output f table out ≡ rewritten chapter4 f ++ drop (length f) out)
  unfolding rewrite_answer rewrite_table rewrite_output file_answer references_table outcome table_left output_left is_accept
  taken_rewrite h k e = (rw (room h k, enough_table f table h, e), rw (room h k, enough_table f table h, e), rw (room h k, e))

-- ---- read: 13 for record 0, above 99,999, or past the last, with the record number asked for; any other record is judged
module _ (f : List ℕ) where
  pub read_0 : read_of f 0 ≡ unread 13 0 0
  unfolding read_of within ◌&◌ ◌≤?◌
  read_0 = refl

  pub read_1 : 1 ≤ begun f → read_of f 1 ≡ read_as 1 (line_at f 0) (read_line chapter4 (line_at f 0))
  unfolding read_of within ◌&◌ ◌≤?◌
  read_1 h = let there : 1 ≤? begun f ≡ true = of≤ h in rw there

  pub read_99999 : 99_999 ≤ begun f → read_of f 99_999 ≡ read_as 99_999 (line_at f 99_998) (read_line chapter4 (line_at f 99_998))
  unfolding read_of within ◌&◌ ◌≤?◌
  read_99999 h = let there : 99_999 ≤? begun f ≡ true = of≤ h in rw there

  pub read_100000 : read_of f 100_000 ≡ unread 13 100_000 0
  unfolding read_of within ◌&◌ ◌≤?◌
  read_100000 = refl

  pub read_past : (r : ℕ) → begun f < r → read_of f r ≡ unread 13 r 0
  unfolding read_of
  read_past r h = let past : r ≤? begun f ≡ false = of> h in simp (past, and_false)

  -- a field of a record that is not read is empty
  pub unread_field : (r c : ℕ) → is_read (read_of f r) ≡ false → (field_of f r c ≡ []) × (field_offset f r c ≡ 0)
  unfolding field_of field_offset width_asked ◌=?◌
  unread_field r c e = (rw e, rw e)

-- ---- write: 1 below 81 bytes; a refusal leaves the output
module _ (k : ℕ) (q : Value) (m : Meaning) where
  pub write_80 : write_verdict 80 k q m ≡ fault 1 0
  unfolding write_verdict check ◌⨾◌ ◌≤?◌
  write_80 = refl

  pub write_81 : write_verdict 81 k q m ≡ judge_given chapter4 k q m
  unfolding write_verdict check ◌⨾◌ ◌≤?◌
  write_81 = refl

  pub refused_write : (out : List ℕ) (n c : ℕ) → write_verdict (length out) k q m ≡ fault n c → write_output k q m out ≡ out
  unfolding write_output is_ok
  refused_write out n c e = rw e

  pub taken_write : (out : List ℕ) → write_verdict (length out) k q m ≡ ok → write_output k q m out ≡ line_of chapter4 q m ++ drop 81 out
  unfolding write_output is_ok
  taken_write out e = rw e

-- ---- the deposit sheet: up to 64,800 bytes; more gives the line of refusal 1, with 0 blocks
module _ (input table : List ℕ) where
  pub sheet_64800 : length input ≡ 64_800 → sheet input table ≡ listed 800 (file_answer input table)
  unfolding sheet ◌≤?◌
  sheet_64800 e = rw e

  pub sheet_64801 : length input ≡ 64_801 → sheet input table ≡ bytes_of ("FILE\t0\t1\t0\t0\n" ∷ [])
  unfolding sheet file_line tabbed numeral stripped judged
  sheet_64801 e = rw e

-- ---- a file: how many records it may have, where it may end, and how long its last line is
-- 2: a record 100,000 has begun. 99,999 records without an end are 8 at record 100,000
pub record-99999 : walk chapter4 at_start 99_999 (lined "      *A1*" ∷ []) ≡ refuse 8 100_000 1
unfolding judged lined
record-99999 = refl

pub record-100000 : walk chapter4 at_start 100_000 (lined "      *A1*" ∷ []) ≡ refuse 2 100_000 1
unfolding judged lined
record-100000 = refl

-- how many records have begun: record r starts at byte 81 x (r - 1)
pub records_begun : map (λ n. begun (replicate n 32)) (0 ∷ 1 ∷ 80 ∷ 81 ∷ 82 ∷ 162 ∷ 163 ∷ []) ≡ 0 ∷ 1 ∷ 1 ∷ 1 ∷ 2 ∷ 2 ∷ 3 ∷ []
unfolding judged
records_begun = refl

-- 3: the last line has k bytes, k from 1 to 80; column k + 1
pub last-lines :
    map (λ k. read_line chapter4 (take k (lined "      *26*WIND"))) (1 ∷ 2 ∷ 79 ∷ 80 ∷ 81 ∷ []) ≡ fault 3 2 ∷ fault 3 3 ∷ fault 3 80 ∷ fault 3 81 ∷ ok ∷ []
unfolding judged lined
last-lines = refl
