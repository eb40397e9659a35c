-- 01, "The line and the file": one record, judged, read, meant and written, for any edition of the format.
use Rattle.std.specs.Prelude.{Bool, true, List, [], ◌∷◌, ◌++◌, map, ℕ, zero, suc, ◌+◌, ◌*◌, length, take, drop, pos}
use Rattle.rules.specs.Tests.{◌&◌, ◌=?◌}
use Rattle.rules.specs.Characters.{is_printable}
use Rattle.rules.specs.Items.{Value, num, Item, number, fits, render, good, spot}
use Rattle.rules.specs.Fields.{Field, Expect, anything, Verdict, fault, ◌⨾◌, check, is_ok, Check, Entry, read, entries_of, values, judge, formed, agreeing, renders}

-- 01, "A record means its kind with every value from column 11 on"; the code tells the kind, and a job code is itself part of the meaning
pub record Meaning : Type 0 where
  pub code : List ℕ
  pub values : List Value

-- what an edition of the format adds to the rules of lines and fields; S is what it keeps of the records before
pub record Edition (S : Type 0) : Type 0 where
  pub known : List ℕ → Bool  -- whether columns 7-10 hold a code of the edition
  pub kind : List ℕ → ℕ  -- of a known code
  pub layout : List ℕ → List Field  -- columns 11-80 under a known code
  pub start : S
  pub allowed : S → List ℕ → Bool  -- whether a code may come here
  pub expects : S → List ℕ → Expect  -- what column 11 must be here
  pub next : S → Meaning → S
  pub ends : S → Bool  -- whether the file may end here
  pub refs : List Meaning → ℕ → Meaning → List Check  -- of a file, a record's number and the record: its references

-- 01, "Columns 1-6: sequence number, blank or 1..999999"
unfoldable pub sequence : Item
sequence = number 6 1 999_999 true

-- n columns of printable bytes from column c on, then a line feed: faults 3, 4, 5, the lowest column first
unfoldable pub bytes : ℕ → ℕ → List ℕ → Verdict
bytes zero c [] = fault 3 c
bytes zero c (b ∷ bs) = check (b =? 10) 5 c
bytes (suc n) c [] = fault 3 c
bytes (suc n) c (b ∷ bs) = check (is_printable b) 4 c ⨾ bytes n (c + 1) bs

-- columns 7-10
unfoldable pub code_at : List ℕ → List ℕ
code_at l = take 4 (drop 6 l)

module _ {S : Type 0} (E : Edition S) where
  -- the fields from column 11 on
  unfoldable pub entries : List ℕ → List Entry
  entries l = map (read l) (E.layout (code_at l))

  unfoldable pub numbered : List ℕ → Verdict
  numbered l = check (good sequence (take 6 l)) 9 (1 + spot sequence (take 6 l))

  -- 01, "Order": 3, 4 and 5; 6; 7; then the fields, columns 1-6 included
  unfoldable pub judge_line : S → List ℕ → Verdict
  judge_line s l =
      bytes 80 1 l ⨾ check (E.known (code_at l)) 6 7 ⨾ check (E.allowed s (code_at l)) 7 7
      ⨾ numbered l ⨾ judge (E.expects s (code_at l)) (entries l)

  -- 01, "Read judges a record by itself": 3 to 6, then its fields
  unfoldable pub read_line : List ℕ → Verdict
  read_line l = bytes 80 1 l ⨾ check (E.known (code_at l)) 6 7 ⨾ numbered l ⨾ judge anything (entries l)

  -- ---- meaning
  unfoldable pub meaning : List ℕ → Meaning
  meaning l = record { code = code_at l; values = values (E.layout (code_at l)) l }

  -- the fields of a meaning
  unfoldable pub told : Meaning → List Entry
  told m = entries_of (E.layout m.code) m.values

  -- ---- writing: 01, "Write answers 1, 9 or 10 with record 0, 1 first and then by field from the left"
  -- of the kind asked for, with a value for each field
  unfoldable pub of_kind : ℕ → Meaning → Bool
  of_kind k m = E.known m.code & E.kind m.code =? k & length m.values =? length (E.layout m.code)

  unfoldable pub judge_given : ℕ → Value → Meaning → Verdict
  judge_given k q m = check (fits sequence q) 9 1 ⨾ check (of_kind k m) 9 7 ⨾ judge anything (told m)

  -- the 81 bytes of a sequence number and a meaning
  unfoldable pub line_of : Value → Meaning → List ℕ
  line_of q m = render sequence q ++ (m.code ++ (renders (E.layout m.code) m.values ++ 10 ∷ []))

  -- 01, "Rewriting gives record r the sequence number 10 x r"
  unfoldable pub style : ℕ → Meaning → List ℕ
  style r m = line_of (num (pos (10 * r))) m

  -- ---- the judges as tests of the bytes and of the meaning
  unfoldable pub formed_line : List ℕ → Bool
  formed_line l = is_ok (bytes 80 1 l) & E.known (code_at l) & good sequence (take 6 l) & formed (entries l)

  unfoldable pub permitted : S → Meaning → Bool
  permitted s m = E.allowed s m.code & agreeing (E.expects s m.code) (told m)

  -- a meaning that some line has
  unfoldable pub meant : Meaning → Bool
  meant m = E.known m.code & (length m.values =? length (E.layout m.code) & formed (told m))
