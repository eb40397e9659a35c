-- 01, "The line and the file", "Meaning", "Fault numbers": a whole file, for any edition of the format.
use Rattle.std.specs.Prelude.{Bool, true, false, cond, List, [], ◌∷◌, ◌++◌, map, ℕ, zero, suc, ◌+◌, ◌*◌, ◌/◌, length, take, drop}
use Rattle.rules.specs.Tests.{◌&◌, ◌≤?◌}
use Rattle.rules.specs.Fields.{Verdict, ok, fault, ◌⨾◌, check, run}
use Rattle.rules.specs.Records.{Meaning, Edition, judge_line, meaning, style, formed_line, permitted}

-- a verdict on a file: number, record, column
pub data Result : Type 0 where
  accept : Result
  refuse : (number place column : ℕ) → Result

unfoldable pub is_accept : Result → Bool
is_accept accept = true
is_accept (refuse n r c) = false

-- the fault of record r, or what comes after it
unfoldable pub in_record : ℕ → Verdict → Result → Result
in_record r ok next = next
in_record r (fault n c) next = refuse n r c

unfoldable pub and_then : Result → Result → Result
and_then accept q = q
and_then (refuse n r c) q = refuse n r c

-- ---- the lines: record i + 1 starts at byte 81 x i; the last line may be short
unfoldable pub line_at : List ℕ → ℕ → List ℕ
line_at f i = take 81 (drop (81 * i) f)

-- how many records have begun
unfoldable pub begun : List ℕ → ℕ
begun f = (length f + 80) / 81

unfoldable pub lines_from : List ℕ → ℕ → ℕ → List (List ℕ)
lines_from f zero i = []
lines_from f (suc n) i = line_at f i ∷ lines_from f n (i + 1)

unfoldable pub lines : List ℕ → List (List ℕ)
lines f = lines_from f (begun f) 0

unfoldable pub join : List (List ℕ) → List ℕ
join [] = []
join (l ∷ ls) = l ++ join ls

module _ {S : Type 0} (E : Edition S) where
  -- 01, "Meaning of a file: the list of its records so taken"
  unfoldable pub meanings : List ℕ → List Meaning
  meanings f = map (meaning E) (lines f)

  -- ---- the verdict
  -- what the records leave behind
  unfoldable pub passed : S → List Meaning → S
  passed s [] = s
  passed s (m ∷ ms) = passed (E.next s m) ms

  -- 01, "Order": record by record, 2 and then the line's own; 8 comes after the last record
  unfoldable pub walk : S → ℕ → List (List ℕ) → Result
  walk s r [] = cond (E.ends s) accept (refuse 8 r 1)
  walk s r (l ∷ ls) =
      let rest = walk (E.next s (meaning E l)) (r + 1) ls in
      in_record r (check (r ≤? 99_999) 2 1 ⨾ judge_line E s l) rest

  -- 01, "11 and 12, earliest record first, lowest column first", against the whole file
  unfoldable pub refer : List Meaning → ℕ → List Meaning → Result
  refer file r [] = accept
  refer file r (m ∷ ms) =
      let rest = refer file (r + 1) ms in
      in_record r (run (E.refs file r m)) rest

  -- 02, T-05: form and order, and references by themselves
  abbrev pub form_verdict : List ℕ → Result
  form_verdict f = walk E.start 1 (lines f)

  abbrev pub reference_verdict : List ℕ → Result
  reference_verdict f = refer (meanings f) 1 (meanings f)

  -- only a file with none of the others is judged for 11 and 12
  unfoldable pub verdict : List ℕ → Result
  verdict f = and_then (form_verdict f) (reference_verdict f)

  unfoldable pub accepted : List ℕ → Bool
  accepted f = is_accept (verdict f)

  -- ---- house style: a function of the meaning
  unfoldable pub styles : ℕ → List Meaning → List (List ℕ)
  styles r [] = []
  styles r (m ∷ ms) = style E r m ∷ styles (r + 1) ms

  unfoldable pub house_style : List Meaning → List ℕ
  house_style ms = join (styles 1 ms)

  unfoldable pub rewritten : List ℕ → List ℕ
  rewritten f = house_style (meanings f)

  -- ---- acceptance as a test of each line by itself and tests of the meaning
  unfoldable pub formed_lines : ℕ → List (List ℕ) → Bool
  formed_lines r [] = true
  formed_lines r (l ∷ ls) = r ≤? 99_999 & formed_line E l & formed_lines (r + 1) ls

  unfoldable pub orderly : S → List Meaning → Bool
  orderly s [] = E.ends s
  orderly s (m ∷ ms) = permitted E s m & orderly (E.next s m) ms
