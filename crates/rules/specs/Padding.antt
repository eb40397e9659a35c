-- 02, T-01, "Deposits with trimmed lines": the lines of an input, the padded file, and what the padding step answers and leaves.
use Rattle.std.specs.Prelude.{◌≡◌, ◌⊎◌, cond, List, [], ◌∷◌, ◌++◌, map, ℕ, ◌+◌, ◌-◌, ◌*◌, ◌≤◌, ◌<◌, length, drop, replicate, get_or}
use Rattle.rules.specs.Tests.{◌≤?◌, ◌=?◌}
use Rattle.rules.specs.Members.{◌∈◌}
use Rattle.rules.specs.Fields.{◌⨾◌, check}
use Rattle.rules.specs.Files.{Result, accept, refuse, is_accept, in_record, and_then, join}

-- ---- the lines of an input: "a line ends with LF or CR LF, or at the end of the input if bytes follow the last LF"
pub data End : Type 0 where
  lf : End
  crlf : End
  closing : End  -- the end of the input

-- the end is no part of the line
pub record Line : Type 0 where
  pub text : List ℕ
  pub end : End

-- the bytes of an end, and of lines with their ends
unfoldable pub end_bytes : End → List ℕ
end_bytes lf = 10 ∷ []
end_bytes crlf = 13 ∷ 10 ∷ []
end_bytes closing = []

unfoldable pub bytes_of : List Line → List ℕ
bytes_of [] = []
bytes_of (l ∷ ls) = l.text ++ (end_bytes l.end ++ bytes_of ls)

-- how a line may end before the lines ls: a CR before an LF belongs to the end; bytes that follow the last LF are the last line
unfoldable pub EndsBefore : List ℕ → End → List Line → Type 0
EndsBefore t lf ls = (x : List ℕ) → t ≡ x ++ (13 ∷ []) → ⊥
EndsBefore t crlf ls = Unit {0}
EndsBefore t closing ls = (t ≡ [] → ⊥) × (ls ≡ [])

-- no text holds an LF, and each line may end as it does
unfoldable pub Lined : List Line → Type 0
Lined [] = Unit {0}
Lined (l ∷ ls) = (10 ∈ l.text → ⊥) × EndsBefore l.text l.end ls × Lined ls

-- which lists of lines, with which ends, are a reading of the input: exactly one is
pub record Reads (f : List ℕ) (ls : List Line) : Type 0 where
  pub every_byte : f ≡ bytes_of ls
  pub lined : Lined ls

-- ---- that one as a function, byte by byte from the last
unfoldable pub line : List ℕ → End → Line
line t e = record { text = t; end = e }

-- a byte that is no LF stands before a line: it is the line's, and a CR before a bare LF is the end's
unfoldable pub behind : ℕ → List ℕ → End → Line
behind b [] lf = cond (b =? 13) (line [] crlf) (line (b ∷ []) lf)
behind b [] crlf = line (b ∷ []) crlf
behind b [] closing = line (b ∷ []) closing
behind b (c ∷ t) e = line (b ∷ c ∷ t) e

-- the same before lines; before none it is a line that ends with the input
unfoldable pub joined : ℕ → List Line → List Line
joined b [] = line (b ∷ []) closing ∷ []
joined b (l ∷ ls) = behind b l.text l.end ∷ ls

unfoldable pub lines_of : List ℕ → List Line
lines_of [] = []
lines_of (b ∷ bs) = let rest = lines_of bs in cond (b =? 10) (line [] lf ∷ rest) (joined b rest)

-- the lines without their ends
unfoldable pub texts : List ℕ → List (List ℕ)
texts f = map (λ l. l.text) (lines_of f)

-- ---- the padded file: each line "is filled with blanks to 80", "each with one line feed"
unfoldable pub padded_line : List ℕ → List ℕ
padded_line t = t ++ (replicate (80 - length t) 32 ++ (10 ∷ []))

unfoldable pub padded : List ℕ → List ℕ
padded f = join (map padded_line (texts f))

-- ---- the verdict: "by line, 2 at the 100,000th (column 1) and 5 at a line above 80 bytes (column 81), the earliest line first and 2 before 5; then 1"
unfoldable pub judge_texts : ℕ → List (List ℕ) → Result
judge_texts r [] = accept
judge_texts r (t ∷ ts) =
    let rest = judge_texts (r + 1) ts in
    in_record r (check (r ≤? 99_999) 2 1 ⨾ check (length t ≤? 80) 5 81) rest

unfoldable pub pad_verdict : List ℕ → ℕ → Result
pad_verdict f room = and_then (judge_texts 1 (texts f)) (cond (81 * length (texts f) ≤? room) accept (refuse 1 0 0))

-- which faults an input has, with room for so many bytes: number, record, column
unfoldable pub PadFaults : List ℕ → ℕ → (n r c : ℕ) → Type 0
PadFaults f room n r c =
    ((i : ℕ) × (i < length (texts f)) × (r ≡ i + 1)
    × (((100_000 ≤ r) × (n ≡ 2) × (c ≡ 1)) ⊎ ((80 < length (get_or (texts f) i [])) × (n ≡ 5) × (c ≡ 81))))
    ⊎ ((room < 81 * length (texts f)) × (n ≡ 1) × (r ≡ 0) × (c ≡ 0))

-- the order: 1 comes last; else the earliest line, and 2 before 5
unfoldable pub PadPrecedes : (n r n' r' : ℕ) → Type 0
PadPrecedes n r n' r' = (n' ≡ 1) ⊎ ((n ≡ 1 → ⊥) × ((r < r') ⊎ ((r ≡ r') × (n ≤ n'))))

-- a verdict is the first of them: there is none, or it is one of them and no other comes before it
unfoldable pub PadFirst : List ℕ → ℕ → Result → Type 0
PadFirst f room accept = (n r c : ℕ) → PadFaults f room n r c → ⊥
PadFirst f room (refuse n r c) = PadFaults f room n r c × ((n' r' c' : ℕ) → PadFaults f room n' r' c' → PadPrecedes n r n' r')

-- ---- the call: the number of lines, or number, record and column and 0 lines
pub record PadAnswer : Type 0 where
  pub number : ℕ
  pub place : ℕ
  pub column : ℕ
  pub lines : ℕ

unfoldable pub pad_answer_by : Result → ℕ → PadAnswer
pad_answer_by accept n = record { number = 0; place = 0; column = 0; lines = n }
pad_answer_by (refuse n r c) m = record { number = n; place = r; column = c; lines = 0 }

unfoldable pub pad_answer : List ℕ → List ℕ → PadAnswer
pad_answer f out = pad_answer_by (pad_verdict f (length out)) (length (texts f))

-- the padded lines from the first byte on; the rest of the output stays, and all of it after a refusal
unfoldable pub pad_output : List ℕ → List ℕ → List ℕ
pad_output f out = cond (is_accept (pad_verdict f (length out))) (padded f ++ drop (81 * length (texts f)) out) out

-- ---- inputs that differ only in trimming and line ends
-- two texts differ only in trailing blanks: one is the other with blanks behind it
unfoldable pub Alike : List ℕ → List ℕ → Type 0
Alike t u = (n : ℕ) × ((t ≡ u ++ replicate n 32) ⊎ (u ≡ t ++ replicate n 32))

-- as many lines, and line by line alike
unfoldable pub OnlyTrimmed : List ℕ → List ℕ → Type 0
OnlyTrimmed f g =
    (length (texts f) ≡ length (texts g))
    × ((i : ℕ) → i < length (texts f) → Alike (get_or (texts f) i []) (get_or (texts g) i []))
