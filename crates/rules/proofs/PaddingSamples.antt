-- 02, T-01: the padding step at the ends of lines, at its limits, and what it leaves. Written from the paper and not from the definitions.
use mathlib.Core.Path.{◌≡◌, refl, ap}
use mathlib.Core.List.{List, [], ◌∷◌, ◌++◌, map}
use Prim.Native.Nat.{ℕ}
use native.Mathlib.Omega.{arith}
use lib.ListN.{length, get_or, replicate}
use Rattle.rules.specs.Tests.{◌≤?◌, ◌=?◌}
use Rattle.rules.specs.Characters.{ascii}
use Rattle.rules.specs.Fields.{◌⨾◌, check}
use Rattle.rules.specs.Files.{Result, accept, refuse, is_accept, in_record, and_then, join}
use Rattle.rules.specs.Padding.{lf, crlf, closing, Line, line, behind, joined, lines_of, texts, padded_line, padded, judge_texts, pad_verdict, PadAnswer, pad_answer_by, pad_answer, pad_output}
use Rattle.rules.proofs.Edges.{lined}

-- ---- how a fact is computed
-- the verdict, with every definition that the step goes through
unfoldable pub judged_in : List ℕ → ℕ → Result
unfolding ascii lined ◌≤?◌ ◌=?◌ check ◌⨾◌ is_accept in_record and_then join line behind joined lines_of texts padded_line padded judge_texts pad_verdict pad_answer_by pad_answer pad_output
judged_in f room = pad_verdict f room

-- an input, the lines it is read as, and the padded file
abbrev Pads : List ℕ → List Line → List ℕ → Type 0
Pads f ls out = (lines_of f ≡ ls) × (padded f ≡ out)

-- a text of n bytes
abbrev text_of : ℕ → List ℕ
text_of n = replicate n 65

abbrev good : ℕ → PadAnswer
good n = record { number = 0; place = 0; column = 0; lines = n }

abbrev refused : ℕ → ℕ → ℕ → PadAnswer
refused n r c = record { number = n; place = r; column = c; lines = 0 }

-- ---- where a line ends
-- the empty input has no line and pads to nothing, and that is good with an empty output
pub empty_input : Pads [] [] [] × (pad_answer [] [] ≡ good 0) × (pad_output [] [] ≡ [])
unfolding judged_in
empty_input = ((refl, refl), refl, refl)

-- an LF alone is a line of 0 bytes, and opens no further line
pub lf_alone : Pads (ascii "\n") (line [] lf ∷ []) (lined "")
unfolding judged_in
lf_alone = (refl, refl)

-- so is a CR LF alone
pub cr_lf_alone : Pads (ascii "\r\n") (line [] crlf ∷ []) (lined "")
unfolding judged_in
cr_lf_alone = (refl, refl)

-- a CR at the very end of the input is no end: it is copied
pub cr_alone : Pads (ascii "\r") (line (ascii "\r") closing ∷ []) (lined "\r")
unfolding judged_in
cr_alone = (refl, refl)

-- bytes that follow the last LF are a line
pub without_end : Pads (ascii "A") (line (ascii "A") closing ∷ []) (lined "A")
unfolding judged_in
without_end = (refl, refl)

-- the end is no part of the line
pub with_lf : Pads (ascii "A\n") (line (ascii "A") lf ∷ []) (lined "A")
unfolding judged_in
with_lf = (refl, refl)

-- lines of one input may end in different ways
pub two_ends : Pads (ascii "A\r\nB") (line (ascii "A") crlf ∷ line (ascii "B") closing ∷ []) (lined "A" ++ lined "B")
unfolding judged_in
two_ends = (refl, refl)

-- of CR CR LF the last CR belongs to the end, the one before is copied
pub two_crs : Pads (ascii "\r\r\n") (line (ascii "\r") crlf ∷ []) (lined "\r")
unfolding judged_in
two_crs = (refl, refl)

-- a CR inside a line is copied
pub cr_inside : Pads (ascii "A\rB\n") (line (ascii "A\rB") lf ∷ []) (lined "A\rB")
unfolding judged_in
cr_inside = (refl, refl)

-- LF CR is an empty line, and a line of one CR
pub lf_cr : Pads (ascii "\n\r") (line [] lf ∷ line (ascii "\r") closing ∷ []) (lined "" ++ lined "\r")
unfolding judged_in
lf_cr = (refl, refl)

-- ---- how long a line may be
-- at most 80 bytes, whatever its end: 5 at column 81
pub widths :
    map (λ e. map (λ n. judged_in (text_of n ++ e) 81) (79 ∷ 80 ∷ 81 ∷ [])) (ascii "\n" ∷ ascii "\r\n" ∷ [] ∷ [])
    ≡ (accept ∷ accept ∷ refuse 5 1 81 ∷ []) ∷ (accept ∷ accept ∷ refuse 5 1 81 ∷ []) ∷ (accept ∷ accept ∷ refuse 5 1 81 ∷ []) ∷ []
unfolding judged_in
widths = refl

-- 79 bytes are filled with one blank, 80 with none
pub filled-widths :
    map (λ n. map (λ e. padded (text_of n ++ e)) (ascii "\n" ∷ ascii "\r\n" ∷ [] ∷ [])) (79 ∷ 80 ∷ [])
    ≡ replicate 3 (text_of 79 ++ ascii " \n") ∷ replicate 3 (text_of 80 ++ ascii "\n") ∷ []
unfolding judged_in
filled-widths = refl

-- a CR at the end of the input counts: with 79 bytes it is good, with 80 it is 5 at line 1
pub cr_counts : map (λ n. judged_in (text_of n ++ ascii "\r") 81) (79 ∷ 80 ∷ []) ≡ accept ∷ refuse 5 1 81 ∷ []
unfolding judged_in
cr_counts = refl

-- and so does the first CR of CR CR LF
pub first_cr_counts : map (λ n. judged_in (text_of n ++ ascii "\r\r\n") 81) (79 ∷ 80 ∷ []) ≡ accept ∷ refuse 5 1 81 ∷ []
unfolding judged_in
first_cr_counts = refl

-- ---- which refusal
-- line 99,999 is the last that may be there
pub line_99999 : map (λ n. judge_texts 99_999 (text_of n ∷ [])) (0 ∷ 80 ∷ 81 ∷ []) ≡ accept ∷ accept ∷ refuse 5 99_999 81 ∷ []
unfolding judged_in
line_99999 = refl

-- 2 before 5: a 100,000th line is 2, however long it is
pub line_100000 : map (λ n. judge_texts 100_000 (text_of n ∷ [])) (0 ∷ 80 ∷ 81 ∷ []) ≡ replicate 3 (refuse 2 100_000 1)
unfolding judged_in
line_100000 = refl

-- the earliest line first: 5 at line 99,999 goes before 2 at line 100,000
pub earliest_line : map (λ n. judge_texts 99_999 (text_of n ∷ [] ∷ [])) (80 ∷ 81 ∷ []) ≡ refuse 2 100_000 1 ∷ refuse 5 99_999 81 ∷ []
unfolding judged_in
earliest_line = refl

-- the record is the line's number: of two long lines the first
pub long_lines : judged_in (ascii "A\n" ++ (text_of 81 ++ (ascii "\r\n" ++ text_of 82))) 243 ≡ refuse 5 2 81
unfolding judged_in
long_lines = refl

-- 1 comes last: a long line with an empty output is 5
pub long_before_short : map (judged_in (text_of 81)) (0 ∷ 80 ∷ 81 ∷ []) ≡ replicate 3 (refuse 5 1 81)
unfolding judged_in
long_before_short = refl

-- 81 bytes for each line, whatever the input's length: one byte short is 1, exact is good
pub room_of_two_lem : map (judged_in (ascii "A\nB")) (0 ∷ 161 ∷ 162 ∷ 163 ∷ []) ≡ refuse 1 0 0 ∷ refuse 1 0 0 ∷ accept ∷ accept ∷ []
unfolding judged_in
room_of_two_lem = refl

-- ---- what is answered and left
-- the padded lines from the first byte on; the rest of the output stays
pub rest_stays :
    (pad_answer (ascii "A\r\nB") (replicate 164 7) ≡ good 2) × (pad_output (ascii "A\r\nB") (replicate 164 7) ≡ lined "A" ++ (lined "B" ++ (7 ∷ 7 ∷ [])))
unfolding judged_in
rest_stays = (refl, refl)

-- every refusal answers its number, record and column and 0 lines, and leaves the output
pub refusal_leaves : (f out : List ℕ) (n r c : ℕ) → pad_verdict f (length out) ≡ refuse n r c → (pad_answer f out ≡ refused n r c) × (pad_output f out ≡ out)
unfolding pad_answer pad_answer_by pad_output is_accept
refusal_leaves f out n r c e = (rw e, rw e)

-- 5, and 1 one byte short, leave the output
pub refusals-leave :
    (pad_output (ascii "A\n" ++ text_of 81) (replicate 162 7) ≡ replicate 162 7) × (pad_output (ascii "A\nB") (replicate 161 7) ≡ replicate 161 7)
unfolding judged_in
refusals-leave = (refl, refl)

-- ---- padding is not settled where a CR is copied into column 80: it stands before the line feed, and is part of the end when it is padded again
abbrev cr_in_80 : List ℕ
cr_in_80 = text_of 79 ++ ascii "\r\r\n"

-- once: the copied CR; twice: a blank
pub padded_twice : (padded cr_in_80 ≡ text_of 79 ++ ascii "\r\n") × (padded (padded cr_in_80) ≡ text_of 79 ++ ascii " \n")
unfolding judged_in
padded_twice = (refl, refl)

-- which are not the same
pub not-settled : padded (padded cr_in_80) ≡ padded cr_in_80 → ⊥
unfolding judged_in
not-settled e = omega (arith, ap (λ l. get_or l 79 0) e)
