-- The walk over the records, and what it leaves in the table.
use Rattle.std.specs.Prelude.{◌≡◌, true, cond, List, ℕ, length, get_or, Result, Ok, Err}
use Rattle.rules.specs.Tests.{◌≤?◌}
use Rattle.rules.specs.Fields.{Verdict, ok, fault, check, ◌⨾◌}
use Rattle.rules.specs.Records.{Edition, Meaning, code_at, judge_line, bytes}
use Rattle.rules.specs.Kinds.{kind_of}
use Rattle.rules.specs.Order.{last_job, goto}
use Rattle.rules.specs.Files as files
use Rattle.rules.specs.Files.{accept, refuse, is_accept, meanings, form_verdict, verdict}
use Rattle.rules.specs.References.{words, counts, filled}
use Rattle.rules.specs.Chapter4.{ordered, chapter4}
use Rattle.kinds.specs.declared.Flaw.{Flaw}
use Rattle.kinds.specs.declared.Fault.{Fault}
use Rattle.walk.specs.declared.kept.Kept.{Kept}
use Rattle.walk.specs.Keeping.{past_of, moved_of}
use Rattle.walk.specs.Words.{no_words, lead_in}

-- a verdict on a file with the counts of its records
unfoldable pub answer_of : files.Result → List Meaning → Result (List ℕ) Fault
answer_of accept ms = Ok (counts ms)
answer_of (refuse n r c) ms = Err record { number = n; «record» = r; column = c }

-- 01, "Order": 2, then the line's own, by any rows; where a file ends makes no difference to a line
unfoldable pub judge_at : (rows : List (List ℕ)) → Kept → ℕ → List ℕ → Verdict
judge_at rows s r l = check (r ≤? 99_999) 2 1 ⨾ judge_line (ordered rows last_job) (past_of s) l

-- the same of a record whose code is of no kind
unfoldable pub unknown_at : ℕ → List ℕ → Verdict
unknown_at r l = check (r ≤? 99_999) 2 1 ⨾ bytes 80 1 l ⨾ fault 6 7

-- where record r of a file stands in it: its own fault, or what is kept after it
unfoldable pub stepped : Verdict → Kept → Result Kept Flaw
stepped ok s = Ok s
stepped (fault n c) s = Err record { number = n; column = c }

unfoldable pub step_of : (rows : List (List ℕ)) → Kept → ℕ → List ℕ → Result Kept Flaw
step_of rows s r l =
    let k = kind_of (code_at l) in
    stepped (judge_at rows s r l) (moved_of s (goto rows s.place k) k (get_or l 7 0) (get_or l 8 0) (lead_in k l))

-- what the walk answers of a file, and the words t that it leaves of t₀; after a fault they are not looked at again
pub record Walked {S : Type 0} (E : Edition S) (f : List ℕ) (v : Result (List ℕ) Fault) (t₀ t : List ℕ) : Type 0 where
  pub first : v ≡ answer_of (form_verdict E f) (meanings E f)
  pub size : length t ≡ length t₀
  pub filling : is_accept (form_verdict E f) ≡ true → t ≡ filled 1 (meanings E f) t₀

-- a refusal leaves zeros
unfoldable pub settled_of : Result (Unit {0}) Fault → List ℕ → List ℕ
settled_of (Ok x) t = t
settled_of (Err g) t = no_words

-- the first 12,000 words in the end
unfoldable pub table_after : List ℕ → List ℕ
table_after f = cond (is_accept (verdict chapter4 f)) (words (meanings chapter4 f)) no_words
