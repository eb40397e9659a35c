-- The promise of each call: what it leaves in all that is lent to it, by what stood there before. The calls' `ensures` cite these records.
use Rattle.std.specs.Prelude.{◌≡◌, List, ℕ, length, ℤ}
use Rattle.rules.specs.Fields.{Verdict}
use Rattle.rules.specs.Calls.{form_answer, references_answer, references_table, rewrite_answer, rewrite_table, rewrite_output, read_of, write_verdict, write_output}
use Rattle.rules.specs.Padding.{pad_answer, pad_output}
use Rattle.rules.specs.Pulling.{pull_answer, pull_output, pull_faults}
use Rattle.kinds.specs.Values.{kind_number, meaning_of, checked_of, fault_of, reading_of, written_of}
use Rattle.padding.specs.Promise.{padded_of}
use Rattle.answers.specs.Answers.{answered, touched, fault_words, fault_in, checked_words, padded_words, field_words}
use Rattle.answers.specs.Words.{read_words}
use Rattle.answers.specs.Given.{given, sequence_given, written_words}
use Rattle.columns.specs.Types.{count_value}

-- of a file f and an answer a: the answer b
pub record Forms (f a b : List ℕ) : Type 0 where
  pub answer : b ≡ answered 17 (checked_words (checked_of (form_answer f))) a

-- and of a table t: the table u
pub record Refers (f t a u b : List ℕ) : Type 0 where
  pub answer : b ≡ answered 3 (fault_words (fault_in (fault_of (references_answer f t)))) a
  pub table : u ≡ touched 3 a (references_table f t) t

-- and of an output o: the output p
pub record Rewrites (f t o a u p b : List ℕ) : Type 0 where
  pub answer : b ≡ answered 17 (checked_words (checked_of (rewrite_answer f t o))) a
  pub table : u ≡ touched 17 a (rewrite_table f t o) t
  pub out : p ≡ touched 17 a (rewrite_output f t o) o

-- of an input f and an output o
pub record Pads (f o a p b : List ℕ) : Type 0 where
  pub answer : b ≡ answered 4 (padded_words (padded_of (pad_answer f o))) a
  pub out : p ≡ touched 4 a (pad_output f o) o

-- of a file f, a list rs of record numbers, an output o and a fault list s: the output p and the fault list q
pub record Pulls (f rs o s a p q b : List ℕ) : Type 0 where
  pub answer : b ≡ answered 3 (fault_words (fault_in (fault_of (pull_answer rs o s)))) a
  pub out : p ≡ touched 3 a (pull_output f rs o s) o
  pub faults : q ≡ touched 3 a (pull_faults f rs o s) s

-- of a file f and record r
pub record Reads (f : List ℕ) (r : ℕ) (a b : List ℤ) : Type 0 where
  pub answer : b ≡ answered 32 (read_words (reading_of (read_of f r))) a

-- and column c
pub record Finds (f : List ℕ) (r c : ℕ) (a b : List ℕ) : Type 0 where
  pub answer : b ≡ answered 2 (field_words f r c) a

-- the verdict on values ws and texts x y z, with room for so many bytes
unfoldable pub words_verdict : ℕ → List ℤ → (x y z : List ℕ) → Verdict
words_verdict room ws x y z = write_verdict room (kind_number (given ws)) (count_value (sequence_given ws)) (meaning_of (given ws) x y z)

unfoldable pub words_output : List ℤ → (x y z : List ℕ) → List ℕ → List ℕ
words_output ws x y z o = write_output (kind_number (given ws)) (count_value (sequence_given ws)) (meaning_of (given ws) x y z) o

-- of an output o, values ws and texts x y z
pub record Writes (o : List ℕ) (ws : List ℤ) (x y z a p b : List ℕ) : Type 0 where
  pub answer : b ≡ answered 3 (written_words (written_of (words_verdict (length o) ws x y z))) a
  pub out : p ≡ touched 3 a (words_output ws x y z o) o
