-- What rewrite promises of its answer v, the table u that it leaves of t and the output p that it leaves of o; demands 1 and 2 said of them;
-- and demand 3 of two runs.
use Rattle.std.specs.Prelude.{◌≡◌, ◌↔◌, List, [], map, ℕ, ◌+◌, ◌*◌, ◌≤◌, ◌<◌, length, take, drop, get_or, pos, Result, IsOk, IsErr}
use Rattle.rules.specs.Items.{num, value_of}
use Rattle.rules.specs.Records.{sequence, code_at}
use Rattle.rules.specs.Kinds.{kind_of}
use Rattle.rules.specs.Files.{lines, meanings}
use Rattle.rules.specs.Files as files
use Rattle.rules.specs.Faults.{FirstOf, CallFaults}
use Rattle.rules.specs.Calls.{rewrite_room, rewrite_answer, rewrite_table, rewrite_output}
use Rattle.rules.specs.Chapter4.{chapter4}
use Rattle.kinds.specs.declared.Fault.{Fault}
use Rattle.kinds.specs.Values.{checked_of}
use Rattle.walk.specs.Promise as walk

pub record Promised (f t o : List ℕ) (v : Result (List ℕ) Fault) (u p : List ℕ) : Type 0 where
  pub answered : v ≡ checked_of (rewrite_answer f t o)
  pub left : u ≡ rewrite_table f t o
  pub written : p ≡ rewrite_output f t o

-- demand 1: as of form and references together, and every refusal leaves the output as it was
pub record Refusing (t o : List ℕ) (v : Result (List ℕ) Fault) (u p : List ℕ) : Type 0 where
  pub as_both : walk.Refusing t v u
  pub unwritten : IsErr v → p ≡ o

-- demand 2: the first fault in the paper's order and no other, 1 where the table or the output is too short; accepted only with room, and
-- with an output as long as the file all that demand 2 says of form and references together
pub record Judging (f t o : List ℕ) (v : Result (List ℕ) Fault) (u : List ℕ) : Type 0 where
  pub first : FirstOf (CallFaults chapter4 (rewrite_room f t o) f) (walk.named v)
  pub unique : (w : files.Result) → FirstOf (CallFaults chapter4 (rewrite_room f t o) f) w → w ≡ walk.named v
  pub room : IsOk v → (12_000 ≤ length t) × (length f ≤ length o)
  pub as_both : length f ≤ length o → walk.Judging f t v u

-- a run that took the file f
pub record Run (f : List ℕ) : Type 0 where
  pub table : List ℕ
  pub output : List ℕ
  pub answer : Result (List ℕ) Fault
  pub table_left : List ℕ
  pub output_left : List ℕ
  pub promised : Promised f table output answer table_left output_left
  pub accepted : IsOk answer

-- the rewritten file: as many bytes as the file had
unfoldable pub styled : {f : List ℕ} → Run f → List ℕ
styled {f} run = take (length f) run.output_left

-- demand 3 of a run over a and one over b
pub record Rewrites (a b : List ℕ) (x : Run a) (y : Run b) : Type 0 where
  -- the same bytes exactly when the files mean the same
  pub same : (styled x ≡ styled y) ↔ (meanings chapter4 a ≡ meanings chapter4 b)
  -- what was rewritten means what its source meant, with as many records and the same kind at each place, record r numbered 10 x r
  pub means : meanings chapter4 (styled x) ≡ meanings chapter4 a
  pub as_many : length (lines (styled x)) ≡ length (lines a)
  pub as_long : length (styled x) ≡ length a
  pub kinds : map (λ l. kind_of (code_at l)) (lines (styled x)) ≡ map (λ l. kind_of (code_at l)) (lines a)
  pub numbered : (i : ℕ) → i < length (lines a) → value_of sequence (take 6 (get_or (lines (styled x)) i [])) ≡ num (pos (10 * (1 + i)))
  -- bytes of the output behind it stay
  pub beyond : drop (length a) x.output_left ≡ drop (length a) x.output
  -- form and, with a full-size table, references accept it, with the counts and the words of its source
  pub accepted_again : (t : List ℕ) (v : Result (List ℕ) Fault) (w : Result (Unit {0}) Fault) (u : List ℕ) → 12_000 ≤ length t → walk.FormPromised (styled x) v → walk.ReferencesPromised (styled x) t w u
      → (v ≡ x.answer) × IsOk w × (take 12_000 u ≡ take 12_000 x.table_left)
  -- every rewriting of it with room and a full-size table leaves the same bytes
  pub settled : (t o : List ℕ) (v : Result (List ℕ) Fault) (u p : List ℕ) → 12_000 ≤ length t → length a ≤ length o → Promised (styled x) t o v u p
      → take (length a) p ≡ styled x
