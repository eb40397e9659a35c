-- Each call's promise, for each way through it. What the inner calls promise is cited here and in Places.
use mathlib.Core.Path.{◌≡◌, ◌∙◌, ap}
use mathlib.Core.List.{List, ◌++◌}
use Prim.Native.Nat.{ℕ, ◌+◌, ◌-◌, ◌*◌, ◌≤◌, ◌<◌}
use lib.ListN.{length, drop, set}
use lib.IntN.{ℤ}
use Rattle.rules.specs.Calls.{form_answer, references_answer, references_table, rewrite_answer, rewrite_table, rewrite_output, read_of, field_of, write_verdict, write_output}
use Rattle.rules.specs.Padding.{pad_answer, pad_output}
use Rattle.rules.specs.Pulling.{pull_answer, pull_output, pull_faults}
use Rattle.std.specs.Prelude.{Result, Option}
use Rattle.kinds.specs.declared.Record.{Record}
use Rattle.kinds.specs.declared.Fault.{Fault}
use Rattle.kinds.specs.Values.{kind_number, meaning_of, checked_of, fault_of, reading_of, written_of}
use Rattle.padding.specs.Promise.{padded_of}
use Rattle.pulling.specs.Promise.{pulled_of}
use Rattle.answers.specs.Answers.{touched, fault_words, fault_in, checked_words, padded_words}
use Rattle.answers.specs.Words.{read_words}
use Rattle.answers.specs.Given.{given, sequence_given, written_words}
use Rattle.answers.specs.Promise.{Forms, Refers, Rewrites, Pads, Pulls, Reads, Finds, words_verdict, words_output, Writes}
use Rattle.export.proofs.AnswerLaws.{short_answer, long_answer, untouched, long_touched, checked_answer, field_none, field_some}
use Rattle.export.proofs.WordLaws.{read_answer}
use Rattle.export.proofs.GivenLaws.{write_answer, write_left}
use Rattle.columns.specs.Types.{count_value}

-- ---- too short an answer
module _ (a : List ℕ) where
  pub short_form : length a < 17 → (f : List ℕ) → Forms f a a
  short_form h f = record { answer = short_answer 17 a h _ }

  pub short_references : length a < 3 → (f t : List ℕ) → Refers f t a t a
  short_references h f t = let same : t ≡ touched 3 a (references_table f t) t = untouched 3 a h _ t in record { answer = short_answer 3 a h _; table = cc }

  pub short_rewrite : length a < 17 → (f t o : List ℕ) → Rewrites f t o a t o a
  short_rewrite h f t o = record { answer = short_answer 17 a h _; table = untouched 17 a h _ t; out = untouched 17 a h _ o }

  pub short_pad : length a < 4 → (f o : List ℕ) → Pads f o a o a
  short_pad h f o = record { answer = short_answer 4 a h _; out = untouched 4 a h _ o }

  pub short_pull : length a < 3 → (f rs o s : List ℕ) → Pulls f rs o s a o s a
  short_pull h f rs o s = record { answer = short_answer 3 a h _; out = untouched 3 a h _ o; faults = untouched 3 a h _ s }

  pub short_field : length a < 2 → (f : List ℕ) (r c : ℕ) → Finds f r c a a
  short_field h f r c = record { answer = short_answer 2 a h _ }

  pub short_write : length a < 3 → (o : List ℕ) (ws : List ℤ) (x y z : List ℕ) → Writes o ws x y z a o a
  short_write h o ws x y z = let same : o ≡ touched 3 a (words_output ws x y z o) o = untouched 3 a h _ o in record { answer = short_answer 3 a h _; out = cc }

pub short_read : (a : List ℤ) → length a < 32 → (f : List ℕ) (r : ℕ) → Reads f r a a
short_read a h f r = record { answer = short_answer 32 a h _ }

-- ---- one that is long enough, by what the inner call promises
pub long_form : (f a : List ℕ) → 17 ≤ length a → (v : Result (List ℕ) Fault) → v ≡ checked_of (form_answer f) → (w : List ℕ) → w ≡ checked_words v → Forms f a (w ++ drop 17 a)
long_form f a h v p w e = record { answer = checked_answer a h v _ p w e }

pub long_references : (f t a : List ℕ) → 3 ≤ length a → (v : Result (Unit {0}) Fault) → v ≡ fault_of (references_answer f t) → (u : List ℕ) → u ≡ references_table f t
    → {g : Fault} → g ≡ fault_in v → (w : List ℕ) → w ≡ fault_words g → Refers f t a u (w ++ drop 3 a)
long_references f t a h v p u q z w e =
    let same : u ≡ touched 3 a (references_table f t) t = long_touched 3 a h u _ t q in record { answer = long_answer 3 a h w _ (e ∙ ap fault_words (z ∙ ap fault_in p)); table = cc }

pub long_rewrite : (f t o a : List ℕ) → 17 ≤ length a → (v : Result (List ℕ) Fault) → v ≡ checked_of (rewrite_answer f t o) → (u : List ℕ) → u ≡ rewrite_table f t o
    → (p : List ℕ) → p ≡ rewrite_output f t o → (w : List ℕ) → w ≡ checked_words v → Rewrites f t o a u p (w ++ drop 17 a)
long_rewrite f t o a h v x u y p z w e = record { answer = checked_answer a h v _ x w e; table = long_touched 17 a h u _ t y; out = long_touched 17 a h p _ o z }

pub long_pad : (f o a : List ℕ) → 4 ≤ length a → (v : Result ℕ Fault) → v ≡ padded_of (pad_answer f o) → (p : List ℕ) → p ≡ pad_output f o
    → (w : List ℕ) → w ≡ padded_words v → Pads f o a p (w ++ drop 4 a)
long_pad f o a h v x p y w e = record { answer = long_answer 4 a h w _ (e ∙ ap padded_words x); out = long_touched 4 a h p _ o y }

pub long_pull : (f rs o s a : List ℕ) → 3 ≤ length a → (v : Result (Unit {0}) Fault) → v ≡ pulled_of (pull_answer rs o s) → (p : List ℕ) → p ≡ pull_output f rs o s
    → (q : List ℕ) → q ≡ pull_faults f rs o s → {g : Fault} → g ≡ fault_in v → (w : List ℕ) → w ≡ fault_words g → Pulls f rs o s a p q (w ++ drop 3 a)
unfolding pulled_of
long_pull f rs o s a h v x p y q z k w e =
    record { answer = long_answer 3 a h w _ (e ∙ ap fault_words (k ∙ ap fault_in x)); out = long_touched 3 a h p _ o y; faults = long_touched 3 a h q _ s z }

pub long_read : (f : List ℕ) (r : ℕ) (a : List ℤ) → 32 ≤ length a → (v : Result (Option ℕ × Record) Fault) → v ≡ reading_of (read_of f r) → (w : List ℤ) → w ≡ read_words v → Reads f r a (w ++ drop 32 a)
long_read f r a h v p w e = record { answer = read_answer a h v _ p w e }

module _ (f : List ℕ) (r c : ℕ) (a : List ℕ) (h : 2 ≤ length a) (p : List ℕ) (e : p ≡ field_of f r c) where
  pub none_found : length p ≡ 0 → Finds f r c a (set (set a 0 0) 1 0)
  none_found z = record { answer = field_none f r c a h p e z }

  pub some_found : (length p ≡ 0 → ⊥) → Finds f r c a (set (set a 0 (81 * (r - 1) + (c - 1))) 1 (length p))
  some_found z = record { answer = field_some f r c a h p e z }

pub long_write : (o : List ℕ) (ws : List ℤ) (x y z a : List ℕ) → 3 ≤ length a → (s : Option ℕ) → s ≡ sequence_given ws → (r : Record) → r ≡ given ws
    → (v : Result (Unit {0}) Fault) → v ≡ written_of (write_verdict (length o) (kind_number r) (count_value s) (meaning_of r x y z))
    → (p : List ℕ) → p ≡ write_output (kind_number r) (count_value s) (meaning_of r x y z) o
    → {g : Fault} → g ≡ fault_in v → (w : List ℕ) → w ≡ fault_words g → Writes o ws x y z a p (w ++ drop 3 a)
unfolding words_verdict words_output
long_write o ws x y z a h s i r j v k p l q w e =
    let same : p ≡ touched 3 a (words_output ws x y z o) o = write_left ws x y z a r s h i j o p l in
    record { answer = write_answer ws x y z a r s h i j (length o) v w k (e ∙ (unfold written_words in ap fault_words q)); out = cc }
