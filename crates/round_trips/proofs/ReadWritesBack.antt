-- What is read can be written: of the calls, from the promises of read, field and write alone.
use mathlib.Core.Path.{◌≡◌, refl, sym, ap, ◌∙◌}
use mathlib.Core.Bool.{true}
use mathlib.Core.List.{List, [], ◌++◌}
use Prim.Native.Nat.{ℕ, ◌-◌, ◌≤◌}
use native.Mathlib.Omega.{arith}
use lib.ListN.{length, get_or, take, drop}
use lib.IntN.{pos, negsuc}
use Rattle.std.specs.Prelude.{Result, Ok, Err, Option}
use Rattle.rules.specs.Tests.{◌&◌, ◌≤?◌, within}
use Rattle.rules.specs.Items.{Value, gap, missing, num, text, label, value_of, fits, on_number}
use Rattle.rules.specs.Fields.{Verdict, ok, fault, check, is_ok}
use Rattle.rules.specs.Records.{sequence, code_at, read_line, meaning, judge_given, line_of, formed_line, meant}
use Rattle.rules.specs.Kinds.{kind_of, known}
use Rattle.rules.specs.Layouts.{layout}
use Rattle.rules.specs.Files.{line_at, begun}
use Rattle.rules.specs.Calls.{read_as, read_of, write_verdict, write_output}
use Rattle.rules.specs.Chapter4.{chapter4}
use Rattle.rules.proofs.Truth.{both, and, of≤, to≤, cases}
use Rattle.rules.proofs.Lawful.{good-fits}
use Rattle.rules.proofs.FieldLaws.{is_ok_⨾, is_ok_check}
use Rattle.rules.proofs.RecordLaws.{read_line_splits, line_meant, line_numbered}
use Rattle.rules.proofs.RecordLaws as laws
use Rattle.kinds.specs.declared.Record.{Record}
use Rattle.kinds.specs.declared.Fault.{Fault}
use Rattle.kinds.specs.Values.{kind_number, record_from, record_of, meaning_of, reading_of, written_of}
use Rattle.kinds.proofs.ValueLaws.{same_values}
use Rattle.kinds.proofs.TableLaws.{each_kind}
use Rattle.reading.specs.Promise.{PromisedReading, PromisedPart}
use Rattle.writing.specs.Promise.{Promised}
use Rattle.round_trips.specs.Texts.{text_columns, text_at}
use Rattle.round_trips.proofs.MeaningBack.{texts_of, meaning_back}
use Rattle.round_trips.proofs.TextsBack.{text_in_line}
use Rattle.columns.specs.Types.{count_of, count_value}

-- a sequence number by way of its type
number_back : (v : Value) → fits sequence v ≡ true → count_value (count_of v) ≡ v
unfolding sequence fits on_number count_value count_of
number_back gap h = cc
number_back missing h = refl
number_back (num (pos n)) h = refl
number_back (num (negsuc n)) h = cc
number_back (text t) h = cc
number_back (label m d y s t) h = cc

-- the record of a kind is of that kind
kind_from_lem : (k : ℕ) (c : List ℕ) (v : ℕ → Value) → k ≤ 13 → kind_number (record_from k c v) ≡ k
unfolding kind_number record_from
kind_from_lem k c v h = each_kind (λ k. kind_number (record_from k c v) ≡ k) refl refl refl refl refl refl refl refl refl refl refl refl refl refl k (omega (arith, h))

-- ---- read's answer, taken apart
module _ (s : Option ℕ) (w : Record) where
  record Taken (l : List ℕ) (v : Verdict) : Type 0 where
    pub reads : is_ok v ≡ true
    pub number : s ≡ count_of (value_of sequence (take 6 l))
    pub values : w ≡ record_of (meaning chapter4 l)

  taken_as_lem : (n : ℕ) (l : List ℕ) (v : Verdict) → Ok (s, w) ≡ reading_of (read_as n l v) → Taken l v
  unfolding read_as reading_of is_ok
  taken_as_lem n l ok e = let p = same_values e in record { reads = refl; number = p.0; values = p.1 }
  taken_as_lem n l (fault a b) e = record { reads = cc; number = cc; values = cc }

  begun_there : (file : List ℕ) (n : ℕ) → Ok (s, w) ≡ reading_of (read_of file n) → within 1 99_999 n & n ≤? begun file ≡ true
  unfolding read_of reading_of
  begun_there file n e =
      cases (within 1 99_999 n & n ≤? begun file)
      (λ h. h)
      (λ h. let clash : Ok (s, w) ≡ Err record { number = 13; «record» = n; column = 0 } = e ∙ rw h refl in cc)

  taken : (file : List ℕ) (n : ℕ) → Ok (s, w) ≡ reading_of (read_of file n) → Taken (line_at file (n - 1)) (read_line chapter4 (line_at file (n - 1)))
  unfolding read_of
  taken file n e = taken_as_lem n (line_at file (n - 1)) (read_line chapter4 (line_at file (n - 1))) (e ∙ rw (begun_there file n e) refl)

module _ (file : List ℕ) (n : ℕ) (s : Option ℕ) (w : Record) (was_read : PromisedReading file n (Ok (s, w))) where
  abbrev line : List ℕ
  line = line_at file (n - 1)

  promised : Ok (s, w) ≡ reading_of (read_of file n)
  promised = was_read.answered

  reads : is_ok (read_line chapter4 line) ≡ true
  reads = (taken s w file n promised).reads

  is_formed_lem : formed_line chapter4 line ≡ true
  is_formed_lem = (both (sym (read_line_splits chapter4 line) ∙ reads)).0

  same_number : count_value s ≡ value_of sequence (take 6 line)
  same_number =
      ap count_value (taken s w file n promised).number
      ∙ number_back (value_of sequence (take 6 line)) (good-fits sequence (take 6 line) (line_numbered chapter4 line is_formed_lem))

  same_kind : kind_number w ≡ kind_of (code_at line)
  unfolding record_of meaning meant known
  same_kind =
      ap kind_number (taken s w file n promised).values
      ∙ kind_from_lem (kind_of (code_at line)) (code_at line) (λ i. get_or (meaning chapter4 line).values i gap) (to≤ (both (line_meant chapter4 line is_formed_lem)).0)

  -- the record's texts, as field gives them at their columns
  pub same_text : (i : ℕ) → get_or (texts_of (meaning chapter4 line)) i [] ≡ text_at file n w i
  unfolding text_at
  same_text i = text_in_line file n (begun_there s w file n promised) reads i ∙ (unfold text_columns layout in rw same_kind refl)

  module _ (x y z : List ℕ) (first : x ≡ text_at file n w 0) (second : y ≡ text_at file n w 1) (third : z ≡ text_at file n w 2) where
    same_meaning : meaning_of w x y z ≡ meaning chapter4 line
    same_meaning =
        rw (first, second, third, ← same_text 0, ← same_text 1, ← same_text 2, (taken s w file n promised).values)
        (meaning_back (meaning chapter4 line) (line_meant chapter4 line is_formed_lem))

    -- with room for a record, the values and texts that were read are taken
    is_taken : (out : List ℕ) → 81 ≤ length out → is_ok (write_verdict (length out) (kind_number w) (count_value s) (meaning_of w x y z)) ≡ true
    unfolding write_verdict
    is_taken out room =
        rw (same_kind, same_number, same_meaning)
        (is_ok_⨾ (check (81 ≤? length out) 1 0) (judge_given chapter4 (kind_of (code_at line)) (value_of sequence (take 6 line)) (meaning chapter4 line))
        ∙ and (is_ok_check (81 ≤? length out) 1 0 ∙ of≤ room) (laws.read_writes_back chapter4 line reads))

    is_done : (v : Verdict) → is_ok v ≡ true → written_of v ≡ Ok tt
    unfolding is_ok written_of
    is_done ok h = refl
    is_done (fault a b) h = cc

    is_written : (out : List ℕ) → 81 ≤ length out → (r : Result (Unit {0}) Fault) (left : List ℕ) → Promised s w x y z out r left
        → (r ≡ Ok tt) × (left ≡ line_of chapter4 (value_of sequence (take 6 line)) (meaning chapter4 line) ++ drop 81 out)
    unfolding write_output
    is_written out room r left p =
        (p.answer ∙ is_done _ (is_taken out room), p.output ∙ rw (is_taken out room) (rw (same_number, same_meaning) refl))

  -- every answer that write's promise allows for what read and field gave is Done, with the record in house style under the sequence number that it had
  pub read_writes_back : {B : Type 0} (block : B) (start : ℕ) (x y z : List ℕ) (b c d : B) (i j k : ℕ)
      → PromisedPart file n (get_or (text_columns w) 0 0) block start x b i
      → PromisedPart file n (get_or (text_columns w) 1 0) block start y c j
      → PromisedPart file n (get_or (text_columns w) 2 0) block start z d k
      → (out : List ℕ) → 81 ≤ length out → (r : Result (Unit {0}) Fault) (left : List ℕ) → Promised s w x y z out r left
      → (r ≡ Ok tt) × (left ≡ line_of chapter4 (value_of sequence (take 6 line)) (meaning chapter4 line) ++ drop 81 out)
  unfolding text_at
  read_writes_back block start x y z b c d i j k first second third = is_written x y z first.contents second.contents third.contents
