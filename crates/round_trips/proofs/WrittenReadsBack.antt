-- 01, "a record written from values reads back as those values": of the calls, from the promises of write, read and field alone.
use mathlib.Core.Path.{◌≡◌, refl, sym, ap, ◌∙◌}
use mathlib.Core.Bool.{true}
use mathlib.Core.List.{List, [], ◌∷◌}
use Prim.Native.Nat.{ℕ, ◌-◌, ◌<◌}
use native.Mathlib.Omega.{arith}
use lib.Seq.{take_all, get_or-take}
use lib.ListN.{length, take, get_or}
use Rattle.std.specs.Prelude.{Result, Ok, Option}
use Rattle.rules.specs.Tests.{◌&◌, ◌≤?◌, within}
use Rattle.rules.specs.Items.{gap, value_of}
use Rattle.rules.specs.Fields.{Verdict, ok, fault, is_ok}
use Rattle.rules.specs.Records.{sequence, code_at, read_line, meaning}
use Rattle.rules.specs.Files.{line_at, begun}
use Rattle.rules.specs.Kinds.{kind_of}
use Rattle.rules.specs.Layouts.{at, kept, layouts, layout}
use Rattle.rules.specs.Calls.{read_as, read_of, field_of}
use Rattle.rules.specs.Chapter4.{chapter4}
use Rattle.kinds.specs.declared.Record.{Record}
use Rattle.kinds.specs.declared.Record.TheVariants as R
use Rattle.kinds.specs.declared.Fault.{Fault}
use Rattle.kinds.specs.Values.{text_of, kind_number, values_of, meaning_of, record_of, reading_of}
use Rattle.reading.specs.Promise.{PromisedReading, PromisedPart}
use Rattle.writing.specs.Promise.{Promised}
use Rattle.writing.proofs.WriteLaws.{done_reads_back, done_number, done_record}
use Rattle.round_trips.specs.Texts.{is_long, long_columns, text_columns, text_at}
use Rattle.round_trips.proofs.MeaningBack.{texts, texts_of}
use Rattle.round_trips.proofs.TextsBack.{text_in_line}
use Rattle.columns.specs.Types.{count_of}

read_ok : (n : ℕ) (l : List ℕ) (v : Verdict) → is_ok v ≡ true
    → reading_of (read_as n l v) ≡ Ok (count_of (value_of sequence (take 6 l)), record_of (meaning chapter4 l))
unfolding read_as reading_of is_ok
read_ok n l ok h = refl
read_ok n l (fault a b) h = cc

-- the long texts among a record's values are those that were given beside it
texts-given : (w : Record) (a b c : List ℕ)
    → texts (get_or layouts (kind_number w) kept) (λ i. get_or (values_of w a b c) i gap) ≡ take (length (long_columns (get_or layouts (kind_number w) kept))) (a ∷ b ∷ c ∷ [])
unfolding kind_number values_of text_of texts is_long long_columns layouts ◌≤?◌
texts-given (R.Job r) a b c = refl
texts-given (R.Title r) a b c = refl
texts-given (R.Continuation r) a b c = refl
texts-given (R.Project r) a b c = refl
texts-given (R.Occupation r) a b c = refl
texts-given (R.Comment r) a b c = refl
texts-given (R.Measurement r) a b c = refl
texts-given (R.Instrument r) a b c = refl
texts-given (R.Antenna r) a b c = refl
texts-given (R.Point r) a b c = refl
texts-given (R.Heights r) a b c = refl
texts-given (R.Network r) a b c = refl
texts-given (R.Local r) a b c = refl
texts-given (R.Factor r) a b c = refl

module _ (s : Option ℕ) (w : Record) (a b c out : List ℕ) {left : List ℕ} (p : Promised s w a b c out (Ok tt) left) where
  -- wherever the 81 bytes that write left stand as record n of a file
  module _ (file : List ℕ) (n : ℕ) (there : within 1 99_999 n & n ≤? begun file ≡ true) (e : line_at file (n - 1) ≡ take 81 left) where
    -- every answer that read's promise allows has the values that were written
    pub written_reads_back : (r : Result (Option ℕ × Record) Fault) → PromisedReading file n r → r ≡ Ok (s, w)
    unfolding read_of
    written_reads_back r promised =
        promised.answered ∙ rw (there, e) (read_ok n (take 81 left) (read_line chapter4 (take 81 left)) (done_reads_back s w a b c out p).reads
        ∙ rw (done_number s w a b c out p, done_record s w a b c out p) refl)

    same_kind : kind_of (code_at (line_at file (n - 1))) ≡ kind_number w
    same_kind = rw e (done_reads_back s w a b c out p).its_kind

    same_fields : layout (code_at (line_at file (n - 1))) ≡ get_or layouts (kind_number w) kept
    unfolding layout
    same_fields = rw same_kind

    same_columns : long_columns (layout (code_at (line_at file (n - 1)))) ≡ text_columns w
    unfolding text_columns
    same_columns = ap long_columns same_fields

    same_texts : texts_of (meaning chapter4 (line_at file (n - 1))) ≡ take (length (text_columns w)) (a ∷ b ∷ c ∷ [])
    unfolding text_columns
    same_texts =
        let fields : layout (meaning chapter4 (line_at file (n - 1))).code ≡ get_or layouts (kind_number w) kept = unfold meaning in same_fields in
        let same : meaning chapter4 (line_at file (n - 1)) ≡ meaning_of w a b c = rw e (done_reads_back s w a b c out p).its_meaning in
        rw (fields, same) (unfold meaning_of in texts-given w a b c)

    same_text : (i : ℕ) → text_at file n w i ≡ get_or (texts_of (meaning chapter4 (line_at file (n - 1)))) i []
    unfolding text_at
    same_text i =
        ap (λ cs. field_of file n (get_or cs i 0)) (sym same_columns)
        ∙ sym (text_in_line file n there (rw e (done_reads_back s w a b c out p).reads) i)

    -- and every part that field's promise allows at the column of text i is that text
    pub written-texts_back : (i : ℕ) → i < length (text_columns w) → {B : Type 0} (block : B) (start : ℕ) (x : List ℕ) (d : B) (at : ℕ)
        → PromisedPart file n (get_or (text_columns w) i 0) block start x d at → x ≡ get_or (a ∷ b ∷ c ∷ []) i []
    unfolding text_at
    written-texts_back i h block start x d at promised =
        promised.contents ∙ same_text i ∙ ap (λ ts. get_or ts i []) same_texts ∙ get_or-take (length (text_columns w)) (a ∷ b ∷ c ∷ []) i [] h

  -- as the one record of a file
  is_there : within 1 99_999 1 & 1 ≤? begun (take 81 left) ≡ true
  unfolding begun within ◌&◌ ◌≤?◌
  is_there = let e : length (take 81 left) ≡ 81 = (done_reads_back s w a b c out p).eighty_one in rw e refl

  is_line_lem : line_at (take 81 left) 0 ≡ take 81 left
  unfolding line_at
  is_line_lem = let e : length (take 81 left) ≡ 81 = (done_reads_back s w a b c out p).eighty_one in take_all 81 (take 81 left) (omega (arith, e))

  pub written_alone : (r : Result (Option ℕ × Record) Fault) → PromisedReading (take 81 left) 1 r → r ≡ Ok (s, w)
  written_alone = written_reads_back (take 81 left) 1 is_there is_line_lem

  pub texts_alone : (i : ℕ) → i < length (text_columns w) → {B : Type 0} (block : B) (start : ℕ) (x : List ℕ) (d : B) (at : ℕ)
      → PromisedPart (take 81 left) 1 (get_or (text_columns w) i 0) block start x d at → x ≡ get_or (a ∷ b ∷ c ∷ []) i []
  texts_alone = written-texts_back (take 81 left) 1 is_there is_line_lem
