-- What is given to write, as a whole: its code and kind, and its judgement. Assumes nothing.
use mathlib.Core.Path.{◌≡◌, refl, sym, ap, ◌∙◌}
use mathlib.Core.Bool.{Bool, true, false}
use mathlib.Core.List.{List, [], ◌∷◌}
use Prim.Native.Nat.{ℕ, ◌+◌, ◌≤◌}
use native.Mathlib.Omega.{arith}
use lib.Dec.{lit≤}
use lib.ListN.{length}
use Rattle.std.specs.Prelude.{Result, Option}
use Rattle.rules.specs.Tests.{◌&◌, ◌=?◌, within}
use Rattle.rules.specs.Characters.{is_digit, is_letter, letter, digit, ◌or◌, member}
use Rattle.rules.specs.Digits.{val}
use Rattle.rules.specs.Items.{Value, text, fits, number}
use Rattle.rules.specs.Fields.{check, ◌⨾◌, anything, given, entries_of, agrees, agrees_with, judge_each, judge}
use Rattle.rules.specs.Records.{sequence, told, of_kind, judge_given}
use Rattle.rules.specs.Kinds.{data_codes, kind_from, starred, kind_between, kind_of, known}
use Rattle.rules.specs.Layouts.{at, layouts, layout}
use Rattle.rules.specs.Chapter4.{chapter4}
use Rattle.rules.proofs.Truth.{both, and, of≤, to≡, of≡, of≢, cases, is_no, not_both, to_within}
use Rattle.columns.specs.declared.Set.{Set}
use Rattle.columns.specs.Types.{set_of, count_value}
use Rattle.kinds.specs.declared.Job.{Job}
use Rattle.kinds.specs.declared.Record.{Record}
use Rattle.kinds.specs.declared.Record.TheVariants as R
use Rattle.kinds.specs.declared.Flaw.{Flaw}
use Rattle.kinds.specs.Values.{kind_number, code_of, values_of, meaning_of, judged_of}
use Rattle.kinds.proofs.ValueLaws.{code_kind, ⨾_ok}
use Rattle.given_records.specs.Judging.{layout_of, judge_record}
use Rattle.given_records.proofs.JudgeLaws.{⨾_same}
use Rattle.given_records.proofs.KindLaws.{word_of}

-- ---- the fourteen kinds
below_14 : (r : Record) → kind_number r ≤ 13
unfolding kind_number
below_14 (R.Job r) = lit≤ tt
below_14 (R.Title r) = lit≤ tt
below_14 (R.Continuation r) = lit≤ tt
below_14 (R.Project r) = lit≤ tt
below_14 (R.Occupation r) = lit≤ tt
below_14 (R.Comment r) = lit≤ tt
below_14 (R.Measurement r) = lit≤ tt
below_14 (R.Instrument r) = lit≤ tt
below_14 (R.Antenna r) = lit≤ tt
below_14 (R.Point r) = lit≤ tt
below_14 (R.Heights r) = lit≤ tt
below_14 (R.Network r) = lit≤ tt
below_14 (R.Local r) = lit≤ tt
below_14 (R.Factor r) = lit≤ tt

-- a value for each field
one_each : (r : Record) (a b c : List ℕ) → length (values_of r a b c) ≡ length (layout_of (kind_number r))
unfolding values_of kind_number layout_of layouts
one_each (R.Job r) a b c = refl
one_each (R.Title r) a b c = refl
one_each (R.Continuation r) a b c = refl
one_each (R.Project r) a b c = refl
one_each (R.Occupation r) a b c = refl
one_each (R.Comment r) a b c = refl
one_each (R.Measurement r) a b c = refl
one_each (R.Instrument r) a b c = refl
one_each (R.Antenna r) a b c = refl
one_each (R.Point r) a b c = refl
one_each (R.Heights r) a b c = refl
one_each (R.Network r) a b c = refl
one_each (R.Local r) a b c = refl
one_each (R.Factor r) a b c = refl

-- ---- a record whose code is that of its kind
module _ (r : Record) (a b c : List ℕ) (e : kind_of (code_of r) ≡ kind_number r) where
  pub layout_is : layout (code_of r) ≡ layout_of (kind_number r)
  unfolding layout layout_of
  layout_is = rw e

  pub told_is : told chapter4 (meaning_of r a b c) ≡ entries_of (layout_of (kind_number r)) (values_of r a b c)
  unfolding told meaning_of
  told_is = rw layout_is

  of_kind_lem : of_kind chapter4 (kind_number r) (meaning_of r a b c) ≡ true
  unfolding of_kind known meaning_of
  of_kind_lem = and (and (rw e (of≤ (below_14 r))) (of≡ e)) (of≡ (one_each r a b c ∙ ap length (sym layout_is)))

  pub judge-known : judge_record r a b c ≡ judge anything (entries_of (layout_of (kind_number r)) (values_of r a b c))
  unfolding judge_record check ◌⨾◌
  judge-known = rw (of_kind_lem, told_is)

-- one arm of the match
pub judge_arm : (a b c : List ℕ) {w : Record} (r : Record) {x : Result (Unit {0}) Flaw} → w ≡ r → 1 ≤ kind_number r
    → x ≡ judged_of (judge anything (entries_of (layout_of (kind_number r)) (values_of r a b c))) → x ≡ judged_of (judge_record w a b c)
judge_arm a b c r e h q = q ∙ sym (rw e (ap judged_of (judge-known r a b c (code_kind r (λ z. absurd (omega arith))))))

-- a record of one text
pub judge-text : (s : Set) (t : List ℕ) → judge anything (entries_of (at 11 (word_of 70 s) ∷ []) (text t ∷ [])) ≡ check (fits (word_of 70 s) (text t)) 9 11
unfolding judge judge_each entries_of given agrees agrees_with
judge-text s t = unfold check ◌⨾◌ in ⨾_ok (check (fits (word_of 70 s) (text t)) 9 11)

-- ---- job codes
kind_from_lem : (k n : ℕ) (cs : List ℕ) → 1 ≤ k → 1 ≤ kind_from k n cs
unfolding kind_from
kind_from_lem k n [] h = lit≤ tt
kind_from_lem k n (c ∷ cs) h = cases (n =? c) (λ e. rw e h) (λ e. rw e (kind_from_lem (k + 1) n cs (omega arith)))

letter_no_digit : (x : ℕ) → is_letter x ≡ true → is_digit x ≡ false
unfolding is_letter is_digit
letter_no_digit x h = is_no (within 48 57 x) (λ k. omega (arith, to_within h, to_within k))

-- a letter followed by a letter or digit, and nothing else, is of kind 0
job_kind : (x y : ℕ) → (is_letter x & member (letter or digit) y) ≡ kind_between x y =? 0
unfolding kind_between
job_kind x y =
    cases (is_letter x & member (letter or digit) y)
    (λ h. rw (h, letter_no_digit x (both h).0) (unfold ◌&◌ ◌=?◌ in refl))
    (λ h. cases (is_digit x & is_digit y)
    (λ d. rw (h, d) (sym (of≢ (λ z. omega (arith, kind_from_lem 1 (val 0 (x ∷ y ∷ [])) data_codes (lit≤ tt), z)))))
    (λ d. rw (h, d) (unfold ◌=?◌ in refl)))

code-between : (k : Job) → kind_of (code_of (R.Job k)) ≡ kind_between k.first k.second
unfolding kind_of code_of starred ◌&◌ ◌=?◌
code-between k = refl

job_zero : (k : Job) (a : List ℕ) → of_kind chapter4 0 (meaning_of (R.Job k) a [] []) ≡ true → kind_of (code_of (R.Job k)) ≡ 0
unfolding of_kind meaning_of
job_zero k a h = to≡ (both (both h).0).1

-- of its kind exactly when its code is of kind 0
job_of_kind : (k : Job) (a : List ℕ) → kind_between k.first k.second =? 0 ≡ of_kind chapter4 0 (meaning_of (R.Job k) a [] [])
job_of_kind k a =
    cases (kind_between k.first k.second =? 0)
    (λ h. h ∙ sym (unfold kind_number in of_kind_lem (R.Job k) a [] [] (code-between k ∙ to≡ h)))
    (λ h. h ∙ sym (is_no (of_kind chapter4 0 (meaning_of (R.Job k) a [] [])) (λ t. not_both (of≡ (sym (code-between k) ∙ job_zero k a t)) h)))

job_same : (k : Job) (a : List ℕ) → of_kind chapter4 0 (meaning_of (R.Job k) a [] []) ≡ true
    → check (fits (word_of 70 Set.Printable) (text a)) 9 11 ≡ judge anything (told chapter4 (meaning_of (R.Job k) a [] []))
unfolding kind_number layout_of layouts values_of word_of set_of
job_same k a h = sym (rw (told_is (R.Job k) a [] [] (job_zero k a h)) (judge-text Set.Printable a))

-- the text is judged only after a good code, whose layout is that of job codes
job_judged : (k : Job) (a : List ℕ) → (check (is_letter k.first & member (letter or digit) k.second) 9 7 ⨾ check (fits (word_of 70 Set.Printable) (text a)) 9 11) ≡ judge_record (R.Job k) a [] []
unfolding judge_record kind_number
job_judged k a =
    let t = of_kind chapter4 0 (meaning_of (R.Job k) a [] []) in
    ap (λ t. check t 9 7 ⨾ check (fits (word_of 70 Set.Printable) (text a)) 9 11) (job_kind k.first k.second ∙ job_of_kind k a) ∙ ⨾_same t 9 7 _ _ (job_same k a)

pub job_is : (k : Job) (a : List ℕ) {t : Bool} {x : Result (Unit {0}) Flaw} → t ≡ (is_letter k.first & member (letter or digit) k.second)
    → x ≡ judged_of (check t 9 7 ⨾ check (fits (word_of 70 Set.Printable) (text a)) 9 11) → x ≡ judged_of (judge_record (R.Job k) a [] [])
job_is k a h q = q ∙ rw h (ap judged_of (job_judged k a))

-- a job code has one text
pub job_arm : (k : Job) (a b c : List ℕ) {w : Record} → w ≡ R.Job k → judged_of (judge_record (R.Job k) a [] []) ≡ judged_of (judge_record w a b c)
unfolding judge_record meaning_of values_of
job_arm k a b c e = sym (rw e)

-- ---- the whole judgement
pub sequence_fits : (x : Option ℕ) {t : Bool} → t ≡ fits (number 6 1 999_999 true) (count_value x) → t ≡ fits sequence (count_value x)
unfolding sequence
sequence_fits x h = h

pub given_is : (r : Record) (q : Value) (a b c : List ℕ) {t : Bool} {x : Result (Unit {0}) Flaw} → t ≡ fits sequence q
    → x ≡ judged_of (check t 9 1 ⨾ judge_record r a b c) → x ≡ judged_of (judge_given chapter4 (kind_number r) q (meaning_of r a b c))
unfolding judge_given judge_record
given_is r q a b c h e = e ∙ rw h
