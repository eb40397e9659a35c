-- What the promise of `write` says: it determines the answer and every byte of the output, and what was written reads back. Assumes nothing.
use mathlib.Core.Path.{◌≡◌, refl, sym, ap, ◌∙◌}
use mathlib.Core.Bool.{true, false}
use mathlib.Core.List.{List, ◌++◌}
use Prim.Native.Nat.{ℕ}
use lib.ListN.{length, take, drop}
use lib.Seq.{take_at, drop_at}
use Rattle.std.specs.Prelude.{Result, Ok, Err, Option}
use Rattle.rules.specs.Tests.{◌≤?◌}
use Rattle.rules.specs.Items.{value_of}
use Rattle.rules.specs.Fields.{Verdict, ok, fault, check, is_ok}
use Rattle.rules.specs.Records.{sequence, meaning, judge_given, line_of}
use Rattle.rules.specs.Chapter4.{chapter4}
use Rattle.rules.specs.Calls.{write_verdict, write_output}
use Rattle.rules.proofs.Truth.{both}
use Rattle.rules.proofs.FieldLaws.{is_ok_⨾}
use Rattle.rules.proofs.RecordLaws.{ReadsBack, written_reads_back}
use Rattle.rules.proofs.Chapter4Laws.{sound}
use Rattle.kinds.specs.declared.Record.{Record}
use Rattle.kinds.specs.declared.Fault.{Fault}
use Rattle.kinds.specs.Values.{kind_number, meaning_of, record_of, written_of}
use Rattle.kinds.proofs.ValueLaws.{sequence_back, record-back}
use Rattle.writing.specs.Promise.{Promised}
use Rattle.writing.proofs.LineLaws.{given_kind}
use Rattle.columns.specs.Types.{count_of, count_value}

done_ok : (v : Verdict) → written_of v ≡ Ok tt → v ≡ ok
unfolding written_of
done_ok ok e = refl
done_ok (fault n c) e = cc

refused_bad : (v : Verdict) (f : Fault) → written_of v ≡ Err f → is_ok v ≡ false
unfolding written_of is_ok
refused_bad ok f e = cc
refused_bad (fault n c) f e = refl

module _ (s : Option ℕ) (w : Record) (a b c out : List ℕ) where
  -- 01, "Each public call's promise determines its verdict, its values and every lent byte"
  pub one_result : {r r' : Result (Unit {0}) Fault} {left left' : List ℕ} → Promised s w a b c out r left → Promised s w a b c out r' left' → (r ≡ r') × (left ≡ left')
  one_result p q = (p.answer ∙ sym q.answer, p.output ∙ sym q.output)

  -- a refusal leaves the output as it was
  pub refused_leaves : {f : Fault} {left : List ℕ} → Promised s w a b c out (Err f) left → left ≡ out
  unfolding write_output
  refused_leaves {f} p = p.output ∙ rw (refused_bad _ f (sym p.answer))

  module _ {left : List ℕ} (p : Promised s w a b c out (Ok tt) left) where
    all_ok : is_ok (write_verdict (length out) (kind_number w) (count_value s) (meaning_of w a b c)) ≡ true
    all_ok = ap is_ok (done_ok _ (sym p.answer)) ∙ unfold is_ok in refl

    given_ok : is_ok (judge_given chapter4 (kind_number w) (count_value s) (meaning_of w a b c)) ≡ true
    unfolding write_verdict
    given_ok = (both (sym (is_ok_⨾ (check (81 ≤? length out) 1 0) (judge_given chapter4 (kind_number w) (count_value s) (meaning_of w a b c))) ∙ all_ok)).1

    back : ReadsBack chapter4 (kind_number w) (count_value s) (meaning_of w a b c) (line_of chapter4 (count_value s) (meaning_of w a b c))
    back = written_reads_back chapter4 sound (kind_number w) (count_value s) (meaning_of w a b c) given_ok

    left_is : left ≡ line_of chapter4 (count_value s) (meaning_of w a b c) ++ drop 81 out
    unfolding write_output
    left_is = p.output ∙ rw all_ok

    line_is : take 81 left ≡ line_of chapter4 (count_value s) (meaning_of w a b c)
    line_is = ap (take 81) left_is ∙ take_at _ (drop 81 out) 81 back.eighty_one

    -- what was written reads, as the sequence number, kind and meaning that were given
    pub done_reads_back : ReadsBack chapter4 (kind_number w) (count_value s) (meaning_of w a b c) (take 81 left)
    done_reads_back = rw line_is back

    -- and so as the values of the types
    pub done_number : count_of (value_of sequence (take 6 (take 81 left))) ≡ s
    done_number = ap count_of done_reads_back.its_number ∙ sequence_back s

    pub done_record : record_of (meaning chapter4 (take 81 left)) ≡ w
    done_record = ap record_of done_reads_back.its_meaning ∙ record-back w a b c (given_kind w (count_value s) a b c given_ok)

    -- the bytes behind the record stay
    pub done_beyond : drop 81 left ≡ drop 81 out
    done_beyond = ap (drop 81) left_is ∙ drop_at (line_of chapter4 (count_value s) (meaning_of w a b c)) (drop 81 out) 81 back.eighty_one
