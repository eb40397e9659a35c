-- Values that were judged good, in their line, and what the call answers and leaves. Assumes nothing.
use mathlib.Core.Path.{◌≡◌, refl, sym, ap, ◌∙◌}
use mathlib.Core.Bool.{true, false}
use mathlib.Core.List.{List, [], ◌∷◌}
use Prim.Native.Nat.{ℕ, ◌≤◌, ◌<◌}
use lib.ListN.{length}
use borrow.Rule.Slice.PartMut.{put_mid}
use Rattle.std.specs.Prelude.{Result, Ok, Err, Option}
use Rattle.rules.specs.Tests.{◌≤?◌, all}
use Rattle.rules.specs.Items.{Value, fits, render, number, media, angle, latitude, longitude, num}
use Rattle.rules.specs.Fields.{Verdict, check, ◌⨾◌, is_ok, given, entries_of, is_formed, formed}
use Rattle.rules.specs.Records.{sequence, judge_given, meant, line_of}
use Rattle.rules.specs.Kinds.{kind_of}
use Rattle.rules.specs.Layouts.{layouts}
use Rattle.rules.specs.Chapter4.{chapter4}
use Rattle.rules.specs.Calls.{write_verdict, write_output}
use Rattle.rules.proofs.Truth.{both, of≤, to≡, of>}
use Rattle.rules.proofs.RecordLaws.{write_takes}
use Rattle.columns.specs.Types.{count_value, media_value}
use Rattle.kinds.specs.declared.Occupation.{Occupation}
use Rattle.kinds.specs.declared.Point.{Point}
use Rattle.kinds.specs.declared.Record.{Record}
use Rattle.kinds.specs.declared.Record.TheVariants as R
use Rattle.kinds.specs.declared.Flaw.{Flaw}
use Rattle.kinds.specs.declared.Fault.{Fault}
use Rattle.kinds.specs.Values.{kind_number, code_of, values_of, meaning_of, judged_of, written_of}
use Rattle.kinds.proofs.ValueLaws.{good_is, bad_is}
use Rattle.given_records.specs.Judging.{layout_of}
use Rattle.given_records.proofs.GivenLaws.{layout_is, told_is}
use Rattle.styling.specs.Laying.{lay, lay_fields}
use Rattle.styling.proofs.LayLaws.{line_laid}
use Rattle.writing.specs.Promise.{Promised}

-- ---- values that were judged good
module _ (r : Record) (q : Value) (a b c : List ℕ) (h : is_ok (judge_given chapter4 (kind_number r) q (meaning_of r a b c)) ≡ true) where
  taken : (fits sequence q ≡ true) × (kind_of (code_of r) ≡ kind_number r) × (meant chapter4 (meaning_of r a b c) ≡ true)
  unfolding meaning_of
  taken = let t = both (both (sym (write_takes chapter4 (kind_number r) q (meaning_of r a b c)) ∙ h)).0 in ((both t.0).0, to≡ (both t.0).1, t.1)

  pub given_kind : kind_of (code_of r) ≡ kind_number r
  given_kind = taken.1

  -- all of them are formed
  pub given-formed : formed (entries_of (layout_of (kind_number r)) (values_of r a b c)) ≡ true
  unfolding meant
  given-formed = rw (told_is r a b c taken.1) at (both (both taken.2).1).1

  pub given-laid : (l : List ℕ) → length l ≡ 81
      → lay 81 (10 ∷ []) (lay_fields (layout_of (kind_number r)) (values_of r a b c) (lay 7 (code_of r) (lay 1 (render sequence q) l))) ≡ line_of chapter4 q (meaning_of r a b c)
  unfolding meaning_of
  given-laid l e = rw (← layout_is r a b c taken.1) (line_laid q (meaning_of r a b c) l e taken.0 taken.2)

-- a count is written as a sequence number is
pub sequence_count_lem : (x : Option ℕ) → render (number 6 0 0 true) (count_value x) ≡ render sequence (count_value x)
unfolding render sequence
sequence_count_lem x = refl

-- the media identifier and the angles, which a field leaves alone if they do not fit
module _ (a b c : List ℕ) {w : Record} (h : formed (entries_of (layout_of (kind_number w)) (values_of w a b c)) ≡ true) where
  pub media_fitting : (o : Occupation) → w ≡ R.Occupation o → fits media (media_value o.media) ≡ true
  unfolding kind_number layout_of layouts values_of entries_of formed all is_formed given
  media_fitting o e = (both (both (rw e at h)).1).0

  pub angles_fitting : (p : Point) → w ≡ R.Point p → (fits (angle latitude) (num p.latitude) ≡ true) × (fits (angle longitude) (num p.longitude) ≡ true)
  unfolding kind_number layout_of layouts values_of entries_of formed all is_formed given
  angles_fitting p e = let t = (both (both (rw e at h)).1).1 in ((both t).0, (both (both t).1).0)

-- ---- the call
pub judged_good : (v : Verdict) {j : Result (Unit {0}) Flaw} → j ≡ judged_of v → j ≡ Ok tt → is_ok v ≡ true
judged_good v e h = ap is_ok (good_is v (sym e ∙ h)) ∙ unfold is_ok in refl

module _ (s : Option ℕ) (w : Record) (a b c out : List ℕ) where
  pub write_short : length out < 81 → {x : Fault} → x ≡ record { number = 1; «record» = 0; column = 0 } → Promised s w a b c out (Err x) out
  unfolding written_of write_verdict write_output check ◌⨾◌ is_ok
  write_short h z = let e : 81 ≤? length out ≡ false = of> h in record { answer = rw z (sym (rw e)); output = sym (rw e) }

  module _ (h : 81 ≤ length out) {j : Result (Unit {0}) Flaw} (g : j ≡ judged_of (judge_given chapter4 (kind_number w) (count_value s) (meaning_of w a b c))) where
    verdict_is : write_verdict (length out) (kind_number w) (count_value s) (meaning_of w a b c) ≡ judge_given chapter4 (kind_number w) (count_value s) (meaning_of w a b c)
    unfolding write_verdict check ◌⨾◌
    verdict_is = rw (of≤ h)

    pub write_bad : (f : Flaw) → j ≡ Err f → {r : Result (Unit {0}) Fault} → r ≡ Err record { number = f.number; «record» = 0; column = f.column } → Promised s w a b c out r out
    unfolding written_of write_output is_ok
    write_bad f z y = let e = verdict_is ∙ bad_is (judge_given chapter4 (kind_number w) (count_value s) (meaning_of w a b c)) f (sym g ∙ z) in record { answer = y ∙ sym (rw e); output = sym (rw e) }

    pub write_good : {line : List ℕ} → j ≡ Ok tt → line ≡ line_of chapter4 (count_value s) (meaning_of w a b c) → Promised s w a b c out (Ok tt) (put_mid 0 81 out line)
    unfolding written_of write_output is_ok
    write_good z d = let e = verdict_is ∙ good_is (judge_given chapter4 (kind_number w) (count_value s) (meaning_of w a b c)) (sym g ∙ z) in record { answer = sym (rw e); output = sym (rw (e, d)) }
