-- A whole line: one law for each way through the functions.
use mathlib.Core.Path.{◌≡◌, refl, sym, ◌∙◌, ap}
use mathlib.Core.Bool.{Bool, true, false, ◌&&◌, false≢true}
use mathlib.Core.List.{List, map}
use Prim.Native.Nat.{ℕ, ◌+◌, ◌≤◌, ◌<◌}
use native.Mathlib.Omega.{arith}
use lib.Dec.{eqb, lit≤}
use lib.ListN.{length, take, get_or}
use lib.Seq.{length-take-le}
use Rattle.std.specs.Prelude.{Result, Ok, Err, Option, Some, None}
use Rattle.rules.specs.Tests.{all, within, ◌&◌, ◌≤?◌, ◌=?◌}
use Rattle.rules.specs.Characters.{is_printable}
use Rattle.rules.specs.Items.{number, width, good, spot}
use Rattle.rules.specs.Fields.{Expect, Verdict, ok, fault, check, ◌⨾◌, is_ok, read, judge}
use Rattle.rules.specs.Layouts.{layouts, kept, layout}
use Rattle.rules.specs.Kinds.{kind_of, known}
use Rattle.rules.specs.Records.{sequence, bytes, code_at, entries, numbered, read_line}
use Rattle.rules.specs.Chapter4.{chapter4}
use Rattle.rules.proofs.Truth.{both, to≤, of≤, of>, to≡, true_and}
use Rattle.rules.proofs.Lawful.{spot-inside}
use Rattle.rules.proofs.RecordLaws.{bytes-length}
use Rattle.rules.proofs.Conforming.{bytes_of}
use Rattle.columns.proofs.Loops.{&_is}
use Rattle.kinds.specs.declared.Flaw.{Flaw}
use Rattle.kinds.specs.declared.Expect.TheVariants as X
use Rattle.kinds.specs.declared.Kind.{Kind}
use Rattle.kinds.specs.Values.{judged_of, expect_of, kind_index, kind_in}
use Rattle.kinds.proofs.KindLaws.{index_small, some_kind, no_kind}
use Rattle.kinds.proofs.ValueLaws.{flaw, good_is, bad_then}
use Rattle.judging.specs.Judging.{clean, sized, spans}

module _ (l : List ℕ) where
  pub clean_short : length l ≤ 80 → false ≡ clean l
  unfolding clean ◌&◌
  clean_short h = rw (of> {m = 81} {n = length l} (omega arith))

  pub clean_long : 80 < length l → (p : Bool) → p ≡ all (within 32 126) (take 80 l) → (p && eqb (get_or l 80 0) 10) ≡ clean l
  unfolding clean is_printable ◌=?◌
  clean_long h p e = sym (&_is p (eqb (get_or l 80 0) 10)) ∙ rw (of≤ {m = 81} {n = length l} h, e) (sym (true_and _))

  pub clean-good : (t : Bool) → t ≡ clean l → t ≡ true → Ok tt ≡ judged_of (bytes 80 1 l)
  unfolding clean
  clean-good t e h =
      let c = both (sym e ∙ h) in
      let fine : is_ok (bytes 80 1 l) ≡ true = bytes_of 80 1 l (to≤ c.0) (both c.1).0 (to≡ (both c.1).1) in
      sym (ok_good (bytes 80 1 l) fine)
    where
      ok_good : (v : Verdict) → is_ok v ≡ true → judged_of v ≡ Ok tt
      ok_good ok h = unfold judged_of in refl
      ok_good (fault n c) h = absurd (false≢true (unfold is_ok in h))

  -- columns 1-6
  six : 80 ≤ length l → length (take 6 l) ≡ 6
  six h = length-take-le 6 l (omega arith)

  pub number_is : 80 ≤ length l → (t : Bool) → t ≡ length (take 6 l) ≤? 16 & good (number (length (take 6 l)) 1 999_999 true) (take 6 l) → t ≡ good sequence (take 6 l)
  unfolding sequence
  number_is h t e = e ∙ rw (six h) (ap (λ b. b & good (number 6 1 999_999 true) (take 6 l)) (of≤ {m = 6} {n = 16} (omega arith)) ∙ true_and _)

  -- where they are refused
  pub six_spans : 80 ≤ length l → spans (number (length (take 6 l)) 1 999_999 true) (length (take 6 l)) ≡ true
  unfolding spans sized width ◌≤?◌ ◌=?◌ ◌&◌
  six_spans h = rw (six h)

  pub number-spot : 80 ≤ length l → (o : ℕ) → o ≡ spot (number (length (take 6 l)) 1 999_999 true) (take 6 l) → o ≡ spot sequence (take 6 l)
  unfolding sequence
  number-spot h o e = e ∙ rw (six h)

  pub spot_few : (o : ℕ) → o ≡ spot sequence (take 6 l) → o < 6
  unfolding sequence
  spot_few o e = rw e (unfold width in spot-inside sequence (take 6 l) (omega arith))

  module _ (k : ℕ) (e : Expect) where
    pub rest_bad : (t : Bool) → t ≡ good sequence (take 6 l) → t ≡ false → (o : ℕ) → o ≡ spot sequence (take 6 l) → {w : Flaw} → w ≡ flaw 9 (1 + o) → Err w ≡ judged_of (numbered chapter4 l ⨾ judge e (map (read l) (get_or layouts k kept)))
    unfolding numbered check ◌⨾◌ judged_of
    rest_bad t z h o q y = rw (y, sym z ∙ h, q)

    pub rest_good : (t : Bool) → t ≡ good sequence (take 6 l) → t ≡ true → {j : Result (Unit {0}) Flaw} → j ≡ judged_of (judge e (map (read l) (get_or layouts k kept))) → j ≡ judged_of (numbered chapter4 l ⨾ judge e (map (read l) (get_or layouts k kept)))
    unfolding numbered check ◌⨾◌
    rest_good t z h {j} q = q ∙ sym (rw (sym z ∙ h))

  -- ---- by itself
  pub alone_bytes : (j : Result (Unit {0}) Flaw) → j ≡ judged_of (bytes 80 1 l) → (w : Flaw) → j ≡ Err w → Err w ≡ judged_of (read_line chapter4 l)
  unfolding read_line
  alone_bytes j p w q = sym (bad_then (bytes 80 1 l) _ w (sym p ∙ q))

  pub alone_long : (j : Result (Unit {0}) Flaw) → j ≡ judged_of (bytes 80 1 l) → j ≡ Ok tt → 80 < length l
  alone_long j p q = bytes-length 1 80 l (ap is_ok (good_is (bytes 80 1 l) (sym p ∙ q)) ∙ (unfold is_ok in refl))

  module _ (j : Result (Unit {0}) Flaw) (p : j ≡ judged_of (bytes 80 1 l)) (q : j ≡ Ok tt) (r : Option Kind) (z : kind_in r ≡ kind_of (code_at l)) where
    -- a code of no kind
    pub alone_code : r ≡ None → judged_of (read_line chapter4 l) ≡ Err (flaw 6 7)
    unfolding read_line known check ◌⨾◌ judged_of
    alone_code h = rw (good_is (bytes 80 1 l) (sym p ∙ q), no_kind r _ z h, of> {m = 14} {n = 13} (lit≤ tt))

    pub alone_fields : (k : Kind) → r ≡ Some k → {v : Result (Unit {0}) Flaw} → v ≡ judged_of (numbered chapter4 l ⨾ judge (expect_of X.Anything) (map (read l) (get_or layouts (kind_index k) kept))) → v ≡ judged_of (read_line chapter4 l)
    unfolding read_line known entries layout check ◌⨾◌ expect_of
    alone_fields k h e = e ∙ sym (rw (good_is (bytes 80 1 l) (sym p ∙ q), ← some_kind r k _ z h, of≤ {m = kind_index k} {n = 13} (omega (arith, index_small k))))
