-- One entry: the fault number of its line, and what then stands for it.
use mathlib.Core.Path.{◌≡◌, refl, sym, ◌∙◌, ap, ap₂}
use mathlib.Core.Bool.{Bool, true, false}
use mathlib.Core.List.{List, [], ◌∷◌, ◌++◌, append-nil}
use Prim.Native.Nat.{ℕ, ◌-◌, ◌*◌, ◌≤◌}
use native.Mathlib.Omega.{arith}
use lib.ListN.{length, take, drop, get_or, set, replicate, drop_of_length-le}
use lib.Seq.{length-take-le, drop-cons}
use Rattle.std.specs.Prelude.{Result, Ok, Err}
use Rattle.rules.specs.Tests.{all, ◌&◌, ◌≤?◌, within}
use Rattle.rules.specs.Fields.{anything, ok, is_ok}
use Rattle.rules.specs.Layouts.{layout}
use Rattle.rules.specs.Records.{code_at, entries, numbered, read_line, meaning, style, formed_line}
use Rattle.rules.specs.Kinds.{kind_of, known}
use Rattle.rules.specs.Files.{line_at, begun, lines, join, meanings, styles, formed_lines}
use Rattle.rules.specs.Chapter4.{chapter4}
use Rattle.rules.specs.Calls.{read_as, read_of}
use Rattle.rules.specs.Pulling.{blank_line, line_for, fault_for}
use Rattle.rules.proofs.Truth.{both, and, of≡, of≤, to_within}
use Rattle.rules.proofs.FieldLaws.{is_ok_⨾, is_ok_check}
use Rattle.rules.proofs.RecordLaws.{read_line_splits, line_long}
use Rattle.rules.proofs.FileLaws.{is_line, lines_join, length-take_most}
use Rattle.kinds.specs.declared.Expect.{Expect}
use Rattle.kinds.specs.declared.Flaw.{Flaw}
use Rattle.kinds.specs.Values.{judged_of, expect_of}
use Rattle.kinds.proofs.ValueLaws.{good_is, bad_is}
use Rattle.quick.specs.Rest.{Fit}
use Rattle.judging.proofs.RowLaws.{ok_good}
use Rattle.pulling.specs.Entries.{Entry}

-- ---- the number of a line
module _ (l : List ℕ) where
  -- what fits reads
  fit_reads : (k : ℕ) → k ≡ kind_of (code_at l) → Fit l k anything → is_ok (read_line chapter4 l) ≡ true
  unfolding read_line numbered entries layout known
  fit_reads k e f =
      simp (is_ok_⨾, is_ok_check)
      (and f.fine (and (of≤ (omega (arith, e, f.high))) (and f.number (rw (← e) f.fields))))

  pub quick_good : (k : ℕ) → k ≡ kind_of (code_at l) → (t : Bool) → (t ≡ true → Fit l k (expect_of Expect.Anything)) → t ≡ true → Ok tt ≡ judged_of (read_line chapter4 l)
  unfolding expect_of
  quick_good k e t g h = ok_good (read_line chapter4 l) (fit_reads k e (g h))

-- ---- 80 blanks laid into a line, and a line feed behind them
pub blanks-laid : (o : List ℕ) → length o ≡ 81 → (y : List ℕ) → y ≡ replicate (length (take 80 (drop 0 o))) 32
    → set (take 0 o ++ (y ++ drop 80 (drop 0 o))) 80 10 ≡ blank_line
unfolding blank_line
blanks-laid o h y e =
    let k : length (take 80 o) ≡ 80 = length-take-le 80 o (omega arith) in
    let blanks : y ≡ replicate 80 32 = e ∙ ap (λ n. replicate n 32) k in
    let last : drop 80 o ≡ get_or o 80 0 ∷ [] = drop-cons o 80 0 (omega arith) ∙ ap (λ (t : List ℕ). get_or o 80 0 ∷ t) (drop_of_length-le o {i = 81} (omega arith)) in
    rw (blanks, last)

-- ---- the line that is left
module _ (l : List ℕ) (r : ℕ) (j : Result (Unit {0}) Flaw) (e : j ≡ judged_of (read_line chapter4 l)) where
  reads : j ≡ Ok tt → read_line chapter4 l ≡ ok
  reads z = good_is (read_line chapter4 l) (sym e ∙ z)

  passes : j ≡ Ok tt → is_ok (read_line chapter4 l) ≡ true
  unfolding is_ok
  passes z = ap is_ok (reads z)

  formed : j ≡ Ok tt → formed_line chapter4 l ≡ true
  formed z = (both (sym (read_line_splits chapter4 l) ∙ passes z)).0

  module _ (most : length l ≤ 81) where
    -- a good record is a file's one line
    one_line : j ≡ Ok tt → lines l ≡ l ∷ []
    unfolding join all is_line
    one_line z = let long : length l ≡ 81 = omega (arith, most, line_long chapter4 l (formed z)) in ap lines (sym (append-nil l)) ∙ lines_join (l ∷ []) (and (of≡ long) refl)

    pub pull_formed : j ≡ Ok tt → r ≤ 99_999 → formed_lines chapter4 r (lines l) ≡ true
    unfolding formed_lines
    pull_formed z h = rw (one_line z) (and (and (of≤ h) (formed z)) refl)

    pub pull_good : j ≡ Ok tt → (o : List ℕ) → length o ≡ 81 → (p : List ℕ) → p ≡ join (styles chapter4 r (meanings chapter4 l)) ++ drop (length l) o
        → Entry r (read_as r l (read_line chapter4 l)) 0 p
    unfolding read_as line_for fault_for
    pull_good z o room p q = rw (reads z) record { fault = refl; line = q ∙ ap₂ ◌++◌ styled none ∙ append-nil (style chapter4 r (meaning chapter4 l)) }
      where
        styled : join (styles chapter4 r (meanings chapter4 l)) ≡ style chapter4 r (meaning chapter4 l)
        styled = unfold meanings styles join in rw (one_line z) (append-nil (style chapter4 r (meaning chapter4 l)))

        none : drop (length l) o ≡ []
        none = drop_of_length-le o {i = length l} (omega (arith, room, line_long chapter4 l (formed z)))

  pub pull_bad : (w : Flaw) → j ≡ Err w → (p : List ℕ) → p ≡ blank_line → Entry r (read_as r l (read_line chapter4 l)) w.number p
  unfolding read_as line_for fault_for
  pull_bad w z p q = rw (bad_is (read_line chapter4 l) w (sym e ∙ z)) record { fault = refl; line = q }

-- ---- the record that an entry asks for
module _ (f : List ℕ) (r : ℕ) (t : Bool) (e : t ≡ within 1 99_999 r & r ≤? begun f) where
  pub asked_low : t ≡ true → 1 ≤ r
  asked_low h = (to_within (both (sym e ∙ h)).0).0

  pub asked_high : t ≡ true → r ≤ 99_999
  asked_high h = (to_within (both (sym e ∙ h)).0).1

  pub asked_line : t ≡ true → (l : List ℕ) → l ≡ line_at f (r - 1) → (n : ℕ) (p : List ℕ) → Entry r (read_as r l (read_line chapter4 l)) n p → Entry r (read_of f r) n p
  unfolding read_of
  asked_line h l q n p x = rw (sym e ∙ h, ← q) x

  pub asked_none : t ≡ false → (p : List ℕ) → p ≡ blank_line → Entry r (read_of f r) 13 p
  unfolding read_of line_for fault_for
  asked_none h p q = rw (sym e ∙ h) record { fault = refl; line = q }

pub line_most : (f : List ℕ) (i : ℕ) (l : List ℕ) → l ≡ line_at f i → length l ≤ 81
unfolding line_at
line_most f i l e = rw e (length-take_most 81 (drop (81 * i) f))
