-- One field of a line: one law for each way through the functions.
use mathlib.Core.Path.{◌≡◌, refl, sym, ◌∙◌, ap}
use mathlib.Core.Bool.{Bool, true, false, not, beq}
use mathlib.Core.List.{List}
use Prim.Native.Nat.{ℕ, ◌+◌, ◌-◌, ◌≤◌}
use native.Mathlib.Omega.{arith}
use lib.Dec.{leb, eqb}
use lib.ListN.{length, take, drop, length-drop}
use lib.Seq.{length-take-le}
use Rattle.std.specs.Prelude.{Ok, Err}
use Rattle.rules.specs.Tests.{all, ◌&◌, ◌≤?◌, ◌=?◌}
use Rattle.rules.specs.Characters.{is_blank}
use Rattle.rules.specs.Items as rules
use Rattle.rules.specs.Items.{width, good, spot}
use Rattle.rules.specs.Fields.{Expect, check, ◌⨾◌, same_truth, meets}
use Rattle.rules.proofs.Truth.{true_and}
use Rattle.rules.proofs.Lawful.{first_bad_most}
use Rattle.kinds.specs.declared.tables.Item.{Item}
use Rattle.kinds.specs.declared.tables.Bond.{Bond}
use Rattle.kinds.specs.declared.tables.Bond.TheVariants as B
use Rattle.kinds.specs.declared.Expect as code
use Rattle.kinds.specs.declared.Expect.TheVariants as X
use Rattle.kinds.specs.declared.Flaw.{Flaw}
use Rattle.kinds.specs.Values.{judged_of, expect_of}
use Rattle.kinds.specs.Tables.{item_of}
use Rattle.kinds.proofs.ValueLaws.{flaw}
use Rattle.judging.specs.Judging.{part, number_in, agrees_in, judge_field, refused, sized, spans}
use Rattle.judging.proofs.SpotLaws.{spans-width, spans_80, spans_sized}

-- ---- by what stands in the field
module _ (j : Item) (bs : List ℕ) {i : Item} {r : Bool} where
  pub stands : i ≡ j → r ≡ good (item_of j (length bs)) bs → r ≡ good (item_of i (length bs)) bs
  stands e z = z ∙ ap (λ k. good (item_of k (length bs)) bs) (sym e)

  pub stands_narrow : sized (item_of i (length bs)) ≡ true → i ≡ j → r ≡ length bs ≤? 16 & good (item_of j (length bs)) bs → sized (item_of j (length bs)) ≡ length bs ≤? 16 → r ≡ good (item_of i (length bs)) bs
  stands_narrow s e z n =
      let few : length bs ≤? 16 ≡ true = sym n ∙ ap (λ k. sized (item_of k (length bs))) (sym e) ∙ s in
      stands e (z ∙ ap (λ t. t & good (item_of j (length bs)) bs) few ∙ true_and (good (item_of j (length bs)) bs))

-- ---- what is expected
module _ (n : ℕ) where
  pub met_any : {e : code.Expect} → e ≡ X.Anything → true ≡ meets (expect_of e) n
  unfolding meets expect_of
  met_any e = rw e

  pub met_same : {e : code.Expect} (k : ℕ) → e ≡ X.Same k → (j : ℕ) → j ≡ k → eqb n j ≡ meets (expect_of e) n
  unfolding meets expect_of ◌=?◌
  met_same k e j z = rw (e, z)

  pub met_not_below : {e : code.Expect} (k : ℕ) → e ≡ X.NotBelow k → (j : ℕ) → j ≡ k → leb j n ≡ meets (expect_of e) n
  unfolding meets expect_of ◌≤?◌
  met_not_below k e j z = rw (e, z)

  pub met_above : {e : code.Expect} (k : ℕ) → e ≡ X.Above k → (j : ℕ) → j ≡ k → leb (j + 1) n ≡ meets (expect_of e) n
  unfolding meets expect_of ◌≤?◌
  met_above k e j z = rw (e, z)

pub truth_is : (a b : Bool) → beq a b ≡ same_truth a b
unfolding same_truth
truth_is true true = refl
truth_is true false = refl
truth_is false true = refl
truth_is false false = refl

-- ---- agreement, by the bond
module _ (e : Expect) (l bs : List ℕ) {b : Bond} where
  pub agrees-free : b ≡ B.Free → true ≡ agrees_in e l b bs
  unfolding agrees_in
  agrees-free z = rw z

  pub agrees-expected : b ≡ B.Expected → {r : Bool} (v : ℕ) → v ≡ number_in bs → r ≡ meets e v → r ≡ agrees_in e l b bs
  unfolding agrees_in
  agrees-expected z v p q = rw z (q ∙ ap (meets e) p)

  module _ (c w : ℕ) (p : List ℕ) where
    pub agrees-before : b ≡ B.NotBefore c w → p ≡ part c w l → (u : ℕ) → u ≡ number_in p → (v : ℕ) → v ≡ number_in bs → leb u v ≡ agrees_in e l b bs
    unfolding agrees_in ◌≤?◌
    agrees-before z x u y v q = rw (z, y, q, x)

    pub agrees_with_lem : b ≡ B.GoesWith c w → p ≡ part c w l → (u : Bool) → u ≡ all is_blank p → (v : Bool) → v ≡ all is_blank bs → beq u v ≡ agrees_in e l b bs
    unfolding agrees_in
    agrees_with_lem z x u y v q = rw z (truth_is u v ∙ rw (y, q, x))

    pub agrees_apart : b ≡ B.Differs c w → p ≡ part c w l → (u : ℕ) → u ≡ number_in p → (v : ℕ) → v ≡ number_in bs → not (eqb u v) ≡ agrees_in e l b bs
    unfolding agrees_in ◌=?◌
    agrees_apart z x u y v q = rw (z, y, q, x)

-- no field is refused behind column 80 of it
spot_80 : (i : rules.Item) (w : ℕ) → spans i w ≡ true → (bs : List ℕ) → spot i bs ≤ 80
unfolding spot
spot_80 i w h bs = omega (arith, first_bad_most i bs (width i - 1) 0, spans-width i w h, spans_80 i w h)

-- ---- one row of a line that is long enough
module _ (l : List ℕ) (c w : ℕ) (long : 80 ≤ length l) (p : 1 ≤ c) (q : c + w ≤ 81) where
  pub part_length : length (part c w l) ≡ w
  part_length = length-take-le w (drop (c - 1) l) (rw length-drop (omega arith))

  -- the part as the code cuts it
  abbrev pub cut : List ℕ
  cut = take (c - 1 + w - (c - 1)) (drop (c - 1) l)

  pub cut_is : cut ≡ part c w l
  cut_is = ap (λ n. take n (drop (c - 1) l)) width
    where
      width : c - 1 + w - (c - 1) ≡ w
      width = omega arith

  cut_length : length cut ≡ w
  cut_length = ap length cut_is ∙ part_length

  module _ (e : Expect) (i : Item) (b : Bond) where
    formed_is : (g : Bool) → g ≡ good (item_of i (length cut)) cut → g ≡ good (item_of i w) (part c w l)
    formed_is g h = h ∙ rw (cut_length, cut_is)

    agreed_is : (a : Bool) → a ≡ agrees_in e l b cut → a ≡ agrees_in e l b (part c w l)
    agreed_is a h = h ∙ ap (agrees_in e l b) cut_is

    pub row_good : (g : Bool) → g ≡ good (item_of i (length cut)) cut → g ≡ true → (a : Bool) → a ≡ agrees_in e l b cut → a ≡ true → Ok tt ≡ judged_of (judge_field e l i b c w)
    unfolding judge_field check ◌⨾◌ judged_of
    row_good g h t a k u = rw (sym (formed_is g h) ∙ t, sym (agreed_is a k) ∙ u)

    pub row_odd : (g : Bool) → g ≡ good (item_of i (length cut)) cut → g ≡ true → (a : Bool) → a ≡ agrees_in e l b cut → a ≡ false → {x : Flaw} → x ≡ flaw 10 c → Err x ≡ judged_of (judge_field e l i b c w)
    unfolding judge_field check ◌⨾◌ judged_of
    row_odd g h t a k u z = rw (z, sym (formed_is g h) ∙ t, sym (agreed_is a k) ∙ u)

    pub row_bad : (g : Bool) → g ≡ good (item_of i (length cut)) cut → g ≡ false → {x : Flaw} → x ≡ flaw 9 c → Err x ≡ judged_of (judge_field e l i b c w)
    unfolding judge_field check ◌⨾◌ judged_of
    row_bad g h t z = rw (z, sym (formed_is g h) ∙ t)

  module _ (i : Item) (h : spans (item_of i w) w ≡ true) where
    pub cut_spans : spans (item_of i (length cut)) (length cut) ≡ true
    cut_spans = ap (λ n. spans (item_of i n) n) cut_length ∙ h

    pub cut_sized : sized (item_of i (length cut)) ≡ true
    cut_sized = spans_sized (item_of i (length cut)) (length cut) cut_spans

    -- where it is refused there is room for the column
    module _ (o : ℕ) (k : o ≡ spot (item_of i (length cut)) cut) where
      pub spot_small : o ≤ 80
      spot_small = rw k (spot_80 (item_of i (length cut)) (length cut) cut_spans cut)

      pub refused_is : c + o ≡ refused l i c w
      unfolding refused
      refused_is = ap (λ n. c + n) (k ∙ rw (cut_length, cut_is))
