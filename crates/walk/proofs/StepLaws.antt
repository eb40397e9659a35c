-- One record: one law for each way through its judge, and what is kept after it is what the rules keep.
use mathlib.Core.Path.{◌≡◌, refl, sym, ◌∙◌, ap}
use mathlib.Core.Bool.{Bool, true, false, not, ◌&&◌, false≢true}
use mathlib.Core.List.{List, map}
use Prim.Native.Nat.{ℕ, ◌+◌, ◌≤◌, ◌<◌}
use native.Mathlib.Omega.{arith}
use lib.Dec.{leb, eqb}
use lib.ListN.{length, get_or, take}
use borrow.Author.Tests.{leb-true}
use Rattle.std.specs.Prelude.{Result, Ok, Err, Option, Some, None}
use Rattle.rules.specs.Tests.{◌&◌, ◌≤?◌}
use Rattle.rules.specs.Fields.{check, ◌⨾◌, is_ok, read, judge}
use Rattle.rules.specs.Items.{good, spot}
use Rattle.rules.specs.Records.{sequence, bytes, code_at, entries, numbered, judge_line}
use Rattle.rules.specs.Kinds.{kind_of, known}
use Rattle.rules.specs.Layouts.{layouts, kept, layout}
use Rattle.rules.specs.Order.{last_job, goto}
use Rattle.rules.specs.Chapter4.{may_stand, expectation, ordered, chapter4}
use Rattle.rules.proofs.Truth.{and, of≤, of>, of≢, true_and, above_0, both_true}
use Rattle.rules.proofs.FieldLaws.{is_ok_⨾, is_ok_check}
use Rattle.kinds.specs.declared.Flaw.{Flaw}
use Rattle.kinds.specs.declared.Expect.{Expect}
use Rattle.kinds.specs.declared.Kind.{Kind}
use Rattle.kinds.specs.Values.{judged_of, expect_of, kind_index, kind_in}
use Rattle.kinds.proofs.KindLaws.{index_small, no_kind}
use Rattle.kinds.proofs.ValueLaws.{flaw, good_is, bad_is, good_then, bad_then}
use Rattle.judging.proofs.RowLaws.{ok_good}
use Rattle.judging.proofs.LineLaws.{alone_long}
use Rattle.quick.specs.Rest.{Fit}
use Rattle.walk.specs.declared.kept.Kept.{Kept}
use Rattle.walk.specs.Keeping.{past_of, expect_in, foreign, moved_of}
use Rattle.walk.specs.Words.{lead_in}
use Rattle.walk.specs.Walking.{judge_at, unknown_at, stepped, step_of}
use Rattle.walk.proofs.KeptLaws.{expect_is, stands}

-- without its order and fields
module _ (r : ℕ) (l : List ℕ) where
  pub unknown_late : 99_999 < r → {w : Flaw} → w ≡ flaw 2 1 → Err w ≡ judged_of (unknown_at r l)
  unfolding unknown_at check ◌⨾◌ judged_of
  unknown_late h z = rw (z, of> {m = r} {n = 99_999} h)

  module _ (h : r ≤ 99_999) (b : Result (Unit {0}) Flaw) (p : b ≡ judged_of (bytes 80 1 l)) where
    pub unknown_bytes : (w : Flaw) → b ≡ Err w → Err w ≡ judged_of (unknown_at r l)
    unfolding unknown_at check
    unknown_bytes w q = rw (of≤ h) (unfold ◌⨾◌ in sym (bad_then (bytes 80 1 l) _ w (sym p ∙ q)))

    pub unknown_code : b ≡ Ok tt → {w : Flaw} → w ≡ flaw 6 7 → Err w ≡ judged_of (unknown_at r l)
    unfolding unknown_at check ◌⨾◌ judged_of
    unknown_code q z = rw (z, of≤ h, good_is (bytes 80 1 l) (sym p ∙ q))

pub placed_long : (l : List ℕ) (b : Result (Unit {0}) Flaw) → b ≡ judged_of (bytes 80 1 l) → b ≡ Ok tt → 80 ≤ length l
placed_long l b p q = omega (arith, alone_long l b p q)

module _ (rows : List (List ℕ)) (s : Kept) (r : ℕ) (l : List ℕ) where
  pub placed_late : 99_999 < r → {w : Flaw} → w ≡ flaw 2 1 → Err w ≡ judged_of (judge_at rows s r l)
  unfolding judge_at check ◌⨾◌ judged_of
  placed_late h z = rw (z, of> {m = r} {n = 99_999} h)

  in-time : r ≤ 99_999 → judge_at rows s r l ≡ judge_line (ordered rows last_job) (past_of s) l
  unfolding judge_at check ◌⨾◌
  in-time h = rw (of≤ h)

  pub placed_bytes : r ≤ 99_999 → (b : Result (Unit {0}) Flaw) → b ≡ judged_of (bytes 80 1 l) → (w : Flaw) → b ≡ Err w → Err w ≡ judged_of (judge_at rows s r l)
  placed_bytes h b p w q = rw (in-time h) (unfold judge_line in sym (bad_then (bytes 80 1 l) _ w (sym p ∙ q)))

  module _ (kind : Kind) (e : kind_index kind ≡ kind_of (code_at l)) (h : r ≤ 99_999) (b : Result (Unit {0}) Flaw) (p : b ≡ judged_of (bytes 80 1 l)) (q : b ≡ Ok tt) where
    abbrev k : ℕ
    k = kind_index kind

    low : k ≤ 13
    low = omega (arith, index_small kind)

    -- after the bytes
    coded : judge_at rows s r l
        ≡ check (k ≤? 13) 6 7 ⨾ check (may_stand rows (past_of s) (code_at l)) 7 7 ⨾ numbered chapter4 l ⨾ judge (expectation (past_of s) (code_at l)) (map (read l) (get_or layouts k kept))
    unfolding judge_line known numbered entries layout
    coded = in-time h ∙ (unfold judge_line in good_then (bytes 80 1 l) _ (sym p ∙ q)) ∙ rw e

    module _ (next : ℕ) (n : next ≡ goto rows s.place k) where
      small : kind_of (code_at l) ≤ 13
      small = rw (← e) low

      stood : judge_at rows s r l
          ≡ check (1 ≤? next & not (foreign s k (get_or l 7 0) (get_or l 8 0))) 7 7 ⨾ numbered chapter4 l ⨾ judge (expectation (past_of s) (code_at l)) (map (read l) (get_or layouts k kept))
      unfolding check ◌⨾◌
      stood = coded ∙ rw (of≤ {m = k} {n = 13} low, stands l small rows s k e, ← n)

      pub placed_order : next ≡ 0 → {w : Flaw} → w ≡ flaw 7 7 → Err w ≡ judged_of (judge_at rows s r l)
      placed_order z y = rw (y, stood) (unfold check ◌⨾◌ judged_of ◌&◌ in rw (of> {m = 1} {n = next} (omega arith)))

      module _ (z : next ≡ 0 → ⊥) (x : ℕ) (ex : x ≡ get_or l 7 0) (y : ℕ) (ey : y ≡ get_or l 8 0) (o : Bool) (u : o ≡ foreign s k x y) where
        come : 1 ≤? next & not (foreign s k (get_or l 7 0) (get_or l 8 0)) ≡ not o
        come = rw (of≤ {m = 1} {n = next} (above_0 next z), ← ex, ← ey, ← u) (true_and (not o))

        pub placed_foreign : o ≡ true → {b : Flaw} → b ≡ flaw 7 7 → Err b ≡ judged_of (judge_at rows s r l)
        placed_foreign w a = rw (a, stood) (unfold check ◌⨾◌ judged_of in rw (come, w))

        pub placed_rest : o ≡ false → (d : Expect) → d ≡ expect_in s k → {v : Result (Unit {0}) Flaw} → v ≡ judged_of (numbered chapter4 l ⨾ judge (expect_of d) (map (read l) (get_or layouts k kept)))
            → v ≡ judged_of (judge_at rows s r l)
        placed_rest w d f g = g ∙ sym (rw stood (unfold check ◌⨾◌ in rw (come, w, ← expect_is s k (code_at l) e, f)))

  module _ (kind : Kind) (e : kind_index kind ≡ kind_of (code_at l)) (next : ℕ) (n : next ≡ goto rows s.place (kind_index kind)) where
    -- ---- the quick test: what fits has no fault
    pub placed_quick : (d : Expect) → d ≡ expect_in s (kind_index kind) → (t : Bool) → (t ≡ true → Fit l (kind_in (Some kind)) (expect_of d)) → (not (eqb next 0) && leb r 99_999 && t) ≡ true → Ok tt ≡ judged_of (judge_at rows s r l)
    placed_quick d f t g q =
        let k = kind_index kind in
        let x = both_true (not (eqb next 0) && leb r 99_999) t q in
        let y = both_true (not (eqb next 0)) (leb r 99_999) x.0 in
        let F : Fit l (kind_index kind) (expect_of d) = unfold kind_in in g x.1 in
        let fine = is_ok_⨾ (numbered chapter4 l) (judge (expect_of d) (map (read l) (get_or layouts k kept))) ∙ and (numbered_ok F.number) F.fields in
        placed_rest kind e (leb-true r 99_999 y.1) (Ok tt) (ok_good (bytes 80 1 l) F.fine) refl next n (comes y.0) (get_or l 7 0) refl (get_or l 8 0) refl
        (foreign s k (get_or l 7 0) (get_or l 8 0)) refl (at_home F.low) d f (ok_good (numbered chapter4 l ⨾ judge (expect_of d) (map (read l) (get_or layouts k kept))) fine)
      where
        comes : not (eqb next 0) ≡ true → next ≡ 0 → ⊥
        comes h z = false≢true (rw z at h)

        numbered_ok : good sequence (take 6 l) ≡ true → is_ok (numbered chapter4 l) ≡ true
        numbered_ok e = unfold numbered in is_ok_check (good sequence (take 6 l)) 9 (1 + spot sequence (take 6 l)) ∙ e

        at_home : 1 ≤ kind_index kind → foreign s (kind_index kind) (get_or l 7 0) (get_or l 8 0) ≡ false
        at_home e = unfold foreign in rw (of≢ {m = kind_index kind} {n = 0} (λ z. omega arith))

  -- ---- a code of no kind
  unknown_is : kind_of (code_at l) ≡ 14 → judge_at rows s r l ≡ unknown_at r l
  unfolding judge_at judge_line unknown_at known
  unknown_is h = rw h (unfold check ◌⨾◌ ◌≤?◌ in refl)

  pub step_unknown : (o : Option Kind) → kind_in o ≡ kind_of (code_at l) → o ≡ None → (w : Flaw) → Err w ≡ judged_of (unknown_at r l) → Err w ≡ step_of rows s r l
  unfolding step_of stepped
  step_unknown o e h w p = rw (unknown_is (no_kind o _ e h), bad_is (unknown_at r l) w (sym p))

  -- ---- the step
  module _ (v : Result (Unit {0}) Flaw) (p : v ≡ judged_of (judge_at rows s r l)) where
    pub step_fault : (w : Flaw) → v ≡ Err w → Err w ≡ step_of rows s r l
    unfolding step_of stepped
    step_fault w q = rw (bad_is _ w (sym p ∙ q))

    pub step_next : v ≡ Ok tt → (kind : Kind) → kind_index kind ≡ kind_of (code_at l) → (next : ℕ) → next ≡ goto rows s.place (kind_index kind)
        → (x : ℕ) → x ≡ get_or l 7 0 → (y : ℕ) → y ≡ get_or l 8 0 → (lead : ℕ) → lead ≡ lead_in (kind_index kind) l → (u : Kept) → u ≡ moved_of s next (kind_index kind) x y lead → Ok u ≡ step_of rows s r l
    unfolding step_of stepped
    step_next q k e next w x ex y ey lead el u eu = rw (good_is _ (sym p ∙ q)) (ap Ok (eu ∙ rw (w, ex, ey, el, e)))
