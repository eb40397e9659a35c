-- Demands 1 and 2 as facts about pad, from its promise alone.
use mathlib.Core.Path.{◌≡◌, refl, sym, ◌∙◌, ap, subst}
use mathlib.Core.Logic.{inl, inr}
use mathlib.Core.Bool.{true, cond, false≢true}
use mathlib.Core.List.{List, [], ◌++◌}
use Prim.Native.Nat.{ℕ, ◌*◌, ◌≤◌, ◌<◌}
use native.Mathlib.Omega.{arith}
use lib.ListN.{length, take, drop}
use lib.Seq.{take_at, drop_at}
use Rattle.std.specs.Prelude.{Result, Ok, Err, is_err, IsOk}
use Rattle.rules.specs.Tests.{◌≤?◌, ◌=?◌}
use Rattle.rules.specs.Members.{◌∈◌}
use Rattle.rules.specs.Files as files
use Rattle.rules.specs.Files.{accept, refuse, is_accept, and_then, line_at, lines, join, accepted}
use Rattle.rules.specs.Chapter4.{chapter4}
use Rattle.rules.specs.Padding.{lines_of, texts, padded, judge_texts, pad_verdict, PadFaults, PadPrecedes, PadFirst, pad_answer_by, pad_answer, pad_output}
use Rattle.rules.proofs.Truth.{of≤, to≤, no≤, of≢, cases, either}
use Rattle.rules.proofs.FileLaws.{is_accept_lem, line_within}
use Rattle.rules.proofs.PaddingLaws.{pad_first, pad_unique, pad_none, short_texts, padded_long, padded_line_lem, accepted_pads}
use Rattle.kinds.specs.declared.Fault.{Fault}
use Rattle.kinds.proofs.ValueLaws.{not_ok, ok_is, same_fault, same_ok, ok_not_err}
use Rattle.padding.specs.Promise.{padded_of, Promised, named, Refusing, Judging}

-- 01, "Prove that two results allowed by one promise are equal"
pub one_result : (f o : List ℕ) (v w : Result ℕ Fault) (p q : List ℕ) → Promised f o v p → Promised f o w q → (v ≡ w) × (p ≡ q)
one_result f o v w p q a b = (a.answered ∙ sym b.answered, a.written ∙ sym b.written)

-- ---- what is refused, and what is not
module _ (f : List ℕ) (room : ℕ) where
  pub above_zero : (n r c : ℕ) → PadFaults f room n r c → 1 ≤ n
  unfolding PadFaults
  above_zero n r c (inl (i, h, e, inl x)) = omega (arith, x.1)
  above_zero n r c (inl (i, h, e, inr x)) = omega (arith, x.1)
  above_zero n r c (inr x) = omega (arith, x.1)

  pub refused-first : (n r c : ℕ) → pad_verdict f room ≡ refuse n r c → PadFirst f room (refuse n r c)
  refused-first n r c e = subst (PadFirst f room) e (pad_first f room)

  -- what is not refused has lines that pass, and room for them
  good-parts : pad_verdict f room ≡ accept → (judge_texts 1 (texts f) ≡ accept) × (81 * length (texts f) ≤ room)
  unfolding pad_verdict and_then is_accept
  good-parts e = by (judge_texts 1 (texts f)) e
    where
      roomy : cond (81 * length (texts f) ≤? room) accept (refuse 1 0 0) ≡ accept → 81 * length (texts f) ≤ room
      roomy k = cases (81 * length (texts f) ≤? room) to≤ (λ h. absurd (false≢true (ap is_accept (rw h at k))))

      by : (x : files.Result) → and_then x (cond (81 * length (texts f) ≤? room) accept (refuse 1 0 0)) ≡ accept → (x ≡ accept) × (81 * length (texts f) ≤ room)
      by accept k = (refl, roomy k)
      by (refuse n r c) k = absurd (false≢true (ap is_accept k))

  pub parts-good : judge_texts 1 (texts f) ≡ accept → 81 * length (texts f) ≤ room → pad_verdict f room ≡ accept
  unfolding pad_verdict and_then
  parts-good e k = rw (e, of≤ {m = 81 * length (texts f)} {n = room} k)

module _ (f o : List ℕ) (v : Result ℕ Fault) (p : List ℕ) where
  -- ---- the two ways a call can end
  data Ends : Type 0 where
    good : pad_verdict f (length o) ≡ accept → v ≡ Ok (length (texts f)) → p ≡ padded f ++ drop (81 * length (texts f)) o → Ends
    bad : (n r c : ℕ) → pad_verdict f (length o) ≡ refuse n r c → v ≡ Err record { number = n; «record» = r; column = c } → p ≡ o → Ends

  answered_good : pad_verdict f (length o) ≡ accept → padded_of (pad_answer f o) ≡ Ok (length (texts f))
  unfolding pad_answer pad_answer_by padded_of ◌=?◌
  answered_good e = rw e

  answered_bad : (n r c : ℕ) → pad_verdict f (length o) ≡ refuse n r c → padded_of (pad_answer f o) ≡ Err record { number = n; «record» = r; column = c }
  unfolding pad_answer pad_answer_by padded_of PadFirst
  answered_bad n r c e = rw (e, of≢ {m = n} {n = 0} (λ z. omega (arith, z, above_zero f (length o) n r c (refused-first f (length o) n r c e).0)))

  ends : Promised f o v p → Ends
  unfolding pad_output is_accept
  ends promised = by (pad_verdict f (length o)) refl
    where
      by : (x : files.Result) → pad_verdict f (length o) ≡ x → Ends
      by accept e = good e (promised.answered ∙ answered_good e) (promised.written ∙ rw e)
      by (refuse n r c) e = bad n r c e (promised.answered ∙ answered_bad n r c e) (promised.written ∙ rw e)

  -- ---- demand 1
  -- a refusal by 2 is at the 100,000th line, since an input with a later one has that one too
  refusing : (n r c : ℕ) → v ≡ Err record { number = n; «record» = r; column = c } → p ≡ o → PadFaults f (length o) n r c
      → ((n' r' c' : ℕ) → PadFaults f (length o) n' r' c' → PadPrecedes n r n' r') → Refusing o v p
  unfolding PadFaults PadPrecedes ◌∈◌
  refusing n r c t w (inl (i, h, e, inl x)) least = record {
    numbers = λ g q. inr (inl ((its g q).0 ∙ x.1));
    unwritten = λ z. w;
    short_output = λ g q y. absurd (omega (arith, y, (its g q).0, x.1));
    many_lines = λ g q y. ((its g q).1 ∙ hundred_thousandth, (its g q).2 ∙ x.2);
    long_line = λ g q y. absurd (omega (arith, y, (its g q).0, x.1));
    place = λ g q. omega (arith, (its g q).1, hundred_thousandth);
    spot = λ g q. omega (arith, (its g q).2, x.2);
  }
    where
      its : (g : Fault) → v ≡ Err g → (g.number ≡ n) × (g.«record» ≡ r) × (g.column ≡ c)
      its g q = let y = same_fault q t in (ap (λ (k : Fault). k.number) y, ap (λ (k : Fault). k.«record») y, ap (λ (k : Fault). k.column) y)

      hundred_thousandth : r ≡ 100_000
      hundred_thousandth = either
          (λ z. absurd (omega (arith, z)))
          (λ z. either (λ k. omega (arith, k, x.0)) (λ k. k.0) z.1)
          (least 2 100_000 1 (inl (99_999, omega (arith, h, e, x.0), refl, inl (omega arith, refl, refl))))
  refusing n r c t w (inl (i, h, e, inr x)) least = record {
    numbers = λ g q. inr (inr (inl ((its g q).0 ∙ x.1)));
    unwritten = λ z. w;
    short_output = λ g q y. absurd (omega (arith, y, (its g q).0, x.1));
    many_lines = λ g q y. absurd (omega (arith, y, (its g q).0, x.1));
    long_line = λ g q y. (its g q).2 ∙ x.2;
    place = λ g q. cases (r ≤? 100_000) (λ k. omega (arith, (its g q).1, to≤ k)) (λ k. absurd (later (no≤ k)));
    spot = λ g q. omega (arith, (its g q).2, x.2);
  }
    where
      its : (g : Fault) → v ≡ Err g → (g.number ≡ n) × (g.«record» ≡ r) × (g.column ≡ c)
      its g q = let y = same_fault q t in (ap (λ (k : Fault). k.number) y, ap (λ (k : Fault). k.«record») y, ap (λ (k : Fault). k.column) y)

      -- a line behind the 100,000th is not the first to be refused
      later : 100_000 < r → ⊥
      later k = either
          (λ z. omega (arith, z))
          (λ z. either (λ y. omega (arith, y, k)) (λ y. omega (arith, y.0, k)) z.1)
          (least 2 100_000 1 (inl (99_999, omega (arith, h, e, k), refl, inl (omega arith, refl, refl))))
  refusing n r c t w (inr x) least = record {
    numbers = λ g q. inl ((its g q).0 ∙ x.1);
    unwritten = λ z. w;
    short_output = λ g q y. ((its g q).1 ∙ x.2, (its g q).2 ∙ x.3);
    many_lines = λ g q y. absurd (omega (arith, y, (its g q).0, x.1));
    long_line = λ g q y. absurd (omega (arith, y, (its g q).0, x.1));
    place = λ g q. omega (arith, (its g q).1, x.2);
    spot = λ g q. omega (arith, (its g q).2, x.3);
  }
    where
      its : (g : Fault) → v ≡ Err g → (g.number ≡ n) × (g.«record» ≡ r) × (g.column ≡ c)
      its g q = let y = same_fault q t in (ap (λ (k : Fault). k.number) y, ap (λ (k : Fault). k.«record») y, ap (λ (k : Fault). k.column) y)

  pub demand_1_pad : Promised f o v p → Refusing o v p
  unfolding PadFirst
  demand_1_pad promised = by (ends promised)
    where
      by : Ends → Refusing o v p
      by (good a t w) = record {
        numbers = λ g q. absurd (ok_not_err t q);
        unwritten = λ z. absurd (false≢true (sym (ap is_err t) ∙ z));
        short_output = λ g q. absurd (ok_not_err t q);
        many_lines = λ g q. absurd (ok_not_err t q);
        long_line = λ g q. absurd (ok_not_err t q);
        place = λ g q. absurd (ok_not_err t q);
        spot = λ g q. absurd (ok_not_err t q);
      }
      by (bad n r c a t w) = let told = refused-first f (length o) n r c a in refusing n r c t w told.0 told.1

  -- ---- demand 2
  module _ (promised : Promised f o v p) where
    -- the answer names the verdict
    pub named_is : named v ≡ pad_verdict f (length o)
    unfolding named
    named_is = by (ends promised)
      where
        by : Ends → named v ≡ pad_verdict f (length o)
        by (good a t w) = rw (t, a)
        by (bad n r c a t w) = rw (t, a)

    good-zero : pad_verdict f (length o) ≡ accept → IsOk v
    unfolding is_accept
    good-zero k = by (ends promised)
      where
        by : Ends → IsOk v
        by (good a t w) = ok_is t
        by (bad n r c a t w) = absurd (false≢true (ap is_accept (sym a ∙ k)))

    -- what a call that took its input answers and leaves
    record Took : Type 0 where
      pub taken : pad_verdict f (length o) ≡ accept
      pub counts : v ≡ Ok (length (texts f))
      pub writes : p ≡ padded f ++ drop (81 * length (texts f)) o

    took : IsOk v → Took
    took z = by (ends promised)
      where
        by : Ends → Took
        by (good a t w) = record { taken = a; counts = t; writes = w }
        by (bad n r c a t w) = absurd (not_ok t z)

    -- what was taken has lines that pass
    pub passed : IsOk v → judge_texts 1 (texts f) ≡ accept
    passed z = (good-parts f (length o) (took z).taken).0

    module _ (n : ℕ) (q : v ≡ Ok n) where
      its_count : n ≡ length (texts f)
      its_count = same_ok q (took (ok_is q)).counts

      its_length : length (padded f) ≡ 81 * n
      its_length = padded_long f (passed (ok_is q)) ∙ ap (81 *◌) (sym its_count)

      its_output : p ≡ padded f ++ drop (81 * n) o
      its_output = rw its_count (took (ok_is q)).writes

    pub demand_2_pad : Judging f o v p
    demand_2_pad = record {
      first = subst (PadFirst f (length o)) (sym named_is) (pad_first f (length o));
      unique = λ w h. pad_unique f (length o) w h ∙ sym named_is;
      faultless = (
        (λ z. (pad_none f (length o)).0 (unfold is_accept in ap is_accept (took z).taken)),
        (λ h. good-zero (is_accept_lem _ ((pad_none f (length o)).1 h))),
      );
      counted = its_count;
      few = λ n q. omega (arith, its_count n q, (short_texts f (passed (ok_is q))).1);
      written = λ n q. ap (take (81 * n)) (its_output n q) ∙ take_at (padded f) (drop (81 * n) o) (81 * n) (its_length n q);
      beyond = λ n q. ap (drop (81 * n)) (its_output n q) ∙ drop_at (padded f) (drop (81 * n) o) (81 * n) (its_length n q);
      each = λ n q i k.
          ap (λ (l : List ℕ). line_at l i) (its_output n q) ∙ line_within (padded f) (drop (81 * n) o) i (omega (arith, k, its_length n q))
          ∙ padded_line_lem f (passed (ok_is q)) i (omega (arith, k, its_count n q));
    }

    -- lines that pass, with room for them, are taken
    takes : judge_texts 1 (texts f) ≡ accept → 81 * length (texts f) ≤ length o → Took
    takes e k = took (good-zero (parts-good f (length o) e k))

-- ---- an accepted file comes out unchanged
pub accepted_unchanged : (f o : List ℕ) (v : Result ℕ Fault) (p : List ℕ) → accepted chapter4 f ≡ true → length f ≤ length o → Promised f o v p
    → (v ≡ Ok (length (lines f))) × (p ≡ f ++ drop (length f) o)
accepted_unchanged f o v p h k promised =
    let its = takes f o v p promised itself.0 (omega (arith, long, k)) in
    (its.counts ∙ ap Ok itself.2, its.writes ∙ rw (itself.1, ← long))
  where
    itself : (judge_texts 1 (texts f) ≡ accept) × (padded f ≡ f) × (length (texts f) ≡ length (lines f))
    itself = accepted_pads f h

    long : length f ≡ 81 * length (texts f)
    long = ap length (sym itself.1) ∙ padded_long f itself.0

-- ---- an empty input pads to an empty file, whatever the output
pub empty_input : (o : List ℕ) (v : Result ℕ Fault) (p : List ℕ) → Promised [] o v p → (v ≡ Ok 0) × (p ≡ o)
unfolding lines_of texts judge_texts padded join
empty_input o v p promised = let its = takes [] o v p promised refl (omega arith) in (its.counts, its.writes)
