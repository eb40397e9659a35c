-- The call: a law for each way out.
use mathlib.Core.Path.{◌≡◌, refl, ◌∙◌, ap}
use mathlib.Core.List.{List, ◌++◌}
use Prim.Native.Nat.{ℕ, ◌*◌, ◌/◌, ◌≤◌, ◌<◌}
use native.Mathlib.Omega.{arith}
use lib.ListN.{length, drop}
use Rattle.std.specs.Prelude.{Result, Ok, Err}
use Rattle.rules.specs.Tests.{◌=?◌}
use Rattle.rules.specs.Files as files
use Rattle.rules.specs.Files.{accept, refuse, is_accept, and_then}
use Rattle.rules.specs.Padding.{texts, padded, judge_texts, pad_verdict, PadFirst, pad_answer_by, pad_answer, pad_output}
use Rattle.rules.proofs.Truth.{of>, of≢}
use Rattle.kinds.specs.declared.Fault.{Fault}
use Rattle.kinds.proofs.ValueLaws.{same_fault, same_ok, ok_not_err}
use Rattle.padding.specs.Promise.{padded_of, Promised}
use Rattle.padding.proofs.PadDemands.{parts-good, above_zero, refused-first}

module _ (f o : List ℕ) where
  verdict-refused : (n r c : ℕ) → judge_texts 1 (texts f) ≡ refuse n r c → pad_verdict f (length o) ≡ refuse n r c
  unfolding pad_verdict and_then
  verdict-refused n r c e = rw e

  verdict_narrow : judge_texts 1 (texts f) ≡ accept → length o < 81 * length (texts f) → pad_verdict f (length o) ≡ refuse 1 0 0
  unfolding pad_verdict and_then
  verdict_narrow e h = rw (e, of> h)

  refused : (n r c : ℕ) → 1 ≤ n → pad_verdict f (length o) ≡ refuse n r c → Promised f o (Err record { number = n; «record» = r; column = c }) o
  unfolding pad_answer pad_output is_accept pad_answer_by padded_of
  refused n r c h p = record { answered = rw (p, of≢ {m = n} {n = 0} (λ y. omega arith)); written = rw p }

  taken : (p : List ℕ) → p ≡ padded f ++ drop (81 * length (texts f)) o → pad_verdict f (length o) ≡ accept → Promised f o (Ok (length (texts f))) p
  unfolding pad_answer pad_output is_accept pad_answer_by padded_of ◌=?◌
  taken p w a = record { answered = rw a; written = rw a w }

  module _ (v : Result ℕ Fault) (ev : v ≡ padded_of (pad_answer_by (judge_texts 1 (texts f)) (length (texts f)))) where
    from_1 : (n r c : ℕ) → judge_texts 1 (texts f) ≡ refuse n r c → 1 ≤ n
    unfolding PadFirst
    from_1 n r c e = above_zero f (length o) n r c (refused-first f (length o) n r c (verdict-refused n r c e)).0

    as_bad : (n r c : ℕ) → judge_texts 1 (texts f) ≡ refuse n r c → v ≡ Err record { number = n; «record» = r; column = c }
    unfolding padded_of pad_answer_by
    as_bad n r c e = ev ∙ rw (e, of≢ {m = n} {n = 0} (λ y. omega (arith, y, from_1 n r c e)))

    as_good : judge_texts 1 (texts f) ≡ accept → v ≡ Ok (length (texts f))
    unfolding padded_of pad_answer_by ◌=?◌
    as_good e = ev ∙ rw e

    pub faulty : (g : Fault) → v ≡ Err g → Promised f o (Err g) o
    faulty g q = go (judge_texts 1 (texts f)) refl
      where
        go : (x : files.Result) → judge_texts 1 (texts f) ≡ x → Promised f o (Err g) o
        go accept e = absurd (ok_not_err (as_good e) q)
        go (refuse n r c) e = rw (same_fault q (as_bad n r c e)) (refused n r c (from_1 n r c e) (verdict-refused n r c e))

    module _ (k : ℕ) (z : v ≡ Ok k) where
      pub good-lines : judge_texts 1 (texts f) ≡ accept
      good-lines = go (judge_texts 1 (texts f)) refl
        where
          go : (x : files.Result) → judge_texts 1 (texts f) ≡ x → judge_texts 1 (texts f) ≡ accept
          go accept e = e
          go (refuse n r c) e = absurd (ok_not_err z (as_bad n r c e))

      pub count : k ≡ length (texts f)
      count = same_ok z (as_good good-lines)

      pub narrow : length o / 81 < k → {g : Fault} → g ≡ record { number = 1; «record» = 0; column = 0 } → Promised f o (Err g) o
      narrow h e = rw e (refused 1 0 0 (omega arith) (verdict_narrow good-lines (omega (arith, count))))

      pub before : (near : ℕ) → near ≤ length (texts f) → near ≤ k
      before near h = omega (arith, count)

      pub laid : k ≤ length o / 81 → (p : List ℕ) → p ≡ padded f ++ drop (81 * k) o → Promised f o (Ok k) p
      laid h p e = rw count (taken p (e ∙ ap (λ n. padded f ++ drop (81 * n) o) count) (parts-good f (length o) good-lines (omega (arith, count))))
