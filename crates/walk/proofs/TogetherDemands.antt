-- Demands 1 and 2 as facts about what form and references say together, which is what rewrite and the sheet answer.
use mathlib.Core.Path.{◌≡◌, refl, sym, ◌∙◌, ap, subst}
use mathlib.Core.Bool.{true, false, cond, false≢true}
use mathlib.Core.List.{List, ◌++◌}
use Prim.Native.Nat.{ℕ, ◌≤◌, ◌<◌}
use native.Mathlib.Omega.{arith}
use lib.ListN.{length, take, drop, replicate, length-replicate}
use lib.Seq.{take_at, drop_at}
use Rattle.std.specs.Prelude.{Result, Ok, Err, IsOk}
use Rattle.rules.specs.Tests.{◌≤?◌, ◌=?◌}
use Rattle.rules.specs.Files as files
use Rattle.rules.specs.Files.{accept, refuse, is_accept, meanings, verdict, accepted}
use Rattle.rules.specs.References.{words, counts}
use Rattle.rules.specs.Faults.{FirstOf, CallFaults}
use Rattle.rules.specs.Calls.{outcome, big_table, answer, table_left, file_answer, references_table}
use Rattle.rules.specs.Chapter4.{chapter4}
use Rattle.rules.proofs.Truth.{of≤, to≤, of>, no≤, cases}
use Rattle.rules.proofs.ReferenceLaws.{length-words}
use Rattle.rules.proofs.Bounds.{file_numbers}
use Rattle.rules.proofs.Conforming.{accepted_conforms}
use Rattle.rules.proofs.Demands.{demand_2, accepted_iff, counts-and-words}
use Rattle.kinds.specs.declared.Fault.{Fault}
use Rattle.kinds.specs.Values.{checked_of}
use Rattle.kinds.proofs.ValueLaws.{not_ok, ok_is, same_fault, same_ok, ok_not_err}
use Rattle.walk.specs.Walking.{answer_of}
use Rattle.walk.proofs.JudgeLaws.{answer_told}
use Rattle.walk.specs.Promise.{result_of, named, Together, Refusing, Judging}

-- ---- what an answer tells, whatever the call
module _ (v : Result (List ℕ) Fault) where
  pub number_bad : (n r c : ℕ) → v ≡ Err record { number = n; «record» = r; column = c } → (g : Fault) → v ≡ Err g → g.number ≡ n
  number_bad n r c e g q = ap (λ (y : Fault). y.number) (same_fault q e)

  pub names : (n r c : ℕ) → v ≡ Err record { number = n; «record» = r; column = c } → named v ≡ refuse n r c
  unfolding result_of
  names n r c e = rw e

  names_good : {cs : List ℕ} → v ≡ Ok cs → named v ≡ accept
  unfolding result_of
  names_good e = rw e

  -- refusal 1
  pub refused_1 : (t u : List ℕ) → v ≡ Err record { number = 1; «record» = 0; column = 0 } → u ≡ t → Refusing t v u
  refused_1 t u e w = record {
    numbers = λ g q. omega (arith, number_bad 1 0 0 e g q);
    untouched = λ g q z. w;
    zeros = λ g q y. absurd (y (number_bad 1 0 0 e g q));
    later = ap (drop 12_000) w;
  }

module _ (f t : List ℕ) (v : Result (List ℕ) Fault) (u : List ℕ) (p : Together f t v u) where
  -- ---- the three ways a call can end
  data Ends : Type 0 where
    short : length t < 12_000 → v ≡ Err record { number = 1; «record» = 0; column = 0 } → u ≡ t → Ends
    good : 12_000 ≤ length t → verdict chapter4 f ≡ accept → v ≡ Ok (counts (meanings chapter4 f)) → u ≡ words (meanings chapter4 f) ++ drop 12_000 t → Ends
    bad : 12_000 ≤ length t → (n r c : ℕ) → verdict chapter4 f ≡ refuse n r c → v ≡ Err record { number = n; «record» = r; column = c } → u ≡ replicate 12_000 0 ++ drop 12_000 t → Ends

  long_is : 12_000 ≤ length t → file_answer f t ≡ answer (verdict chapter4 f) (meanings chapter4 f)
  unfolding file_answer outcome big_table
  long_is h = rw (of≤ {m = 12_000} {n = length t} h)

  told : 12_000 ≤ length t → v ≡ answer_of (verdict chapter4 f) (meanings chapter4 f)
  told h =
      p.answered ∙ ap checked_of (long_is h) ∙ answer_told (verdict chapter4 f) (meanings chapter4 f) (λ n r c e. omega (arith, (file_numbers f n r c e).0))

  short_is : 12_000 ≤? length t ≡ false → v ≡ Err record { number = 1; «record» = 0; column = 0 }
  unfolding file_answer outcome big_table checked_of answer ◌=?◌
  short_is b = p.answered ∙ rw b

  ends : Ends
  ends = cases (12_000 ≤? length t) (λ b. by (to≤ b) (verdict chapter4 f) refl) (λ b. short (no≤ b) (short_is b) (p.left ∙ (unfold references_table table_left big_table in rw b)))
    where
      left : 12_000 ≤ length t → u ≡ cond (is_accept (verdict chapter4 f)) (words (meanings chapter4 f)) (replicate 12_000 0) ++ drop 12_000 t
      left h = p.left ∙ (unfold references_table table_left big_table in rw (of≤ {m = 12_000} {n = length t} h))

      by : 12_000 ≤ length t → (x : files.Result) → verdict chapter4 f ≡ x → Ends
      by h accept e = good h e (told h ∙ ap (λ (y : files.Result). answer_of y (meanings chapter4 f)) e ∙ (unfold answer_of in refl)) (left h ∙ ap (λ b. cond b (words (meanings chapter4 f)) (replicate 12_000 0) ++ drop 12_000 t) (ap is_accept e ∙ yes))
        where
          yes : is_accept accept ≡ true
          yes = unfold is_accept in refl
      by h (refuse n r c) e = bad h n r c e (told h ∙ ap (λ (y : files.Result). answer_of y (meanings chapter4 f)) e ∙ (unfold answer_of in refl)) (left h ∙ ap (λ b. cond b (words (meanings chapter4 f)) (replicate 12_000 0) ++ drop 12_000 t) (ap is_accept e ∙ no))
        where
          no : is_accept (refuse n r c) ≡ false
          no = unfold is_accept in refl

  -- ---- demand 1
  pub demand_1_together : Refusing t v u
  demand_1_together = by ends
    where
      by : Ends → Refusing t v u
      by (short h e w) = refused_1 v t u e w
      by (good h a e w) = record {
        numbers = λ g q. absurd (ok_not_err e q);
        untouched = λ g q. absurd (ok_not_err e q);
        zeros = λ g q. absurd (ok_not_err e q);
        later = ap (drop 12_000) w ∙ drop_at (words (meanings chapter4 f)) (drop 12_000 t) 12_000 (length-words (meanings chapter4 f));
      }
      by (bad h n r c a e w) =
          let range = file_numbers f n r c a in
          record {
            numbers = λ g q. omega (arith, number_bad v n r c e g q, range.0, range.1);
            untouched = λ g q z. absurd (omega (arith, z, number_bad v n r c e g q, range.0));
            zeros = λ g q y. ap (take 12_000) w ∙ take_at (replicate 12_000 0) (drop 12_000 t) 12_000 (length-replicate {A = ℕ} 12_000 0);
            later = ap (drop 12_000) w ∙ drop_at (replicate 12_000 0) (drop 12_000 t) 12_000 (length-replicate {A = ℕ} 12_000 0);
          }

  -- ---- demand 2
  pub named_is : named v ≡ outcome (big_table t) f
  named_is = by ends
    where
      by : Ends → named v ≡ outcome (big_table t) f
      by (short h e w) = names v 1 0 0 e ∙ (unfold outcome big_table in rw (of> {m = 12_000} {n = length t} h))
      by (good h a e w) = names_good v e ∙ (unfold outcome big_table in rw (of≤ {m = 12_000} {n = length t} h, a))
      by (bad h n r c a e w) = names v n r c e ∙ (unfold outcome big_table in rw (of≤ {m = 12_000} {n = length t} h, a))

  zero-accepted : 12_000 ≤ length t → IsOk v → accepted chapter4 f ≡ true
  unfolding accepted
  zero-accepted k z = by ends
    where
      by : Ends → is_accept (verdict chapter4 f) ≡ true
      by (short h e w) = absurd (omega arith)
      by (good h a e w) = rw a (unfold is_accept in refl)
      by (bad h n r c a e w) = absurd (not_ok e z)

  pub accepted-zero : 12_000 ≤ length t → accepted chapter4 f ≡ true → IsOk v
  accepted-zero k y = by ends
    where
      no : (n r c : ℕ) → verdict chapter4 f ≡ refuse n r c → ⊥
      no n r c a = false≢true (unfold is_accept in sym (ap is_accept a) ∙ (unfold accepted in y))

      by : Ends → IsOk v
      by (short h e w) = absurd (omega arith)
      by (good h a e w) = ok_is e
      by (bad h n r c a e w) = absurd (no n r c a)

  pub refused-number : 12_000 ≤ length t → (n r c : ℕ) → verdict chapter4 f ≡ refuse n r c → v ≡ Err record { number = n; «record» = r; column = c }
  unfolding answer_of
  refused-number k n r c y = told k ∙ rw y

  -- a file with the number 0 was taken with a full-size table
  pub taken : IsOk v → 12_000 ≤ length t
  taken z = by ends
    where
      by : Ends → 12_000 ≤ length t
      by (short h e w) = absurd (not_ok e z)
      by (good h a e w) = h
      by (bad h n r c a e w) = h

  pub demand_2_together : Judging f t v u
  demand_2_together = record {
    first = subst (FirstOf (CallFaults chapter4 (big_table t) f)) (sym named_is) (demand_2 (big_table t) f).first;
    unique = λ w h. (demand_2 (big_table t) f).unique w h ∙ sym named_is;
    faultless = λ k. ((λ z. (accepted_iff f).0 (zero-accepted k z)), (λ h. accepted-zero k ((accepted_iff f).1 h)));
    conforming = λ k. ((λ z. (accepted_conforms f).0 (zero-accepted k z)), (λ h. accepted-zero k ((accepted_conforms f).1 h)));
    counted = λ cs q. its_counts cs q ends;
    filled = λ z. its_words z ends;
    told = λ z. counts-and-words f (zero-accepted (taken z) z);
  }
    where
      its_counts : (cs : List ℕ) → v ≡ Ok cs → Ends → cs ≡ counts (meanings chapter4 f)
      its_counts cs q (short h e w) = absurd (ok_not_err q e)
      its_counts cs q (good h a e w) = same_ok q e
      its_counts cs q (bad h n r c a e w) = absurd (ok_not_err q e)

      its_words : IsOk v → Ends → take 12_000 u ≡ words (meanings chapter4 f)
      its_words z (short h e w) = absurd (not_ok e z)
      its_words z (good h a e w) = ap (take 12_000) w ∙ take_at (words (meanings chapter4 f)) (drop 12_000 t) 12_000 (length-words (meanings chapter4 f))
      its_words z (bad h n r c a e w) = absurd (not_ok e z)
