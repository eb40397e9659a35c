-- Wrong programs that the promises do not allow: 01, "How tight the promises are" and "Slips we have seen"; 02, T-05.
use mathlib.Core.Path.{◌≡◌, refl, sym, ◌∙◌, ap}
use mathlib.Core.List.{List, []}
use Prim.Native.Nat.{ℕ, ◌≤◌}
use Prim.Native.String.{String}
use native.Mathlib.Omega.{arith}
use lib.ListN.{length, take, get_or, replicate, length-replicate}
use lib.Seq.{get_or-take}
use Rattle.std.specs.Prelude.{Option, Some, Result, Ok, Err, IsOk, IsOkAnd, IsErrAnd}
use Rattle.std.specs.Result.{result_err}
use Rattle.rules.specs.Files.{accept, is_accept, meanings, accepted}
use Rattle.rules.specs.Tests.{◌=?◌}
use Rattle.rules.specs.Kinds.{*70*, *86*}
use Rattle.rules.specs.References.{instruments, definer}
use Rattle.rules.specs.Calls.{references_answer, big_table}
use Rattle.rules.specs.Chapter4.{chapter4}
use Rattle.rules.proofs.Truth.{of≤}
use Rattle.rules.proofs.ReferenceLaws.{instruments_in}
use Rattle.rules.proofs.Samples.{bytes_of, judged, full, full_accepted, counted, full_counts, malformed_later, strangers, form_of, forms, references_of, references, definers_of, twofold, twofold_accepted, twofold_definers}
use Rattle.kinds.specs.declared.Fault.{Fault}
use Rattle.kinds.specs.Values.{checked_of, fault_of}
use Rattle.kinds.proofs.ValueLaws.{not_ok}
use Rattle.walk.specs.Promise.{FormPromised, ReferencesPromised}
use Rattle.walk.proofs.CallDemands.{demand_1_references, demand_2_form, demand_2_references, accepted-zero}

-- a table of full size
unfoldable pub table : List ℕ
table = replicate 12_000 0

pub table_long : 12_000 ≤ length table
unfolding table
table_long = omega (arith, length-replicate {A = ℕ} 12_000 0)

-- ---- form, whatever it does, that keeps the promise
module _ (answer : List ℕ → Result (List ℕ) Fault) (keeps : (f : List ℕ) → FormPromised f (answer f)) where
  ok_at : (ls : List String) → (form_of ls).number ≡ 0 → IsOk (answer (bytes_of ls))
  unfolding form_of checked_of ◌=?◌
  ok_at ls e = rw ((keeps (bytes_of ls)).answered, e) refl

  full_ok : IsOk (answer (bytes_of full))
  full_ok = ok_at full (ap (λ ns. get_or ns 0 9) forms)

  empty_8 : IsErrAnd (answer []) (λ g. g.number ≡ 8)
  unfolding bytes_of form_of checked_of ◌=?◌
  empty_8 =
      let e : (form_of []).number ≡ 8 = ap (λ ns. get_or ns 4 9) forms in
      rw ((keeps []).answered, e) refl

  pub not_refusing_everything : ((f : List ℕ) → IsOk (answer f) → ⊥) → ⊥
  not_refusing_everything wrong = wrong (bytes_of full) full_ok

  -- the verdict alone: the fault, or none
  pub not_one_verdict : (x : Option Fault) → ((f : List ℕ) → result_err (answer f) ≡ x) → ⊥
  not_one_verdict x wrong = by (answer []) refl empty_8
    where
      by : (y : Result (List ℕ) Fault) → answer [] ≡ y → IsErrAnd y (λ g. g.number ≡ 8) → ⊥
      by (Ok cs) e z = z
      by (Err g) e z = other (answer (bytes_of full)) full_ok (wrong (bytes_of full) ∙ sym (wrong []) ∙ ap result_err e)
        where
          other : (r : Result (List ℕ) Fault) → IsOk r → result_err r ≡ Some g → ⊥
          other (Ok cs) h q = cc
          other (Err k) h q = cc

  -- both *86* records of the sample have a blank comment
  pub not_passing_over_86 : IsOkAnd (answer (bytes_of full)) (λ cs. get_or cs *86* 0 ≡ 2)
  unfolding counted
  not_passing_over_86 = by (answer (bytes_of full)) refl full_ok
    where
      by : (y : Result (List ℕ) Fault) → answer (bytes_of full) ≡ y → IsOk y → IsOkAnd y (λ cs. get_or cs *86* 0 ≡ 2)
      by (Ok cs) e z = unfold counted in ap (λ cs. get_or cs *86* 0) ((demand_2_form (bytes_of full) _ (keeps (bytes_of full))).counted cs e ∙ full_counts)
      by (Err g) e z = cc

  -- 02, T-05: a form that looks at references would turn the undefined station away
  pub not_looking_at_references : IsOk (answer (bytes_of strangers))
  not_looking_at_references = ok_at strangers (ap (λ ns. get_or ns 1 9) forms)

-- ---- references, whatever it does, that keeps the promise
module _ (answer : List ℕ → List ℕ → Result (Unit {0}) Fault) (words : List ℕ → List ℕ → List ℕ) (keeps : (f t : List ℕ) → ReferencesPromised f t (answer f t) (words f t)) where
  result : (ls : List String) → answer (bytes_of ls) table ≡ fault_of (references_of ls)
  unfolding references_of
  result ls = (keeps (bytes_of ls) table).answered ∙ (unfold references_answer big_table in rw (of≤ table_long))

  zero : (ls : List String) → judged ls ≡ accept → IsOk (answer (bytes_of ls) table)
  zero ls e = accepted-zero (bytes_of ls) table _ _ (keeps (bytes_of ls) table) table_long (unfold accepted judged is_accept in ap is_accept e)

  fourteen : Fault
  fourteen = record { number = 14; «record» = 0; column = 0 }

  malformed_14 : answer (bytes_of malformed_later) table ≡ Err fourteen
  unfolding fault_of fourteen
  malformed_14 = result malformed_later ∙ ap (λ rs. fault_of (get_or rs 3 accept)) references

  pub not_refusing_all : ((f t : List ℕ) → IsOk (answer f t) → ⊥) → ⊥
  not_refusing_all wrong = wrong (bytes_of full) table (zero full full_accepted)

  pub not_one_answer : (x : Result (Unit {0}) Fault) → ((f t : List ℕ) → answer f t ≡ x) → ⊥
  not_one_answer x wrong = not_ok (wrong (bytes_of full) table ∙ sym (wrong (bytes_of malformed_later) table) ∙ malformed_14) (zero full full_accepted)

  -- the *80* of each station that a *25* names comes after it
  pub not-only_80_before : IsErrAnd (answer (bytes_of full) table) (λ g. g.number ≡ 12) → ⊥
  not-only_80_before wrong = by (answer (bytes_of full) table) refl wrong
    where
      by : (y : Result (Unit {0}) Fault) → answer (bytes_of full) table ≡ y → IsErrAnd y (λ g. g.number ≡ 12) → ⊥
      by (Ok u) e z = z
      by (Err g) e z = not_ok e (zero full full_accepted)

  -- an undefined station, and a malformed record behind it
  pub not_undefined_first : IsErrAnd (answer (bytes_of malformed_later) table) (λ g. g.number ≡ 12) → ⊥
  unfolding fourteen
  not_undefined_first wrong = let z : ◌≡◌ {A = ℕ} 14 12 = rw malformed_14 at wrong in absurd (omega (arith, z))

  -- 02, T-05: a references that trusts its caller about form would take a file without a record, or judge the malformed one's stations
  pub not_trusting_its_caller : IsErrAnd (answer [] table) (λ g. g.number ≡ 14) × IsErrAnd (answer (bytes_of malformed_later) table) (λ g. g.number ≡ 14)
  unfolding bytes_of fault_of fourteen
  not_trusting_its_caller =
      let e : answer [] table ≡ Err fourteen = result [] ∙ ap (λ rs. fault_of (get_or rs 4 accept)) references in
      (rw e refl, rw malformed_14 refl)

  -- and one that fills the table before it judged form would leave the numbers that the malformed file defines before its bad record
  pub not_filling_first : take 12_000 (words (bytes_of malformed_later) table) ≡ replicate 12_000 0
  unfolding fourteen
  not_filling_first = (demand_1_references (bytes_of malformed_later) table _ _ (keeps (bytes_of malformed_later) table)).zeros fourteen malformed_14 (λ z. omega arith)

  -- 02, T-04: a receiver with two *70* records, 7 and 8 of the sample
  pub not_turning_two_70_away : IsOk (answer (bytes_of twofold) table)
  not_turning_two_70_away = zero twofold twofold_accepted

  pub not_the_last_70 : get_or (words (bytes_of twofold) table) 10_010 0 ≡ 7
  unfolding definers_of
  not_the_last_70 =
      let told = demand_2_references (bytes_of twofold) table _ _ (keeps (bytes_of twofold) table) in
      let first : definer *70* 10 (meanings chapter4 (bytes_of twofold)) ≡ 7 = ap (λ ns. get_or ns 3 0) twofold_definers in
      sym (get_or-take 12_000 (words (bytes_of twofold) table) 10_010 0 (omega arith))
      ∙ ap (λ ws. get_or ws 10_010 0) (told.filled not_turning_two_70_away)
      ∙ (told.told not_turning_two_70_away).word instruments instruments_in 10 (omega arith)
      ∙ first
