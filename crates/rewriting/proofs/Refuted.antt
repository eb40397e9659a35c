-- Wrong rewriters that the promise does not allow: 01, "How tight the promises are".
use mathlib.Core.Path.{◌≡◌, refl, sym, ◌∙◌, ap}
use mathlib.Core.Bool.{true}
use mathlib.Core.List.{List}
use Prim.Native.String.{String}
use Prim.Native.Nat.{ℕ, ◌≤◌, ◌<◌}
use native.Mathlib.Omega.{arith}
use lib.ListN.{length, take, drop, get_or, replicate}
use lib.Seq.{get_or-take, get_or-drop}
use Rattle.std.specs.Prelude.{Result, IsOk}
use Rattle.rules.specs.Files.{accept, is_accept, accepted}
use Rattle.rules.specs.Chapter4.{chapter4}
use Rattle.rules.proofs.Samples.{bytes_of, judged, styled, full, full_accepted, dressed, spoken, spoken_accepted, spoken_is_another}
use Rattle.kinds.specs.declared.Fault.{Fault}
use Rattle.walk.proofs.Refuted.{table, table_long}
use Rattle.rewriting.specs.Promise.{Promised}
use Rattle.rewriting.proofs.RewriteDemands.{answers-zero, writes_first}

-- an output with room for any of the samples
unfoldable pub blanks : List ℕ
blanks = replicate 2_000 32

taken : (ls : List String) → judged ls ≡ accept → accepted chapter4 (bytes_of ls) ≡ true
unfolding accepted judged is_accept
taken ls e = ap is_accept e

roomy : (length (bytes_of full) ≤ length blanks) × (length (bytes_of dressed) ≤ length blanks) × (length (bytes_of spoken) ≤ length blanks)
unfolding judged blanks
roomy = (omega arith, omega arith, omega arith)

-- in the sample only records 1 and 4 have a sequence number
bytes-told : (get_or (bytes_of full) 85 0 ≡ 32) × (get_or (styled full) 85 0 ≡ 50) × (get_or blanks 85 0 ≡ 32)
unfolding styled blanks
bytes-told = (refl, refl, refl)

-- a rewriter, whatever it does, that keeps the promise
module _ (answer : List ℕ → List ℕ → List ℕ → Result (List ℕ) Fault) (words output : List ℕ → List ℕ → List ℕ → List ℕ)
    (keeps : (f t o : List ℕ) → Promised f t o (answer f t o) (words f t o) (output f t o)) where
  written : (ls : List String) → judged ls ≡ accept → length (bytes_of ls) ≤ length blanks → take (length (bytes_of ls)) (output (bytes_of ls) table blanks) ≡ styled ls
  unfolding styled
  written ls e k = writes_first (bytes_of ls) table blanks _ _ _ table_long k (taken ls e) (keeps (bytes_of ls) table blanks)

  zero : (ls : List String) → judged ls ≡ accept → length (bytes_of ls) ≤ length blanks → IsOk (answer (bytes_of ls) table blanks)
  zero ls e k = answers-zero (bytes_of ls) table blanks _ _ _ table_long k (taken ls e) (keeps (bytes_of ls) table blanks)

  -- byte 85, column 5 of record 2, of the sample's rewriting is a digit
  digit_there : (x : List ℕ) → x ≡ take (length (bytes_of full)) (output (bytes_of full) table blanks) → get_or x 85 0 ≡ 50
  digit_there x e = ap (λ (y : List ℕ). get_or y 85 0) (e ∙ written full full_accepted roomy.0) ∙ bytes-told.1

  pub not_copying : ((f t o : List ℕ) → IsOk (answer f t o) → take (length f) (output f t o) ≡ f) → ⊥
  not_copying wrong = omega (arith, digit_there (bytes_of full) (sym (wrong (bytes_of full) table blanks (zero full full_accepted roomy.0))), bytes-told.0)

  pub not_writing_nothing : ((f t o : List ℕ) → output f t o ≡ o) → ⊥
  not_writing_nothing wrong =
      let there : get_or (take (length (bytes_of full)) blanks) 85 0 ≡ 50 = digit_there _ (ap (take (length (bytes_of full))) (sym (wrong (bytes_of full) table blanks))) in
      omega (arith, there, get_or-take (length (bytes_of full)) blanks 85 0 long, bytes-told.2)
    where
      long : 85 < length (bytes_of full)
      long = unfold judged in omega arith

  pub not_one_file : (x : List ℕ) → ((f t o : List ℕ) → IsOk (answer f t o) → take (length f) (output f t o) ≡ x) → ⊥
  not_one_file x wrong =
      spoken_is_another (sym (written spoken spoken_accepted roomy.2) ∙ wrong (bytes_of spoken) table blanks (zero spoken spoken_accepted roomy.2)
      ∙ sym (wrong (bytes_of full) table blanks (zero full full_accepted roomy.0)) ∙ written full full_accepted roomy.0)

  pub not_record_1_only : ((f t o : List ℕ) → IsOk (answer f t o) → drop 81 (take (length f) (output f t o)) ≡ drop 81 f) → ⊥
  not_record_1_only wrong =
      let same : get_or (drop 81 (take (length (bytes_of full)) (output (bytes_of full) table blanks))) 4 0 ≡ get_or (drop 81 (bytes_of full)) 4 0
      = ap (λ (y : List ℕ). get_or y 4 0) (wrong (bytes_of full) table blanks (zero full full_accepted roomy.0)) in
      omega (arith, sym (get_or-drop 81 (take (length (bytes_of full)) (output (bytes_of full) table blanks)) 4 0) ∙ same ∙ get_or-drop 81 (bytes_of full) 4 0, digit_there _ refl, bytes-told.0)
