-- Wrong paddings that the promise does not allow: 01, "How tight the promises are".
use mathlib.Core.Path.{◌≡◌, refl, sym, ◌∙◌, ap}
use mathlib.Core.Bool.{cond}
use mathlib.Core.List.{List, [], ◌∷◌, ◌++◌, map}
use Prim.Native.Nat.{ℕ, ◌+◌, ◌*◌, ◌≤◌, ◌<◌}
use native.Mathlib.Omega.{arith}
use lib.ListN.{length, take, get_or, replicate}
use lib.Seq.{get_or-take}
use Rattle.std.specs.Prelude.{Result, Ok, IsOk, IsErrAnd}
use Rattle.rules.specs.Tests.{◌=?◌}
use Rattle.rules.specs.Characters.{ascii}
use Rattle.rules.specs.Files.{join}
use Rattle.rules.specs.Padding.{End, lf, crlf, closing, Line, lines_of, texts, padded_line, padded, pad_answer, pad_output}
use Rattle.rules.proofs.PaddingSamples.{judged_in}
use Rattle.kinds.specs.declared.Fault.{Fault}
use Rattle.padding.specs.Promise.{padded_of, Promised}

-- ---- what the wrong programs write and count
abbrev pub Begins : List ℕ → List ℕ → Type 0
Begins x l = take (length x) l ≡ x

unfoldable pub cut_to80 : List ℕ → List ℕ
cut_to80 f = join (map (λ t. padded_line (take 80 t)) (texts f))

unfoldable pub without_cr : List ℕ → List ℕ
without_cr [] = []
without_cr (b ∷ bs) = let rest = without_cr bs in cond (b =? 13) rest (b ∷ rest)

unfoldable pub cr_of : End → List ℕ
cr_of lf = []
cr_of crlf = 13 ∷ []
cr_of closing = []

unfoldable pub with_cr : List ℕ → List ℕ
with_cr f = join (map (λ (l : Line). padded_line (l.text ++ cr_of l.end)) (lines_of f))

unfoldable pub not_empty : List (List ℕ) → ℕ
not_empty [] = 0
not_empty (t ∷ ts) = let rest = not_empty ts in cond (length t =? 0) rest (rest + 1)

-- ---- outputs with room for one line and for two, and a line of 81 bytes
abbrev room : List ℕ
room = replicate 81 7

abbrev room_of_two : List ℕ
room_of_two = replicate 162 7

abbrev long : List ℕ
long = replicate 81 65

-- a padding, whatever it does, that keeps the promise
module _ (answer : List ℕ → List ℕ → Result ℕ Fault) (output : List ℕ → List ℕ → List ℕ) (keeps : (f o : List ℕ) → Promised f o (answer f o) (output f o)) where
  ok_at : (f o : List ℕ) → (pad_answer f o).number ≡ 0 → IsOk (answer f o)
  unfolding padded_of ◌=?◌
  ok_at f o e = rw ((keeps f o).answered, e) refl

  counts : (f o : List ℕ) → (pad_answer f o).number ≡ 0 → answer f o ≡ Ok (pad_answer f o).lines
  unfolding padded_of ◌=?◌
  counts f o e = (keeps f o).answered ∙ rw e

  -- byte i of what the output begins with is byte i of what is promised
  same_byte : (f o x : List ℕ) (i : ℕ) → Begins x (output f o) → i < length x → get_or x i 0 ≡ get_or (pad_output f o) i 0
  same_byte f o x i e h =
      ap (λ (l : List ℕ). get_or l i 0) (sym e) ∙ get_or-take (length x) (output f o) i 0 h ∙ ap (λ (l : List ℕ). get_or l i 0) (keeps f o).written

  -- a trimmed line
  pub not_copying : ((f o : List ℕ) → IsOk (answer f o) → Begins f (output f o)) → ⊥
  unfolding judged_in
  not_copying wrong =
      let f : List ℕ = ascii "A\n" in
      omega (arith, same_byte f room f 1 (wrong f room (ok_at f room refl)) (omega arith))

  pub not_refusing_everything : ((f o : List ℕ) → IsOk (answer f o) → ⊥) → ⊥
  unfolding judged_in
  not_refusing_everything wrong = wrong (ascii "A\n") room (ok_at (ascii "A\n") room refl)

  -- a line of 81 bytes is refused, and the output left as it was
  pub not_cutting : ((f o : List ℕ) → 81 * length (texts f) ≤ length o → Begins (cut_to80 f) (output f o)) → ⊥
  unfolding judged_in cut_to80
  not_cutting wrong = omega (arith, same_byte long room (cut_to80 long) 0 (wrong long room (omega arith)) (omega arith))

  -- a CR inside a line is copied
  pub not_taking_every_cr : ((f o : List ℕ) → IsOk (answer f o) → Begins (padded (without_cr f)) (output f o)) → ⊥
  unfolding judged_in without_cr
  not_taking_every_cr wrong =
      let f : List ℕ = ascii "A\rB\n" in
      omega (arith, same_byte f room (padded (without_cr f)) 1 (wrong f room (ok_at f room refl)) (omega arith))

  -- the CR of CR LF is no part of the line
  pub not_keeping_the_cr : ((f o : List ℕ) → IsOk (answer f o) → Begins (with_cr f) (output f o)) → ⊥
  unfolding judged_in with_cr cr_of
  not_keeping_the_cr wrong =
      let f : List ℕ = ascii "A\r\n" in
      omega (arith, same_byte f room (with_cr f) 1 (wrong f room (ok_at f room refl)) (omega arith))

  -- a long line and an empty output: 5
  pub not_1_before_5 : ((f o : List ℕ) → length o < 81 * length (texts f) → IsErrAnd (answer f o) (λ g. g.number ≡ 1)) → ⊥
  unfolding judged_in padded_of ◌=?◌
  not_1_before_5 wrong = let z : ◌≡◌ {A = ℕ} 5 1 = rw (keeps long []).answered at (wrong long [] (omega arith)) in omega (arith, z)

  -- a good line before one of 81 bytes
  pub not_writing_first : ((f o : List ℕ) → 1 ≤ length (texts f) → length (get_or (texts f) 0 []) ≤ 80 → 81 ≤ length o → Begins (padded_line (get_or (texts f) 0 [])) (output f o)) → ⊥
  unfolding judged_in
  not_writing_first wrong =
      let f : List ℕ = ascii "A\n" ++ long in
      omega (arith, same_byte f room_of_two (padded_line (get_or (texts f) 0 [])) 0 (wrong f room_of_two (omega arith) (omega arith) (omega arith)) (omega arith))

  -- an LF alone is a line
  pub not_passing_over_empty_lines : ((f o : List ℕ) → (n : ℕ) → answer f o ≡ Ok n → n ≡ not_empty (texts f)) → ⊥
  unfolding judged_in not_empty
  not_passing_over_empty_lines wrong =
      let f : List ℕ = ascii "\n" in
      omega (arith, wrong f room 1 (counts f room refl))
