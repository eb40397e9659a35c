-- The loop that lays lines out in house style, the first of them as record r: what is laid so far, with what is left in house style, is all of it.
use mathlib.Core.Path.{◌≡◌, refl, sym, ◌∙◌, ap}
use mathlib.Core.Bool.{true}
use mathlib.Core.List.{List, [], ◌∷◌, ◌++◌, map}
use Prim.Native.Nat.{ℕ, ◌+◌, ◌-◌, ◌*◌, ◌≤◌, ◌<◌}
use native.Mathlib.Omega.{arith}
use lib.ListN.{length, take, drop}
use lib.IntN.{pos}
use Rattle.rules.specs.Tests.{◌&◌, ◌≤?◌}
use Rattle.rules.specs.Items.{num}
use Rattle.rules.specs.Records.{code_at, meaning, line_of, style, formed_line}
use Rattle.rules.specs.Kinds.{kind_of, known}
use Rattle.rules.specs.Files.{line_at, begun, lines_from, lines, join, meanings, styles, formed_lines}
use Rattle.rules.specs.Chapter4.{chapter4}
use Rattle.rules.proofs.Truth.{both, to≤}
use Rattle.rules.proofs.RecordLaws.{line_meant, line_long, style-length}
use Rattle.rules.proofs.FileLaws.{records, lines_more, lines_none, length-take_most, Laid, laid_next, laid_done, formed_whole}
use Rattle.rules.proofs.Chapter4Laws.{sound}
use Rattle.std.specs.Prelude.{Option, IsSome}
use Rattle.kinds.specs.declared.Kind.{Kind}
use Rattle.kinds.specs.Values.{kind_in}
use Rattle.kinds.proofs.KindLaws.{is_some}

-- the lines of f in house style
abbrev styled_from : List ℕ → ℕ → List ℕ
styled_from f r = join (styles chapter4 r (meanings chapter4 f))

pub record Laying (f : List ℕ) (r : ℕ) (o₀ : List ℕ) (n : ℕ) (o : List ℕ) (i : ℕ) : Type 0 where
  pub whole : length f ≡ 81 * n
  pub room : length f ≤ length o₀
  pub most : i ≤ n
  pub low : 1 ≤ r
  pub few : r + n ≤ 100_000
  pub form : formed_lines chapter4 (r + i) (lines_from f (n - i) i) ≡ true
  pub laid : Laid (styled_from f r) o₀ o i (styles chapter4 (r + i) (map (meaning chapter4) (lines_from f (n - i) i)))

-- no good line is past record 99,999
formed_few : (r : ℕ) (ls : List (List ℕ)) → r ≤ 100_000 → formed_lines chapter4 r ls ≡ true → r + length ls ≤ 100_000
unfolding formed_lines
formed_few r [] p h = omega arith
formed_few r (l ∷ ls) p h =
    let q : r ≤ 99_999 = to≤ (both (both h).0).0 in
    let k : r + 1 + length ls ≤ 100_000 = formed_few (r + 1) ls (omega arith) (both h).1 in
    omega arith

pub lay_from : (f : List ℕ) (r : ℕ) (o : List ℕ) → 1 ≤ r → r ≤ 99_999 → formed_lines chapter4 r (lines f) ≡ true → length f ≤ length o → (n : ℕ) → n ≡ begun f
    → Laying f r o n o 0
unfolding lines meanings
lay_from f r o low high form room n e =
    let z : n - 0 ≡ begun f = omega arith in
    let y : r + 0 ≡ r = omega arith in
    let k : r + length (lines_from f (begun f) 0) ≤ 100_000 = formed_few r (lines_from f (begun f) 0) (omega arith) form in
    record {
      whole = formed_whole chapter4 f r form ∙ ap (λ k. 81 * k) (records f ∙ sym e);
      room = room;
      most = omega arith;
      low = low;
      few = omega (arith, k, e, records f);
      form = rw (z, y) form;
      laid = record { size = refl; laid = rw (z, y); rest = refl };
    }

module _ (f : List ℕ) (r : ℕ) (o₀ : List ℕ) (n : ℕ) (o : List ℕ) (i : ℕ) (g : Laying f r o₀ n o i) where
  module _ (h : i < n) (l : List ℕ) (el : l ≡ line_at f i) where
    parts : (r + i ≤? 99_999 & formed_line chapter4 (line_at f i) ≡ true) × (formed_lines chapter4 (r + i + 1) (lines_from f (n - (i + 1)) (i + 1)) ≡ true)
    unfolding formed_lines
    parts = both (rw (lines_more f n i h) at g.form)

    lay_few : r + i ≤ 99_999
    lay_few = to≤ (both parts.0).0

    pub lay-formed : formed_line chapter4 l ≡ true
    lay-formed = rw el (both parts.0).1

    pub lay_long : length l ≡ 81
    lay_long =
        let big : 80 < length l = line_long chapter4 l lay-formed in
        let small : length l ≤ 81 = rw el (unfold line_at in length-take_most 81 (drop (81 * i) f)) in
        omega arith

    pub lay-known : (o : Option Kind) → kind_in o ≡ kind_of (code_at l) → IsSome o
    unfolding formed_line known
    lay-known o e = is_some o _ e below
      where
        below : kind_of (code_at l) < 14
        below = let q : kind_of (code_at l) ≤ 13 = to≤ (both (both (both lay-formed).0).0).1 in omega arith

    pub lay_next : (s : List ℕ) → s ≡ line_of chapter4 (num (pos (10 * (r + i)))) (meaning chapter4 l)
        → Laying f r o₀ n (take (81 * i) o ++ (s ++ drop (81 * i + 81 - 81 * i) (drop (81 * i) o))) (i + 1)
    lay_next s es =
        rw width
        record {
          whole = g.whole;
          room = g.room;
          most = omega arith;
          low = g.low;
          few = g.few;
          form = rw next parts.1;
          laid = rw next (laid_next (styled_from f r) o₀ o i s _ here long enough);
        }
      where
        width : 81 * i + 81 - 81 * i ≡ 81
        width = omega arith

        next : r + (i + 1) ≡ r + i + 1
        next = omega arith

        enough : 81 * i + 81 ≤ length o
        enough = omega (arith, g.laid.size, g.room, g.whole)

        styled : s ≡ style chapter4 (r + i) (meaning chapter4 (line_at f i))
        styled = es ∙ (unfold style in ap (λ (t : List ℕ). line_of chapter4 (num (pos (10 * (r + i)))) (meaning chapter4 t)) el)

        long : length s ≡ 81
        long = ap length styled ∙ style-length chapter4 sound (r + i) (meaning chapter4 (line_at f i)) (line_meant chapter4 (line_at f i) (both parts.0).1) (omega arith) lay_few

        -- its line is the first of those that are left
        here : Laid (styled_from f r) o₀ o i (s ∷ styles chapter4 (r + i + 1) (map (meaning chapter4) (lines_from f (n - (i + 1)) (i + 1))))
        here = rw styled (unfold styles in (rw (lines_more f n i h) at g.laid))

  pub lay_done : n ≤ i → o ≡ styled_from f r ++ drop (length f) o₀
  lay_done h =
      let e : i ≡ n = omega (arith, g.most) in
      let k : 81 * i ≡ length f = omega (arith, e, g.whole) in
      let none : Laid (styled_from f r) o₀ o i [] = unfold styles in (rw (lines_none f n i h) at g.laid) in
      laid_done (styled_from f r) o₀ o i none ∙ ap (λ j. styled_from f r ++ drop j o₀) k
