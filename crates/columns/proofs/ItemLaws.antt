-- What is left to judge of blanks, constants and words once the width is the slice's own. Assumes nothing.
use mathlib.Core.Path.{◌≡◌, refl, sym, ◌∙◌}
use mathlib.Core.Bool.{Bool, true, false, ◌&&◌, ◌||◌}
use mathlib.Core.List.{List}
use Prim.Native.Nat.{ℕ}
use lib.Dec.{leb, eqb}
use lib.ListN.{length}
use Rattle.rules.specs.Tests.{◌&◌, ◌≤?◌, ◌=?◌, within, all}
use Rattle.rules.specs.Characters.{Set, is_printable, is_blank, member}
use Rattle.rules.specs.Items.{blank, constant, word, each, or_blank, Test, passes, on_gap, on_text, width, shape, value_of, fits, good}
use Rattle.rules.proofs.Truth.{of≡, and_true, or-cond}
use Rattle.columns.proofs.Loops.{&_is}

pub same_size : (bs : List ℕ) → (length bs =? length bs) ≡ true
same_size bs = of≡ {m = length bs} refl

pub good-blank : (bs : List ℕ) → all is_blank bs ≡ good (blank (length bs)) bs
unfolding good width shape value_of fits on_gap ◌&◌
good-blank bs = rw (same_size bs) (sym (and_true (all is_blank bs)))

pub good-constant : (c : ℕ) (bs : List ℕ) {r : Bool} → r ≡ all (λ b. b =? c) bs → (eqb (length bs) 1 && r && (leb 32 c && leb c 126)) ≡ good (constant c) bs
unfolding good width shape value_of fits on_gap is_printable within ◌≤?◌ ◌=?◌
good-constant c bs e = rw e (sym (simp &_is))

twice : (p : Bool) → p ≡ (p & p)
unfolding ◌&◌
twice true = refl
twice false = refl

good_test : (t : Test) (bs : List ℕ) → passes t bs ≡ good (word (length bs) t) bs
unfolding good width shape value_of fits on_text ◌&◌
good_test t bs = rw (same_size bs) (twice (passes t bs))

pub good-each : (s : Set) (bs : List ℕ) → all (member s) bs ≡ good (word (length bs) (each s)) bs
unfolding passes
good-each s bs = good_test (each s) bs

pub good-or-blank : (s : Set) (bs : List ℕ) {r q : Bool} → r ≡ all is_blank bs → q ≡ all (member s) bs → (r || q) ≡ good (word (length bs) (or_blank s)) bs
unfolding passes
good-or-blank s bs d e = rw (d, e) (or-cond (all is_blank bs) (all (member s) bs) ∙ good_test (or_blank s) bs)
