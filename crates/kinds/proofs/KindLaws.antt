-- A kind and its number: each of the fourteen has one below 14, and no other kind, nor none, has it.
use mathlib.Core.Path.{◌≡◌, refl, sym, ap, ap₂, ◌∙◌}
use mathlib.Core.List.{[], ◌∷◌}
use Prim.Native.Nat.{ℕ, ◌≤◌, ◌<◌, min}
use native.Mathlib.Nat.{min-le_left}
use lib.Dec.{lit≤, eqb}
use denote.Enum.Declared.{tag_of}
use denote.Enum.Bare.{sameb}
use native.Mathlib.Omega.{arith}
use lib.ListN.{get_or}
use Rattle.std.specs.Prelude.{Option, Some, None, IsSome, Ok, Err}
use Rattle.std.specs.Option.{ok_or}
use Rattle.kinds.specs.contracts.Kind.{the_type}
use Rattle.kinds.specs.declared.Kind.{Kind}
use Rattle.kinds.specs.declared.Kind.TheVariants as K
use Rattle.kinds.specs.Values.{kind_index, kind_in}

-- a fact of each kind
pub every_kind : (P : Kind → Type 0) → P K.Job → P K.Title → P K.Continuation → P K.Project → P K.Occupation → P K.Comment → P K.Measurement → P K.Instrument → P K.Antenna → P K.Point → P K.Heights → P K.Network → P K.Local → P K.Factor → (k : Kind) → P k
every_kind P a b c d e f g h i j l m n o K.Job = a
every_kind P a b c d e f g h i j l m n o K.Title = b
every_kind P a b c d e f g h i j l m n o K.Continuation = c
every_kind P a b c d e f g h i j l m n o K.Project = d
every_kind P a b c d e f g h i j l m n o K.Occupation = e
every_kind P a b c d e f g h i j l m n o K.Comment = f
every_kind P a b c d e f g h i j l m n o K.Measurement = g
every_kind P a b c d e f g h i j l m n o K.Instrument = h
every_kind P a b c d e f g h i j l m n o K.Antenna = i
every_kind P a b c d e f g h i j l m n o K.Point = j
every_kind P a b c d e f g h i j l m n o K.Heights = l
every_kind P a b c d e f g h i j l m n o K.Network = m
every_kind P a b c d e f g h i j l m n o K.Local = n
every_kind P a b c d e f g h i j l m n o K.Factor = o

pub index_small : (k : Kind) → kind_index k < 14
unfolding kind_index
index_small K.Job = lit≤ tt
index_small K.Title = lit≤ tt
index_small K.Continuation = lit≤ tt
index_small K.Project = lit≤ tt
index_small K.Occupation = lit≤ tt
index_small K.Comment = lit≤ tt
index_small K.Measurement = lit≤ tt
index_small K.Instrument = lit≤ tt
index_small K.Antenna = lit≤ tt
index_small K.Point = lit≤ tt
index_small K.Heights = lit≤ tt
index_small K.Network = lit≤ tt
index_small K.Local = lit≤ tt
index_small K.Factor = lit≤ tt

-- the compiler numbers them so, and compares the numbers
pub tag_is : (k : Kind) → tag_of the_type k ≡ kind_index k
unfolding kind_index
tag_is = every_kind (λ k. tag_of the_type k ≡ kind_index k) refl refl refl refl refl refl refl refl refl refl refl refl refl refl

pub same_index : (k j : Kind) → sameb the_type k j ≡ eqb (kind_index k) (kind_index j)
same_index k j = ap₂ eqb (tag_is k) (tag_is j)

-- the kind of a number
abbrev with_index : ℕ → Option Kind
with_index n = get_or (Some K.Job ∷ Some K.Title ∷ Some K.Continuation ∷ Some K.Project ∷ Some K.Occupation ∷ Some K.Comment ∷ Some K.Measurement ∷ Some K.Instrument ∷ Some K.Antenna ∷ Some K.Point ∷ Some K.Heights ∷ Some K.Network ∷ Some K.Local ∷ Some K.Factor ∷ []) n None

kind_back : (r : Option Kind) → with_index (kind_in r) ≡ r
unfolding kind_in kind_index
kind_back None = refl
kind_back (Some K.Job) = refl
kind_back (Some K.Title) = refl
kind_back (Some K.Continuation) = refl
kind_back (Some K.Project) = refl
kind_back (Some K.Occupation) = refl
kind_back (Some K.Comment) = refl
kind_back (Some K.Measurement) = refl
kind_back (Some K.Instrument) = refl
kind_back (Some K.Antenna) = refl
kind_back (Some K.Point) = refl
kind_back (Some K.Heights) = refl
kind_back (Some K.Network) = refl
kind_back (Some K.Local) = refl
kind_back (Some K.Factor) = refl

-- the number tells the kind
pub same_kind : (r s : Option Kind) → kind_in r ≡ kind_in s → r ≡ s
same_kind r s e = sym (kind_back r) ∙ ap with_index e ∙ kind_back s

-- what is some kind has its number, and what is none has 14
pub some_kind : (r : Option Kind) (k : Kind) (n : ℕ) → kind_in r ≡ n → r ≡ Some k → kind_index k ≡ n
unfolding kind_in
some_kind r k n e q = sym (ap kind_in q) ∙ e

pub no_kind : (r : Option Kind) (n : ℕ) → kind_in r ≡ n → r ≡ None → n ≡ 14
unfolding kind_in
no_kind r n e q = sym e ∙ ap kind_in q

-- a number below 14 is that of some kind
pub is_some : (r : Option Kind) (n : ℕ) → kind_in r ≡ n → n < 14 → IsSome r
is_some None n e h = absurd (omega (arith, no_kind None n e refl))
is_some (Some k) n e h = refl

-- the kind of a number, which is 14 or more where there is none
pub its_number : (r : Option Kind) (k : Kind) (n : ℕ) → kind_in r ≡ min n 14 → r ≡ Some k → kind_index k ≡ n
its_number r k n e h = omega (arith, some_kind r k (min n 14) e h, index_small k)

pub no_number : (r : Option Kind) (n : ℕ) → kind_in r ≡ min n 14 → r ≡ None → 14 ≤ n
no_number r n e h = omega (arith, no_kind r (min n 14) e h, min-le_left n 14)

-- another kind has another number
pub other_index : (k j : Kind) → (k ≡ j → ⊥) → kind_index k ≡ kind_index j → ⊥
other_index k j h e = h (some_is (same_kind (Some k) (Some j) (unfold kind_in in e)))
  where
    some_is : Some k ≡ Some j → k ≡ j
    some_is q = cc

-- what `ok_or` was asked of
pub ok_or_some : {T E : Type 0} (r : Option T) (e : E) {x : T} → ok_or r e ≡ Ok x → r ≡ Some x
ok_or_some None e p = absurd cc
ok_or_some (Some y) e p = cc

pub ok_or_none : {T E : Type 0} (r : Option T) (e : E) {w : E} → ok_or r e ≡ Err w → (r ≡ None) × (w ≡ e)
ok_or_none None e p = (refl, cc)
ok_or_none (Some y) e p = absurd cc
