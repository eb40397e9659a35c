-- 01, "How a field is read" and "Field tables": the sets of characters. A character is its byte.
use Rattle.std.specs.Prelude.{Bool, true, false, cond, List, [], ◌∷◌, ℕ}
use Prim.Native.String as Str
use Prim.Native.String.{String}
use Prim.Native.Char.{code}
use Rattle.rules.specs.Tests.{◌&◌, ◌=?◌, within}

-- a quoted text as bytes
unfoldable pub ascii : String → List ℕ
ascii Str.[] = []
ascii (Str.◌∷◌ c s) = code c ∷ ascii s

-- 01, "The line and the file": 20 to 7E hexadecimal
unfoldable pub is_printable : ℕ → Bool
is_printable b = within 0x20 0x7e b

-- 01, "Blank"
unfoldable pub is_blank : ℕ → Bool
is_blank b = b =? 32

-- 0-9
unfoldable pub is_digit : ℕ → Bool
is_digit b = within 48 57 b

-- A-Z
unfoldable pub is_letter : ℕ → Bool
is_letter b = within 65 90 b

unfoldable pub any_of : List ℕ → ℕ → Bool
any_of [] b = false
any_of (c ∷ cs) b = cond (b =? c) true (any_of cs b)

-- 01, *10* *11*: what a title is made of, one after another in the order in which 001 prints them for columns 11-80
unfoldable pub title_characters : List ℕ
unfolding ascii
title_characters = ascii "ABCDEFGHIJKLMNOPQRSTUVWXYZ0123456789*,'=)(-.+\\/ "

-- 01, *12*: "as *10* without the backslash", in the order in which 001 prints them for columns 26-43 and 47-64
unfoldable pub name_characters : List ℕ
unfolding ascii
name_characters = ascii "ABCDEFGHIJKLMNOPQRSTUVWXYZ0123456789*,'=(-.+)/ "

infixl 30 ◌or◌
pub data Set : Type 0 where
  letter digit space printable title name : Set
  only : ℕ → Set
  ◌or◌ : Set → Set → Set

unfoldable pub member : Set → ℕ → Bool
member letter b = is_letter b
member digit b = is_digit b
member space b = is_blank b
member printable b = is_printable b
member title b = any_of title_characters b
member name b = any_of name_characters b
member (only c) b = is_printable b & b =? c
member (s or t) b = cond (member s b) true (member t b)

-- a character of a set, if it has any
unfoldable pub one_of : Set → ℕ
one_of letter = 65
one_of digit = 48
one_of space = 32
one_of printable = 65
one_of title = 65
one_of name = 65
one_of (only c) = c
one_of (s or t) = cond (member s (one_of s)) (one_of s) (one_of t)
