-- One line found in the bytes in which it stands: what the functions on one line promise.
use Rattle.std.specs.Prelude.{Bool, cond, not, List, [], ◌∷◌, ◌++◌, ℕ, zero, suc, ◌+◌, min, max, length, replicate, get_or}
use Rattle.rules.specs.Tests.{all, ◌≤?◌, ◌=?◌}

-- how many bytes stand before the first LF
unfoldable pub feed_at : List ℕ → ℕ
feed_at [] = 0
feed_at (b ∷ bs) = cond (b =? 10) 0 (suc (feed_at bs))

unfoldable pub is_free : List ℕ → Bool
is_free bs = all (λ b. not (b =? 10)) bs

-- how many of the bytes are the line's, where n stand before the LF: a CR before it belongs to the end
unfoldable pub text_length : List ℕ → ℕ → ℕ
text_length bs zero = 0
text_length bs (suc n) = cond (length bs ≤? suc n) (suc n) (cond (get_or bs n 0 =? 13) n (suc n))

-- ---- the first LF of 80 bytes, five of them at a time
unfoldable pub nearer_of : (b place further : ℕ) → ℕ
nearer_of b place further = cond (b =? 10) place further

unfoldable pub nearest : List ℕ → ℕ → ℕ
nearest bs i =
    let or : ℕ → ℕ → ℕ = λ j further. nearer_of (get_or bs j 0) j further in
    or i (or (16 + i) (or (32 + i) (or (48 + i) (or (64 + i) 80))))

-- ---- a line in its columns
-- what stands in a column: of the line's byte as much as is kept, else the blank
unfoldable pub column_of : (b kept blank : ℕ) → ℕ
column_of b kept blank = max (min b kept) blank

-- 80 columns that keep a byte, 80 that keep none, 80 blanks
unfoldable pub mask_bytes : List ℕ
mask_bytes = replicate 80 255 ++ (replicate 80 0 ++ replicate 80 32)
