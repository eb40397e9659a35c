-- 01, "What may follow what".
use Rattle.std.specs.Prelude.{cond, List, [], ◌∷◌, ℕ, get_or}
use Rattle.rules.specs.Tests.{◌=?◌}
use Rattle.rules.specs.Characters.{any_of}
use Rattle.rules.specs.Kinds.{*AA*, *10*, *11*, *12*, *25*, *26*, *27*, *70*, *72*, *80*, *86*, *91*, *92*, *93*}

-- ---- the places, by what stands before; a place of 0 is also the answer "may not come here", since nothing leads back to the start
abbrev pub nothing : ℕ
nothing = 0

abbrev pub first_job : ℕ
first_job = 1

abbrev pub after10 : ℕ
after10 = 2

abbrev pub after11 : ℕ
after11 = 3

abbrev pub after12 : ℕ
after12 = 4

abbrev pub after25 : ℕ  -- or 26
after25 = 5

abbrev pub first27 : ℕ
first27 = 6

abbrev pub second27 : ℕ
second27 = 7

abbrev pub third27 : ℕ
third27 = 8

abbrev pub after70 : ℕ
after70 = 9

abbrev pub after72 : ℕ
after72 = 10

abbrev pub after80 : ℕ
after80 = 11

abbrev pub after86 : ℕ
after86 = 12

abbrev pub after91 : ℕ
after91 = 13

abbrev pub after92 : ℕ
after92 = 14

abbrev pub after93 : ℕ
after93 = 15

abbrev pub last_job : ℕ
last_job = 16

-- ---- the paper's table: after each place, what may come
unfoldable pub may_come : List (List ℕ)
may_come =
    (*AA* ∷ [])  -- nothing
    ∷ (*10* ∷ [])  -- first job code
    ∷ (*11* ∷ *12* ∷ [])  -- 10
    ∷ (*12* ∷ [])  -- 11
    ∷ (*25* ∷ [])  -- 12
    ∷ (*26* ∷ *27* ∷ [])  -- 25 or 26
    ∷ (*27* ∷ [])  -- first 27 of a group
    ∷ (*27* ∷ *25* ∷ *70* ∷ [])  -- second 27
    ∷ (*25* ∷ *70* ∷ [])  -- third 27
    ∷ (*70* ∷ *72* ∷ [])  -- 70
    ∷ (*72* ∷ *80* ∷ [])  -- 72
    ∷ (*86* ∷ [])  -- 80
    ∷ (*80* ∷ *91* ∷ *92* ∷ *93* ∷ *AA* ∷ [])  -- 86
    ∷ (*91* ∷ *92* ∷ *93* ∷ *AA* ∷ [])  -- 91
    ∷ (*92* ∷ *93* ∷ *AA* ∷ [])  -- 92
    ∷ (*AA* ∷ [])  -- 93
    ∷ []  -- last job code: nothing
    ∷ []

-- the place that a record of a kind makes, by the paper's names of the places; for a job code and a *27* it goes by what stands before
unfoldable pub place_named : (job measured kind : ℕ) → ℕ
place_named job measured kind = get_or (job ∷ after10 ∷ after11 ∷ after12 ∷ after25 ∷ after25 ∷ measured ∷ after70 ∷ after72 ∷ after80 ∷ after86 ∷ after91 ∷ after92 ∷ after93 ∷ []) kind 0

unfoldable pub place_after : ℕ → ℕ → ℕ
place_after place kind =
    place_named (cond (place =? nothing) first_job last_job) (cond (place =? first27) second27 (cond (place =? second27) third27 first27)) kind

-- what the paper says of a kind at a place: the place that it makes, 0 where it may not come
unfoldable pub ruled : ℕ → ℕ → ℕ
ruled place kind = cond (any_of (get_or may_come place []) kind) (place_after place kind) 0

-- ---- the same as an array of rows over the fourteen kinds: the next place, 0 where the kind may not come
unfoldable pub order : List (List ℕ)
order =
    (1 ∷ 0 ∷ 0 ∷ 0 ∷ 0 ∷ 0 ∷ 0 ∷ 0 ∷ 0 ∷ 0 ∷ 0 ∷ 0 ∷ 0 ∷ 0 ∷ [])
    ∷ (0 ∷ 2 ∷ 0 ∷ 0 ∷ 0 ∷ 0 ∷ 0 ∷ 0 ∷ 0 ∷ 0 ∷ 0 ∷ 0 ∷ 0 ∷ 0 ∷ [])
    ∷ (0 ∷ 0 ∷ 3 ∷ 4 ∷ 0 ∷ 0 ∷ 0 ∷ 0 ∷ 0 ∷ 0 ∷ 0 ∷ 0 ∷ 0 ∷ 0 ∷ [])
    ∷ (0 ∷ 0 ∷ 0 ∷ 4 ∷ 0 ∷ 0 ∷ 0 ∷ 0 ∷ 0 ∷ 0 ∷ 0 ∷ 0 ∷ 0 ∷ 0 ∷ [])
    ∷ (0 ∷ 0 ∷ 0 ∷ 0 ∷ 5 ∷ 0 ∷ 0 ∷ 0 ∷ 0 ∷ 0 ∷ 0 ∷ 0 ∷ 0 ∷ 0 ∷ [])
    ∷ (0 ∷ 0 ∷ 0 ∷ 0 ∷ 0 ∷ 5 ∷ 6 ∷ 0 ∷ 0 ∷ 0 ∷ 0 ∷ 0 ∷ 0 ∷ 0 ∷ [])
    ∷ (0 ∷ 0 ∷ 0 ∷ 0 ∷ 0 ∷ 0 ∷ 7 ∷ 0 ∷ 0 ∷ 0 ∷ 0 ∷ 0 ∷ 0 ∷ 0 ∷ [])
    ∷ (0 ∷ 0 ∷ 0 ∷ 0 ∷ 5 ∷ 0 ∷ 8 ∷ 9 ∷ 0 ∷ 0 ∷ 0 ∷ 0 ∷ 0 ∷ 0 ∷ [])
    ∷ (0 ∷ 0 ∷ 0 ∷ 0 ∷ 5 ∷ 0 ∷ 0 ∷ 9 ∷ 0 ∷ 0 ∷ 0 ∷ 0 ∷ 0 ∷ 0 ∷ [])
    ∷ (0 ∷ 0 ∷ 0 ∷ 0 ∷ 0 ∷ 0 ∷ 0 ∷ 9 ∷ 10 ∷ 0 ∷ 0 ∷ 0 ∷ 0 ∷ 0 ∷ [])
    ∷ (0 ∷ 0 ∷ 0 ∷ 0 ∷ 0 ∷ 0 ∷ 0 ∷ 0 ∷ 10 ∷ 11 ∷ 0 ∷ 0 ∷ 0 ∷ 0 ∷ [])
    ∷ (0 ∷ 0 ∷ 0 ∷ 0 ∷ 0 ∷ 0 ∷ 0 ∷ 0 ∷ 0 ∷ 0 ∷ 12 ∷ 0 ∷ 0 ∷ 0 ∷ [])
    ∷ (16 ∷ 0 ∷ 0 ∷ 0 ∷ 0 ∷ 0 ∷ 0 ∷ 0 ∷ 0 ∷ 11 ∷ 0 ∷ 13 ∷ 14 ∷ 15 ∷ [])
    ∷ (16 ∷ 0 ∷ 0 ∷ 0 ∷ 0 ∷ 0 ∷ 0 ∷ 0 ∷ 0 ∷ 0 ∷ 0 ∷ 13 ∷ 14 ∷ 15 ∷ [])
    ∷ (16 ∷ 0 ∷ 0 ∷ 0 ∷ 0 ∷ 0 ∷ 0 ∷ 0 ∷ 0 ∷ 0 ∷ 0 ∷ 0 ∷ 14 ∷ 15 ∷ [])
    ∷ (16 ∷ 0 ∷ 0 ∷ 0 ∷ 0 ∷ 0 ∷ 0 ∷ 0 ∷ 0 ∷ 0 ∷ 0 ∷ 0 ∷ 0 ∷ 0 ∷ [])
    ∷ (0 ∷ 0 ∷ 0 ∷ 0 ∷ 0 ∷ 0 ∷ 0 ∷ 0 ∷ 0 ∷ 0 ∷ 0 ∷ 0 ∷ 0 ∷ 0 ∷ [])
    ∷ []

-- 01, "the walk looks up the next place": in any such rows
unfoldable pub goto : List (List ℕ) → ℕ → ℕ → ℕ
goto rows place kind = get_or (get_or rows place []) kind 0
