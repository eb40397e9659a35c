-- Walks over the lines of an input: what the functions that count lines and that lay them promise.
use Rattle.std.specs.Prelude.{◌≡◌, ◌⊎◌, true, cond, List, [], ◌∷◌, ◌++◌, map, ℕ, suc, ◌+◌, ◌*◌, ◌≤◌, length, take, drop}
use Rattle.rules.specs.Tests.{all, ◌≤?◌}
use Rattle.rules.specs.Files.{accept, join}
use Rattle.rules.specs.Padding.{texts, padded_line, judge_texts}
use Rattle.padding.specs.declared.stretches.Stretch.{Stretch}

-- ---- counting
-- how many lines stand from a place on
unfoldable pub lines_ahead : List ℕ → ℕ → ℕ
lines_ahead f at = length (texts (drop at f))

-- how many of some lines are too long, and of those from a place on
unfoldable pub too_long : List (List ℕ) → ℕ
too_long [] = 0
too_long (t ∷ ts) = cond (length t ≤? 80) (too_long ts) (suc (too_long ts))

unfoldable pub long_ahead : List ℕ → ℕ → ℕ
long_ahead f at = too_long (texts (drop at f))

-- a number for each of some places, added up
unfoldable pub sum : (ℕ → ℕ) → List ℕ → ℕ
sum g [] = 0
sum g (p ∷ ps) = g p + sum g ps

-- walks have come from some places to others; so many lines were counted before, and so many with those that they passed, none too long
pub record Passed (f from : List ℕ) (before : ℕ) (to : List ℕ) (lines : ℕ) : Type 0 where
  pub count : lines + sum (lines_ahead f) to ≡ before + sum (lines_ahead f) from
  pub short : sum (long_ahead f) to ≡ sum (long_ahead f) from
  pub few : lines ≤ 99_999

-- a number other than 0 is the number of lines, and they pass
pub record Told (f : List ℕ) (lines : ℕ) : Type 0 where
  pub passes : (lines ≡ 0 → ⊥) → judge_texts 1 (texts f) ≡ accept
  pub counted : (lines ≡ 0 → ⊥) → lines ≡ length (texts f)

-- so many lines stand before a start of a line
pub record Halved (f : List ℕ) (start near lines : ℕ) : Type 0 where
  pub told : Told f lines
  pub within : near ≤ length (texts f)
  pub behind : texts (drop start f) ≡ drop near (texts f)

-- ---- laying
-- padded lines in an output from a place on
unfoldable pub laid_at : List ℕ → ℕ → List (List ℕ) → List ℕ
laid_at o to ts = take to o ++ (join (map padded_line ts) ++ drop (to + 81 * length ts) o)

-- those of a stretch
unfoldable pub laid : List ℕ → List ℕ → Stretch → List ℕ
laid f o s = laid_at o s.to (take s.lines (texts (drop s.from f)))

-- a stretch can be laid: its lines are there, none is too long, and there is room for them
pub record Ready (f o : List ℕ) (s : Stretch) : Type 0 where
  pub there : s.lines ≤ length (texts (drop s.from f))
  pub short : all (λ t. length t ≤? 80) (texts (drop s.from f)) ≡ true
  pub room : s.to + 81 * s.lines ≤ length o

-- two stretches go to different places
unfoldable pub Apart : Stretch → Stretch → Type 0
Apart s t = (s.to + 81 * s.lines ≤ t.to) ⊎ (t.to + 81 * t.lines ≤ s.to)

-- what two stretches have left can be laid, and then all of both is laid
pub record Turned (f o₀ : List ℕ) (near far : Stretch) (o : List ℕ) (here there : Stretch) : Type 0 where
  pub size : length o ≡ length o₀
  pub ready_here : Ready f o here
  pub ready_there : Ready f o there
  pub apart : Apart here there
  pub both : laid f (laid f o here) there ≡ laid f (laid f o₀ near) far
