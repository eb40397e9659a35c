-- What one more read adds to what was read before it.
use Rattle.std.proofs.Common.{◌≡◌, ℕ, List, ◌++◌, ◌+◌, ◌≤◌, length, take, ap, sym, subst, ◌∙◌}
use Rattle.std.proofs.Math.Seq.{take-append-add}
use Rattle.std.proofs.lemmas.List.{length-take-le, take-append-le}
use borrow.Rule.Slice.PartMut.{put_mid, post_of}
use Rattle.std.specs.declared.option.Option.{Option}
use Rattle.std.specs.Io.KnownBytes.{Consumes}
use Rattle.std.proofs.KnownBytes.{Consumes-trans}

-- the first d bytes as they were, and then the first n of what was put behind them
take-put : (d k n : ℕ) (xs ys : List ℕ) → d ≤ length xs → n ≤ length ys → take (d + n) (put_mid d k xs ys) ≡ take d xs ++ take n ys
take-put d k n xs ys p q =
    subst (λ e. take (e + n) (put_mid d k xs ys) ≡ take d xs ++ take n (ys ++ post_of d k xs)) (length-take-le d xs p) (take-append-add (take d xs) _ n)
    ∙ ap (λ l. take d xs ++ l) (take-append-le n ys _ q)

pub consumes_more : (a b c : Option (List ℕ)) (d k n : ℕ) (xs ys : List ℕ) → d ≤ length xs → n ≤ length ys
    → Consumes a b (take d xs) → Consumes b c (take n ys) → Consumes a c (take (d + n) (put_mid d k xs ys))
consumes_more a b c d k n xs ys p q first second =
    subst (Consumes a c) (sym (take-put d k n xs ys p q)) (Consumes-trans a b c _ _ first second)
