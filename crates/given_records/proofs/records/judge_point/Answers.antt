-- Field after field from the left: the first fault stays. An angle comes back from 64 bits as it was.
use mathlib.Core.Path.{◌≡◌, ap, ◌∙◌}
use borrow.Author.Rules.{rules}
use mir.Syntax.{w64}
use mir.Val.{to_z, of_z}
use Rattle.rules.specs.Items.{fits, num, angle, latitude, longitude}
use Rattle.rules.specs.Fields.{check}
use Rattle.columns.specs.Types.{way_of}
use Rattle.kinds.specs.Values.{judged_of}
use Rattle.kinds.proofs.ValueLaws.{past, last}
use Rattle.given_records.proofs.KindLaws.{point_chain}
use Rattle.given_records.proofs.records.judge_point.Goals as goal

pub returns : goal.returns
unfolding way_of
returns c =
    let p = c.args.p in
    let latitude_back : to_z w64 (of_z w64 p.latitude) ≡ p.latitude = search rules in
    let longitude_back : to_z w64 (of_z w64 p.longitude) ≡ p.longitude = search rules in
    rw (point_chain p c.args.a.now)
    (past _ _ c.judge_count.ensures c.in_ok-judge_count.was
    (past _ _ c.judge_printable.ensures c.in_ok-judge_printable.was
    (past _ _ (c.judge_angle.ensures ∙ ap (λ z. judged_of (check (fits (angle latitude) (num z)) 9 45)) latitude_back) c.in_ok-judge_angle.was
    (past _ _ (c.judge_angle-2.ensures ∙ ap (λ z. judged_of (check (fits (angle longitude) (num z)) 9 57)) longitude_back) c.in_ok-judge_angle-2.was
    (last _ c.judge_two.ensures)))))
