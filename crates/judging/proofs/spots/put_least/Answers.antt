-- One arm for each kind, by the promise of what it calls.
use mathlib.Core.Path.{refl}
use lib.ListN.{length}
use Rattle.judging.proofs.SpotLaws.{least-blank, least-constant, least-number, least-height, least-angle, least-month, least-media, least-word, least-or-blank}
use Rattle.judging.proofs.spots.put_least.Goals as goal

pub returns-in-Blank : goal.returns-in-Blank
returns-in-Blank c =
    least-blank (length c.args.out.now) c.in-Blank.is c.put_blank.ensures

pub returns-in-Constant : goal.returns-in-Constant
returns-in-Constant c =
    least-constant (length c.args.out.now) _ c.in-Constant.is c.requires c.put_all.ensures

pub returns-in-Number : goal.returns-in-Number
returns-in-Number c =
    least-number (length c.args.out.now) _ _ _ c.in-Number.is _ c.from.ensures c.put_digits.ensures

pub returns-in-Height : goal.returns-in-Height
returns-in-Height c =
    least-height (length c.args.out.now) _ _ _ c.in-Height.is c.put_digits-in-Height.ensures

pub returns-in-Angle : goal.returns-in-Angle
returns-in-Angle c =
    least-angle (length c.args.out.now) _ c.args.out.now c.in-Angle.is c.requires refl c.put_angle.ensures

pub returns-in-Month : goal.returns-in-Month
returns-in-Month c =
    least-month (length c.args.out.now) c.args.out.now c.in-Month.is c.requires refl c.put_month.ensures

pub returns-in-Media : goal.returns-in-Media
returns-in-Media c =
    least-media (length c.args.out.now) c.args.out.now c.in-Media.is c.requires refl c.put_media.ensures

pub returns-in-Word : goal.returns-in-Word
returns-in-Word c =
    least-word (length c.args.out.now) _ c.in-Word.is _ c.one_of.ensures c.put_all-in-Word.ensures

pub returns-in-WordOrBlank : goal.returns-in-WordOrBlank
returns-in-WordOrBlank c =
    least-or-blank (length c.args.out.now) _ c.in-WordOrBlank.is _ c.one_of-in-WordOrBlank.ensures c.put_all-in-WordOrBlank.ensures
