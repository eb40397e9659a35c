-- One arm for each kind.
use mathlib.Core.Path.{sym, ap, ◌∙◌}
use lib.Dec.{lit≤}
use Rattle.given_records.proofs.GivenLaws.{judge_arm, judge-text, job_arm}
use Rattle.given_records.proofs.KindLaws.{word_of}
use Rattle.rules.specs.Layouts.{layouts}
use Rattle.columns.specs.declared.Set.{Set}
use Rattle.columns.specs.Types.{set_of}
use Rattle.kinds.specs.Values.{kind_number, values_of, judged_of}
use Rattle.given_records.specs.Judging.{layout_of}
use Rattle.given_records.proofs.records.judge_record.Goals as goal

pub returns-in-Job : goal.returns-in-Job
returns-in-Job c = let a = c.args in c.judge_job.ensures ∙ job_arm _ a.a.now a.b.now a.c.now c.in-Job.is

pub returns-in-Title : goal.returns-in-Title
returns-in-Title c = let a = c.args in unfold kind_number layout_of layouts values_of word_of set_of in judge_arm a.a.now a.b.now a.c.now _ c.in-Title.is (lit≤ tt) (c.judge_text.ensures ∙ ap judged_of (sym (judge-text Set.Title a.a.now)))

pub returns-in-Continuation : goal.returns-in-Continuation
returns-in-Continuation c = let a = c.args in unfold kind_number layout_of layouts values_of word_of set_of in judge_arm a.a.now a.b.now a.c.now _ c.in-Continuation.is (lit≤ tt) (c.judge_text-in-Continuation.ensures ∙ ap judged_of (sym (judge-text Set.Title a.a.now)))

pub returns-in-Project : goal.returns-in-Project
returns-in-Project c = let a = c.args in unfold kind_number layout_of layouts values_of in judge_arm a.a.now a.b.now a.c.now _ c.in-Project.is (lit≤ tt) c.judge_project.ensures

pub returns-in-Occupation : goal.returns-in-Occupation
returns-in-Occupation c = let a = c.args in unfold kind_number layout_of layouts values_of in judge_arm a.a.now a.b.now a.c.now _ c.in-Occupation.is (lit≤ tt) c.judge_occupation.ensures

pub returns-in-Comment : goal.returns-in-Comment
returns-in-Comment c = let a = c.args in unfold kind_number layout_of layouts values_of word_of set_of in judge_arm a.a.now a.b.now a.c.now _ c.in-Comment.is (lit≤ tt) (c.judge_text-in-Comment.ensures ∙ ap judged_of (sym (judge-text Set.Printable a.a.now)))

pub returns-in-Measurement : goal.returns-in-Measurement
returns-in-Measurement c = let a = c.args in unfold kind_number layout_of layouts values_of in judge_arm a.a.now a.b.now a.c.now _ c.in-Measurement.is (lit≤ tt) c.judge_measurement.ensures

pub returns-in-Instrument : goal.returns-in-Instrument
returns-in-Instrument c = let a = c.args in unfold kind_number layout_of layouts values_of in judge_arm a.a.now a.b.now a.c.now _ c.in-Instrument.is (lit≤ tt) c.judge_instrument.ensures

pub returns-in-Antenna : goal.returns-in-Antenna
returns-in-Antenna c = let a = c.args in unfold kind_number layout_of layouts values_of in judge_arm a.a.now a.b.now a.c.now _ c.in-Antenna.is (lit≤ tt) c.judge_antenna.ensures

pub returns-in-Point : goal.returns-in-Point
returns-in-Point c = let a = c.args in unfold kind_number layout_of layouts values_of in judge_arm a.a.now a.b.now a.c.now _ c.in-Point.is (lit≤ tt) c.judge_point.ensures

pub returns-in-Heights : goal.returns-in-Heights
returns-in-Heights c = let a = c.args in unfold kind_number layout_of layouts values_of in judge_arm a.a.now a.b.now a.c.now _ c.in-Heights.is (lit≤ tt) c.judge_heights.ensures

pub returns-in-Network : goal.returns-in-Network
returns-in-Network c = let a = c.args in unfold kind_number layout_of layouts values_of in judge_arm a.a.now a.b.now a.c.now _ c.in-Network.is (lit≤ tt) c.judge_network.ensures

pub returns-in-Local : goal.returns-in-Local
returns-in-Local c = let a = c.args in unfold kind_number layout_of layouts values_of in judge_arm a.a.now a.b.now a.c.now _ c.in-Local.is (lit≤ tt) c.judge_local.ensures

pub returns-in-Factor : goal.returns-in-Factor
returns-in-Factor c = let a = c.args in unfold kind_number layout_of layouts values_of in judge_arm a.a.now a.b.now a.c.now _ c.in-Factor.is (lit≤ tt) c.judge_factor.ensures
