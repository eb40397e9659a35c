-- One arm for each kind.
use Rattle.writing.proofs.LineLaws.{media_fitting, angles_fitting}
use Rattle.rules.specs.Items.{render, on_text}
use Rattle.rules.specs.Layouts.{layouts}
use Rattle.kinds.specs.Values.{kind_number, values_of}
use Rattle.given_records.specs.Judging.{layout_of}
use Rattle.styling.specs.Laying.{lay_fields}
use Rattle.writing.proofs.lines.lay_values.Goals as goal

pub lay_occupation-requires : goal.lay_occupation-requires
lay_occupation-requires c = let a = c.args in media_fitting a.a.now a.b.now a.c.now c.requires _ c.in-Occupation.is

pub lay_point-requires : goal.lay_point-requires
lay_point-requires c = let a = c.args in angles_fitting a.a.now a.b.now a.c.now c.requires _ c.in-Point.is

pub returns-in-Job : goal.returns-in-Job
returns-in-Job c = unfold kind_number layout_of layouts values_of lay_fields render on_text in rw c.in-Job.is c.lay_text.ensures

pub returns-in-Title : goal.returns-in-Title
returns-in-Title c = unfold kind_number layout_of layouts values_of lay_fields render on_text in rw c.in-Title.is c.lay_text-in-Title.ensures

pub returns-in-Continuation : goal.returns-in-Continuation
returns-in-Continuation c = unfold kind_number layout_of layouts values_of lay_fields render on_text in rw c.in-Continuation.is c.lay_text-in-Continuation.ensures

pub returns-in-Project : goal.returns-in-Project
returns-in-Project c = unfold kind_number layout_of layouts values_of in rw c.in-Project.is c.lay_project.ensures

pub returns-in-Occupation : goal.returns-in-Occupation
returns-in-Occupation c = unfold kind_number layout_of layouts values_of in rw c.in-Occupation.is c.lay_occupation.ensures

pub returns-in-Comment : goal.returns-in-Comment
returns-in-Comment c = unfold kind_number layout_of layouts values_of lay_fields render on_text in rw c.in-Comment.is c.lay_text-in-Comment.ensures

pub returns-in-Measurement : goal.returns-in-Measurement
returns-in-Measurement c = unfold kind_number layout_of layouts values_of in rw c.in-Measurement.is c.lay_measurement.ensures

pub returns-in-Instrument : goal.returns-in-Instrument
returns-in-Instrument c = unfold kind_number layout_of layouts values_of in rw c.in-Instrument.is c.lay_instrument.ensures

pub returns-in-Antenna : goal.returns-in-Antenna
returns-in-Antenna c = unfold kind_number layout_of layouts values_of in rw c.in-Antenna.is c.lay_antenna.ensures

pub returns-in-Point : goal.returns-in-Point
returns-in-Point c = unfold kind_number layout_of layouts values_of in rw c.in-Point.is c.lay_point.ensures

pub returns-in-Heights : goal.returns-in-Heights
returns-in-Heights c = unfold kind_number layout_of layouts values_of in rw c.in-Heights.is c.lay_heights.ensures

pub returns-in-Network : goal.returns-in-Network
returns-in-Network c = unfold kind_number layout_of layouts values_of in rw c.in-Network.is c.lay_network.ensures

pub returns-in-Local : goal.returns-in-Local
returns-in-Local c = unfold kind_number layout_of layouts values_of in rw c.in-Local.is c.lay_local.ensures

pub returns-in-Factor : goal.returns-in-Factor
returns-in-Factor c = unfold kind_number layout_of layouts values_of in rw c.in-Factor.is c.lay_factor.ensures
