-- One arm for each set.
use Rattle.judging.proofs.SpotLaws.{one_in_lem}
use Rattle.judging.proofs.spots.one_of.Goals as goal

pub returns-in-Letter : goal.returns-in-Letter
returns-in-Letter c = one_in_lem c.in-Letter.is

pub returns-in-LetterOrSpace : goal.returns-in-LetterOrSpace
returns-in-LetterOrSpace c = one_in_lem c.in-LetterOrSpace.is

pub returns-in-LetterOrDigit : goal.returns-in-LetterOrDigit
returns-in-LetterOrDigit c = one_in_lem c.in-LetterOrDigit.is

pub returns-in-LetterOrDigitOrSpace : goal.returns-in-LetterOrDigitOrSpace
returns-in-LetterOrDigitOrSpace c = one_in_lem c.in-LetterOrDigitOrSpace.is

pub returns-in-Digit : goal.returns-in-Digit
returns-in-Digit c = one_in_lem c.in-Digit.is

pub returns-in-Printable : goal.returns-in-Printable
returns-in-Printable c = one_in_lem c.in-Printable.is

pub returns-in-Title : goal.returns-in-Title
returns-in-Title c = one_in_lem c.in-Title.is

pub returns-in-Name : goal.returns-in-Name
returns-in-Name c = one_in_lem c.in-Name.is

pub returns-in-YesNo : goal.returns-in-YesNo
returns-in-YesNo c = one_in_lem c.in-YesNo.is

pub returns-in-YesNoOrSpace : goal.returns-in-YesNoOrSpace
returns-in-YesNoOrSpace c = one_in_lem c.in-YesNoOrSpace.is
