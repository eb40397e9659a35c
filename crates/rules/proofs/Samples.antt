-- Nothing is vacuous: files that are accepted, files that are refused for each reason, and files that mean the same, by computation.
use mathlib.Core.Path.{◌≡◌, refl, sym, ◌∙◌, ap}
use mathlib.Core.Bool.{true}
use mathlib.Core.List.{List, [], ◌∷◌, ◌++◌, map}
use Prim.Native.Nat.{ℕ, zero, suc, ◌+◌, ◌≤◌}
use Prim.Native.String.{String}
use native.Mathlib.Omega.{arith}
use lib.ListN.{get_or, replicate}
use lib.IntN.{negsuc}
use Rattle.rules.specs.Tests.{all, within, ◌&◌, ◌≤?◌, ◌=?◌}
use Rattle.rules.specs.Characters.{ascii, is_printable, is_blank, is_digit, is_letter, any_of, title_characters, name_characters, member, one_of}
use Rattle.rules.specs.Digits.{val, put, stripped, numeral}
use Rattle.rules.specs.Items.{Value, missing, num, num_form, height_form, minus, signed, passes, angle_of, dms, dms_form, columns, top, low, plus, minus_of, angle_value, is_month, is_media, on_gap, on_number, on_text, on_label, width, shape, value_of, fits, render, good, set_in, least, ends, goes_on, begins, first_bad, spot}
use Rattle.rules.specs.Fields.{ok, check, ◌⨾◌, is_ok, run, columns_of, read, given, entries_of, values, value_at, num_of, is_missing, same_truth, meets, agrees_with, agrees, judge_each, judge, renders}
use Rattle.rules.specs.Records.{sequence, bytes, code_at, entries, numbered, judge_line, read_line, meaning, told, line_of, style}
use Rattle.rules.specs.Files.{Result, accept, refuse, is_accept, in_record, and_then, line_at, begun, lines_from, lines, join, meanings, passed, walk, refer, verdict, styles, house_style, rewritten}
use Rattle.rules.specs.Kinds.{data_codes, kind_from, starred, kind_between, kind_of, known, *70*, *72*, *80*}
use Rattle.rules.specs.Layouts.{layouts, layout}
use Rattle.rules.specs.Order.{order, goto}
use Rattle.rules.specs.References.{is_a, number_at, defines, definer_from, definer, asked, ref_checks, tabulate, mark, tally, counts}
use Rattle.rules.specs.Chapter4.{Past, at_start, same_bytes, may_stand, expectation, latest, after, chapter4}
use Rattle.rules.specs.Calls.{Answer, answer, outcome, big_table, form_answer, references_outcome, file_answer, Reading, unread, read_as, read_of}
use Rattle.rules.proofs.Truth.{of≤, all_append, all_replicate}
use Rattle.rules.proofs.FileLaws.{is_line, lines_join}
use Rattle.rules.specs.Sheet.{tabbed, file_line, listed, sheet}

unfoldable pub bytes_of : List String → List ℕ
unfolding ascii
bytes_of [] = []
bytes_of (s ∷ ss) = ascii s ++ bytes_of ss

-- ---- records
abbrev r_job : String
r_job = "000010*A1*HZTLOBS  KABUN KABUNLISOG SURVEYORS                                   \n"

abbrev r_title : String
r_title = "      *10*RIVER MOUTH TO THE OLD LIGHT, 2024                                    \n"

abbrev r_more : String
r_more = "      *11*CONTINUED                                                             \n"

abbrev r_project : String
r_project = "    30*12*202401202402JDCCRUZ J D                                          4MD  \n"

abbrev r_occupy1 : String
r_occupy1 = "      *25*   1T0324AHILLJDC010    5                                             \n"

abbrev r_comment : String
r_comment = "      *26*                                                                      \n"

abbrev r_begin1 : String
r_begin1 = "      *27*00012402011315                                1543                    \n"

abbrev r_end1 : String
r_end1 = "      *27*   12402011815                               -0012                    \n"

abbrev r_occupy2 : String
r_occupy2 = "      *25*0002T0334BDOCK    11  006                                             \n"

abbrev r_begin2 : String
r_begin2 = "      *27*00022402020000                               00000                    \n"

abbrev r_receiver1 : String
r_receiver1 = "      *70*010123      TRIMBLE                                 R10     5512345678\n"

-- the number of the one before, and nothing else of it
abbrev r_receiver1_again : String
r_receiver1_again = "    80*70* 10045      LEICA                                   GS18    3701188   \n"

abbrev r_receiver2 : String
r_receiver2 = "      *70*011123      TRIMBLE                                 R10               \n"

abbrev r_aerial1 : String
r_aerial1 = "      *72*005   TRMR10          NONE        5512345678                          \n"

abbrev r_aerial2 : String
r_aerial2 = "      *72*006   TRMR10          NONE        UNK                                 \n"

abbrev r_point1 : String
r_point1 = "      *80*0001HILL 1931                     38531512345N180000000000W       MD  \n"

abbrev r_heights1 : String
r_heights1 = "      *86*0001    -1234A12Y88NGS             9999999A  A                        \n"

abbrev r_point2 : String
r_point2 = "      *80*   2DOCK                          00000000001S000000000001W       MD  \n"

abbrev r_heights2 : String
r_heights2 = "      *86*0002                        -5006                                     \n"

abbrev r_network : String
r_network = "      *91*0001             1230000000098  -1234567       250    NNETWORK        \n"

abbrev r_local : String
r_local = "      *92*0001     2  0000000045        50        -00000000120    YLOCAL        \n"

abbrev r_factor : String
r_factor = "      *93*    100000009999FACTORS                                               \n"

abbrev r_last : String
r_last = "      *A1*                                                                      \n"

abbrev r_tabbed : String
r_tabbed = "000010*A1*H\tTLOBS  KABUN KABUNLISOG SURVEYORS                                   \n"

abbrev r_unknown : String
r_unknown = "      *13*                                                                      \n"

abbrev r_badnumber : String
r_badnumber = "000000*A1*                                                                      \n"

abbrev r_backward : String
r_backward = "      *12*202402202401JDCCRUZ J D                                          4MD  \n"

abbrev r_again : String
r_again = "      *80*0001HILL AGAIN                    38531512345N180000000000W       MD  \n"

abbrev r_again86 : String
r_again86 = "      *86*0001                                                                  \n"

abbrev r_stranger : String
r_stranger = "      *25*0003T0334BDOCK    11  006                                             \n"

abbrev r_strange3 : String
r_strange3 = "      *27*00032402020000                               00000                    \n"

abbrev r_stranger28 : String
r_stranger28 = "      *25*0002T0334BDOCK    12  006                                             \n"

abbrev r_stranger33 : String
r_stranger33 = "      *25*0002T0334BDOCK    11  007                                             \n"

abbrev r_uncoded : String
r_uncoded = "      *86*0001         A                                                        \n"

abbrev r_unmarked : String
r_unmarked = "      *86*0001  0000001A                                                        \n"

abbrev r_dressed1 : String
r_dressed1 = "     7*80*   1HILL 1931                     38531512345N180000000000E       MD  \n"

abbrev r_station0 : String
r_station0 = "      *25*0000T0334BDOCK    11  006                                             \n"

abbrev r_network3 : String
r_network3 = "      *91*0003             1230000000098  -1234567       250    NNETWORK        \n"

abbrev r_local3 : String
r_local3 = "      *92*0003     2  0000000045        50        -00000000120    YLOCAL        \n"

abbrev r_local17 : String
r_local17 = "      *92*0001     3  0000000045        50        -00000000120    YLOCAL        \n"

abbrev r_local_itself : String
r_local_itself = "      *92*0001     1  0000000045        50        -00000000120    YLOCAL        \n"

abbrev r_local26 : String
r_local26 = "      *26*WIND                                                                  \n"

-- ---- a file with every kind of record, with missing and negative heights, S and W, a group of two *27* and one of three
abbrev pub full : List String
full = r_job ∷ r_title ∷ r_more ∷ r_project ∷ r_occupy1 ∷ r_comment ∷ r_begin1 ∷ r_end1 ∷ r_occupy2 ∷ r_begin2 ∷ r_begin2 ∷ r_begin2 ∷ r_receiver1 ∷ r_receiver2 ∷ r_aerial1 ∷ r_aerial2 ∷ r_point1 ∷ r_heights1 ∷ r_point2 ∷ r_heights2 ∷ r_network ∷ r_local ∷ r_factor ∷ r_last ∷ []

unfoldable pub judged : List String → Result
unfolding bytes_of all within ◌&◌ ◌≤?◌ ◌=?◌ is_printable is_blank is_digit is_letter any_of title_characters name_characters member val put num_form height_form minus signed passes angle_of dms dms_form columns top low plus minus_of angle_value is_month is_media on_gap on_number on_text on_label width shape value_of fits render good set_in least ends goes_on begins first_bad spot one_of check ◌⨾◌ is_ok run columns_of read given entries_of values value_at num_of is_missing same_truth meets agrees_with agrees judge_each judge renders sequence bytes code_at entries numbered judge_line read_line meaning told line_of style in_record and_then line_at begun lines_from lines join meanings passed walk refer verdict styles house_style rewritten data_codes kind_from starred kind_between kind_of known layouts layout order goto is_a number_at defines definer_from definer asked ref_checks at_start same_bytes may_stand expectation latest after
judged ls = verdict chapter4 (bytes_of ls)

pub full_accepted : judged full ≡ accept
unfolding judged
full_accepted = refl

-- record 9 names station 3, which no *80* defines, and record 20, an *86* of another station, is malformed
abbrev pub malformed_later : List String
malformed_later = r_job ∷ r_title ∷ r_more ∷ r_project ∷ r_occupy1 ∷ r_comment ∷ r_begin1 ∷ r_end1 ∷ r_stranger ∷ r_strange3 ∷ r_strange3 ∷ r_strange3 ∷ r_receiver1 ∷ r_receiver2 ∷ r_aerial1 ∷ r_aerial2 ∷ r_point1 ∷ r_heights1 ∷ r_point2 ∷ r_heights1 ∷ r_network ∷ r_local ∷ r_factor ∷ r_last ∷ []

-- ---- refused files, each with its number, record and column; a *25* is judged against the *80* records of the whole file, a *92* of one station (10)
-- goes before the undefined station of an earlier *25*, and a repeated *80* before the undefined station of a *91* behind it
pub refusals :
    (judged ("000010*A1*" ∷ [])
    ∷ judged (r_tabbed ∷ [])
    ∷ judged ("000010*A1*HZTLOBS                                                               \r\n" ∷ [])
    ∷ judged (r_unknown ∷ [])
    ∷ judged (r_title ∷ [])
    ∷ judged (r_job ∷ r_title ∷ r_project ∷ r_occupy1 ∷ r_begin1 ∷ r_end1 ∷ r_end1 ∷ r_end1 ∷ [])
    ∷ judged (r_job ∷ r_title ∷ r_project ∷ r_occupy1 ∷ r_begin1 ∷ r_comment ∷ [])
    ∷ judged []
    ∷ judged (r_job ∷ [])
    ∷ judged (r_badnumber ∷ [])
    ∷ judged (r_job ∷ r_title ∷ r_project ∷ r_station0 ∷ [])
    ∷ judged (r_job ∷ r_title ∷ r_backward ∷ [])
    ∷ judged (r_job ∷ r_title ∷ r_project ∷ r_occupy1 ∷ r_begin2 ∷ [])
    ∷ judged (r_job ∷ r_title ∷ r_more ∷ r_project ∷ r_occupy1 ∷ r_comment ∷ r_begin1 ∷ r_end1 ∷ r_occupy2 ∷ r_begin2 ∷ r_begin2 ∷ r_begin2 ∷ r_receiver1 ∷ r_receiver2 ∷ r_aerial1 ∷ r_aerial2 ∷ r_point1 ∷ r_uncoded ∷ r_point2 ∷ r_heights2 ∷ r_network ∷ r_local ∷ r_factor ∷ r_last ∷ [])
    ∷ judged (r_job ∷ r_title ∷ r_more ∷ r_project ∷ r_occupy1 ∷ r_comment ∷ r_begin1 ∷ r_end1 ∷ r_occupy2 ∷ r_begin2 ∷ r_begin2 ∷ r_begin2 ∷ r_receiver1 ∷ r_receiver2 ∷ r_aerial1 ∷ r_aerial2 ∷ r_point1 ∷ r_unmarked ∷ r_point2 ∷ r_heights2 ∷ r_network ∷ r_local ∷ r_factor ∷ r_last ∷ [])
    ∷ judged (r_job ∷ r_title ∷ r_more ∷ r_project ∷ r_occupy1 ∷ r_comment ∷ r_begin1 ∷ r_end1 ∷ r_occupy2 ∷ r_begin2 ∷ r_begin2 ∷ r_begin2 ∷ r_receiver1 ∷ r_receiver2 ∷ r_aerial1 ∷ r_aerial2 ∷ r_point1 ∷ r_heights1 ∷ r_point2 ∷ r_heights2 ∷ r_again ∷ r_again86 ∷ r_network ∷ r_local ∷ r_factor ∷ r_last ∷ [])
    ∷ judged (r_job ∷ r_title ∷ r_more ∷ r_project ∷ r_occupy1 ∷ r_comment ∷ r_begin1 ∷ r_end1 ∷ r_stranger ∷ r_strange3 ∷ r_strange3 ∷ r_strange3 ∷ r_receiver1 ∷ r_receiver2 ∷ r_aerial1 ∷ r_aerial2 ∷ r_point1 ∷ r_heights1 ∷ r_point2 ∷ r_heights2 ∷ r_network ∷ r_local ∷ r_factor ∷ r_last ∷ [])
    ∷ judged (r_job ∷ r_title ∷ r_more ∷ r_project ∷ r_occupy1 ∷ r_comment ∷ r_begin1 ∷ r_end1 ∷ r_stranger28 ∷ r_begin2 ∷ r_begin2 ∷ r_begin2 ∷ r_receiver1 ∷ r_receiver2 ∷ r_aerial1 ∷ r_aerial2 ∷ r_point1 ∷ r_heights1 ∷ r_point2 ∷ r_heights2 ∷ r_network ∷ r_local ∷ r_factor ∷ r_last ∷ [])
    ∷ judged (r_job ∷ r_title ∷ r_more ∷ r_project ∷ r_occupy1 ∷ r_comment ∷ r_begin1 ∷ r_end1 ∷ r_stranger33 ∷ r_begin2 ∷ r_begin2 ∷ r_begin2 ∷ r_receiver1 ∷ r_receiver2 ∷ r_aerial1 ∷ r_aerial2 ∷ r_point1 ∷ r_heights1 ∷ r_point2 ∷ r_heights2 ∷ r_network ∷ r_local ∷ r_factor ∷ r_last ∷ [])
    ∷ judged malformed_later
    ∷ judged (r_job ∷ r_title ∷ r_more ∷ r_project ∷ r_occupy1 ∷ r_comment ∷ r_begin1 ∷ r_end1 ∷ r_occupy2 ∷ r_begin2 ∷ r_begin2 ∷ r_begin2 ∷ r_receiver1 ∷ r_receiver2 ∷ r_aerial1 ∷ r_aerial2 ∷ r_point1 ∷ r_heights1 ∷ r_point2 ∷ r_heights2 ∷ r_network ∷ r_network3 ∷ r_local ∷ r_factor ∷ r_last ∷ [])
    ∷ judged (r_job ∷ r_title ∷ r_more ∷ r_project ∷ r_occupy1 ∷ r_comment ∷ r_begin1 ∷ r_end1 ∷ r_occupy2 ∷ r_begin2 ∷ r_begin2 ∷ r_begin2 ∷ r_receiver1 ∷ r_receiver2 ∷ r_aerial1 ∷ r_aerial2 ∷ r_point1 ∷ r_heights1 ∷ r_point2 ∷ r_heights2 ∷ r_network ∷ r_local3 ∷ r_factor ∷ r_last ∷ [])
    ∷ judged (r_job ∷ r_title ∷ r_more ∷ r_project ∷ r_occupy1 ∷ r_comment ∷ r_begin1 ∷ r_end1 ∷ r_occupy2 ∷ r_begin2 ∷ r_begin2 ∷ r_begin2 ∷ r_receiver1 ∷ r_receiver2 ∷ r_aerial1 ∷ r_aerial2 ∷ r_point1 ∷ r_heights1 ∷ r_point2 ∷ r_heights2 ∷ r_network ∷ r_network ∷ r_local ∷ r_local17 ∷ r_factor ∷ r_last ∷ [])
    ∷ judged (r_job ∷ r_title ∷ r_more ∷ r_project ∷ r_occupy1 ∷ r_comment ∷ r_begin1 ∷ r_end1 ∷ r_stranger ∷ r_strange3 ∷ r_strange3 ∷ r_strange3 ∷ r_receiver1 ∷ r_receiver2 ∷ r_aerial1 ∷ r_aerial2 ∷ r_point1 ∷ r_heights1 ∷ r_point2 ∷ r_heights2 ∷ r_network ∷ r_local_itself ∷ r_factor ∷ r_last ∷ [])
    ∷ judged (r_job ∷ r_title ∷ r_more ∷ r_project ∷ r_occupy1 ∷ r_comment ∷ r_begin1 ∷ r_end1 ∷ r_occupy2 ∷ r_begin2 ∷ r_begin2 ∷ r_begin2 ∷ r_receiver1 ∷ r_receiver2 ∷ r_aerial1 ∷ r_aerial2 ∷ r_point1 ∷ r_heights1 ∷ r_point2 ∷ r_heights2 ∷ r_again ∷ r_again86 ∷ r_network3 ∷ r_local ∷ r_factor ∷ r_last ∷ [])
    ∷ [])
    ≡ (refuse 3 1 11
    ∷ refuse 4 1 12
    ∷ refuse 5 1 81
    ∷ refuse 6 1 7
    ∷ refuse 7 1 7
    ∷ refuse 7 8 7
    ∷ refuse 7 6 7
    ∷ refuse 8 1 1
    ∷ refuse 8 2 1
    ∷ refuse 9 1 6
    ∷ refuse 9 4 14
    ∷ refuse 10 3 17
    ∷ refuse 10 5 11
    ∷ refuse 10 18 24
    ∷ refuse 10 18 27
    ∷ refuse 11 21 11
    ∷ refuse 12 9 11
    ∷ refuse 12 9 28
    ∷ refuse 12 9 33
    ∷ refuse 10 20 11
    ∷ refuse 12 22 11
    ∷ refuse 12 22 11
    ∷ refuse 12 24 17
    ∷ refuse 10 22 17
    ∷ refuse 11 21 11
    ∷ [])
unfolding judged
refusals = refl

pub malformed-first : judged malformed_later ≡ refuse 10 20 11
unfolding judged
malformed-first = refl

-- ---- 02, T-05: form and references by themselves. A station that no *80* defines and a second *80* are not the form's; any fault of the form
-- is 14 of the references, with record and column 0
abbrev pub strangers : List String
strangers = r_job ∷ r_title ∷ r_more ∷ r_project ∷ r_occupy1 ∷ r_comment ∷ r_begin1 ∷ r_end1 ∷ r_stranger ∷ r_strange3 ∷ r_strange3 ∷ r_strange3 ∷ r_receiver1 ∷ r_receiver2 ∷ r_aerial1 ∷ r_aerial2 ∷ r_point1 ∷ r_heights1 ∷ r_point2 ∷ r_heights2 ∷ r_network ∷ r_local ∷ r_factor ∷ r_last ∷ []

abbrev pub repeated : List String
repeated = r_job ∷ r_title ∷ r_more ∷ r_project ∷ r_occupy1 ∷ r_comment ∷ r_begin1 ∷ r_end1 ∷ r_occupy2 ∷ r_begin2 ∷ r_begin2 ∷ r_begin2 ∷ r_receiver1 ∷ r_receiver2 ∷ r_aerial1 ∷ r_aerial2 ∷ r_point1 ∷ r_heights1 ∷ r_point2 ∷ r_heights2 ∷ r_again ∷ r_again86 ∷ r_network ∷ r_local ∷ r_factor ∷ r_last ∷ []

unfoldable pub form_of : List String → Answer
unfolding judged form_answer answer counts tabulate tally
form_of ls = form_answer (bytes_of ls)

unfoldable pub references_of : List String → Result
unfolding judged references_outcome is_accept
references_of ls = references_outcome true (bytes_of ls)

pub forms : ((form_of full).number ∷ (form_of strangers).number ∷ (form_of repeated).number ∷ (form_of malformed_later).number ∷ (form_of []).number ∷ []) ≡ 0 ∷ 0 ∷ 0 ∷ 10 ∷ 8 ∷ []
unfolding form_of
forms = refl

pub strangers_counts : (form_of strangers).counts ≡ 2 ∷ 1 ∷ 1 ∷ 1 ∷ 2 ∷ 1 ∷ 5 ∷ 2 ∷ 2 ∷ 2 ∷ 2 ∷ 1 ∷ 1 ∷ 1 ∷ []
unfolding form_of
strangers_counts = refl

pub references :
    (references_of full ∷ references_of strangers ∷ references_of repeated ∷ references_of malformed_later ∷ references_of [] ∷ [])
    ≡ (accept ∷ refuse 12 9 11 ∷ refuse 11 21 11 ∷ refuse 14 0 0 ∷ refuse 14 0 0 ∷ [])
unfolding references_of
references = refl

-- 3, 4, 5, 6, 7, 9 and 10 of the form
pub fourteens :
    (references_of ("000010*A1*" ∷ [])
    ∷ references_of (r_tabbed ∷ [])
    ∷ references_of ("000010*A1*HZTLOBS                                                               \r\n" ∷ [])
    ∷ references_of (r_unknown ∷ [])
    ∷ references_of (r_title ∷ [])
    ∷ references_of (r_badnumber ∷ [])
    ∷ references_of (r_job ∷ r_title ∷ r_backward ∷ [])
    ∷ [])
    ≡ replicate 7 (refuse 14 0 0)
unfolding references_of
fourteens = refl

-- ---- counts and definers
unfoldable pub counted : List String → List ℕ
unfolding judged tabulate tally counts
counted ls = counts (meanings chapter4 (bytes_of ls))

-- AA 10 11 12 25 26 27 70 72 80 86 91 92 93
pub full_counts : counted full ≡ 2 ∷ 1 ∷ 1 ∷ 1 ∷ 2 ∷ 1 ∷ 5 ∷ 2 ∷ 2 ∷ 2 ∷ 2 ∷ 1 ∷ 1 ∷ 1 ∷ []
unfolding counted
full_counts = refl

unfoldable pub definers_of : List String → List ℕ
unfolding judged
definers_of ls =
    let ms = meanings chapter4 (bytes_of ls) in
    definer *80* 1 ms ∷ definer *80* 2 ms ∷ definer *80* 3 ms ∷ definer *70* 10 ms ∷ definer *70* 11 ms ∷ definer *72* 5 ms ∷ definer *72* 6 ms ∷ []

pub full_definers : definers_of full ≡ 17 ∷ 19 ∷ 0 ∷ 13 ∷ 14 ∷ 15 ∷ 16 ∷ []
unfolding definers_of
full_definers = refl

-- ---- 02, T-04: a receiver with two *70* records is defined by the first; numbers that fall, by one or back to an earlier one, are refused
abbrev pub twofold : List String
twofold = r_job ∷ r_title ∷ r_project ∷ r_occupy1 ∷ r_begin1 ∷ r_end1 ∷ r_receiver1 ∷ r_receiver1_again ∷ r_receiver2 ∷ r_aerial1 ∷ r_point1 ∷ r_heights1 ∷ r_last ∷ []

pub twofold_definers : definers_of twofold ≡ 11 ∷ 0 ∷ 0 ∷ 7 ∷ 9 ∷ 10 ∷ 0 ∷ []
unfolding definers_of
twofold_definers = refl

pub twofold_accepted : judged twofold ≡ accept
unfolding judged
twofold_accepted = refl

pub falling :
    (judged (r_job ∷ r_title ∷ r_project ∷ r_occupy1 ∷ r_begin1 ∷ r_end1 ∷ r_receiver2 ∷ r_receiver1 ∷ [])
    ∷ judged (r_job ∷ r_title ∷ r_project ∷ r_occupy1 ∷ r_begin1 ∷ r_end1 ∷ r_receiver1 ∷ r_receiver2 ∷ r_receiver1_again ∷ [])
    ∷ [])
    ≡ (refuse 10 8 11 ∷ refuse 10 9 11 ∷ [])
unfolding judged
falling = refl

-- the pass that fills the table: the word of record 7 is not record 8's
pub first_keeps : (mark 7 2 (0 ∷ 0 ∷ 0 ∷ []) ∷ mark 8 2 (0 ∷ 0 ∷ 7 ∷ []) ∷ []) ≡ ((0 ∷ 0 ∷ 7 ∷ []) ∷ (0 ∷ 0 ∷ 7 ∷ []) ∷ [])
unfolding mark ◌=?◌
first_keeps = refl

-- ---- the same meaning in another dress, and another meaning
-- record 17 with a sequence number, a padded station and 180 E
abbrev pub dressed : List String
dressed = r_job ∷ r_title ∷ r_more ∷ r_project ∷ r_occupy1 ∷ r_comment ∷ r_begin1 ∷ r_end1 ∷ r_occupy2 ∷ r_begin2 ∷ r_begin2 ∷ r_begin2 ∷ r_receiver1 ∷ r_receiver2 ∷ r_aerial1 ∷ r_aerial2 ∷ r_dressed1 ∷ r_heights1 ∷ r_point2 ∷ r_heights2 ∷ r_network ∷ r_local ∷ r_factor ∷ r_last ∷ []

unfoldable pub styled : List String → List ℕ
unfolding judged
styled ls = rewritten chapter4 (bytes_of ls)

pub dressed_accepted : judged dressed ≡ accept
unfolding judged
dressed_accepted = refl

pub same_when_rewritten : styled dressed ≡ styled full
unfolding styled
same_when_rewritten = refl

-- a comment that says something
abbrev pub spoken : List String
spoken = r_job ∷ r_title ∷ r_more ∷ r_project ∷ r_occupy1 ∷ r_local26 ∷ r_begin1 ∷ r_end1 ∷ r_occupy2 ∷ r_begin2 ∷ r_begin2 ∷ r_begin2 ∷ r_receiver1 ∷ r_receiver2 ∷ r_aerial1 ∷ r_aerial2 ∷ r_point1 ∷ r_heights1 ∷ r_point2 ∷ r_heights2 ∷ r_network ∷ r_local ∷ r_factor ∷ r_last ∷ []

pub spoken_accepted : judged spoken ≡ accept
unfolding judged
spoken_accepted = refl

other_byte : (get_or (styled spoken) 415 0 ≡ 87) × (get_or (styled full) 415 0 ≡ 32)
unfolding styled
other_byte = (refl, refl)

pub spoken_is_another : styled spoken ≡ styled full → ⊥
spoken_is_another e = let z : ◌≡◌ {A = ℕ} 87 32 = sym other_byte.0 ∙ ap (λ f. get_or f 415 0) e ∙ other_byte.1 in omega arith

-- ---- read: 13 for record 0, above 99,999 and past the last
unfoldable pub read_from : List String → ℕ → Reading
unfolding judged read_of read_as
read_from ls r = read_of (bytes_of ls) r

pub unreadable : (read_from (r_job ∷ []) 0 ∷ read_from (r_job ∷ []) 2 ∷ read_from (r_job ∷ []) 100_000 ∷ read_from (r_unknown ∷ []) 1 ∷ read_from (r_backward ∷ []) 1 ∷ [])
    ≡ (unread 13 0 0 ∷ unread 13 2 0 ∷ unread 13 100_000 0 ∷ unread 6 1 7 ∷ unread 10 1 17 ∷ [])
unfolding read_from
unreadable = refl

unfoldable pub values_at : ℕ → String → Value
unfolding judged
values_at c l = value_at c (entries chapter4 (ascii l))

-- -0.5 m keeps its sign, and a blank height is missing
pub half_metre : (values_at 17 r_heights2 ∷ values_at 36 r_heights2 ∷ values_at 17 r_heights1 ∷ []) ≡ (missing ∷ num (negsuc 499) ∷ num (negsuc 1_233) ∷ [])
unfolding values_at
half_metre = refl

-- ---- 01's two sheets
pub empty_sheet : (table : List ℕ) → big_table table ≡ true → sheet [] table ≡ bytes_of ("FILE\t0\t8\t1\t1\n" ∷ [])
unfolding sheet listed file_line tabbed numeral stripped file_answer outcome answer judged
empty_sheet table h = rw h

pub one_line_sheet : (table : List ℕ) → big_table table ≡ true
    → sheet (bytes_of ("000010*A1*                                                                      \n" ∷ [])) table ≡ bytes_of ("FILE\t1\t8\t2\t1\n" ∷ [])
unfolding sheet listed file_line tabbed numeral stripped file_answer outcome answer judged
one_line_sheet table h = rw h

-- ---- 2: a hundred thousand records, of which all but the last are good. After a *25* any number of comments may come, and none changes what went before
unfoldable pub opening : List (List ℕ)
unfolding bytes_of
opening = ascii r_job ∷ ascii r_title ∷ ascii r_project ∷ ascii r_occupy1 ∷ []

unfoldable pub remark : List ℕ
unfolding ascii
remark = ascii r_comment

unfoldable in_group : Past
unfolding judged opening
in_group = passed chapter4 at_start (map (meaning chapter4) opening)

opens : (ls : List (List ℕ)) → walk chapter4 at_start 1 (opening ++ ls) ≡ walk chapter4 in_group 5 ls
unfolding judged opening in_group
opens ls = refl

remark_good : (judge_line chapter4 in_group remark ≡ ok) × (after order in_group (meaning chapter4 remark) ≡ in_group)
unfolding judged opening in_group remark
remark_good = (refl, refl)

opening_lines : all is_line opening ≡ true
unfolding judged opening is_line
opening_lines = refl

remark_line : is_line remark ≡ true
unfolding judged remark is_line
remark_line = refl

one_remark : (r : ℕ) (ls : List (List ℕ)) → r ≤ 99_999 → walk chapter4 in_group r (remark ∷ ls) ≡ walk chapter4 in_group (r + 1) ls
unfolding walk check in_record ◌⨾◌
one_remark r ls h = rw (of≤ h, remark_good.0, remark_good.1)

too_long_lem : walk chapter4 in_group 100_000 (remark ∷ []) ≡ refuse 2 100_000 1
unfolding walk check in_record ◌⨾◌ ◌≤?◌
too_long_lem = refl

remarks : (n r : ℕ) → r + n ≡ 100_000 → walk chapter4 in_group r (replicate (suc n) remark) ≡ refuse 2 100_000 1
remarks zero r e = let z : r ≡ 100_000 = omega arith in rw z too_long_lem
remarks (suc n) r e = one_remark r (replicate (suc n) remark) (omega arith) ∙ remarks n (r + 1) (omega arith)

pub too_many : (n : ℕ) → n ≡ 99_995 → verdict chapter4 (join (opening ++ replicate (suc n) remark)) ≡ refuse 2 100_000 1
unfolding verdict
too_many n e =
    let whole : lines (join (opening ++ replicate (suc n) remark)) ≡ opening ++ replicate (suc n) remark
    = lines_join (opening ++ replicate (suc n) remark) (all_append is_line opening (replicate (suc n) remark) opening_lines (all_replicate is_line remark remark_line (suc n))) in
    let walked : walk chapter4 at_start 1 (lines (join (opening ++ replicate (suc n) remark))) ≡ refuse 2 100_000 1
    = ap (walk chapter4 at_start 1) whole ∙ opens (replicate (suc n) remark) ∙ remarks n 5 (omega arith) in
    rw walked (unfold and_then in refl)
