-- `capi::battenplum_read` meets its contract: with seven places the text is read and its counts are put there, and else nothing is done.
use mathlib.Core.Path.{◌≡◌}
use lib.ListN.{length}
use Rattle.capi.proofs.PackLaws.{read_within, read_position, read_answers, read_unanswered}
use Rattle.capi.proofs.battenplum_read.Goals as goal

pub returns-then-answer-ne7 : goal.returns-then-answer-ne7
returns-then-answer-ne7 c = read_unanswered c.if-answer-ne7.true

pub read-book-requires : goal.read-book-requires
read-book-requires c = tt

pub put_counts-requires : goal.put_counts-requires
put_counts-requires c =
    let seven : length c.args.answer.now ≡ 7 =
    c.if-answer-ne7.false in
    record { answer_len = seven; within_book = read_within c.read-book.ensures }

pub pack-requires : goal.pack-requires
pack-requires c = read_position c.read-book.ensures

pub shape_of-rules : goal.shape_of-rules
shape_of-rules c = c.read-book.auto.rules

pub shape_of-literals : goal.shape_of-literals
shape_of-literals c = c.read-book.auto.literals

pub shape_of-clauses : goal.shape_of-clauses
shape_of-clauses c = c.read-book.auto.clauses

pub shape_of-loads : goal.shape_of-loads
shape_of-loads c = c.read-book.auto.loads

pub shape_of-load_literals : goal.shape_of-load_literals
shape_of-load_literals c = c.read-book.auto.load_literals

pub shape_of-minutes : goal.shape_of-minutes
shape_of-minutes c = c.read-book.auto.minutes

pub shape_of-marks : goal.shape_of-marks
shape_of-marks c = c.read-book.auto.marks

pub shape_of-values : goal.shape_of-values
shape_of-values c = c.read-book.auto.values

pub shape_of-levels : goal.shape_of-levels
shape_of-levels c = c.read-book.auto.levels

pub shape_of-answer : goal.shape_of-answer
shape_of-answer c = c.put_counts.auto.answer

pub returns : goal.returns
returns c =
    let seven : length c.args.answer.now ≡ 7 =
    c.if-answer-ne7.false in
    read_answers (seven) c.read-book.ensures c.pack.ensures c.put_counts.ensures
