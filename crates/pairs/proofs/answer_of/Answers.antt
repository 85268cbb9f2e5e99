use Rattle.pairs.proofs.Answers.{answers}
use Rattle.pairs.proofs.answer_of.Goals as goal

pub returns : goal.returns
returns c = search answers

pub returns-then-disk-per : goal.returns-then-disk-per
returns-then-disk-per c = search answers

pub returns-then-not-on_disk : goal.returns-then-not-on_disk
returns-then-not-on_disk c = search answers

pub returns-then-room-count : goal.returns-then-room-count
returns-then-room-count c = search answers
