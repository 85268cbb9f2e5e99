use Rattle.fields.proofs.Scan.{fielded}
use Rattle.fields.proofs.find_and_parse_data_field.Goals as goal

pub returns-in_err-j : goal.returns-in_err-j
returns-in_err-j c = search fielded

pub overflow_sub-s : goal.overflow_sub-s
overflow_sub-s c = search fielded

pub returns-then-s-j : goal.returns-then-s-j
returns-then-s-j c = search fielded

pub returns : goal.returns
returns c = search fielded
