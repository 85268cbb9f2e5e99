use Rattle.fields.proofs.Scan.{addressed}
use Rattle.fields.proofs.find_and_parse_address_field.Goals as goal

pub returns-in_default : goal.returns-in_default
returns-in_default c = search addressed

pub overflow_sub-s : goal.overflow_sub-s
overflow_sub-s c = search addressed

pub returns-then-s-j-lt11 : goal.returns-then-s-j-lt11
returns-then-s-j-lt11 c = search addressed

pub returns-then-sum-volume : goal.returns-then-sum-volume
returns-then-sum-volume c = search addressed

pub returns : goal.returns
returns c = search addressed
