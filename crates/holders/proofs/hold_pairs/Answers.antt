use borrow.Author.Rules.{rules}
use Rattle.holders.proofs.Tallies.{paired_more, pairs}
use Rattle.holders.proofs.hold_pairs.Goals as goal

pub loop-i-init : goal.loop-i-init
loop-i-init c = search pairs

pub returns-then-q-eq0 : goal.returns-then-q-eq0
returns-then-q-eq0 c = search pairs

pub returns : goal.returns
returns c = search pairs

pub loop-i-preserved : goal.loop-i-preserved
loop-i-preserved c = search (paired_more, rules)
