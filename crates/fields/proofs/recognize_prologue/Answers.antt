use Rattle.fields.proofs.Prologue.{recognizing}
use Rattle.fields.proofs.recognize_prologue.Goals as goal

pub loop-k-init : goal.loop-k-init
loop-k-init c = search recognizing

pub returns-then-c-ne0 : goal.returns-then-c-ne0
returns-then-c-ne0 c = search recognizing

pub loop-k-preserved : goal.loop-k-preserved
loop-k-preserved c = search recognizing

pub returns : goal.returns
returns c = search recognizing
