use Rattle.nibblize.proofs.Writing.{blocks}
use Rattle.nibblize.proofs.put_block.Goals as goal

pub slice_bounds-put_sector-end : goal.slice_bounds-put_sector-end
slice_bounds-put_sector-end c = search blocks

pub returns : goal.returns
returns c = search blocks
