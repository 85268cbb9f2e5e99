use Rattle.disk.proofs.Sectors.{places}
use Rattle.disk.proofs.sector_in.Goals as goal

pub slice_bounds-result-end : goal.slice_bounds-result-end
slice_bounds-result-end c = search places

pub returns : goal.returns
returns c = search places
