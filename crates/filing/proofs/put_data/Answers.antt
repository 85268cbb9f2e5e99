use Rattle.filing.proofs.Writing.{data_puts}
use Rattle.filing.proofs.put_data.Goals as goal

pub returns-then-k-data : goal.returns-then-k-data
returns-then-k-data c = search data_puts
