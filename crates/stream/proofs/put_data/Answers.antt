use Rattle.stream.proofs.Keyed.{datas}
use Rattle.stream.proofs.put_data.Goals as goal

pub returns-in-Sixteen : goal.returns-in-Sixteen
returns-in-Sixteen c = search datas

pub returns-in-Thirteen : goal.returns-in-Thirteen
returns-in-Thirteen c = search datas
