use Rattle.files.proofs.Datas.{datas}
use Rattle.files.proofs.get_data.Goals as goal

pub returns-then-out-size : goal.returns-then-out-size
returns-then-out-size c = search datas

pub copy_lists-requires : goal.copy_lists-requires
copy_lists-requires c = search datas

pub returns : goal.returns
returns c = search datas
