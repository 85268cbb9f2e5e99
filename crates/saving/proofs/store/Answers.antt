use Rattle.saving.proofs.Calls.{stores}
use Rattle.saving.proofs.store.Goals as goal

pub returns-then-not-take_sectors : goal.returns-then-not-take_sectors
returns-then-not-take_sectors c = search stores

pub returns : goal.returns
returns c = search stores
