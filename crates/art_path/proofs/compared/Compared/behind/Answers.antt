use Rattle.std.proofs.Common.{refl}
use Rattle.art_path.proofs.compared.Compared.behind.Goals as goal

pub returns-in-Below : goal.returns-in-Below
returns-in-Below c = rw c.in-Below.is refl
