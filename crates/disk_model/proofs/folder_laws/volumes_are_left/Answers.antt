use Rattle.disk_model.proofs.Found.{volumes_are_left}
use Rattle.disk_model.proofs.folder_laws.volumes_are_left.Goals as goal

pub returns : goal.returns
returns c = volumes_are_left
