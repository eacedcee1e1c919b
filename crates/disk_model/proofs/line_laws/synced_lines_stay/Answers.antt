use Rattle.disk_model.proofs.Stays.{later_of_later, synced_lines_live, synced_lines_stay}
use Rattle.disk_model.proofs.line_laws.synced_lines_stay.Goals as goal

pub returns-clause-stay : goal.returns-clause-stay
returns-clause-stay c = synced_lines_stay

pub returns-clause-later : goal.returns-clause-later
returns-clause-later c = later_of_later

pub returns-clause-live : goal.returns-clause-live
returns-clause-live c = synced_lines_live
