-- What is seen of a view on the slots.
use Rattle.disk_model.specs.declared.disk.Disk as declared
use Rattle.gate_journal.specs.declared.view.View.{View}
use Rattle.store_model.specs.Parameters.{Parameters}

-- the disk below
abbrev pub disk_of : {D : Type 0} {ghosts : declared.Ghosts D} → View D ghosts → D
disk_of view = view.disk

-- the parameters that the disk is read by
abbrev pub params_of : {D : Type 0} {ghosts : declared.Ghosts D} → View D ghosts → Parameters
params_of view = view.params
