use Rattle.tests_layers.proofs.tests.tables.find_both.Given as goal

abbrev pub ghosts-look_for : goal.ghosts-look_for
ghosts-look_for a = record { name = a.blank.name; parts = a.blank.parts }
