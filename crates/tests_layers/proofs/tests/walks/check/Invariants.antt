use Rattle.tests_layers.proofs.tests.walks.check.Given as goal

abbrev pub ghosts-check_by : goal.ghosts-check_by
ghosts-check_by a = record { name = a.blank.name; parts = a.blank.parts }
