use Rattle.page_store.proofs.locate.locate.Given as goal

abbrev pub ghosts-locate_counted : goal.ghosts-locate_counted
ghosts-locate_counted g a = record { name = a.blank.name; parts = a.blank.parts }
