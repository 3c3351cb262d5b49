use Rattle.library_tests.proofs.slot_desk.oldest_of.Given as goal

-- the ledger that the blank opens
abbrev pub ghosts-oldest : goal.ghosts-oldest
ghosts-oldest a = record { name = a.blank.name; parts = a.blank.parts }
