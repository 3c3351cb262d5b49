use Rattle.library_tests.proofs.slot_lists.agree.Given as goal

-- the ledger that the blank opens
abbrev pub ghosts-pruned : goal.ghosts-pruned
ghosts-pruned a = record { name = a.blank.name; parts = a.blank.parts }
