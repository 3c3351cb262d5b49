use Rattle.keystore_core.proofs.victims.pruned_for.Given as goal

-- the ledger that the blank opens
abbrev pub ghosts-counted : goal.ghosts-counted
ghosts-counted a = record { name = a.blank.name; parts = a.blank.parts }
