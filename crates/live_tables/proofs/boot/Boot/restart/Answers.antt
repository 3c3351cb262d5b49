use Rattle.live_tables.proofs.boot.Boot.restart.Goals as goal

pub returns : goal.returns
returns c = record { device = c.restart.ensures; tokens = c.clear.ensures; begins = c.clear-2.ensures }
