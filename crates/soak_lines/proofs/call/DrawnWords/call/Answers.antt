use Rattle.soak_lines.proofs.call.DrawnWords.call.Goals as goal

pub returns-in-4 : goal.returns-in-4
returns-in-4 c = record { call = rw (c.in-4.is, c.from.ensures, c.from-client.ensures) }

pub returns-in-5 : goal.returns-in-5
returns-in-5 c = record { call = rw (c.in-5.is, c.from.ensures, c.from-client.ensures) }

pub returns-in-6 : goal.returns-in-6
returns-in-6 c = record { call = rw (c.in-6.is, c.from.ensures, c.from-client.ensures) }

pub returns-in-7 : goal.returns-in-7
returns-in-7 c = record { call = rw (c.in-7.is, c.from.ensures, c.from-client.ensures) }

pub returns-in-8 : goal.returns-in-8
returns-in-8 c = record { call = rw (c.in-8.is, c.from.ensures, c.from-client.ensures) }
