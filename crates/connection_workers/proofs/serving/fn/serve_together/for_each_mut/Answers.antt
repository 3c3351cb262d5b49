use Rattle.connection_workers.proofs.serving.fn.serve_together.for_each_mut.Goals as goal

pub returns : goal.returns
returns g c = c.work.ensures.turned c.args.place c.requires.0
