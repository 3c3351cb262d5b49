use Rattle.keystore_process.proofs.running.run.Goals as goal

pub returns : goal.returns
returns g c = record {
  source = c.input-source.result;
  later = c.run_words-status.new.source;
  sink = c.output-output.result;
  disk = c.store-store.result;
  entropy = c.random-random.result;
  drawn = c.run_words-status.new.entropy;
  is_input = c.input-source.ensures;
  is_output = c.output-output.ensures;
  is_store = rw c.is_alone.ensures at c.store-store.ensures;
  is_random = c.random-random.ensures;
  usage = c.run_words-status.ensures.usage;
  does = c.run_words-status.ensures.does;
}
