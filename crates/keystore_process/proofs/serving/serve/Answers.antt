use Rattle.std.proofs.Common.{sym, refl, ◌∙◌}
use Rattle.keystore_process.specs.Processes.{NoPort, Served}
use Rattle.keystore_process.proofs.serving.serve.Goals as goal

pub returns-then-not-is_open : goal.returns-then-not-is_open
returns-then-not-is_open g c = NoPort c.in-Some.form c.port-port.result (sym c.in-Some.ensures.form) c.port-port.ensures (sym c.is_open.ensures ∙ c.if-not-is_open.true) refl

pub returns : goal.returns
returns g c = Served c.in-Some.form c.serve_words-end.result (sym c.in-Some.ensures.form) (record {
  port = c.port-port.result;
  disk = c.store.result;
  entropy = c.random.result;
  is_port = c.port-port.ensures;
  is_store = c.store.ensures;
  is_random = c.random.ensures;
  clock = c.clock-clock.result;
  is_clock = c.clock-clock.ensures;
  serves = c.serve_words-end.ensures.serves c.in-Some.form (sym c.in-Some.ensures.form);
}) c.outcome.ensures
