use Rattle.std.proofs.Common.{ℕ, sym, ap, ◌∙◌}
use Rattle.byte_strings.specs.Numbers.{number_in, threads_in}
use Rattle.service_load.proofs.load.Load.read.Goals as goal

pub returns-clause-some : goal.returns-clause-some
returns-clause-some c = record {
  kind_is = sym c.named.ensures ∙ c.in_ok-kind.was;
  rounds_are = sym (c.in_ok-rounds.ensures.number ∙ (ap (λ (n : ℕ). number_in 0 n c.as_bytes.result.now) c.from.ensures ∙ ap (number_in 0 4294967295) c.as_bytes.ensures.value));
  threads_are = sym (c.in_ok-threads.ensures.number ∙ ap threads_in c.as_bytes-2.ensures.value);
}
