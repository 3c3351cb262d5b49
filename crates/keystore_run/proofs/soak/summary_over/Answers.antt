use Rattle.std.proofs.Common.{refl, ap, ◌∙◌}
use Rattle.ks_outside.specs.Seeded.{bytes_from}
use Rattle.rand_chacha.specs.ChaCha.{of_seed}
use Rattle.keystore_run.proofs.Soaking.{few_lines, load_summary}
use Rattle.keystore_run.proofs.soak.summary_over.Goals as goal

pub serve_load-served-requires-clause-few : goal.serve_load-served-requires-clause-few
serve_load-served-requires-clause-few g c = few_lines _ _ _ c.new-script.ensures c.requires.few

pub returns : goal.returns
returns g c =
    let session = c.in_ok-session.ensures.session in
    record {
      summary = load_summary c.args.seed c.args.lines session.setup _ _ _ c.in_ok-summary.summary _ _ _ session.is ((rw c.in_ok-summary.was at c.serve_load-served.ensures.loaded) session.setup session.stands) c.new-script.ensures
          refl refl (c.new-entropy.ensures.coming ∙ ap (λ seed. bytes_from (of_seed seed)) c.seed_of.ensures) c.in_ok-text.ensures;
    }
