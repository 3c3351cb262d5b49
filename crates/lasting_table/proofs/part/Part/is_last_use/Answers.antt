use Rattle.std.proofs.Common.{◌∙◌, sym, ap, ◌==◌}
use Rattle.std.specs.Option.{option_copied}
use Rattle.lasting_table.proofs.Ends.{any_of_number, test_of}
use Rattle.lasting_table.proofs.part.Part.is_last_use.Goals as goal

pub returns-in-Some-clause-last : goal.returns-in-Some-clause-last
returns-in-Some-clause-last c = sym (any_of_number (λ key. key.left == 1) c.args.id c.args.self.now.keys.rows c.numbered.ensures.orderly _ (sym c.numbered.ensures.key) ∙ ap (λ found. test_of (λ key. key.left == 1) (option_copied found)) c.in-Some.is)

pub returns-in-None-clause-last : goal.returns-in-None-clause-last
returns-in-None-clause-last c = sym (any_of_number (λ key. key.left == 1) c.args.id c.args.self.now.keys.rows c.numbered.ensures.orderly _ (sym c.numbered.ensures.key) ∙ ap (λ found. test_of (λ key. key.left == 1) (option_copied found)) c.in-None.is)
