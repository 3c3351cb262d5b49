use Rattle.std.proofs.Common.{◌∙◌, sym, ap}
use Rattle.std.specs.Prelude.{nat_lt}
use Rattle.std.specs.Option.{option_copied}
use Rattle.lasting_table.proofs.Ends.{any_of_number, test_of}
use Rattle.lasting_table.proofs.part.Part.has_uses.Goals as goal

pub returns-in-Some : goal.returns-in-Some
returns-in-Some c = sym (any_of_number (λ key. nat_lt 0 key.left) c.args.id c.args.self.now.keys.rows c.numbered.ensures.orderly _ (sym c.numbered.ensures.key) ∙ ap (λ found. test_of (λ key. nat_lt 0 key.left) (option_copied found)) c.in-Some.is)

pub returns-in-None : goal.returns-in-None
returns-in-None c = sym (any_of_number (λ key. nat_lt 0 key.left) c.args.id c.args.self.now.keys.rows c.numbered.ensures.orderly _ (sym c.numbered.ensures.key) ∙ ap (λ found. test_of (λ key. nat_lt 0 key.left) (option_copied found)) c.in-None.is)
