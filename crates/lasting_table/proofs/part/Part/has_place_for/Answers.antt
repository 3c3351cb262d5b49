use Rattle.std.proofs.Common.{◌≡◌, false, ◌∙◌, sym, ap, arith}
use Rattle.std.specs.Prelude.{is_some, nat_lt}
use Rattle.std.proofs.lemmas.Bool.{le-ltb}
use Rattle.lasting_table.specs.Parts.{part_of}
use Rattle.key_maps.proofs.Tests.{copied_some}
use Rattle.lasting_table.proofs.Ends.{place_few, place_new, place_rebound}
use Rattle.lasting_table.proofs.part.Part.has_place_for.Goals as goal
use Rattle.tags.specs.declared.limits.TheConstants.{MOST_KEYS}

pub returns-then-count-lt-MOST_KEYS : goal.returns-then-count-lt-MOST_KEYS
returns-then-count-lt-MOST_KEYS c =
    place_few c.args.domain c.args.nspace c.len-count.result c.args.alias.now (part_of c.args.self.now) c.len-count.ensures.orderly c.len-count.ensures.count (omega (arith, c.if-count-lt-MOST_KEYS.true))

pub returns-then-rebound : goal.returns-then-rebound
returns-then-rebound c =
    place_rebound c.args.domain c.args.nspace c.len-count.result c.args.alias.now (part_of c.args.self.now) c.len-count.ensures.orderly c.len-count.ensures.count
    (ap is_some (sym c.named.ensures.key) ∙ copied_some c.named.result ∙ sym c.is_some-rebound.ensures ∙ c.if-rebound.true)

pub returns-else-rebound : goal.returns-else-rebound
returns-else-rebound c =
    let full : nat_lt c.len-count.result MOST_KEYS ≡ false = le-ltb c.len-count.result MOST_KEYS (omega (arith, c.if-count-lt-MOST_KEYS.false)) in
    c.if-rebound.false ∙ sym full
    ∙ place_new c.args.domain c.args.nspace c.len-count.result c.args.alias.now (part_of c.args.self.now) c.len-count.ensures.orderly c.len-count.ensures.count
    (ap is_some (sym c.named.ensures.key) ∙ copied_some c.named.result ∙ sym c.is_some-rebound.ensures ∙ c.if-rebound.false)
