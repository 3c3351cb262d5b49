use Rattle.std.proofs.Common.{◌∙◌, sym, ap, arith}
use Rattle.std.specs.Prelude.{find}
use Rattle.std.specs.Option.{option_copied}
use Rattle.std.specs.BTreeMap.{values}
use Rattle.key_maps.specs.Names.{is_at_name}
use Rattle.key_maps.proofs.Entries.{lookup_is}
use Rattle.key_maps.proofs.Firsts.{key_of_name, no_key_of_name}
use Rattle.key_maps.proofs.Whole.{named_is, none_so_long}
use Rattle.key_maps.proofs.maps.KeyMaps.named.Goals as goal

pub returns-then-alias-gt-ALIAS_BYTES : goal.returns-then-alias-gt-ALIAS_BYTES
returns-then-alias-gt-ALIAS_BYTES c =
    rw (← c.self.view_is) (sym (none_so_long c.args.domain c.args.nspace c.args.alias.now (values c.self.inside.by_id) c.self.invariant.orderly c.if-alias-gt-ALIAS_BYTES.true))

pub returns-in_err-id : goal.returns-in_err-id
returns-in_err-id c =
    rw (c.from_residual.ensures, ← c.self.view_is)
    (sym (sym (named_is c.args.domain c.args.nspace c.args.alias.now (values c.self.inside.by_id) c.self.invariant.orderly (omega (arith, c.if-alias-gt-ALIAS_BYTES.false)))
    ∙ ap (λ name. find (is_at_name name) (values c.self.inside.by_id)) (sym c.name_of-name.ensures)
    ∙ no_key_of_name (find (is_at_name c.name_of-name.result) (values c.self.inside.by_id)) (sym (c.self.invariant.named c.name_of-name.result) ∙ sym c.get.ensures.value ∙ ap option_copied c.in_err-id.was)))

pub returns : goal.returns
returns c =
    rw (← c.self.view_is) (c.get-2.ensures.value ∙ lookup_is c.in_ok-id.id.now _ c.self.invariant.numbered
    ∙ key_of_name c.self.inside c.name_of-name.result c.in_ok-id.id.now c.self.invariant (sym c.get.ensures.value ∙ ap option_copied c.in_ok-id.was)
    ∙ ap (λ name. find (is_at_name name) (values c.self.inside.by_id)) c.name_of-name.ensures ∙ named_is c.args.domain c.args.nspace c.args.alias.now (values c.self.inside.by_id) c.self.invariant.orderly (omega (arith, c.if-alias-gt-ALIAS_BYTES.false)))
