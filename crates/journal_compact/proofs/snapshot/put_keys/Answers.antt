-- One key more is told, until there is none.
use Rattle.std.proofs.Common.{ℕ, ◌+◌, ◌∷◌, Option, refl, sym, ap, ◌∙◌, subst, arith}
use Rattle.std.specs.Option.{option_map}
use Rattle.journal_records.specs.declared.record.KeyRecord.{KeyRecord}
use Rattle.journal_records.specs.Storable.{held_key, key_row_length, key_rows_length}
use Rattle.journal_records.specs.Spelling.{numbers_of}
use Rattle.journal_compact.specs.Gathering.{IsGathering, end_of}
use Rattle.journal_compact.proofs.Telling.{IsTelling, id_of, key_is, keys_more, keys_rise, keys_some, next_key, row_within, some_found, telling_ends, telling_gathers, telling_none, telling_on}
use Rattle.journal_compact.proofs.Walk.{next_is, none_left}
use Rattle.journal_compact.proofs.snapshot.put_keys.Goals as goal

pub keys-init : goal.keys-init
keys-init g c =
    let part = g.K.Held.part c.args.keys.now in
    telling_none g.D.Disk id_of held_key key_rows_length key_row_length refl keys_more c.args.disk.now part.keys c.args.rows c.args.bytes.now (keys_some part.next_key part.keys c.requires.storable.keys) c.requires.count

pub alias-alias-requires : goal.alias-alias-requires
alias-alias-requires g c =
    let next = next_key (g.K.Held.part c.args.keys.now) c.keys.past c.keys.invariant.before c.keys.invariant.left c.in-Some.key c.requires.storable c.keys.invariant.walk (sym c.key_after.ensures ∙ c.in-Some.is) in
    record { live = some_found _ next.key next.found }

pub blob-blob-requires : goal.blob-blob-requires
blob-blob-requires g c =
    let next = next_key (g.K.Held.part c.args.keys.now) c.keys.past c.keys.invariant.before c.keys.invariant.left c.in-Some.key c.requires.storable c.keys.invariant.walk (sym c.key_after.ensures ∙ c.in-Some.is) in
    record { live = some_found _ next.key next.found }

pub list-list-requires : goal.list-list-requires
list-list-requires g c =
    let next = next_key (g.K.Held.part c.args.keys.now) c.keys.past c.keys.invariant.before c.keys.invariant.left c.in-Some.key c.requires.storable c.keys.invariant.walk (sym c.key_after.ensures ∙ c.in-Some.is) in
    record { live = some_found _ next.key next.found }

pub put_key-requires-clause-short : goal.put_key-requires-clause-short
put_key-requires-clause-short g c =
    let part = g.K.Held.part c.args.keys.now in
    let next = next_key part c.keys.past c.keys.invariant.before c.keys.invariant.left c.in-Some.key c.requires.storable c.keys.invariant.walk (sym c.key_after.ensures ∙ c.in-Some.is) in
    let same = key_is part c.in-Some.key next.key c.alias-alias.result.now c.blob-blob.result.now c.list-list.result.now next.numbers_are next.found c.alias-alias.ensures c.blob-blob.ensures c.list-list.ensures in
    omega (arith, ap key_row_length same, next.fits, c.keys.invariant.size, c.requires.size)

pub put_key-requires-clause-end : goal.put_key-requires-clause-end
put_key-requires-clause-end g c =
    let part = g.K.Held.part c.args.keys.now in
    let next = next_key part c.keys.past c.keys.invariant.before c.keys.invariant.left c.in-Some.key c.requires.storable c.keys.invariant.walk (sym c.key_after.ensures ∙ c.in-Some.is) in
    let within = row_within g.D.Disk id_of held_key key_rows_length key_row_length refl keys_more c.args.disk.now part.keys c.args.rows c.args.bytes.now c.keys.disk c.keys.disk c.keys.past c.keys.rows c.keys.rows c.keys.bytes c.keys.bytes
    c.keys.invariant next.key next.rest next.first in
    omega (arith, within, c.requires.end)

pub returns-in_default-put_key-clause-gathers : goal.returns-in_default-put_key-clause-gathers
returns-in_default-put_key-clause-gathers g c = λ old at most told is fits.
    let part = g.K.Held.part c.args.keys.now in
    let next = next_key part c.keys.past c.keys.invariant.before c.keys.invariant.left c.in-Some.key c.requires.storable c.keys.invariant.walk (sym c.key_after.ensures ∙ c.in-Some.is) in
    let same = key_is part c.in-Some.key next.key c.alias-alias.result.now c.blob-blob.result.now c.list-list.result.now next.numbers_are next.found c.alias-alias.ensures c.blob-blob.ensures c.list-list.ensures in
    let within = row_within g.D.Disk id_of held_key key_rows_length key_row_length refl keys_more c.args.disk.now part.keys c.args.rows c.args.bytes.now c.keys.disk c.keys.disk c.keys.past c.keys.rows c.keys.rows c.keys.bytes c.keys.bytes
    c.keys.invariant next.key next.rest next.first in
    c.in_default-put_key.ensures.gathers old at most _ (c.keys.invariant.gathers old at most told is fits) (omega (arith, fits, within, ap key_row_length same))

pub keys-smaller : goal.keys-smaller
keys-smaller g c =
    let part = g.K.Held.part c.args.keys.now in
    let next = next_key part c.keys.past c.keys.invariant.before c.keys.invariant.left c.in-Some.key c.requires.storable c.keys.invariant.walk (sym c.key_after.ensures ∙ c.in-Some.is) in
    omega (arith, next.behind, next.below)

pub keys-preserved : goal.keys-preserved
keys-preserved g c =
    let part = g.K.Held.part c.args.keys.now in
    let next = next_key part c.keys.past c.keys.invariant.before c.keys.invariant.left c.in-Some.key c.requires.storable c.keys.invariant.walk (sym c.key_after.ensures ∙ c.in-Some.is) in
    let same = key_is part c.in-Some.key next.key c.alias-alias.result.now c.blob-blob.result.now c.list-list.result.now next.numbers_are next.found c.alias-alias.ensures c.blob-blob.ensures c.list-list.ensures in
    subst (λ (n : ℕ). IsTelling g.D.Disk id_of held_key key_rows_length c.args.disk.now c.put_key.new.disk part.keys n c.args.rows c.in-Ok.more c.args.bytes.now c.put_key.new.bytes) next.number
    (telling_on g.D.Disk id_of held_key key_rows_length key_row_length refl keys_more c.args.disk.now part.keys c.args.rows c.args.bytes.now c.keys.disk c.put_key.new.disk c.keys.past c.keys.rows c.in-Ok.more c.keys.bytes c.put_key.new.bytes
    c.keys.invariant next.key next.rest next.first (keys_rise part.keys c.requires.storable.keys_differ) c.put_key.ensures.size c.in-Ok.ensures.count
    (c.in-Ok.ensures.end ∙ ap (λ (n : ℕ). end_of c.keys.rows + n) (ap key_row_length same))
    (λ start at most told was fits. subst (λ (key : KeyRecord). IsGathering g.D.Disk start c.put_key.new.disk at most c.in-Ok.more c.put_key.new.bytes (held_key key ∷ told)) same
    (c.in-Ok.ensures.gathers start at most told was (omega (arith, fits, ap key_row_length same)))) c.in-Ok.ensures.goes)

pub returns-clause-end : goal.returns-clause-end
returns-clause-end g c =
    let part = g.K.Held.part c.args.keys.now in
    let last = none_left numbers_of c.keys.invariant.left (sym (ap (λ (o : Option KeyRecord). option_map numbers_of o) (next_is id_of part.keys c.keys.past c.keys.invariant.before c.keys.invariant.left c.keys.invariant.walk)) ∙ sym c.key_after.ensures ∙ c.in_default.is) in
    telling_ends g.D.Disk id_of held_key key_rows_length key_row_length refl keys_more c.args.disk.now part.keys c.args.rows c.args.bytes.now c.keys.disk c.keys.disk c.keys.past c.keys.rows c.keys.rows c.keys.bytes c.keys.bytes c.keys.invariant last

pub returns-clause-gathers : goal.returns-clause-gathers
returns-clause-gathers g c =
    let part = g.K.Held.part c.args.keys.now in
    let last = none_left numbers_of c.keys.invariant.left (sym (ap (λ (o : Option KeyRecord). option_map numbers_of o) (next_is id_of part.keys c.keys.past c.keys.invariant.before c.keys.invariant.left c.keys.invariant.walk)) ∙ sym c.key_after.ensures ∙ c.in_default.is) in
    telling_gathers g.D.Disk id_of held_key key_rows_length key_row_length refl keys_more c.args.disk.now part.keys c.args.rows c.args.bytes.now c.keys.disk c.keys.disk c.keys.past c.keys.rows c.keys.rows c.keys.bytes c.keys.bytes c.keys.invariant last
