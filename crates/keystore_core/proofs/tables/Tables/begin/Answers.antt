use Rattle.std.proofs.Common.{◌≡◌, ◌+◌, ◌<◌, length, is_some, refl, ap, ◌∙◌, arith}
use mathlib.Core.Logic.{∥∥₁_elim}
use denote.Struct.Props.{≡_prop}
use Rattle.std.specs.Coded.{coded_bool}
use Rattle.rule_model.specs.Access.{owner_of}
use Rattle.rule_model.specs.Slots.{pruned_for}
use Rattle.keystore_core.proofs.Begun.{Size, begins, idle_pruned, is_free, pruned_is, refused, room_is, row_room, unkept, way_keys, way_row, without_entropy}
use Rattle.keystore_core.proofs.KeyTable.{same_keys_twice}
use Rattle.keystore_core.proofs.Standing.{at_few, at_later, few_counted, few_operations, same_but_begun}
use Rattle.keystore_core.proofs.tables.Tables.begin.Goals as goal

pub pruned_for-pruned-requires : goal.pruned_for-pruned-requires
pruned_for-pruned-requires g c = at_later c.args.self.now c.args.step _ _ c.requires.at

pub returns-in-Err-Broken-clause-serves : goal.returns-in-Err-Broken-clause-serves
returns-in-Err-Broken-clause-serves g c = λ setup past at.
    let stands = at.tables_stand in
    let pruned : c.pruned_for-pruned.result ≡ pruned_for setup past (owner_of c.args.caller) c.args.forced =
    rw c.owner_of-uid.ensures at c.pruned_for-pruned.ensures.pruned ∙ pruned_is setup past c.args.self.now (owner_of c.args.caller) c.args.step c.args.forced stands at.step_is in
    let room = c.has_slot-room.ensures ∙ room_is setup past c.args.self.now (owner_of c.args.caller) c.args.forced c.pruned_for-pruned.result stands pruned in
    rw (c.refused.ensures.reply, c.refused.ensures.job, c.refused.ensures.drawn, c.in-Err-Broken.rule-is, c.in-Err-Broken.code-is)
    (refused setup past c.args.self.now c.args.caller c.args.key c.args.params c.args.forced stands c.requires.caller _ _ ((rw c.in-Err-Broken.field-0-is at c.in-Err-Broken.ensures.gives) setup past stands room))

pub next-op-requires : goal.next-op-requires
next-op-requires g c = few_operations c.args.self.now (at_few c.args.self.now c.args.step _ _ c.requires.few c.requires.at)

pub returns-in-Err-clause-serves : goal.returns-in-Err-clause-serves
returns-in-Err-clause-serves g c = λ setup past at.
    let stands = at.tables_stand in
    let pruned : c.pruned_for-pruned.result ≡ pruned_for setup past (owner_of c.args.caller) c.args.forced =
    rw c.owner_of-uid.ensures at c.pruned_for-pruned.ensures.pruned ∙ pruned_is setup past c.args.self.now (owner_of c.args.caller) c.args.step c.args.forced stands at.step_is in
    let room = c.has_slot-room.ensures ∙ room_is setup past c.args.self.now (owner_of c.args.caller) c.args.forced c.pruned_for-pruned.result stands pruned in
    let admitted = c.in-Ok.ensures.gives setup past stands room in
    let few : length c.in-Err.drawn < Size setup past c.args.self.now c.args.caller c.args.key c.args.params c.args.forced stands c.requires.caller c.in-Ok.admitted.begin = omega (arith, c.in-Err.ensures.part, c.in_ok-ready.ensures.draws, admitted.challenge_is) in
    rw (c.without_entropy.ensures.reply, c.without_entropy.ensures.job, c.without_entropy.ensures.drawn)
    (without_entropy setup past c.args.self.now c.args.caller c.args.key c.args.params c.args.forced stands c.requires.caller _ c.in-Ok.admitted.begin c.in-Err.drawn admitted.may
    (same_but_begun c.args.self.now c.make_ready.new.begins c.in_ok-ready.ensures.begins) few)

pub returns-in_default-clause-serves : goal.returns-in_default-clause-serves
returns-in_default-clause-serves g c = λ setup past at.
    let stands = at.tables_stand in
    let pruned : c.pruned_for-pruned.result ≡ pruned_for setup past (owner_of c.args.caller) c.args.forced =
    rw c.owner_of-uid.ensures at c.pruned_for-pruned.ensures.pruned ∙ pruned_is setup past c.args.self.now (owner_of c.args.caller) c.args.step c.args.forced stands at.step_is in
    let room = c.has_slot-room.ensures ∙ room_is setup past c.args.self.now (owner_of c.args.caller) c.args.forced c.pruned_for-pruned.result stands pruned in
    let admitted = c.in-Ok.ensures.gives setup past stands room in
    let long : length c.in-Ok-draw.drawn ≡ Size setup past c.args.self.now c.args.caller c.args.key c.args.params c.args.forced stands c.requires.caller c.in-Ok.admitted.begin = omega (arith, c.in-Ok-draw.ensures.whole, c.in_ok-ready.ensures.draws, admitted.challenge_is) in
    rw (c.without_memory.ensures.reply, c.without_memory.ensures.job, c.without_memory.ensures.drawn)
    (unkept setup past c.args.self.now c.args.caller c.args.key c.args.params c.args.forced stands c.requires.caller _ c.in-Ok.admitted.begin c.in-Ok-draw.drawn admitted.may
    (same_but_begun c.args.self.now c.make_ready.new.begins c.in_ok-ready.ensures.begins) long)

pub open-requires-clause-idle : goal.open-requires-clause-idle
open-requires-clause-idle g c = c.pruned_for-pruned.ensures.idle

pub open-requires-clause-free : goal.open-requires-clause-free
open-requires-clause-free g c = is_free _ c.has_slot-room.result c.pruned_for-pruned.result c.has_slot-room.ensures c.in-Ok.ensures.room

pub open-requires-clause-fresh : goal.open-requires-clause-fresh
open-requires-clause-fresh g c = rw c.new_operation-row.ensures.number_is (∥∥₁_elim c.requires.at (≡_prop coded_bool _ _) (λ t.
    ap is_some (t.stands.tables_stand.slots.fresh c.next-op.result (omega (arith, c.next-op.ensures, t.stands.tables_stand.operations.given)))))

pub open-requires-clause-later : goal.open-requires-clause-later
open-requires-clause-later g c = at_later c.args.self.now c.args.step _ _ c.requires.at

pub open-requires-clause-row : goal.open-requires-clause-row
open-requires-clause-row g c = way_row c.args.self.now c.args.step _ _ c.requires.at c.pruned_for-pruned.result c.pruned_for-pruned.ensures.idle

pub open-requires-clause-room : goal.open-requires-clause-room
open-requires-clause-room g c =
    row_room c.args.self.now c.args.step _ _ c.requires.at c.pruned_for-pruned.result
    (is_free _ c.has_slot-room.result c.pruned_for-pruned.result c.has_slot-room.ensures c.in-Ok.ensures.room)

pub open-requires-clause-few : goal.open-requires-clause-few
open-requires-clause-few g c = omega (arith, few_operations c.args.self.now (at_few c.args.self.now c.args.step _ _ c.requires.few c.requires.at))

pub open-requires-clause-number : goal.open-requires-clause-number
open-requires-clause-number g c = c.new_operation-row.ensures.number_is ∙ c.next-op.ensures

pub open-requires-clause-less : goal.open-requires-clause-less
open-requires-clause-less g c =
    few_counted c.args.self.now c.make_ready.new.begins c.in-Ok.admitted.id c.in_ok-ready.ensures.begins
    (at_few c.args.self.now c.args.step _ _ c.requires.few c.requires.at)

pub returns-clause-serves : goal.returns-clause-serves
returns-clause-serves g c = λ setup past at.
    let stands = at.tables_stand in
    let pruned : c.pruned_for-pruned.result ≡ pruned_for setup past (owner_of c.args.caller) c.args.forced =
    rw c.owner_of-uid.ensures at c.pruned_for-pruned.ensures.pruned ∙ pruned_is setup past c.args.self.now (owner_of c.args.caller) c.args.step c.args.forced stands at.step_is in
    let room = c.has_slot-room.ensures ∙ room_is setup past c.args.self.now (owner_of c.args.caller) c.args.forced c.pruned_for-pruned.result stands pruned in
    let whole : length c.in-Ok-draw.drawn ≡ c.in-Ok.admitted.begin.wanted + c.in-Ok.admitted.challenge = c.in-Ok-draw.ensures.whole ∙ c.in_ok-ready.ensures.draws in
    let number : c.next-op.result ≡ _ + 1 = c.next-op.ensures in
    begins setup past c.args.self.now c.args.caller c.args.key c.args.params c.args.forced stands c.requires.caller
    (record c.args.self.now { boot = record c.args.self.now.boot { begins = c.make_ready.new.begins } }) c.open.new.self c.in-Ok.admitted c.new_operation-row.result c.in-Ok-start.state
    c.in-Ok-draw.drawn c.next-op.result c.args.step c.challenge_in-challenge.result c.drawn_nonce-nonce.result c.pruned_for-pruned.result (c.in-Ok.ensures.gives setup past stands room)
    (same_but_begun c.args.self.now c.make_ready.new.begins c.in_ok-ready.ensures.begins) whole number
    (rw (c.split_at.ensures.back, c.as_slice.ensures) at c.challenge_in-challenge.ensures) (rw (c.split_at.ensures.front, c.as_slice.ensures) at c.drawn_nonce-nonce.ensures) pruned (idle_pruned c.args.self.now.slots c.pruned_for-pruned.result c.pruned_for-pruned.ensures.idle) at.step_is
    c.new_operation-row.ensures (rw (c.split_at.ensures.front, c.as_slice.ensures) at c.in-Ok-start.ensures) (rw c.owner_of-uid.ensures at c.open.ensures)

pub returns-clause-store : goal.returns-clause-store
returns-clause-store g c = record {
  keys = same_keys_twice _ _ _ (same_but_begun c.args.self.now c.make_ready.new.begins c.in_ok-ready.ensures.begins).keys
      (same_keys_twice _ _ _ (way_keys c.pruned_for-pruned.result _ _ c.open.ensures.way) c.open.ensures.keys);
  no_fault = refl;
}
