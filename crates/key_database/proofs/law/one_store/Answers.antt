use Rattle.key_database.proofs.OneStore.{StoreLaws, one_part, not_bad, one_offset}
use Rattle.key_database.proofs.Storables.{stored_image}
use Rattle.key_database.proofs.law.one_store.Goals as goal

pub returns-clause-part : goal.returns-clause-part
returns-clause-part c =
    let frames = c.one_format.ensures in
    let lists = c.one_reading.ensures in
    let laws : StoreLaws = record { frames = frames.frame; none = frames.marked; no_frame = frames.unmarked; lists = lists.records; whole = lists.sound; places = lists.place } in
    one_part laws

pub returns-clause-sound : goal.returns-clause-sound
returns-clause-sound c =
    let frames = c.one_format.ensures in
    let lists = c.one_reading.ensures in
    let laws : StoreLaws = record { frames = frames.frame; none = frames.marked; no_frame = frames.unmarked; lists = lists.records; whole = lists.sound; places = lists.place } in
    not_bad laws

pub returns-clause-place : goal.returns-clause-place
returns-clause-place c =
    let frames = c.one_format.ensures in
    let lists = c.one_reading.ensures in
    let laws : StoreLaws = record { frames = frames.frame; none = frames.marked; no_frame = frames.unmarked; lists = lists.records; whole = lists.sound; places = lists.place } in
    one_offset laws

pub returns-clause-storable : goal.returns-clause-storable
returns-clause-storable c = stored_image c.storable_law.ensures.leaves
