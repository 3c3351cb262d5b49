use Rattle.std.proofs.Common.{◌≡◌, ◌+◌, ◌∙◌, sym, ap, subst, not, arith}
use Rattle.std.specs.List.{filter}
use Rattle.journal_records.specs.LastingPart.{Lasting, is_named, without_keys}
use Rattle.journal_records.specs.Storable.{key_rows_length}
use Rattle.lasting_table.specs.Parts.{part_of}
use Rattle.key_maps.specs.Rows.{AreBelow}
use Rattle.lasting_table.proofs.Ends.{new_rows, below_new, with_new}
use Rattle.lasting_table.proofs.Lengths.{bytes_push}
use Rattle.lasting_table.proofs.part.Part.create.Goals as goal

-- the rows of the keys before a new one, and with it
pub row_length-requires : goal.row_length-requires
row_length-requires c =
    omega (arith, c.requires.few, bytes_push (filter (λ key. not (is_named c.args.key.domain c.args.key.nspace c.args.key.alias key)) c.args.self.now.keys.rows) c.args.key)

pub overflow_add-self : goal.overflow_add-self
overflow_add-self c =
    let ended : part_of c.end_named.new.self ≡ without_keys (is_named c.args.key.domain c.args.key.nspace c.args.key.alias) (part_of c.args.self.now) = rw c.as_slice.ensures at c.end_named.ensures.part in
    record {
      fits = omega (
        arith,
        c.requires.few,
        bytes_push (filter (λ key. not (is_named c.args.key.domain c.args.key.nspace c.args.key.alias key)) c.args.self.now.keys.rows) c.args.key,
        c.end_named.new.self.long,
        c.row_length.ensures,
        ap (λ (part : Lasting). key_rows_length part.keys) ended,
      );
    }

pub push-requires-clause-rows : goal.push-requires-clause-rows
push-requires-clause-rows c =
    let ended : part_of c.end_named.new.self ≡ without_keys (is_named c.args.key.domain c.args.key.nspace c.args.key.alias) (part_of c.args.self.now) = rw c.as_slice.ensures at c.end_named.ensures.part in
    new_rows (part_of c.args.self.now) (part_of c.end_named.new.self) c.args.key c.end_named.ensures.orderly (subst (λ n. AreBelow n c.args.self.now.keys.rows) (sym c.requires.next) c.args.self.now.keys_below) c.requires.fit ended

pub invariant_of-self : goal.invariant_of-self
invariant_of-self c = record {
  keys_below = rw (c.push.ensures.rows) (below_new c.end_named.new.self.next_key c.end_named.new.self.keys.rows c.args.key c.end_named.new.self.keys_below (ap (λ part. part.next_key) c.end_named.ensures.part ∙ sym c.requires.next));
  grants_below = c.end_named.new.self.grants_below;
  long = rw (c.push.ensures.rows) (omega (arith, bytes_push c.end_named.new.self.keys.rows c.args.key, c.end_named.new.self.long, c.row_length.ensures));
}

pub returns : goal.returns
returns c =
    let ended : part_of c.end_named.new.self ≡ without_keys (is_named c.args.key.domain c.args.key.nspace c.args.key.alias) (part_of c.args.self.now) = rw c.as_slice.ensures at c.end_named.ensures.part in
    ap (λ rows. record (part_of c.end_named.new.self) { keys = rows; next_key = c.args.key.id + 1 }) c.push.ensures.rows ∙ with_new (part_of c.args.self.now) (part_of c.end_named.new.self) c.args.key ended
