-- From what a reader says to both ways of its grammar.
use Rattle.std.proofs.Common.{◌≡◌, ℕ, List, [], ◌++◌, Option, Some, Result, Ok, Err, refl, sym, ap, subst, ◌∙◌}
use Rattle.std.specs.Prelude.{IfOk}
use Rattle.std.proofs.lemmas.List.{append-nil}
use Rattle.journal_records.specs.declared.change.Change.{Change}
use Rattle.journal_records.specs.declared.record.Record.{Record}
use Rattle.journal_records.specs.declared.fault.RecordFault.{RecordFault}
use Rattle.journal_records.specs.Spelling.{record_tail, tail_of, framed, IsChange, IsRecord}
use Rattle.journal_records.specs.Reading.{Says, record_at, change_at, record_in}
use Rattle.byte_strings.specs.Codecs.{IsBytes}
use Rattle.journal_records.proofs.Bodies.{record_takes, change_takes, change_again}

-- reading again gives what was spelled
pub says_again : {X Y : Type 0} (view : X → Y) (result : Result X RecordFault) (read : Option Y) (y : Y) → read ≡ Some y → Says view result read → Says view result (Some y)
says_again view result read y e says = subst (Says view result) e says

pub parse_again : (change : Change) → IsChange change → record_in (framed change) ≡ Some change
unfolding record_in
parse_again change h =
    let again : change_at (tail_of change) ≡ Some (change, []) = ap change_at (sym (append-nil (tail_of change))) ∙ change_again change [] h in
    rw again refl

-- what was read is spelled so
pub record_found : {X : Type 0} (view : X → Record × List ℕ) (greatest : ℕ) (result : Result X RecordFault) (bytes : List ℕ) → IsBytes bytes
    → Says view result (record_at greatest bytes) → IfOk result (λ x. (bytes ≡ record_tail (view x).0 ++ (view x).1) × IsRecord greatest (view x).0)
record_found view greatest (Ok x) bytes fits says = record_takes greatest bytes (view x).0 (view x).1 fits says
record_found view greatest (Err fault) bytes fits says = tt

pub change_found : {X : Type 0} (view : X → Change × List ℕ) (result : Result X RecordFault) (bytes : List ℕ) → IsBytes bytes → Says view result (change_at bytes)
    → IfOk result (λ x. (bytes ≡ tail_of (view x).0 ++ (view x).1) × IsChange (view x).0)
change_found view (Ok x) bytes fits says = change_takes bytes (view x).0 (view x).1 fits says
change_found view (Err fault) bytes fits says = tt
