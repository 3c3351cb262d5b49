use Rattle.std.proofs.Common.{◌≡◌, not, ◌&&◌, Bool, true, false, Result, refl}
use Rattle.std.specs.BTreeMap.{values}
use Rattle.std.proofs.lemmas.Result.{err_from_is_err_and}
use Rattle.tags.specs.Tag.{repeats}
use Rattle.tag_lists.specs.declared.fault.ListFault.{ListFault}
use Rattle.tag_lists.specs.declared.fault.ListFault.TheVariants.{UnknownTag, WrongKind, Repeated, Truncated, Trailing, Memory}
use Rattle.tag_lists.specs.Reading.{◌>>=◌, Fails, known_at, was_read}
use Rattle.tag_lists.proofs.reading.known_at.Goals.{else-not-is_repeatable-via-then-not-is_repeatable+else-was_read, else-not-is_repeatable-via-else-not-is_repeatable}
use Rattle.tag_lists.proofs.reading.known_at.Goals as goal

pub returns-then-is_wrong_flag-clause-gives : goal.returns-then-is_wrong_flag-clause-gives
unfolding known_at
returns-then-is_wrong_flag-clause-gives c = rw (← c.kind.ensures, ← c.shape_of-shape.ensures, ← c.is_wrong_flag.ensures, c.if-is_wrong_flag.true)

both_false : (a : Bool) → (a && false) ≡ false
both_false true = refl
both_false false = refl

-- a fault stays one before what would be read behind it
fails_on : {A B : Type 0} (e : ListFault) (read : Result A ListFault) (f : A → Result B ListFault) → Fails e read → Fails e (read >>= f)
fails_on Memory read f h = tt
fails_on (UnknownTag at) read f h = rw h refl
fails_on (WrongKind at) read f h = rw h refl
fails_on (Repeated at) read f h = rw h refl
fails_on (Truncated at) read f h = rw h refl
fails_on (Trailing at) read f h = rw h refl

pub returns-clause-gives : goal.returns-clause-gives
unfolding known_at
returns-clause-gives c =
    let again : (not (repeats c.kind.result) && was_read c.args.tag (values c.args.before.now)) ≡ false = elim c.else-not-is_repeatable.branch [
      | else-not-is_repeatable-via-then-not-is_repeatable+else-was_read w ↦ rw (← w.was_read.ensures, w.if-was_read.false) (both_false _)
      | else-not-is_repeatable-via-else-not-is_repeatable w ↦ rw (c.kind.ensures, ← c.kind-2.ensures, ← c.is_repeatable.ensures, w.if-not-is_repeatable.false)
    ] in
    rw (← c.kind.ensures, ← c.shape_of-shape.ensures, ← c.is_wrong_flag.ensures, c.if-is_wrong_flag.false, again, c.in_ok-value.ensures.gives)

pub returns-in_err-value-clause-gives : goal.returns-in_err-value-clause-gives
unfolding known_at
returns-in_err-value-clause-gives c =
    let again : (not (repeats c.kind.result) && was_read c.args.tag (values c.args.before.now)) ≡ false = elim c.else-not-is_repeatable.branch [
      | else-not-is_repeatable-via-then-not-is_repeatable+else-was_read w ↦ rw (← w.was_read.ensures, w.if-was_read.false) (both_false _)
      | else-not-is_repeatable-via-else-not-is_repeatable w ↦ rw (c.kind.ensures, ← c.kind-2.ensures, ← c.is_repeatable.ensures, w.if-not-is_repeatable.false)
    ] in
    let p = err_from_is_err_and c.from_residual.result c.from_residual.ensures.1 in
    rw (p.1, p.2, ← c.kind.ensures, ← c.shape_of-shape.ensures, ← c.is_wrong_flag.ensures, c.if-is_wrong_flag.false, again)
    (fails_on _ _ _ c.in_err-value.ensures.gives)
