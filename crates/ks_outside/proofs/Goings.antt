-- How what calls of a disk leave alone joins.
use Rattle.std.proofs.Common.{◌≡◌, ◌∙◌, ap, Bool, false, refl}
use Rattle.std.specs.Prelude.{is_some}
use Rattle.ks_outside.specs.declared.disk.Disk.{Ghosts}
use Rattle.ks_outside.specs.Faults.{CountsFaults}
use Rattle.ks_outside.specs.Moments.{Elapses}
use Rattle.ks_outside.specs.Images.{AllImages, Goes, Reads}
use Rattle.ks_outside.proofs.Joins.{passes_none, passes_call, passes_on}
use Rattle.ks_outside.proofs.Shown.{counts_none, counts_on}

module _ {D : Type 0} (g : Ghosts D) where
  -- no call
  pub goes_none : (disk : D) → Goes g disk disk false
  goes_none disk = record { sure = λ is. is; telling = refl; cause = counts_none (g.fault_count disk) }

  pub reads_none : (disk : D) → Reads g disk disk false
  reads_none disk = record { goes = goes_none disk; images = λ c left. left; passes = passes_none g disk (g.images disk) }

  -- one call that writes nothing
  pub reads_call : (old new : D) (failed : Bool) → g.content new ≡ g.content old → AllImages g new (g.images old) → (g.is_sure old → g.is_sure new)
      → Elapses (g.moment old) (g.moment new) (g.images_since old) (g.images_since new) (g.images new)
      → CountsFaults (g.fault_count old) (g.fault_count new) failed → Reads g old new failed
  reads_call old new failed same fewer sure time counts = record {
    goes = record { sure = sure; telling = ap is_some same; cause = counts };
    images = fewer;
    passes = passes_call g old new (g.images old) time fewer;
  }

  -- one that did not fail, and those after it
  pub goes_on : (old mid new : D) (failed : Bool) → Goes g old mid false → Goes g mid new failed → Goes g old new failed
  goes_on old mid new failed first second = record {
    sure = λ is. second.sure (first.sure is);
    telling = second.telling ∙ first.telling;
    cause = counts_on (g.fault_count old) (g.fault_count mid) (g.fault_count new) false failed first.cause second.cause;
  }

  pub reads_on : (old mid new : D) (failed : Bool) → Reads g old mid false → Reads g mid new failed → Reads g old new failed
  reads_on old mid new failed first second = record {
    goes = goes_on old mid new failed first.goes second.goes;
    images = λ c left. first.images c (second.images c left);
    passes = passes_on g old mid new (g.images old) (g.images mid) (g.images old) first.passes second.passes (λ c was. was) first.images;
  }
