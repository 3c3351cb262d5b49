-- Each image comes from one of the old disk.
use Rattle.std.proofs.Common.{ℕ, List, Bool}
use Rattle.ks_outside.specs.declared.disk.Disk.{Ghosts}
use Rattle.ks_outside.specs.Images.{AllImages, Passes, Reads, TornFrom}
use Rattle.ks_outside.proofs.Joins.{passes_as, passes_on}
use Rattle.journal_compact.specs.Adopting.{Comes}

module _ {D : Type 0} (g : Ghosts D) where
  -- by a write
  pub comes_torn : (old new : D) (at n : ℕ) → AllImages g new (TornFrom g old at n) → Passes g old new (TornFrom g old at n) → Comes g old new
  comes_torn old new at n torn passes = record {
    images = λ c left. let from = torn c left in (from.0, from.1);
    passes = passes_as g old new (TornFrom g old at n) (λ c. (b : List ℕ) × g.images old b) passes (λ c from. (from.0, from.1));
  }

  -- by a call that writes nothing
  pub comes_read : (old new : D) (failed : Bool) → Reads g old new failed → Comes g old new
  comes_read old new failed reads = record {
    images = λ c left. (c, reads.images c left);
    passes = passes_as g old new (g.images old) (λ c. (b : List ℕ) × g.images old b) reads.passes (λ c was. (c, was));
  }

  -- by one and then by another
  pub comes_on : (old mid new : D) → Comes g old mid → Comes g mid new → Comes g old new
  comes_on old mid new first second = record {
    images = λ c left. let from = second.images c left in first.images from.0 from.1;
    passes = passes_on g old mid new (λ c. (b : List ℕ) × g.images old b) (λ c. (b : List ℕ) × g.images mid b) (λ c. (b : List ℕ) × g.images old b) first.passes second.passes
        (λ c from. from) (λ c from. first.images from.0 from.1);
  }
