-- What a load begins with, and what it leaves in a summary.
use Rattle.std.specs.Prelude.{◌≡◌, ℕ, true, List, []}
use Rattle.ks_outside.specs.Images.{AllImages, tells}
use Rattle.ks_outside.specs.declared.disk.Disk.{Ghosts as DiskGhosts}
use Rattle.ks_outside.specs.declared.entropy.Entropy.{Ghosts as EntropyGhosts}
use Rattle.rule_model.specs.declared.reply.Reply.{Reply}
use Rattle.rule_model.specs.Entries.{History}
use Rattle.rule_model.specs.Legal.{Legal}
use Rattle.rule_model.specs.Setup.{Setup}
use Rattle.soak_lines.specs.declared.summary.Summary.{Summary}
use Rattle.soak_lines.specs.Summing.{HasSummed}
use Rattle.keystore_run.specs.declared.session.Session.{Session}
use Rattle.keystore_run.specs.Drawn.{DrewAll}
use Rattle.keystore_run.specs.Follows.{Follows}
use Rattle.keystore_run.specs.Session.{StandsFor}
use Rattle.keystore_run.specs.Soak.{AreLasting, IsLoadSetup, numbers_of, text_of}

-- the disk tells its content, and at each moment so far a crash could leave no byte
pub record IsEmptyDisk {D : Type 0} (d : DiskGhosts D) (disk : D) : Type 0 where
  pub images : AllImages d disk (λ image. image ≡ [])
  pub moments : (t : ℕ) (image : List ℕ) → d.images_since disk t image → image ≡ []
  pub telling : tells d disk ≡ true

-- a session over the empty store of a load, before its first line
pub record IsLoadSession {D : Type 0} (d : DiskGhosts D) (disk : D) (session : Session) : Type 0 where
  pub setup : Setup
  pub is : IsLoadSetup setup
  pub stands : StandsFor d setup session disk []

-- a legal history follows the lines with the lines of these replies, which the summary was given, and drew what the entropy gave
pub record IsLoaded {N : Type 0} (n : EntropyGhosts N) (setup : Setup) (lines : List (List ℕ)) (old new : N) (summary : Summary) : Type 0 where
  pub history : History
  pub replies : List Reply
  pub legal : Legal setup history
  pub follows : Follows [] lines history (text_of replies)
  pub drew : DrewAll n old new history
  pub lasting : AreLasting replies
  pub summed : HasSummed (numbers_of replies) (text_of replies) summary
