-- What the load of a seed leaves: the summary of the text with which a legal history over an empty store follows its lines.
use Rattle.std.specs.Prelude.{◌≡◌, ℕ, ℤ, pos, Bool, true, false, ◌||◌, is_some, List, [], ◌∷◌, ◌++◌, Option, Some, None, map}
use Rattle.ks_outside.specs.Draws.{followed}
use Rattle.ks_outside.specs.Seeded.{bytes_from}
use Rattle.ks_outside.specs.Shown.{Put}
use Rattle.ks_outside.specs.declared.sink.Sink.{Ghosts as SinkGhosts}
use Rattle.rand_chacha.specs.ChaCha.{of_seed}
use Rattle.tags.specs.declared.code.Code.{Code}
use Rattle.tags.specs.declared.code.Code.TheVariants.{MemoryAllocationFailed, SystemError, EntropyFault}
use Rattle.tags.specs.declared.policy.PolicyRow.{PolicyRow}
use Rattle.tags.specs.Secrets.{demo_device}
use Rattle.tags.specs.Code.{code_number}
use Rattle.journal_records.specs.LastingPart.{empty_lasting}
use Rattle.rule_model.specs.declared.reply.Reply.{Reply}
use Rattle.rule_model.specs.Drawn.{drawn_of}
use Rattle.rule_model.specs.Entries.{History}
use Rattle.rule_model.specs.Legal.{Legal}
use Rattle.rule_model.specs.Setup.{Setup}
use Rattle.script_lines.specs.Replies.{line_of}
use Rattle.soak_lines.specs.Lines.{lines_of, seed_of}
use Rattle.soak_lines.specs.Summary.{summary_of}
use Rattle.keystore_run.specs.declared.answer.Answer.{Answer}
use Rattle.keystore_run.specs.declared.status.Status.{Status}
use Rattle.keystore_run.specs.declared.status.Status.TheVariants as statuses
use Rattle.keystore_run.specs.Answers.{code_of}
use Rattle.keystore_run.specs.Follows.{Follows}

-- the policy of a load: that for demonstrations
abbrev pub demo_policy : List PolicyRow
demo_policy = record { uid = 1000; nspace = 100; bits = 509 } ∷ record { uid = 1000; nspace = 0; bits = 64 } ∷ []

-- the codes of want of memory, of a failed device call and of a failed draw
abbrev pub is_failure : Option Code → Bool
is_failure (Some MemoryAllocationFailed) = true
is_failure (Some SystemError) = true
is_failure (Some EntropyFault) = true
is_failure _ = false

-- the answer has one of these codes, or settles an earlier change
abbrev pub tells_failure : Answer → Bool
tells_failure answer = is_some answer.settled || is_failure answer.code

-- the number in a reply line
abbrev pub number_of : Option Code → ℤ
number_of None = pos 0
number_of (Some code) = code_number code

-- the numbers in the lines of replies
abbrev pub numbers_of : List Reply → List ℤ
numbers_of replies = map (λ (reply : Reply). number_of (code_of reply)) replies

-- the lines of replies, of which the newest is the first in the list and the last in the text; no settled line stands among them
abbrev pub text_of : List Reply → List ℕ
text_of [] = []
text_of (reply ∷ before) = text_of before ++ line_of None reply

-- none of the replies has such a code
abbrev pub AreLasting : List Reply → Type 0
AreLasting [] = Unit {0}
AreLasting (reply ∷ before) = (is_failure (code_of reply) ≡ false) × AreLasting before

-- what is fixed in a load: the device and the policy for demonstrations, 16 slots, and an empty store
pub record IsLoadSetup (setup : Setup) : Type 0 where
  pub device_is : setup.device ≡ demo_device
  pub policy_is : setup.policy ≡ demo_policy
  pub slots_are : setup.slots ≡ 16
  pub empty : setup.start ≡ empty_lasting

-- The text is the summary of a load: a legal history over an empty store follows all its lines with the lines of these replies, the
-- newest first, and draws the bytes of its second generator.
pub record IsSummaryOf (seed lines : ℕ) (summary : List ℕ) : Type 0 where
  pub setup : Setup
  pub is_setup : IsLoadSetup setup
  pub history : History
  pub replies : List Reply
  pub legal : Legal setup history
  pub follows : Follows [] (lines_of seed lines) history (text_of replies)
  pub later : ℕ → ℕ
  pub draws : bytes_from (of_seed (seed_of seed 1)) ≡ followed (drawn_of history) later
  pub lasting : AreLasting replies
  pub is : summary ≡ summary_of (numbers_of replies) (text_of replies)

module _ {K : Type 0} (k : SinkGhosts K) where
  -- a front of the summary was written, and then a write failed
  pub record IsCutSummary (seed lines : ℕ) (old new : K) : Type 0 where
    pub part : List ℕ
    pub missing : List ℕ
    pub summary : IsSummaryOf seed lines (part ++ missing)
    pub put : Put k old new part true

  -- the summary of the load was written, all of it or a front of it; or memory was wanting, and nothing was written
  abbrev pub Soaks : ℕ → ℕ → K → K → Status → Type 0
  Soaks seed lines old new statuses.Ok = (summary : List ℕ) × IsSummaryOf seed lines summary × Put k old new summary false
  Soaks seed lines old new statuses.WriteFault = IsCutSummary seed lines old new
  Soaks seed lines old new statuses.Memory = new ≡ old
  Soaks seed lines old new _ = ⊥
