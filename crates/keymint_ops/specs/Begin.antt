-- What a plan of an operation's beginning says, and which nonce the operation uses.
use Rattle.std.specs.Prelude.{◌≡◌, ℕ, true, List, Option, Some, None, Result, Ok, Err, ⊤}
use Rattle.use_rules.specs.declared.facts.BeginFacts.{BeginFacts}
use Rattle.use_rules.specs.Plans.{nonce_given, nonce_wanted, plan_of}
use Rattle.use_rules.specs.Table.{answer, asked_of, key_of}
use Rattle.keymint_ops.specs.declared.begin.Begin.{Begin}
use Rattle.keymint_ops.specs.declared.begin.BeginFault.{BeginFault}
use Rattle.keymint_ops.specs.declared.begin.BeginFault.TheVariants.{Broken, Memory}

-- the operation that table B lets begin on the key that was found: its plan, which is that of the two lists, the nonce that
-- the caller gave, and how many bytes are drawn
pub record MayBegin (begin : Begin) (facts : BeginFacts) : Type 0 where
  pub answers : answer facts ≡ Ok begin.plan
  pub is_found : facts.found ≡ true
  pub has_room : facts.room ≡ true
  pub plan_is : begin.plan ≡ plan_of (asked_of facts) (key_of facts)
  pub nonce_is : begin.nonce ≡ nonce_given (asked_of facts) (key_of facts)
  pub wanted_is : begin.wanted ≡ nonce_wanted (asked_of facts) (key_of facts)

-- What is returned for these facts: an operation that may begin, or the first rule of table B that is broken, unless memory
-- ran out.
abbrev pub GivesBegin : Result Begin BeginFault → BeginFacts → Type 0
GivesBegin (Ok begin) facts = MayBegin begin facts
GivesBegin (Err (Broken rule code)) facts = answer facts ≡ Err (rule, code)
GivesBegin (Err Memory) facts = ⊤

-- the nonce that is used: the caller's, or else the one that is drawn
abbrev pub nonce_used : Option (List ℕ) → List ℕ → List ℕ
nonce_used None drawn = drawn
nonce_used (Some nonce) drawn = nonce
