-- What was asked and answered on a connection.
use Rattle.std.specs.Prelude.{◌≡◌, ℕ, Bool, true, false, not, ◌&&◌, ◌||◌, if◌then◌else◌, List, [], ◌∷◌, ◌++◌, length, flat_map}
use Rattle.tags.specs.declared.code.Code.TheVariants.{MemoryAllocationFailed, RunFull}
use Rattle.rule_model.specs.Acts.{is_connect}
use Rattle.rule_model.specs.Entries.{is_done}
use Rattle.rule_model.specs.declared.event.Act.{Act}
use Rattle.rule_model.specs.declared.event.Act.TheVariants.{Disconnect}
use Rattle.rule_model.specs.declared.reply.Reply.{Reply}
use Rattle.rule_model.specs.declared.reply.Reply.TheVariants.{Stopped}
use Rattle.wire_frames.specs.Spelling.{frame_of}
use Rattle.wire_frames.specs.Replies.{reply_of}

-- a request and its reply
pub record Exchange : Type 0 where
  pub act : Act
  pub reply : Reply

-- the requests, in order
abbrev pub asked : List Exchange → List Act
asked [] = []
asked (x ∷ talk) = x.act ∷ asked talk

-- how many bytes their frames have
abbrev pub size_of : List Exchange → ℕ
size_of talk = length (flat_map frame_of (asked talk))

-- the frames of the replies, in order
abbrev pub told : List Exchange → List ℕ
told [] = []
told (x ∷ talk) = reply_of x.reply ++ told talk

-- whoever answers was asked each in turn, gave these replies, and became what it is now
abbrev pub Talks : {A : Type 0} → (A → Act → Reply → A → Type 0) → A → List Exchange → A → Type 0
Talks answers before [] now = now ≡ before
Talks {A} answers before (x ∷ talk) now = (next : A) × answers before x.act x.reply next × Talks answers next talk now

-- ---- clients

-- a client came by it: a connect that was answered with code 0
abbrev pub joins : Exchange → Bool
joins x = is_done x.reply && is_connect x.act

-- a client has come, who was there before or came by one of these
abbrev pub has_joined : Bool → List Exchange → Bool
has_joined joined [] = joined
has_joined joined (x ∷ talk) = has_joined (joined || joins x) talk

-- a connect comes until a client has come, and other requests from then on
abbrev pub is_due : Bool → Act → Bool
is_due joined act = if is_connect act then not joined else joined

-- each request came when it was due
abbrev pub InTurn : Bool → List Exchange → Type 0
InTurn joined [] = Unit {0}
InTurn joined (x ∷ talk) = (is_due joined x.act ≡ true) × InTurn (joined || joins x) talk

-- a reply of a call that was not made: the run is full, or memory was wanting
abbrev pub is_refusal : Reply → Bool
is_refusal (Stopped RunFull) = true
is_refusal (Stopped MemoryAllocationFailed) = true
is_refusal reply = false

-- where a client has come, it was disconnected, by a call that was made; else nothing was asked
abbrev pub Closes : {A : Type 0} → (A → Act → Reply → A → Type 0) → Bool → A → A → Type 0
Closes answers false last now = now ≡ last
Closes answers true last now = (reply : Reply) × answers last Disconnect reply now × (is_refusal reply ≡ false)

-- ---- a full run

-- a reply that the run is full, which is the last
abbrev pub says_full : Reply → Bool
says_full (Stopped RunFull) = true
says_full reply = false

-- no reply said that the run is full
abbrev pub NoneFull : List Exchange → Type 0
NoneFull [] = Unit {0}
NoneFull (x ∷ talk) = (says_full x.reply ≡ false) × NoneFull talk

-- the last reply said that the run is full, and none before it
abbrev pub EndsFull : List Exchange → Type 0
EndsFull talk = (front : List Exchange) × (last : Exchange) × (talk ≡ front ++ last ∷ []) × NoneFull front × (says_full last.reply ≡ true)
