-- What each end of a connection says.
use Rattle.std.specs.Prelude.{◌≡◌, ◌≢◌, ◌⊎◌, ◌<◌, ℕ, Bool, true, false, List, [], ◌∷◌, ◌++◌, length, Option}
use Rattle.std.specs.List.{AllByRecursion}
use Rattle.std.specs.Io.KnownBytes.{IsAtEnd}
use Rattle.ks_outside.specs.Carried.{Carried}
use Rattle.ks_outside.specs.declared.link.Link.{Ghosts as LinkGhosts}
use Rattle.rule_model.specs.declared.event.Act.{Act}
use Rattle.rule_model.specs.declared.reply.Reply.{Reply}
use Rattle.wire_frames.specs.Spelling.{frame_of, IsRequest}
use Rattle.wire_frames.specs.Replies.{reply_of}
use Rattle.wire_frames.specs.Streams.{stream_of, IsPart, IsBad}
use Rattle.connections.specs.Talks.{Exchange, asked, size_of, told, Talks, Closes, has_joined, is_due, InTurn, NoneFull, EndsFull}
use Rattle.connections.specs.declared.end.End.{End}
use Rattle.connections.specs.declared.end.End.TheVariants.{EndOfInput, Truncated, BadFrame, LinkFault, RunFull, Memory}

-- a call of the link failed
abbrev pub is_link_fault : End → Bool
is_link_fault LinkFault = true
is_link_fault end = false

-- these bytes begin with the frame of a request that is not due
pub record IsUndue (joined : Bool) (rest : List ℕ) : Type 0 where
  pub act : Act
  pub more : List ℕ
  pub request : IsRequest act
  pub frame : rest ≡ frame_of act ++ more
  pub undue : is_due joined act ≡ false

-- all of each reply was written, and none said that the run is full
abbrev pub IsWhole : List Exchange → List ℕ → Type 0
IsWhole talk missing = NoneFull talk × (missing ≡ [])

-- the replies but the last were written, and none of them said that the run is full; of the last one this piece was written, and the
-- rest is missing
pub record IsCut (talk : List Exchange) (piece missing : List ℕ) : Type 0 where
  pub front : List Exchange
  pub last : Exchange
  pub talk_is : talk ≡ front ++ last ∷ []
  pub unfull : NoneFull front
  pub frame : reply_of last.reply ≡ piece ++ missing
  pub some : 0 < length missing

-- What an end says of the requests that were answered, of what was taken behind them, of what is missing of the replies, and of what is
-- left. Requests are left unanswered behind a reply that is missing or says that the run is full, and where memory was wanting.
abbrev pub EndsSo : End → List Exchange → List ℕ → List ℕ → Option (List ℕ) → Type 0
EndsSo EndOfInput talk rest missing left = IsWhole talk missing × (rest ≡ []) × IsAtEnd left
EndsSo Truncated talk rest missing left = IsWhole talk missing × (rest ≢ []) × IsPart rest × IsAtEnd left
EndsSo (BadFrame offset) talk rest missing left =
    IsWhole talk missing × (offset ≡ size_of talk) × (IsBad rest ⊎ IsUndue (has_joined false talk) rest)
EndsSo RunFull talk rest missing left = EndsFull talk × (missing ≡ [])
EndsSo LinkFault talk rest missing left = (IsWhole talk missing × IsPart rest) ⊎ ((piece : List ℕ) × IsCut talk piece missing)
EndsSo Memory talk rest missing left = IsWhole talk missing

module _ {L A : Type 0} (g : LinkGhosts L) (answers : A → Act → Reply → A → Type 0) (link after : L) (before now : A) where
  -- The requests of a connection were answered, until this end: `taken` came from the link, and `part` of the replies went into it.
  pub record Talked (joined : Bool) (end : End) : Type 0 where
    pub talk : List Exchange
    pub taken : List ℕ
    pub rest : List ℕ
    pub part : List ℕ
    pub missing : List ℕ
    pub talks : Talks answers before talk now
    pub requests : taken ≡ stream_of (asked talk) rest
    pub each : AllByRecursion IsRequest (asked talk)
    pub turn : InTurn false talk
    pub replies : told talk ≡ part ++ missing
    pub carried : Carried g link after taken part (is_link_fault end)
    pub ends : EndsSo end talk rest missing (g.incoming after)
    pub joined_is : joined ≡ has_joined false talk

-- A connection was served: its requests were answered, and whatever the end was, a client that had come by them was disconnected.
pub record Serves {L A : Type 0} (g : LinkGhosts L) (answers : A → Act → Reply → A → Type 0) (link after : L) (before now : A) (end : End) : Type 0 where
  pub last : A
  pub joined : Bool
  pub talked : Talked g answers link after before last joined end
  pub closes : Closes answers joined last now

-- ---- completeness

-- so many of these requests were answered, and then these are left
pub record AnsweredOf {A : Type 0} (answers : A → Act → Reply → A → Type 0) (before : A) (acts more : List Act) : Type 0 where
  pub talk : List Exchange
  pub last : A
  pub talks : Talks answers before talk last
  pub acts_are : acts ≡ asked talk ++ more

-- The first request that is left was not due, and this is the place of its frame.
pub record StopsAt {A : Type 0} (answers : A → Act → Reply → A → Type 0) (before : A) (acts : List Act) (offset : ℕ) : Type 0 where
  pub act : Act
  pub more : List Act
  pub answered : AnsweredOf answers before acts (act ∷ more)
  pub undue : is_due (has_joined false answered.talk) act ≡ false
  pub offset_is : offset ≡ size_of answered.talk

-- How a connection ends that brought the frames of these requests alone, and whose link did not fail: all were answered; or memory was
-- wanting; or a reply said that the run is full; or a request was not due.
abbrev pub EndsWhole : {A : Type 0} → (A → Act → Reply → A → Type 0) → A → List Act → End → Type 0
EndsWhole answers before acts EndOfInput = AnsweredOf answers before acts []
EndsWhole answers before acts (BadFrame offset) = StopsAt answers before acts offset
EndsWhole answers before acts Memory = Unit {0}
EndsWhole answers before acts RunFull = Unit {0}
EndsWhole answers before acts Truncated = ⊥
EndsWhole answers before acts LinkFault = ⊥
