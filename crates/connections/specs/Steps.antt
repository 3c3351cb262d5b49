-- What answering requests shows.
use Rattle.std.specs.Prelude.{◌≡◌, ◌<◌, ℕ, ◌+◌, Bool, true, false, List, [], ◌∷◌, ◌++◌, length}
use Rattle.ks_outside.specs.Carried.{Carried}
use Rattle.ks_outside.specs.declared.link.Link.{Ghosts as LinkGhosts}
use Rattle.rule_model.specs.declared.event.Act.{Act}
use Rattle.rule_model.specs.declared.reply.Reply.{Reply}
use Rattle.wire_frames.specs.Replies.{reply_of}
use Rattle.connections.specs.Talks.{Exchange, asked, size_of, told, Talks, has_joined, is_due, says_full, InTurn, NoneFull, EndsFull}
use Rattle.connections.specs.Ends.{is_link_fault, IsWhole, IsCut}
use Rattle.connections.specs.declared.answering.Progress.{Progress}
use Rattle.connections.specs.declared.end.End.{End}
use Rattle.connections.specs.declared.end.End.TheVariants.{BadFrame, LinkFault, RunFull}

-- what an end says of the one reply, of which a part was written and the rest is missing
abbrev pub EndsOne : End → Reply → List ℕ → List ℕ → Type 0
EndsOne LinkFault reply part missing = 0 < length missing
EndsOne RunFull reply part missing = (says_full reply ≡ true) × (missing ≡ [])
EndsOne end reply part missing = ⊥

-- what an end says among requests of which these were answered and those are left; the first frame of them all stands at the place
abbrev pub EndsAmong : End → ℕ → Bool → List Exchange → List Act → List ℕ → Type 0
EndsAmong (BadFrame offset) place joined talk left missing =
    IsWhole talk missing × (offset ≡ place + size_of talk)
    × ((act : Act) × (more : List Act) × (left ≡ act ∷ more) × (is_due (has_joined joined talk) act ≡ false))
EndsAmong LinkFault place joined talk left missing = (piece : List ℕ) × IsCut talk piece missing
EndsAmong RunFull place joined talk left missing = EndsFull talk × (missing ≡ [])
EndsAmong end place joined talk left missing = ⊥

module _ {L : Type 0} (g : LinkGhosts L) (link after : L) (reply : Reply) where
  -- all of the reply was written, and it is not the last
  pub record Tells : Type 0 where
    pub carried : Carried g link after [] (reply_of reply) false
    pub unfull : says_full reply ≡ false

  -- it was written or not, and the connection ends
  pub record TellsLast (end : End) : Type 0 where
    pub part : List ℕ
    pub missing : List ℕ
    pub frame : reply_of reply ≡ part ++ missing
    pub carried : Carried g link after [] part (is_link_fault end)
    pub ends : EndsOne end reply part missing

module _ {L A : Type 0} (g : LinkGhosts L) (answers : A → Act → Reply → A → Type 0) (link after : L) (before now : A) where
  -- of the requests these are left, and all before them were answered
  pub record Goes (old new : Progress) (requests left : List Act) : Type 0 where
    pub talk : List Exchange
    pub requests_are : requests ≡ asked talk ++ left
    pub talks : Talks answers before talk now
    pub carried : Carried g link after [] (told talk) false
    pub turn : InTurn old.joined talk
    pub unfull : NoneFull talk
    pub joined : new.joined ≡ has_joined old.joined talk
    pub place : new.place ≡ old.place + size_of talk

  -- the connection ends among the requests
  pub record StopsAmong (old new : Progress) (requests : List Act) (end : End) : Type 0 where
    pub talk : List Exchange
    pub left : List Act
    pub part : List ℕ
    pub missing : List ℕ
    pub requests_are : requests ≡ asked talk ++ left
    pub talks : Talks answers before talk now
    pub turn : InTurn old.joined talk
    pub replies : told talk ≡ part ++ missing
    pub carried : Carried g link after [] part (is_link_fault end)
    pub ends : EndsAmong end old.place old.joined talk left missing
    pub joined : new.joined ≡ has_joined old.joined talk
