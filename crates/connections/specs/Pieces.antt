-- Where a connection stands between the pieces of its stream, and what a piece brings.
use Rattle.std.specs.Prelude.{◌≡◌, ℕ, false, List, [], ◌++◌, Option}
use Rattle.std.specs.List.{AllByRecursion}
use Rattle.ks_outside.specs.Carried.{Carried}
use Rattle.ks_outside.specs.declared.link.Link.{Ghosts as LinkGhosts}
use Rattle.rule_model.specs.declared.event.Act.{Act}
use Rattle.rule_model.specs.declared.reply.Reply.{Reply}
use Rattle.wire_frames.specs.Spelling.{IsRequest}
use Rattle.wire_frames.specs.Streams.{stream_of}
use Rattle.wire_frames.specs.Standing.{is_shut, Stands}
use Rattle.wire_frames.specs.declared.frames.Frames.{Frames}
use Rattle.connections.specs.Talks.{Exchange, asked, size_of, told, Talks, has_joined, InTurn, NoneFull}
use Rattle.connections.specs.Ends.{is_link_fault, EndsSo}
use Rattle.connections.specs.declared.answering.Progress.{Progress}
use Rattle.connections.specs.declared.end.End.{End}

-- all requests of the stream so far were answered, and it has no bad frame
pub record Follows (stream : List ℕ) (talk : List Exchange) (frames : Frames) (progress : Progress) : Type 0 where
  pub stands : Stands stream (asked talk) frames
  pub good : is_shut frames ≡ false
  pub turn : InTurn false talk
  pub unfull : NoneFull talk
  pub joined : progress.joined ≡ has_joined false talk
  pub place : progress.place ≡ size_of talk

module _ {L A : Type 0} (g : LinkGhosts L) (answers : A → Act → Reply → A → Type 0) (link after : L) (before now : A) where
  -- what the piece completes was answered
  pub record PieceServed (stream piece : List ℕ) (talk : List Exchange) (frames : Frames) (progress : Progress) : Type 0 where
    pub more : List Exchange
    pub follows : Follows (stream ++ piece) (talk ++ more) frames progress
    pub talks : Talks answers before more now
    pub carried : Carried g link after [] (told more) false

  -- the connection ends within the piece
  pub record PieceStops (stream piece : List ℕ) (talk : List Exchange) (progress : Progress) (end : End) : Type 0 where
    pub more : List Exchange
    pub rest : List ℕ
    pub part : List ℕ
    pub missing : List ℕ
    pub talks : Talks answers before more now
    pub requests : stream ++ piece ≡ stream_of (asked (talk ++ more)) rest
    pub each : AllByRecursion IsRequest (asked (talk ++ more))
    pub turn : InTurn false (talk ++ more)
    pub replies : told more ≡ part ++ missing
    pub carried : Carried g link after [] part (is_link_fault end)
    pub ends : (left : Option (List ℕ)) → EndsSo end (talk ++ more) rest missing left
    pub joined : progress.joined ≡ has_joined false (talk ++ more)
