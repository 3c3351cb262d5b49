-- The byte goes to the bytes that wait, or makes a block whole.
use Rattle.std.proofs.Common.{refl, rules}
use Rattle.gcm_mode.proofs.Feeding.{feeds_short, feeds_full}
use Rattle.gcm_mode.proofs.feed.Feed.push.Goals as goal

pub returns-then-at-lt15 : goal.returns-then-at-lt15
returns-then-at-lt15 c = λ h bytes held. feeds_short c.args.self.now _ h bytes c.args.byte _ held (search rules) refl c.if-at-lt15.true refl refl refl

pub returns : goal.returns
returns c = λ h bytes held.
    feeds_full c.args.self.now _ h bytes _ c.args.byte _ held (search rules) refl c.if-at-lt15.false refl (λ blocks. c.absorb.ensures h blocks) refl
