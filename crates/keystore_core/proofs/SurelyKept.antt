-- What is known of a history's store is what the history keeps: a change that waits to be settled does not count.
use Rattle.std.proofs.Common.{◌≡◌, Bool, true, false, ◌&&◌, [], ◌∷◌, Some, None, if◌then◌else◌, refl, ap}
use Rattle.std.specs.Prelude.{Option}
use Rattle.tags.specs.declared.settled.Settled.{Settled}
use Rattle.tags.specs.declared.settled.Settled.TheVariants.{Lost, Kept}
use Rattle.journal_records.specs.Holding.{Unsure, Sure, known}
use Rattle.journal_records.specs.LastingPart.{Lasting}
use Rattle.rule_model.specs.declared.entry.Entry.TheVariants.{Acted, Settling}
use Rattle.rule_model.specs.declared.reply.Reply.TheVariants.{Done, Broken, Stopped}
use Rattle.rule_model.specs.Blobs.{device_at}
use Rattle.rule_model.specs.Clients.{caller_of}
use Rattle.rule_model.specs.Entries.{History}
use Rattle.rule_model.specs.Kept.{kept, kept_after, kept_settled, open_of}
use Rattle.rule_model.specs.Settling.{is_faulted, is_unsettled}
use Rattle.rule_model.specs.Setup.{Setup}
use Rattle.rule_model.specs.Stored.{holding_of}

-- a change that waits and one that is lost are kept alike
lost_kept : (setup : Setup) (past : History) → kept_settled setup (Some Lost) past ≡ kept_settled setup None past
lost_kept setup [] = refl
lost_kept setup (Settling settled ∷ past) = refl
lost_kept setup (Acted event drawn (Done fields) ∷ past) =
    ap (λ (part : Lasting). kept_after true (device_at setup past) setup.policy (open_of setup past) (caller_of past event) event.act drawn part) (lost_kept setup past)
lost_kept setup (Acted event drawn (Broken rule code) ∷ past) = lost_kept setup past
lost_kept setup (Acted event drawn (Stopped code) ∷ past) = by_fault (is_faulted (is_unsettled past) event.act (Stopped code)) (lost_kept setup past) where
  by_fault : (b : Bool) → kept_settled setup (Some Lost) past ≡ kept_settled setup None past
      → kept_after (b && false) (device_at setup past) setup.policy (open_of setup past) (caller_of past event) event.act drawn (kept_settled setup (if◌then◌else◌ {A = Option Settled} b None (Some Lost)) past)
      ≡ kept_after (b && false) (device_at setup past) setup.policy (open_of setup past) (caller_of past event) event.act drawn (kept_settled setup (if◌then◌else◌ {A = Option Settled} b None None) past)
  by_fault true before = refl
  by_fault false before = before

pub known_kept : (setup : Setup) (past : History) → known (holding_of setup past) ≡ kept setup past
known_kept setup past = by_waits (is_unsettled past) where
  by_waits : (b : Bool) → known (if b then Unsure (kept setup (Settling Lost ∷ past)) (kept setup (Settling Kept ∷ past)) else Sure (kept setup past)) ≡ kept setup past
  by_waits true = lost_kept setup past
  by_waits false = refl
