-- An act that a frame can hold has a frame.
use Rattle.std.proofs.Common.{◌≡◌, Bool, true, if◌then◌else◌, length, refl, ap}
use Rattle.rule_model.specs.declared.event.Act.{Act}
use Rattle.rule_model.specs.declared.event.Act.TheVariants.{Disconnect, Leave, Restart}
use Rattle.rule_model.specs.Acts.{is_framed}
use Rattle.wire_frames.specs.Spelling.{frame_of, IsRequest}
use Rattle.wire_frames.specs.Sizes.{frame_length}

framed : (act : Act) → IsRequest act → is_framed act ≡ true
framed Disconnect request = absurd request.0
framed (Leave ticket) request = absurd request.0
framed (Restart root) request = absurd request.0
framed _ request = refl

pub request_length : (act : Act) → IsRequest act → frame_length act ≡ length (frame_of act)
request_length act request = ap (λ (b : Bool). if b then length (frame_of act) else 0) (framed act request)
