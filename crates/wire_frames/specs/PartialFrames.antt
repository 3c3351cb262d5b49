-- The frame that is held, and what is read of it.
use Rattle.std.specs.Prelude.{ℕ, List, ◌++◌, take}
use Rattle.rule_model.specs.declared.event.Act.{Act}
use Rattle.wire_frames.specs.declared.held.PartialFrame.{PartialFrame}
use Rattle.wire_frames.specs.declared.held.giving.HeldRequest.{HeldRequest}
use Rattle.wire_frames.specs.declared.held.giving.HeldRequest.TheVariants.{Whole, Around}
use Rattle.wire_frames.specs.Apart.{with_input}

-- its bytes
abbrev pub bytes_in : PartialFrame → List ℕ
bytes_in held = held.head.items ++ held.input.items

-- the act, with the input in front of what lies apart
abbrev pub kept_act : HeldRequest → List ℕ → Act
kept_act (Whole act) input = act
kept_act (Around act size) input = with_input (take size input) act
