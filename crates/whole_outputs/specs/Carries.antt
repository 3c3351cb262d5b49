-- What is carried of an operation's texts.
use Rattle.std.specs.Prelude.{◌≡◌, ℕ, Bool, List, ◌++◌, length}
use Rattle.tags.specs.declared.plan.Plan.{Plan}
use Rattle.whole_outputs.specs.Modes.{ModeIs}
use Rattle.whole_outputs.specs.Sizes.{done_under}
use Rattle.whole_outputs.specs.declared.carried.Carried.{Carried}

-- It is what is carried of an operation with this plan under this key and nonce, with all output at its finish where it is
-- limited, which has taken this additional data and this text: the bytes that are done have gone through the mode, and the
-- rest waits.
pub record Carries (state : Carried) (plan : Plan) (limited : Bool) (key nonce aad text : List ℕ) : Type 0 where
  pub limited_is : state.limited ≡ limited
  pub done : List ℕ
  pub text_is : text ≡ done ++ state.waiting.items
  pub size_is : length done ≡ done_under plan limited (length text)
  pub mode : ModeIs state.mode.value plan key nonce aad done
