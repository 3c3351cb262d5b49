-- What is kept of the plain list of tokens.
use Rattle.std.specs.Prelude.{◌≤◌, ℕ, List}
use Rattle.auth_tokens.specs.declared.token.AuthToken.{AuthToken}
use Rattle.token_store.specs.Table.{IsSound}
use Rattle.tags.specs.declared.limits.TheConstants.{MOST_TRIPLES}

-- it is sound, and there is memory for as many tokens as there is room for
pub record IsRoomy (tokens : List AuthToken) (capacity : ℕ) : Type 0 where
  pub sound : IsSound tokens
  pub memory : MOST_TRIPLES ≤ capacity
