-- Where the material of a new key comes from.
use Rattle.std.specs.Prelude.{ℕ, ◌-◌, List, [], Option, Some, None, length, unwrap_or}
use Rattle.tags.specs.Values.{RAW}
use Rattle.key_rules.specs.declared.facts.ImportFacts.{ImportFacts}
use Rattle.key_rules.specs.declared.facts.WrapFacts.{WrapFacts}

-- what the rules read of an import, what they read of the key that it comes wrapped under, and the material, where it is not drawn
pub record KeySource : Type 0 where
  pub import : Option ImportFacts
  pub wrapped : Option WrapFacts
  pub material : Option (List ℕ)

-- the material is drawn
abbrev pub generated : KeySource
generated = record { import = None; wrapped = None; material = None }

-- it comes in a format of this number
abbrev pub imported : ℕ → List ℕ → KeySource
imported format material = record { import = Some (record { format = format; length = length material }); wrapped = None; material = Some material }

-- It comes wrapped, and its text is RAW. The rules of an import read its length behind those of the wrapped text: a text has eight
-- bytes fewer than what it is wrapped into (SP 800-38F section 6.2, algorithm 4).
abbrev pub unwrapped : WrapFacts → Option (List ℕ) → KeySource
unwrapped facts text = record {
  import = Some (record { format = RAW; length = facts.length - 8 });
  wrapped = Some facts;
  material = Some (unwrap_or text []);
}
