-- Copies of listings.
use Rattle.std.proofs.Common.{◌≡◌, ℕ, ◌+◌, ◌<◌, ◌≤◌, List, [], ◌∷◌, ◌++◌, length, get_or, take, refl, sym, ◌∙◌, arith}
use Rattle.std.proofs.lemmas.List.{take_more}
use Rattle.std.proofs.lemmas.List.Elements.{All-get_or}
use Rattle.rule_model.specs.ReplyRooms.{AreWithin}
use Rattle.tags.specs.declared.limits.TheConstants.{ALIAS_BYTES}

abbrev Listed : Type 0
Listed = List ℕ × ℕ

pub none_yet : (xs : List Listed) → length xs ≡ 0 → xs ≡ []
none_yet [] e = refl
none_yet (x ∷ xs) e = absurd (omega (arith, e))

-- one entry more was copied
pub copied_more : (source copied now : List Listed) (i : ℕ) (d : Listed) (alias : List ℕ) (key : ℕ) → i < length source → copied ≡ take i source
    → now ≡ copied ++ (alias, key) ∷ [] → alias ≡ (get_or source i d).0 → key ≡ (get_or source i d).1 → now ≡ take (i + 1) source
copied_more source copied now i d alias key inside so_far is one two =
    is ∙ (λ t. so_far t ++ (one t, two t) ∷ []) ∙ sym (take_more source i d inside)

pub alias_short : (most : ℕ) (source : List Listed) (i : ℕ) (d : Listed) → i < length source → AreWithin most source → length (get_or source i d).0 ≤ ALIAS_BYTES
alias_short most source i d inside within = All-get_or (λ (entry : Listed). length entry.0 ≤ ALIAS_BYTES) source i d inside within.1
