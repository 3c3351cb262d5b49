use Rattle.std.proofs.Common.{◌≡◌, ℕ, List, ◌++◌, ◌*◌, ◌/◌, length, append_assoc, ap, ◌∙◌, subst}
use Rattle.std.proofs.lemmas.List.{take-append-drop}
use Rattle.ghash.specs.Hash.{Holds}
use Rattle.ghash.proofs.state.Ghash.absorb_all.Goals as goal

pub returns : goal.returns
returns c h before held =
    let blocks : List (List ℕ) = c.args.blocks.now in
    let groups : List (List ℕ) = c.split_at.result.0.now in
    let rest : List (List ℕ) = c.split_at.result.1.now in
    let joined : groups ++ rest ≡ blocks = rw (c.split_at.ensures.front, c.split_at.ensures.back) (take-append-drop (length blocks / 16 * 16) blocks) in
    subst (Holds c.absorb_each-2.new.self h) (append_assoc before groups rest ∙ ap (λ (xs : List (List ℕ)). before ++ xs) joined)
    (c.absorb_each-2.ensures h (before ++ groups) (c.absorb_groups.ensures h before held))
