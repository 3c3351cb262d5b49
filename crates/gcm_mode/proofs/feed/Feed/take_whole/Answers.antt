use Rattle.std.proofs.Common.{◌≡◌, ◌*◌, ◌/◌, ◌++◌, ◌∙◌, ap, List, ℕ, length, take, drop}
use Rattle.std.proofs.lemmas.List.{append_assoc, take-append-drop}
use Rattle.gcm_mode.proofs.Cutting.{first_chunks_are}
use Rattle.gcm_mode.proofs.feed.Feed.take_whole.Goals as goal

pub returns : goal.returns
returns c = λ h bytes held whole.
    let input : List ℕ = c.args.input.now in
    let all : (bytes ++ take (length c.args.input.now / 16 * 16) c.args.input.now) ++ drop (length c.args.input.now / 16 * 16) c.args.input.now ≡ bytes ++ c.args.input.now =
    append_assoc bytes (take (length c.args.input.now / 16 * 16) c.args.input.now) (drop (length c.args.input.now / 16 * 16) c.args.input.now)
    ∙ ap (λ (l : List ℕ). bytes ++ l) (take-append-drop (length c.args.input.now / 16 * 16) c.args.input.now) in
    let got = c.take_each.ensures h (bytes ++ take (length c.args.input.now / 16 * 16) c.args.input.now)
    (c.take_blocks.ensures h bytes c.args.input.now held whole (c.as_chunks.ensures.front ∙ first_chunks_are (length c.args.input.now / 16) c.args.input.now)) in
    rw (c.as_chunks.ensures.back, all) at got
