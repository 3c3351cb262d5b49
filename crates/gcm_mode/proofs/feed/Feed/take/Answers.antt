use Rattle.std.proofs.Common.{◌≡◌, ◌+◌, ◌-◌, ◌%◌, ◌≤◌, ◌++◌, ◌∙◌, ap, List, ℕ, length, take, drop, arith, length-append}
use Rattle.std.proofs.lemmas.List.{append_assoc, take-append-drop, length-take-le}
use Rattle.gcm_mode.proofs.feed.Feed.take.Goals as goal

pub returns : goal.returns
returns c = λ h bytes held.
    let room : ℕ = (16 - c.args.self.now.filled % 16) % 16 in
    let filled_is : c.args.self.now.filled ≡ length bytes % 16 = held.filled in
    let enough : (16 - c.args.self.now.filled % 16) % 16 ≤ length c.args.input.now = c.if-input-room.false in
    let front : length (take ((16 - c.args.self.now.filled % 16) % 16) c.args.input.now) ≡ (16 - c.args.self.now.filled % 16) % 16 =
    length-take-le ((16 - c.args.self.now.filled % 16) % 16) c.args.input.now enough in
    let sum : length (bytes ++ take ((16 - c.args.self.now.filled % 16) % 16) c.args.input.now) ≡ length bytes + (16 - c.args.self.now.filled % 16) % 16 =
    length-append bytes (take ((16 - c.args.self.now.filled % 16) % 16) c.args.input.now) ∙ ap (λ (k : ℕ). length bytes + k) front in
    let all : (bytes ++ take ((16 - c.args.self.now.filled % 16) % 16) c.args.input.now) ++ drop ((16 - c.args.self.now.filled % 16) % 16) c.args.input.now ≡ bytes ++ c.args.input.now =
    append_assoc bytes (take ((16 - c.args.self.now.filled % 16) % 16) c.args.input.now) (drop ((16 - c.args.self.now.filled % 16) % 16) c.args.input.now)
    ∙ ap (λ (l : List ℕ). bytes ++ l) (take-append-drop ((16 - c.args.self.now.filled % 16) % 16) c.args.input.now) in
    let before = rw c.split_at.ensures.front at (c.take_each-2.ensures h bytes held) in
    let got = c.take_whole.ensures h (bytes ++ take ((16 - c.args.self.now.filled % 16) % 16) c.args.input.now) before (omega arith) in
    rw (c.split_at.ensures.back, all) at got
