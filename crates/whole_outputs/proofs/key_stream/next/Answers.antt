-- The last 32 bits, one greater.
use Rattle.std.proofs.Common.{◌≡◌, ℕ, ◌+◌, ◌%◌, ◌^◌, List, [], ◌++◌, length, take, drop, sym, ap, ◌∙◌, arith, rules, length-drop}
use Rattle.std.specs.Int.{w32, from_be_bytes, to_be_bytes}
use Rattle.std.proofs.lemmas.List.{drop_all, append-nil}
use Rattle.gcm_mode.specs.Counter.{inc32}
use Rattle.whole_outputs.specs.Streams.{next_of}
use Rattle.whole_outputs.proofs.key_stream.next.Goals as goal

pub returns-in-Last : goal.returns-in-Last
unfolding inc32
returns-in-Last c =
    let block : List ℕ = c.args.block in
    let long : length block ≡ 16 = search rules in
    let none : drop 4 (drop 12 block) ≡ [] = drop_all 4 (drop 12 block) (omega (arith, length-drop 12 block, long)) in
    let number : List ℕ = to_be_bytes w32 ((from_be_bytes w32 (drop 12 block) + 1) % 2 ^ 32) in
    let put : c.copy_from_slice.new.self ≡ number =
    c.copy_from_slice.ensures.after ∙ c.to_be_bytes-in-Last.ensures ∙ ap (λ (n : ℕ). to_be_bytes w32 ((n + 1) % 2 ^ 32)) c.last_number-number.ensures in
    ap (λ (l : List ℕ). take 12 block ++ (l ++ drop 4 (drop 12 block))) put
    ∙ ap (λ (l : List ℕ). take 12 block ++ (number ++ l)) none
    ∙ ap (λ (l : List ℕ). take 12 block ++ l) (append-nil number)
    ∙ ap (λ k. next_of k block) (sym c.in-Last.is)
