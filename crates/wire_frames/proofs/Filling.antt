-- Bytes are taken until a frame is whole.
use Rattle.std.proofs.Common.{◌≡◌, ◌⊎◌, ℕ, ◌+◌, ◌-◌, ◌<◌, ◌≤◌, List, ◌++◌, length, take, drop, sym, ap, ◌∙◌, arith, ⊎_elim, append_assoc, length-append}
use Rattle.std.proofs.Math.Seq.{take-add}
use Rattle.std.proofs.lemmas.Bool.{cases_lt}
use Rattle.std.proofs.lemmas.List.{length-drop, take_all, length-take-le, take-append-drop}
use Rattle.wire_frames.specs.Streams.{needed, IsPart}
use Rattle.wire_frames.proofs.Fronts.{needed_least, needed_low, needed_more}

-- what stands behind the first a bytes, as a slice has it
abbrev pub behind : ℕ → List ℕ → List ℕ
behind a xs = take (length xs - a) (drop a xs)

pub behind_is : (a : ℕ) (xs : List ℕ) → behind a xs ≡ drop a xs
behind_is a xs = take_all (length xs - a) (drop a xs) (omega (arith, length-drop a xs))

-- bytes that are taken, of those that are needed
pub still_enough : (held more : List ℕ) → length held + length more ≤ needed held → length (held ++ more) ≤ needed (held ++ more)
still_enough held more le = ⊎_elim
    (λ (lt : length held < 4). let low = needed_low held lt in let least = needed_least (held ++ more) in omega (arith, low, least, le, length-append held more))
    (λ (ge : 4 ≤ length held). let same = needed_more held more ge in omega (arith, same, le, length-append held more))
    (cases_lt (length held) 4)

-- one part more of a piece is taken
pub taken_more : (held piece new : List ℕ) (taken count : ℕ) → new ≡ (held ++ take taken piece) ++ take (taken + count - taken) (drop taken piece) → new ≡ held ++ take (taken + count) piece
taken_more held piece new taken count e =
    let width : taken + count - taken ≡ count = omega arith in
    e ∙ append_assoc held (take taken piece) (take (taken + count - taken) (drop taken piece))
    ∙ ap (λ (k : ℕ). held ++ (take taken piece ++ take k (drop taken piece))) width
    ∙ ap (λ (l : List ℕ). held ++ l) (sym (take-add taken count piece))

-- the part of a frame is taken whole
pub part_taken : (part : List ℕ) (n : ℕ) → IsPart part → n ≤ length part → (n ≡ length part) ⊎ (length (take n part) ≡ needed (take n part)) → take n part ≡ part
part_taken part n is within ends = ⊎_elim
    (λ (all : n ≡ length part). ap (λ (k : ℕ). take k part) all ∙ take_all (length part) part (omega arith))
    (λ (full : length (take n part) ≡ needed (take n part)).
    let long = length-take-le n part within in
    let least = needed_least (take n part) in
    let same : needed (take n part ++ drop n part) ≡ needed (take n part) = needed_more (take n part) (drop n part) (omega (arith, full, least)) in
    let whole : needed part ≡ needed (take n part) = ap needed (sym (take-append-drop n part)) ∙ same in
    absurd (omega (arith, is, whole, full, long, within)))
    ends

-- what is held now, and the rest of the piece
pub joined : (held piece new : List ℕ) (n : ℕ) → new ≡ held ++ take n piece → new ++ behind n piece ≡ held ++ piece
joined held piece new n e = (λ i. e i ++ behind_is n piece i) ∙ append_assoc held (take n piece) (drop n piece) ∙ ap (λ (l : List ℕ). held ++ l) (take-append-drop n piece)

-- the frame is not whole yet, so the whole piece is held
pub all_taken : (held piece new : List ℕ) (n : ℕ) → new ≡ held ++ take n piece → (n ≡ length piece) ⊎ (length new ≡ needed new) → length new < needed new → new ≡ held ++ piece
all_taken held piece new n e ends part = ⊎_elim
    (λ (all : n ≡ length piece). e ∙ ap (λ (l : List ℕ). held ++ l) (ap (λ (k : ℕ). take k piece) all ∙ take_all (length piece) piece (omega arith)))
    (λ (full : length new ≡ needed new). absurd (omega (arith, full, part)))
    ends
