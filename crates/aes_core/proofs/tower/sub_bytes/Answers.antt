use Rattle.std.proofs.Common.{◌≡◌, ℕ, List, length, map, replicate, ◌∙◌, ap}
use Rattle.std.proofs.lemmas.List.{length-map}
use Rattle.std.specs.Int.Bits.{bit_xor}
use Rattle.std.specs.Simd.Lanes.{zip2}
use Rattle.std.proofs.lemmas.Simd.{zip2_splat, map-map}
use Rattle.aes_core.specs.Field.{sub_byte}
use Rattle.aes_core.specs.Tower.{to_tower, out}
use Rattle.aes_core.proofs.TowerLemmas.{map_same, boxed_at}
use Rattle.aes_core.proofs.tower.sub_bytes.Goals as goal

pub returns : goal.returns
returns c =
    let made : c.sub_out_of_tower.result ≡ map (λ b. out (to_tower b)) c.args.x = c.sub_out_of_tower.ensures ∙ ap (map out) c.to_tower.ensures ∙ map-map out to_tower c.args.x in
    let size : length (map (λ b. out (to_tower b)) c.args.x) ≡ 16 = length-map c.args.x (λ b. out (to_tower b)) ∙ c.fits-x.0 in
    c.sum.ensures
    ∙ ap (λ (l : List ℕ). zip2 bit_xor l (replicate 16 0x63)) made
    ∙ zip2_splat bit_xor (map (λ b. out (to_tower b)) c.args.x) 16 0x63 size
    ∙ map-map (λ v. bit_xor v 0x63) (λ b. out (to_tower b)) c.args.x
    ∙ map_same (λ b. bit_xor (out (to_tower b)) 0x63) sub_byte c.args.x boxed_at c.fits-x.1
