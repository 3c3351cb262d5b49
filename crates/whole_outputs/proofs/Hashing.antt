-- The hash of a string as it grows.
use Rattle.std.proofs.Common.{◌≡◌, ℕ, zero, suc, ◌+◌, ◌-◌, ◌*◌, ◌/◌, ◌%◌, ◌<◌, ◌≤◌, List, [], ◌∷◌, ◌++◌, length, take, drop, replicate, refl, sym, ap, ◌∙◌, arith, append_assoc, append-nil, length-drop}
use Rattle.std.specs.List.{concat}
use Rattle.std.specs.Simd.{first_chunks}
use Rattle.std.proofs.lemmas.List.{take-append-drop, take_all, nil_from_length, take_at, drop_at}
use Rattle.std.proofs.lemmas.List.Folds.{concat-append}
use Rattle.block_modes.specs.Texts.{AreBlocks, pieces_of}
use Rattle.block_modes.proofs.PieceLemmas.{AreBlocks-snoc, length-text}
use Rattle.block_modes.proofs.RunLemmas.{are_pieces, concat-pieces}
use Rattle.ghash.specs.Hash.{Holds}
use Rattle.gcm_mode.specs.Blocks.{first_blocks, blocks_of, padded}
use Rattle.gcm_mode.proofs.Cutting.{blocks_of_whole}
use Rattle.whole_outputs.specs.Hashes.{Hashes}
use Rattle.whole_outputs.specs.declared.text_hash.TextHash.{TextHash}

AreBlocks-append : (a b : List (List ℕ)) → AreBlocks a → AreBlocks b → AreBlocks (a ++ b)
AreBlocks-append [] b p q = q
AreBlocks-append (x ∷ a) b p q = (p.0, AreBlocks-append a b p.1 q)

pub chunks_are : (m : ℕ) (xs : List ℕ) → first_chunks 16 m xs ≡ pieces_of m xs
chunks_are zero xs = refl
chunks_are (suc m) xs = ap (λ (l : List (List ℕ)). take 16 xs ∷ l) (chunks_are m (drop 16 xs))

-- ---- one piece more

-- a piece that does not fill a block
pub taken_part : (s : TextHash) (subkey before bytes rest : List ℕ) (count : ℕ) → Hashes s subkey before → rest ≡ s.rest ++ take count bytes → length bytes ≤ count → length rest < 16 →
    Hashes (record s { rest = rest }) subkey (before ++ bytes)
taken_part s subkey before bytes rest count held is all few = record {
  blocks = held.blocks;
  each = held.each;
  bytes_are =
      ap (λ (l : List ℕ). l ++ bytes) held.bytes_are
      ∙ append_assoc (concat held.blocks) s.rest bytes
      ∙ ap (λ (l : List ℕ). concat held.blocks ++ (s.rest ++ l)) (sym (take_all count bytes all))
      ∙ ap (λ (l : List ℕ). concat held.blocks ++ l) (sym is);
  few = few;
  hash = held.hash;
}

-- a piece that fills it: the block, the whole blocks behind it, and the rest
pub taken_blocks : (s n : TextHash) (subkey before bytes full more : List ℕ) (count m : ℕ) → Hashes s subkey before → full ≡ s.rest ++ take count bytes → length full ≡ 16 →
    more ≡ drop count bytes → m ≡ length more / 16 → n.rest ≡ drop (16 * m) more →
    ((blocks : List (List ℕ)) → Holds s.hash subkey blocks → Holds n.hash subkey ((blocks ++ full ∷ []) ++ pieces_of m more)) → Hashes n subkey (before ++ bytes)
taken_blocks s n subkey before bytes full more count m held is whole more_is m_is rest absorbed =
    let front : List (List ℕ) = held.blocks ++ full ∷ [] in
    let fits : 16 * m ≤ length more = omega arith in
    let joined : concat (front ++ pieces_of m more) ≡ (concat held.blocks ++ full) ++ take (16 * m) more =
    concat-append front (pieces_of m more)
    ∙ ap (λ (l : List ℕ). l ++ concat (pieces_of m more)) (concat-append held.blocks (full ∷ []) ∙ ap (λ (l : List ℕ). concat held.blocks ++ l) (append-nil full))
    ∙ ap (λ (l : List ℕ). (concat held.blocks ++ full) ++ l) (concat-pieces m more) in
    let all : before ++ bytes ≡ (concat held.blocks ++ full) ++ more =
    ap (λ (l : List ℕ). l ++ bytes) held.bytes_are
    ∙ append_assoc (concat held.blocks) s.rest bytes
    ∙ ap (λ (l : List ℕ). concat held.blocks ++ (s.rest ++ l)) (sym (take-append-drop count bytes))
    ∙ ap (λ (l : List ℕ). concat held.blocks ++ l) (sym (append_assoc s.rest (take count bytes) (drop count bytes)))
    ∙ ap (λ (l : List ℕ). concat held.blocks ++ (l ++ drop count bytes)) (sym is)
    ∙ ap (λ (l : List ℕ). concat held.blocks ++ (full ++ l)) (sym more_is)
    ∙ sym (append_assoc (concat held.blocks) full more) in
    record {
      blocks = front ++ pieces_of m more;
      each = AreBlocks-append front (pieces_of m more) (AreBlocks-snoc held.blocks full held.each whole) (are_pieces m more fits);
      bytes_are =
          all
          ∙ ap (λ (l : List ℕ). (concat held.blocks ++ full) ++ l) (sym (take-append-drop (16 * m) more))
          ∙ sym (append_assoc (concat held.blocks ++ full) (take (16 * m) more) (drop (16 * m) more))
          ∙ ap (λ (l : List ℕ). l ++ drop (16 * m) more) (sym joined)
          ∙ ap (λ (l : List ℕ). concat (front ++ pieces_of m more) ++ l) (sym rest);
      few = omega (arith, ap length rest, length-drop (16 * m) more);
      hash = absorbed held.blocks held.hash;
    }

-- ---- the end

first_are : (bs : List (List ℕ)) → AreBlocks bs → first_blocks (length bs) (concat bs) ≡ bs
unfolding first_blocks
first_are [] h = refl
first_are (b ∷ bs) h = rw (take_at b (concat bs) 16 h.0, drop_at b (concat bs) 16 h.0, first_are bs h.1) refl

-- a string of whole blocks
pub blocks_taken : (s : TextHash) (subkey bytes : List ℕ) (held : Hashes s subkey bytes) → length bytes % 16 ≡ 0 → blocks_of bytes ≡ held.blocks
blocks_taken s subkey bytes held whole =
    let size : length bytes ≡ 16 * length held.blocks + length s.rest = ap length held.bytes_are ∙ length-text held.blocks s.rest held.each in
    let none : s.rest ≡ [] = nil_from_length s.rest (omega (arith, size, whole, held.few)) in
    let count : length bytes / 16 ≡ length held.blocks = omega (arith, size, whole, held.few) in
    let same : bytes ≡ concat held.blocks = held.bytes_are ∙ ap (λ (l : List ℕ). concat held.blocks ++ l) none ∙ append-nil (concat held.blocks) in
    blocks_of_whole bytes whole ∙ ap (λ (n : ℕ). first_blocks n bytes) count ∙ ap (λ (l : List ℕ). first_blocks (length held.blocks) l) same ∙ first_are held.blocks held.each

-- zeros up to whole blocks
pub padded_is : (s : TextHash) (subkey before zeros : List ℕ) (count : ℕ) → Hashes s subkey before → count ≡ (16 - length s.rest) % 16 → zeros ≡ replicate count 0 → before ++ zeros ≡ padded before
padded_is s subkey before zeros count held is zeros_are =
    let size : length before ≡ 16 * length held.blocks + length s.rest = ap length held.bytes_are ∙ length-text held.blocks s.rest held.each in
    let same : count ≡ (16 - length before % 16) % 16 = omega (arith, size, is, held.few) in
    ap (λ (l : List ℕ). before ++ l) zeros_are ∙ ap (λ (n : ℕ). before ++ replicate n 0) same
