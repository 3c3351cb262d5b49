-- A blob that was made opens again.
use Rattle.std.proofs.Common.{◌≡◌, ℕ, ◌+◌, ◌-◌, ◌≤◌, false, ltb, List, [], ◌++◌, length, take, drop, Some, Ok, refl, ap, arith}
use Rattle.std.proofs.lemmas.Bool.{le-ltb}
use Rattle.std.proofs.lemmas.List.{take_at, drop_at, length-append}
use Rattle.aes_core.specs.Cipher.{cipher}
use Rattle.gcm_mode.specs.Gcm.{gcm_open, open_given, raw}
use Rattle.key_blobs.specs.declared.sealed.Sealed.{Sealed}
use Rattle.key_blobs.specs.Text.{sealed_in}
use Rattle.key_blobs.specs.Blobs.{START, opened}

-- what was written before the sealed text stays
pub head_kept : (nonce rest : List ℕ) → length nonce ≡ 12 → take 16 (START ++ (nonce ++ rest)) ≡ START ++ nonce
head_kept nonce rest len = ap (λ (l : List ℕ). START ++ l) (take_at nonce rest 12 len)

pub opened_again : (key nonce sealed text : List ℕ) (x : Sealed) → length nonce ≡ 12 → 16 ≤ length sealed
    → gcm_open (cipher key) nonce 16 START sealed ≡ Some text → sealed_in text ≡ Some x → opened key ((START ++ nonce) ++ sealed) ≡ Ok x
unfolding opened
opened_again key nonce sealed text x len long opens reads =
    let size : ltb (length ((START ++ nonce) ++ sealed)) 32 ≡ false = le-ltb _ _ (omega (arith, length-append nonce sealed, len)) in
    let number : take 12 (nonce ++ sealed) ≡ nonce = take_at nonce sealed 12 len in
    let behind : drop 12 (nonce ++ sealed) ≡ sealed = drop_at nonce sealed 12 len in
    rw (size, number, behind, opens, reads) refl

pub nothing : (f : List ℕ → List ℕ) (nonce : List ℕ) (tag : ℕ) → open_given f nonce tag [] ≡ []
nothing f nonce tag =
    let front : 0 - tag ≡ 0 = omega arith in
    ap (λ (n : ℕ). take n (raw f nonce [])) front
