-- How the lines of a load go on.
use Rattle.std.proofs.Common.{◌≡◌, ℕ, zero, suc, ◌+◌, ◌-◌, ◌<◌, List, ◌∷◌, if◌then◌else◌, ◌++◌, [], drop, get_or, refl, ap, arith}
use Rattle.std.proofs.lemmas.List.{drop_more}
use Rattle.rand_chacha.specs.ChaCha.{ChaCha}
use Rattle.soak_lines.specs.declared.call.DrawnWords.{DrawnWords}
use Rattle.soak_lines.specs.declared.call.SoakCall.{SoakCall}
use Rattle.soak_lines.specs.Calls.{call_of, is_begin}
use Rattle.soak_lines.specs.Lines.{lines_from, opening, text_of, words_at}

pub next_is : (left number begins added : ℕ) (g later : ChaCha) (words : DrawnWords) (call : SoakCall) (text : List ℕ)
    → 0 < left → words ≡ (words_at g).0 → later ≡ (words_at g).1 → call ≡ call_of begins words → added ≡ (if is_begin call then 1 else 0)
    → text ≡ text_of (record { number = number + 1; call = call })
    → lines_from left (record { number = number; begins = begins; generator = g })
    ≡ text ∷ lines_from (left - 1) (record { number = number + 1; begins = begins + added; generator = later })
next_is zero number begins added g later words call text some words_is later_is call_is added_is text_is = absurd (omega (arith, some))
next_is (suc n) number begins added g later words call text some words_is later_is call_is added_is text_is =
    let fewer : suc n - 1 ≡ n = omega arith in
    rw (text_is, added_is, call_is, words_is, later_is, fewer) refl

pub opens_next : (i : ℕ) (rest : List (List ℕ)) (text : List ℕ) → i < 7 → text ≡ get_or opening i [] → drop i opening ++ rest ≡ text ∷ (drop (i + 1) opening ++ rest)
opens_next i rest text few is = rw is (ap (λ (l : List (List ℕ)). l ++ rest) (drop_more opening i [] few))
