-- The bytes that a job gives are the pieces of the definitions.
use Rattle.std.proofs.Common.{◌≡◌, ℕ, ◌+◌, Bool, true, false, List, [], ◌++◌, length, take, drop, refl, sym, ap, ◌∙◌}
use Rattle.std.proofs.Math.Seq.{take-add}
use Rattle.std.proofs.lemmas.List.{append-nil, append_assoc, take_at, drop_at}
use Rattle.std.specs.Prelude.{Option, Result, Ok, Err}
use Rattle.tags.specs.declared.plan.Plan.{Plan}
use Rattle.tags.specs.declared.code.Code.{Code}
use Rattle.cipher_ops.specs.Output.{front, full_front, whole, update_output, behind, finish_output}
use Rattle.cipher_ops.specs.Standing.{given, kept}
use Rattle.cipher_ops.proofs.GivenLemmas.{piece_is, given_none}

-- the front of two parts
pub front_of_both : (xs ys : List ℕ) (n m : ℕ) → length xs ≡ n → take (n + m) (xs ++ ys) ≡ xs ++ take m ys
front_of_both xs ys n m size =
    take-add n m (xs ++ ys) ∙ ap (λ (l : List ℕ). l ++ take m (drop n (xs ++ ys))) (take_at xs ys n size) ∙ ap (λ (l : List ℕ). xs ++ take m l) (drop_at xs ys n size)

-- what was given, with what is held and a piece behind it
pub joined_more : (before held piece now later : List ℕ) → before ++ held ≡ now → now ++ piece ≡ later → before ++ (held ++ piece) ≡ later
joined_more before held piece now later joined more = sym (append_assoc before held piece) ∙ ap (λ (l : List ℕ). l ++ piece) joined ∙ more

-- under a use limit all of it is held
pub kept_all : (limited : Bool) (held bytes now later : List ℕ) → limited ≡ true → held ≡ kept limited now → ([] ++ held ≡ now → [] ++ bytes ≡ later) → bytes ≡ kept limited later
kept_all true held bytes now later is held_is more = more held_is
kept_all false held bytes now later is held_is more = cc

-- without one nothing is held
pub kept_none : (limited : Bool) (held now later : List ℕ) → limited ≡ false → held ≡ kept limited now → held ≡ kept limited later
kept_none true held now later is held_is = cc
kept_none false held now later is held_is = held_is

-- under a use limit nothing is given
pub nothing_out : (plan : Plan) (limited : Bool) (key nonce a b : List ℕ) → limited ≡ true → [] ≡ update_output plan limited key nonce a b
nothing_out plan true key nonce a b is = refl
nothing_out plan false key nonce a b is = cc

-- without one the piece is given
pub piece_out : (plan : Plan) (limited : Bool) (key nonce text more held bytes : List ℕ) → limited ≡ false → length (given plan key nonce text) ≡ full_front plan text
    → held ≡ kept limited (given plan key nonce text) → (given plan key nonce text ++ held ≡ given plan key nonce text → given plan key nonce text ++ bytes ≡ given plan key nonce more)
    → bytes ≡ update_output plan limited key nonce text more
piece_out plan true key nonce text more held bytes is within held_is joined = cc
piece_out plan false key nonce text more held bytes is within held_is joined =
    piece_is plan key nonce text bytes (given plan key nonce more) within
    (joined (ap (λ (l : List ℕ). given plan key nonce text ++ l) held_is ∙ append-nil (given plan key nonce text)))

abbrev pub done : List ℕ → Result (List ℕ) Code
done bytes = Ok bytes

-- what was given before the end
abbrev pub before_end : Bool → List ℕ → List ℕ
before_end true bytes = []
before_end false bytes = bytes

pub before_is : (limited : Bool) (held now : List ℕ) → held ≡ kept limited now → before_end limited now ++ held ≡ now
before_is true held now held_is = held_is
before_is false held now held_is = ap (λ (l : List ℕ). now ++ l) held_is ∙ append-nil now

-- the end gives what was not given before
pub end_out : (plan : Plan) (limited : Bool) (key nonce aad text more bytes : List ℕ) (signature : Option (List ℕ)) → length (given plan key nonce text) ≡ full_front plan text
    → whole plan key nonce aad more signature ≡ Ok (before_end limited (given plan key nonce text) ++ bytes)
    → done bytes ≡ finish_output plan limited key nonce aad text more signature
end_out plan true key nonce aad text more bytes signature within ends = sym (ap (λ (r : Result (List ℕ) Code). behind 0 r) ends)
end_out plan false key nonce aad text more bytes signature within ends =
    ap done (sym (drop_at (given plan key nonce text) bytes (full_front plan text) within)) ∙ sym (ap (λ (r : Result (List ℕ) Code). behind (full_front plan text) r) ends)

abbrev failed : Code → Result (List ℕ) Code
failed code = Err code

pub end_fault : (plan : Plan) (limited : Bool) (key nonce aad text more : List ℕ) (signature : Option (List ℕ)) (code : Code)
    → whole plan key nonce aad more signature ≡ Err code → failed code ≡ finish_output plan limited key nonce aad text more signature
end_fault plan limited key nonce aad text more signature code ends = sym (ap (λ (r : Result (List ℕ) Code). behind (front plan limited text) r) ends)

pub kept_at_begin : (plan : Plan) (limited : Bool) (key nonce held : List ℕ) → held ≡ [] → held ≡ kept limited (given plan key nonce [])
kept_at_begin plan true key nonce held none = none ∙ sym (given_none plan key nonce)
kept_at_begin plan false key nonce held none = none
