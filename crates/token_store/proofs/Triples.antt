-- Triples of user, authenticator and kind, compared.
use Rattle.std.proofs.Common.{◌≡◌, ℕ, ◌==◌, ◌&&◌, true, false, refl, sym, ◌∙◌, inl, inr}
use Rattle.std.proofs.lemmas.Bool.{eqb-true, eq-eqb, and_parts, cases_Bool}
use Rattle.auth_tokens.specs.declared.token.AuthToken.{AuthToken}
use Rattle.token_store.specs.Table.{is_of, is_like}

-- the token has these three numbers
pub record HasTriple (user authenticator kind : ℕ) (token : AuthToken) : Type 0 where
  pub user_is : token.user ≡ user
  pub authenticator_is : token.authenticator ≡ authenticator
  pub kind_is : token.kind ≡ kind

pub has_triple : (u a k : ℕ) (t : AuthToken) → is_of u a k t ≡ true → HasTriple u a k t
has_triple u a k t e =
    let parts = and_parts (t.user == u) ((t.authenticator == a) && (t.kind == k)) e in
    let later = and_parts (t.authenticator == a) (t.kind == k) parts.1 in
    record { user_is = eqb-true t.user u parts.0; authenticator_is = eqb-true t.authenticator a later.0; kind_is = eqb-true t.kind k later.1 }

pub is_of_triple : (u a k : ℕ) (t : AuthToken) → HasTriple u a k t → is_of u a k t ≡ true
is_of_triple u a k t h = rw (eq-eqb t.user u h.user_is, eq-eqb t.authenticator a h.authenticator_is, eq-eqb t.kind k h.kind_is) refl

-- a token is of its own triple
pub like_itself : (t : AuthToken) → is_like t t ≡ true
like_itself t = is_of_triple t.user t.authenticator t.kind t (record { user_is = refl; authenticator_is = refl; kind_is = refl })

-- two tokens of one triple are each like the other, and like the same tokens
pub like_back : (s t : AuthToken) → is_like s t ≡ true → is_like t s ≡ true
like_back s t e =
    let h = has_triple s.user s.authenticator s.kind t e in
    is_of_triple t.user t.authenticator t.kind s (record { user_is = sym h.user_is; authenticator_is = sym h.authenticator_is; kind_is = sym h.kind_is })

pub unlike_back : (s t : AuthToken) → is_like s t ≡ false → is_like t s ≡ false
unlike_back s t e = elim (cases_Bool (is_like t s)) [
  | inl same ↦ absurd (let back = like_back t s same in cc)
  | inr other ↦ other
]

-- a token of this triple is like the tokens of this triple
pub like_same : (u a k : ℕ) (s t : AuthToken) → is_of u a k s ≡ true → is_of u a k t ≡ true → is_like s t ≡ true
like_same u a k s t of_s of_t =
    let hs = has_triple u a k s of_s in
    let ht = has_triple u a k t of_t in
    is_of_triple s.user s.authenticator s.kind t (record {
      user_is = ht.user_is ∙ sym hs.user_is;
      authenticator_is = ht.authenticator_is ∙ sym hs.authenticator_is;
      kind_is = ht.kind_is ∙ sym hs.kind_is;
    })

-- one that is like a token of this triple is of this triple
pub like_triple : (u a k : ℕ) (s t : AuthToken) → is_of u a k s ≡ true → is_like s t ≡ true → is_of u a k t ≡ true
like_triple u a k s t of_s like =
    let hs = has_triple u a k s of_s in
    let ht = has_triple s.user s.authenticator s.kind t like in
    is_of_triple u a k t (record {
      user_is = ht.user_is ∙ hs.user_is;
      authenticator_is = ht.authenticator_is ∙ hs.authenticator_is;
      kind_is = ht.kind_is ∙ hs.kind_is;
    })
