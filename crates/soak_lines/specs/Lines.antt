-- The lines of the load: seven that are the same for every seed, and then one for each four words of the generator.
use Rattle.std.specs.Prelude.{◌≡◌, ℕ, zero, suc, ◌+◌, ◌++◌, List, [], ◌∷◌, Option, Some, None, codes, replicate, if◌then◌else◌, string_bytes}
use Rattle.std.specs.Fmt.{decimal}
use Rattle.std.specs.Int.{w32, w64, to_be_bytes, to_le_bytes}
use Rattle.std.specs.declared.string.String.{String}
use Rattle.std.specs.declared.alloc.Global.{Global}
use Rattle.hex.specs.Hex.{encode_lower}
use Rattle.rand_chacha.specs.ChaCha.{ChaCha, next_word, of_seed}
use Rattle.soak_lines.specs.declared.call.DrawnWords.{DrawnWords}
use Rattle.soak_lines.specs.declared.call.SoakCall.{SoakCall}
use Rattle.soak_lines.specs.declared.call.SoakCall.TheVariants as calls
use Rattle.soak_lines.specs.declared.line.SoakLine.{SoakLine}
use Rattle.soak_lines.specs.Calls.{call_of, is_begin}

-- ---- the text of a line

abbrev pub client_in : SoakCall → ℕ
client_in (calls.BeginGcm word) = 2
client_in (calls.Update client op size byte) = client
client_in (calls.Finish client op size byte) = client
client_in (calls.Abort client op) = client
client_in (calls.Count client) = client
client_in _ = 1

abbrev pub hex_of_word : ℕ → List ℕ
hex_of_word word = encode_lower (to_be_bytes w32 word)

abbrev pub hex_of_input : ℕ → ℕ → List ℕ
hex_of_input size byte = encode_lower (replicate size byte)

-- the act and its fields
abbrev pub members_of : SoakCall → List ℕ
members_of calls.BeginMac = codes "\"do\":\"createOperation\",\"key\":{\"domain\":0,\"alias\":\"h\"},\"params\":[[\"PURPOSE\",2],[\"MAC_LENGTH\",256]]"
members_of (calls.BeginCbc word) =
    codes "\"do\":\"createOperation\",\"key\":{\"domain\":0,\"alias\":\"a\"},\"params\":[[\"PURPOSE\",0],[\"BLOCK_MODE\",2],[\"PADDING\",64],[\"NONCE\",\""
    ++ (hex_of_word word ++ (hex_of_word word ++ (hex_of_word word ++ (hex_of_word word ++ codes "\"]]"))))
members_of (calls.BeginGcm word) =
    codes "\"do\":\"createOperation\",\"key\":{\"domain\":1,\"nspace\":1},\"params\":[[\"PURPOSE\",0],[\"BLOCK_MODE\",32],[\"PADDING\",1],[\"MAC_LENGTH\",128],[\"NONCE\",\""
    ++ (hex_of_word word ++ (hex_of_word word ++ (hex_of_word word ++ codes "\"]]")))
members_of calls.BeginLimited = codes "\"do\":\"createOperation\",\"key\":{\"domain\":0,\"alias\":\"u\"},\"params\":[[\"PURPOSE\",2],[\"MAC_LENGTH\",256]]"
members_of (calls.Update client op size byte) = codes "\"do\":\"update\",\"op\":" ++ (decimal op ++ (codes ",\"input\":\"" ++ (hex_of_input size byte ++ codes "\"")))
members_of (calls.Finish client op size byte) = codes "\"do\":\"finish\",\"op\":" ++ (decimal op ++ (codes ",\"input\":\"" ++ (hex_of_input size byte ++ codes "\"")))
members_of (calls.Abort client op) = codes "\"do\":\"abort\",\"op\":" ++ decimal op
members_of (calls.Count client) = codes "\"do\":\"getNumberOfEntries\",\"domain\":0"

-- a line is a JSON object: its reading is its number and a thousand more
abbrev pub text_of : SoakLine → List ℕ
text_of line =
    codes "{\"t\":[" ++ (decimal line.number ++ (codes "," ++ (decimal (line.number + 1000) ++ (codes "],\"c\":"
    ++ (decimal (client_in line.call) ++ (codes "," ++ (members_of line.call ++ codes "}")))))))

-- ---- the lines

-- three clients connect; the first imports a key for macs, one for AES and one for macs with a use limit, and grants the second one
abbrev pub opening : List (List ℕ)
opening =
    codes "{\"t\":[1,1001],\"do\":\"connect\",\"uid\":10001}"
    ∷ codes "{\"t\":[2,1002],\"do\":\"connect\",\"uid\":10002}"
    ∷ codes "{\"t\":[3,1003],\"do\":\"connect\",\"uid\":1000}"
    ∷ codes "{\"t\":[4,1004],\"c\":1,\"do\":\"importKey\",\"key\":{\"domain\":0,\"alias\":\"h\"},\"params\":[[\"PURPOSE\",2],[\"PURPOSE\",3],[\"ALGORITHM\",128],[\"DIGEST\",4],[\"MIN_MAC_LENGTH\",64],[\"NO_AUTH_REQUIRED\",true]],\"format\":3,\"material\":\"1111111111111111111111111111111111111111111111111111111111111111\"}"
    ∷ codes "{\"t\":[5,1005],\"c\":1,\"do\":\"importKey\",\"key\":{\"domain\":0,\"alias\":\"a\"},\"params\":[[\"PURPOSE\",0],[\"PURPOSE\",1],[\"ALGORITHM\",32],[\"BLOCK_MODE\",1],[\"BLOCK_MODE\",2],[\"BLOCK_MODE\",3],[\"BLOCK_MODE\",32],[\"PADDING\",1],[\"PADDING\",64],[\"MIN_MAC_LENGTH\",96],[\"CALLER_NONCE\",true],[\"NO_AUTH_REQUIRED\",true]],\"format\":3,\"material\":\"22222222222222222222222222222222\"}"
    ∷ codes "{\"t\":[6,1006],\"c\":1,\"do\":\"importKey\",\"key\":{\"domain\":0,\"alias\":\"u\"},\"params\":[[\"PURPOSE\",2],[\"PURPOSE\",3],[\"ALGORITHM\",128],[\"DIGEST\",4],[\"MIN_MAC_LENGTH\",64],[\"NO_AUTH_REQUIRED\",true],[\"USAGE_COUNT_LIMIT\",50]],\"format\":3,\"material\":\"3333333333333333333333333333333333333333333333333333333333333333\"}"
    ∷ codes "{\"t\":[7,1007],\"c\":1,\"do\":\"grant\",\"key\":{\"domain\":0,\"alias\":\"a\"},\"uid\":10002,\"bits\":260}"
    ∷ []

-- the seed of a generator: a number's eight bytes, the lowest first, a byte that tells the generators apart, and 23 zeros
abbrev pub seed_of : ℕ → ℕ → List ℕ
seed_of seed which = to_le_bytes w64 seed ++ (which ∷ replicate 23 0)

-- four words, and the generator behind them
abbrev pub drawn : ChaCha → ℕ × ChaCha
drawn generator = next_word 10 generator

abbrev pub words_at : ChaCha → DrawnWords × ChaCha
words_at g = (
  record { kind = (drawn g).0; client = (drawn (drawn g).1).0; op = (drawn (drawn (drawn g).1).1).0; input = (drawn (drawn (drawn (drawn g).1).1).1).0 },
  (drawn (drawn (drawn (drawn g).1).1).1).1,
)

-- where a load stands: how many lines there are so far, how many of them begin an operation, and the generator
pub record Place : Type 0 where
  pub number : ℕ
  pub begins : ℕ
  pub generator : ChaCha

abbrev pub call_at : Place → SoakCall
call_at place = call_of place.begins (words_at place.generator).0

abbrev pub after_line : Place → Place
after_line place = record {
  number = place.number + 1;
  begins = place.begins + (if is_begin (call_at place) then 1 else 0);
  generator = (words_at place.generator).1;
}

-- so many lines from a place on
abbrev pub lines_from : ℕ → Place → List (List ℕ)
lines_from zero place = []
lines_from (suc n) place = text_of (record { number = place.number + 1; call = call_at place }) ∷ lines_from n (after_line place)

-- the lines of a load
abbrev pub lines_of : ℕ → ℕ → List (List ℕ)
lines_of seed lines = opening ++ lines_from lines (record { number = 7; begins = 0; generator = of_seed (seed_of seed 0) })

-- what a call that asks for the next line finds
abbrev pub Gives : Option (String Global) → List (List ℕ) → List (List ℕ) → Type 0
Gives None old new = (old ≡ []) × (new ≡ [])
Gives (Some text) old new = old ≡ string_bytes text ∷ new
