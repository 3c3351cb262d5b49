-- The room that a job needs.
use Rattle.std.specs.Prelude.{ℕ, ◌+◌, Bool, true, false, if◌then◌else◌, length}
use Rattle.tags.specs.declared.plan.Plan.{Plan}
use Rattle.tags.specs.declared.plan.Plan.TheVariants.{Ecb, Cbc, Ctr, Gcm, HmacSign, HmacVerify}
use Rattle.cipher_ops.specs.declared.room.Work.{Work}
use Rattle.cipher_ops.specs.declared.room.Work.TheVariants.{Aad, Text, Last}

-- the most bytes that are out after so many
abbrev pub piece_room : Plan → ℕ → ℕ
piece_room (Ecb seal padded) size = size + 16
piece_room (Cbc seal padded) size = size + 16
piece_room Ctr size = size + 16
piece_room (Gcm seal tag) size = size
piece_room (HmacSign digest size) n = 0
piece_room (HmacVerify digest least) n = 0

-- the most bytes that the end adds
abbrev pub end_room : Plan → ℕ
end_room (Ecb seal padded) = 16
end_room (Cbc seal padded) = 16
end_room Ctr = 16
end_room (Gcm true tag) = tag
end_room (Gcm false tag) = 0
end_room (HmacSign digest size) = size
end_room (HmacVerify digest least) = 0

-- how many bytes of text a work's output is of: an operation under a use limit gives all at once
abbrev pub taken : Bool → ℕ → ℕ → ℕ
taken limited before size = if limited then before + size else size

-- the room for a work's output
abbrev pub job_room : Plan → Bool → ℕ → Work → ℕ
job_room plan limited before (Aad input) = 0
job_room plan limited before (Text input) = piece_room plan (taken limited before (length input))
job_room plan limited before (Last input signature) = piece_room plan (taken limited before (length input)) + end_room plan

-- the most bytes that a finish gives of a text of which so many bytes were not given before
abbrev pub finish_room : Plan → ℕ → ℕ
finish_room (Ecb seal padded) size = size + 32
finish_room (Cbc seal padded) size = size + 32
finish_room Ctr size = size + 16
finish_room (Gcm true tag) size = size + 16
finish_room (Gcm false tag) size = size
finish_room (HmacSign digest size) n = size
finish_room (HmacVerify digest least) n = 0

-- how many bytes a work adds to the text
abbrev pub own_text : Work → ℕ
own_text (Aad input) = 0
own_text (Text input) = length input
own_text (Last input signature) = length input
