-- How many bytes of a text are done, and how many are put out for them.
use Rattle.std.specs.Prelude.{ℕ, ◌-◌, Bool, false, if◌then◌else◌}
use Rattle.tags.specs.declared.plan.Plan.{Plan}
use Rattle.tags.specs.declared.plan.Plan.TheVariants.{Ecb, Cbc, Gcm, HmacSign, HmacVerify}
use Rattle.block_modes.specs.Output.{blocks_out}

-- how many of so many bytes are done where nothing waits for a finish: whole blocks in ECB and CBC, in opening GCM all but
-- the bytes that may be the tag, else all
abbrev pub done_size : Plan → ℕ → ℕ
done_size (Ecb seal padded) size = blocks_out seal padded size
done_size (Cbc seal padded) size = blocks_out seal padded size
done_size (Gcm false tag) size = size - tag
done_size _ size = size

-- the same, none under a use limit
abbrev pub done_under : Plan → Bool → ℕ → ℕ
done_under plan limited size = if limited then 0 else done_size plan size

-- how many bytes are put out for so many that are done: none by a mac
abbrev pub out_size : Plan → ℕ → ℕ
out_size (HmacSign digest size) count = 0
out_size (HmacVerify digest least) count = 0
out_size _ count = count
