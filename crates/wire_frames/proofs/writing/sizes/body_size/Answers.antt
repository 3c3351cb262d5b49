use Rattle.std.proofs.Common.{◌≡◌, ◌++◌, arith, length, length-append}
use Rattle.byteorder.specs.Endian.{big_bytes}
use Rattle.byte_strings.specs.Fields.{flag}
use Rattle.rule_model.specs.declared.event.Act.TheVariants.{ImportWrappedKey}
use Rattle.wire_frames.specs.Spelling.{counted, optional, key_of, fields_of}
use Rattle.wire_frames.proofs.Adding.{size_one, size_two, size_three, flag_one}
use Rattle.wire_frames.proofs.writing.sizes.body_size.Goals as goal

pub returns-in-GenerateKey : goal.returns-in-GenerateKey
returns-in-GenerateKey c =
    let a = c.in-GenerateKey in
    rw a.is (size_two 1 c.key_size.result c.counted_size.result (length (key_of a.key)) (length (counted a.params)) _ c.key_size.ensures.size c.counted_size.ensures.size (omega (arith, length-append (key_of a.key) (counted a.params))))

pub returns-in-ImportKey : goal.returns-in-ImportKey
returns-in-ImportKey c =
    let a = c.in-ImportKey in
    let tail = big_bytes 4 a.format ++ counted a.material in
    rw a.is (size_three 5 c.key_size-in-ImportKey.result c.counted_size-in-ImportKey.result c.material_size.result (length (key_of a.key)) (length (counted a.params)) (length (counted a.material)) _ c.key_size-in-ImportKey.ensures.size c.counted_size-in-ImportKey.ensures.size c.material_size.ensures.size
    (omega (arith, length-append (key_of a.key) (counted a.params ++ tail), length-append (counted a.params) tail)))

pub returns-in-CreateOperation : goal.returns-in-CreateOperation
returns-in-CreateOperation c =
    let a = c.in-CreateOperation in
    let tail = counted a.params ++ flag a.forced in
    let one : length (flag a.forced) ≡ 1 = flag_one a.forced in
    rw a.is (size_two 2 c.key_size-in-CreateOperation.result c.counted_size-in-CreateOperation.result (length (key_of a.key)) (length (counted a.params)) _ c.key_size-in-CreateOperation.ensures.size c.counted_size-in-CreateOperation.ensures.size
    (omega (arith, length-append (key_of a.key) tail, length-append (counted a.params) (flag a.forced), one)))

pub returns-in-UpgradeKey : goal.returns-in-UpgradeKey
returns-in-UpgradeKey c =
    let a = c.in-UpgradeKey in
    rw a.is (size_two 1 c.key_size-in-UpgradeKey.result c.counted_size-in-UpgradeKey.result (length (key_of a.key)) (length (counted a.params)) _ c.key_size-in-UpgradeKey.ensures.size c.counted_size-in-UpgradeKey.ensures.size (omega (arith, length-append (key_of a.key) (counted a.params))))

pub returns-in-ImportWrappedKey : goal.returns-in-ImportWrappedKey
returns-in-ImportWrappedKey c =
    let a = c.in-ImportWrappedKey in
    rw a.is (size_one 1 c.wrapped_size.result (length (fields_of (ImportWrappedKey a.key a.params a.wrapping a.wrapped a.unwrapping))) _ c.wrapped_size.ensures.size (omega arith))

pub returns-in-EnterAad : goal.returns-in-EnterAad
returns-in-EnterAad c =
    let a = c.in-EnterAad in
    rw a.is (size_one 9 c.counted_size-in-EnterAad.result (length (counted a.input)) _ c.counted_size-in-EnterAad.ensures.size (omega arith))

pub returns-in-EnterUpdate : goal.returns-in-EnterUpdate
returns-in-EnterUpdate c =
    let a = c.in-EnterUpdate in
    rw a.is (size_one 9 c.counted_size-in-EnterUpdate.result (length (counted a.input)) _ c.counted_size-in-EnterUpdate.ensures.size (omega arith))

pub returns-in-EnterFinish : goal.returns-in-EnterFinish
returns-in-EnterFinish c =
    let a = c.in-EnterFinish in
    rw a.is (size_two 9 c.counted_size-in-EnterFinish.result c.optional_size.result (length (counted a.input)) (length (optional a.signature)) _ c.counted_size-in-EnterFinish.ensures.size c.optional_size.ensures.size (omega (arith, length-append (counted a.input) (optional a.signature))))

pub returns-in-GetKeyEntry : goal.returns-in-GetKeyEntry
returns-in-GetKeyEntry c =
    let a = c.in-GetKeyEntry in
    rw a.is (size_one 1 c.key_size-in-GetKeyEntry.result (length (key_of a.key)) _ c.key_size-in-GetKeyEntry.ensures.size (omega arith))

pub returns-in-DeleteKey : goal.returns-in-DeleteKey
returns-in-DeleteKey c =
    let a = c.in-DeleteKey in
    rw a.is (size_one 1 c.key_size-in-DeleteKey.result (length (key_of a.key)) _ c.key_size-in-DeleteKey.ensures.size (omega arith))

pub returns-in-Grant : goal.returns-in-Grant
returns-in-Grant c =
    let a = c.in-Grant in
    rw a.is (size_one 9 c.key_size-in-Grant.result (length (key_of a.key)) _ c.key_size-in-Grant.ensures.size (omega (arith, length-append (key_of a.key) (big_bytes 4 a.uid ++ big_bytes 4 a.bits))))

pub returns-in-Ungrant : goal.returns-in-Ungrant
returns-in-Ungrant c =
    let a = c.in-Ungrant in
    rw a.is (size_one 5 c.key_size-in-Ungrant.result (length (key_of a.key)) _ c.key_size-in-Ungrant.ensures.size (omega (arith, length-append (key_of a.key) (big_bytes 4 a.uid))))

pub returns-in-ListEntriesBatched : goal.returns-in-ListEntriesBatched
returns-in-ListEntriesBatched c =
    let a = c.in-ListEntriesBatched in
    rw a.is (size_one 13 c.optional_size-in-ListEntriesBatched.result (length (optional a.past)) _ c.optional_size-in-ListEntriesBatched.ensures.size (omega arith))
