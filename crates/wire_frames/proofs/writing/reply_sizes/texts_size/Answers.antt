use Rattle.std.proofs.Common.{◌++◌, arith, length, length-append}
use Rattle.wire_frames.specs.Replies.{bytes_field, entries_field}
use Rattle.wire_frames.proofs.Adding.{size_six}
use Rattle.wire_frames.proofs.writing.reply_sizes.texts_size.Goals as goal

pub returns-clause-size : goal.returns-clause-size
returns-clause-size c =
    let f = c.args.fields.now in
    let six = entries_field 17 f.entries in
    let five = bytes_field 16 f.list in
    let four = bytes_field 15 f.blob in
    let three = bytes_field 14 f.out in
    let two = bytes_field 13 f.nonce in
    let one = bytes_field 12 f.alias in
    size_six _ _ _ _ _ _ (length one) (length two) (length three) (length four) (length five) (length six) _
    (c.text_size.ensures.size 12) (c.text_size-2.ensures.size 13) (c.text_size-3.ensures.size 14) (c.text_size-4.ensures.size 15) (c.text_size-5.ensures.size 16)
    (c.listing_size.ensures.size 17)
    (omega (
      arith,
      length-append one (two ++ (three ++ (four ++ (five ++ six)))),
      length-append two (three ++ (four ++ (five ++ six))),
      length-append three (four ++ (five ++ six)),
      length-append four (five ++ six),
      length-append five six,
    ))
