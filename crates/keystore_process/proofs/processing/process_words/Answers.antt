use Rattle.std.proofs.Common.{sym}
use Rattle.keystore_process.specs.Processes.{Did, Printed}
use Rattle.keystore_process.proofs.processing.process_words.Goals as goal

pub returns-in-Some : goal.returns-in-Some
returns-in-Some g c = Printed c.as_slice-words.result.now c.in-Some.asked c.print.result (rw c.as_slice-words.ensures.value c.in-Ok.ensures) (sym c.in-Some.ensures) c.print.ensures c.number-in-Some.ensures

pub returns : goal.returns
returns g c = Did c.as_slice-words.result.now c.by_device.result (rw c.as_slice-words.ensures.value c.in-Ok.ensures) (sym c.in_default-text_asked.ensures) c.by_device.ensures c.number-2.ensures
