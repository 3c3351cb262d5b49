use Rattle.keystore_process.specs.Processes.{Does, Refused}
use Rattle.keystore_process.proofs.processing.by_device.Goals as goal

pub returns-in-Err : goal.returns-in-Err
returns-in-Err g c = Refused c.in-Err.file.trouble c.in-Err.ensures c.refused.ensures

pub returns : goal.returns
returns g c = Does c.in-Ok.device c.in-Ok.ensures c.processed.ensures
