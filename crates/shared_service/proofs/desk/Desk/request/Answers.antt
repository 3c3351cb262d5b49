use Rattle.std.proofs.Common.{◌≡◌, false, Err, sym, ap, subst}
use Rattle.service_book.specs.Book.{log_of}
use Rattle.shared_service.specs.DeskWords.{desk_book, desk_name}
use Rattle.shared_service.specs.Owning.{is_parting}
use Rattle.shared_service.specs.Prepared.{ComesFor, act_in}
use Rattle.shared_service.proofs.Preparing.{told_of}
use Rattle.shared_service.proofs.desk.Desk.request.Goals as goal

pub returns-in-Err-clause-requests : goal.returns-in-Err-clause-requests
returns-in-Err-clause-requests g c = λ reading at.
    let old = c.args.self.now in
    let log = log_of (desk_book old) in
    let stays : is_parting c.in-Err.request c.args.pass log ≡ false = subst (ComesFor c.args.pass log) c.in-Err.is c.requires.comes.comes_for in
    told_of (desk_name old) c.args.pass reading c.in-Err.request (act_in c.args.coming) (desk_book old) (desk_book old) (Err c.refusal.result) (sym (ap act_in c.in-Err.is))
    (c.refusal.ensures (desk_name old) c.args.pass reading stays)
