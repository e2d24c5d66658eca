use Rattle.std.proofs.Common.{◌≡◌, sym, subst, refl, rules}
use Rattle.wire.specs.declared.answer.Answer.TheVariants.{Filed, Row}
use Rattle.shelf.specs.Served.{Serves, answer_of, Files, Reads}
use Rattle.shelf.proofs.Serving.{filed, read, files, reads}
use Rattle.shelf.proofs.owner.Shelf.served.Goals as goal

pub returns-in_ok-file-in-File : goal.returns-in_ok-file-in-File
returns-in_ok-file-in-File c =
    let s = c.args.self.now in let t = c.file.new.self in let text = c.args.text.now in let e = c.file.ensures in
    let f = files c.file.result c.in-File.parcel.now s t e.led e.answers e.denied e.lent e.slip in
    subst (λ call. Serves call s t text text (Filed c.in_ok-file-in-File.field-0)) (sym c.in-File.is)
    (subst (λ r. Files c.in-File.parcel.now s t (filed r)) c.in_ok-file-in-File.was f, refl)

pub returns-in_err-file-in-File : goal.returns-in_err-file-in-File
returns-in_err-file-in-File c =
    let s = c.args.self.now in let t = c.file.new.self in let text = c.args.text.now in let e = c.file.ensures in
    let f = files c.file.result c.in-File.parcel.now s t e.led e.answers e.denied e.lent e.slip in
    let a : filed c.file.result ≡ answer_of c.from_residual.result = search rules in
    subst (λ call. Serves call s t text text (answer_of c.from_residual.result)) (sym c.in-File.is)
    (subst (Files c.in-File.parcel.now s t) a f, refl)

pub returns-in_ok-read-in-Read : goal.returns-in_ok-read-in-Read
returns-in_ok-read-in-Read c =
    let s = c.args.self.now in let before = c.args.text.now in let after = c.read.new.text in
    let f = reads c.read.result c.in-Read.column c.in-Read.row s before after c.read.ensures in
    subst (λ call. Serves call s s before after (Row c.in_ok-read-in-Read.field-0)) (sym c.in-Read.is)
    (subst (λ r. Reads c.in-Read.column c.in-Read.row s before after (read r)) c.in_ok-read-in-Read.was f, refl)

pub returns-in_err-read-in-Read : goal.returns-in_err-read-in-Read
returns-in_err-read-in-Read c =
    let s = c.args.self.now in let before = c.args.text.now in let after = c.read.new.text in
    let f = reads c.read.result c.in-Read.column c.in-Read.row s before after c.read.ensures in
    let a : read c.read.result ≡ answer_of c.from_residual-in_err-read-in-Read.result = search rules in
    subst (λ call. Serves call s s before after (answer_of c.from_residual-in_err-read-in-Read.result)) (sym c.in-Read.is)
    (subst (Reads c.in-Read.column c.in-Read.row s before after) a f, refl)
