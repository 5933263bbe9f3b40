use Rattle.std.proofs.Common.{◌≡◌, ◌∙◌, sym, arith}
use Rattle.std.proofs.lemmas.Result.{err_from_is_err_and}
use Rattle.mvt_wire.specs.declared.faults.ReadError.TheVariants.{BadWire, NoMemory}
use Rattle.mvt_document.specs.Stands.{tile_item_of}
use Rattle.mvt_wire.proofs.Documents.{StopsInFile, opens_from, stop_named, stop_is_place, stop_is_broken, only_memory}
use Rattle.mvt_document.proofs.SameBytes.{one_document_by_bytes}
use Rattle.mvt_wire.proofs.read.read_document.Goals as goal

pub returns-in_err-items-clause-bad_wire : goal.returns-in_err-items-clause-bad_wire
returns-in_err-items-clause-bad_wire c = λ place e.
    let p = err_from_is_err_and c.from_residual.result c.from_residual.ensures.1 in
    let is : c.in_err-items.field-0.0 ≡ BadWire place = cc (p.1, p.2) in
    stop_is_broken tile_item_of c.args.file.now place (stop_named (StopsInFile tile_item_of c.args.file.now) c.in_err-items.field-0.0 place c.in_err-items.ensures.stops is)

pub returns-in_err-items-clause-place : goal.returns-in_err-items-clause-place
returns-in_err-items-clause-place c = λ place e.
    let p = err_from_is_err_and c.from_residual.result c.from_residual.ensures.1 in
    let is : c.in_err-items.field-0.0 ≡ BadWire place = cc (p.1, p.2) in
    stop_is_place tile_item_of c.args.file.now place (omega arith) (stop_named (StopsInFile tile_item_of c.args.file.now) c.in_err-items.field-0.0 place c.in_err-items.ensures.stops is)

pub returns-clause-opens : goal.returns-clause-opens
returns-clause-opens c = rw c.of_size.ensures (opens_from tile_item_of c.in_ok-items.items.items c.args.file.now (omega arith) c.in_ok-items.ensures.spelled c.in_ok-items.ensures.whole)

pub returns-in_err-items-clause-only : goal.returns-in_err-items-clause-only
returns-in_err-items-clause-only c = λ document o.
    let p = err_from_is_err_and c.from_residual.result c.from_residual.ensures.1 in
    let is : c.in_err-items.field-0.0 ≡ NoMemory =
    only_memory (StopsInFile tile_item_of c.args.file.now) c.in_err-items.field-0.0 (λ place s. stop_is_broken tile_item_of c.args.file.now place s document o) c.in_err-items.ensures.stops in
    rw p.1 (p.2 ∙ is)

pub returns-clause-only : goal.returns-clause-only
returns-clause-only c = λ document o.
    let made = returns-clause-opens c in
    one_document_by_bytes _ document made.settled o.settled (made.spelled ∙ sym o.spelled)
