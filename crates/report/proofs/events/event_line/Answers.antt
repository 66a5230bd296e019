use Rattle.std.proofs.Common.{◌++◌, codes}
use Rattle.report.specs.Replies as replies
use Rattle.report.proofs.Pieces.{still_failed, failed_first, both}
use Rattle.report.proofs.events.event_line.Goals as goal

pub returns-in_err-put_place : goal.returns-in_err-put_place
returns-in_err-put_place g c =
    let first = replies.number_text c.args.e.now.proc.no c.args.e.now.number in
    let second = replies.kind_text c.args.e.now.proc.no c.args.e.now.kind in
    let third = codes "\n" in
    let failed = failed_first _ _ _ _ first second c.put_place.result c.from_residual.result c.in_err-put_place.field-0.0 c.in_err-put_place.was c.from_residual.ensures.0 c.put_place.ensures in
    still_failed _ _ _ _ (first ++ second) third c.from_residual.result c.from_residual.ensures.0 failed

pub returns-in_err-put_kind : goal.returns-in_err-put_kind
returns-in_err-put_kind g c =
    let first = replies.number_text c.args.e.now.proc.no c.args.e.now.number in
    let second = replies.kind_text c.args.e.now.proc.no c.args.e.now.kind in
    let third = codes "\n" in
    let given = both _ _ _ _ _ _ first second c.put_place.result c.put_kind.result c.in_ok-put_place.was c.put_place.ensures c.put_kind.ensures in
    failed_first _ _ _ _ (first ++ second) third c.put_kind.result c.from_residual-in_err-put_kind.result c.in_err-put_kind.field-0.0 c.in_err-put_kind.was
    c.from_residual-in_err-put_kind.ensures.0 given

pub returns : goal.returns
returns g c =
    let first = replies.number_text c.args.e.now.proc.no c.args.e.now.number in
    let second = replies.kind_text c.args.e.now.proc.no c.args.e.now.kind in
    let third = codes "\n" in
    let given = both _ _ _ _ _ _ first second c.put_place.result c.put_kind.result c.in_ok-put_place.was c.put_place.ensures c.put_kind.ensures in
    both _ _ _ _ _ _ (first ++ second) third c.put_kind.result c.put_pieces.result c.in_ok-put_kind.was given c.put_pieces.ensures
