use Rattle.nm_top.proofs.CertifyLaws.{nothing_told}
use Rattle.nm_top.proofs.certify.certify_pair.Goals as goal

pub returns-in_default : goal.returns-in_default
returns-in_default g c = nothing_told c.args.pair.now.program c.args.pair.now.trace _ _

pub certify_code-requires-clause-code : goal.certify_code-requires-clause-code
certify_code-requires-clause-code g c = (c.args.pair.now.program, c.in-Ok.ensures)

pub returns : goal.returns
returns g c = c.certify_code.ensures c.args.pair.now.program c.in-Ok.ensures
