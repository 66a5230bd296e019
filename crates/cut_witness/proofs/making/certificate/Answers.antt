use Rattle.std.proofs.Common.{refl}
use Rattle.cut_witness.specs.declared.certificates.Witness.{Witness}
use Rattle.cut_witness.proofs.MakingFacts.{found_certificate}
use Rattle.cut_witness.proofs.making.certificate.Goals as goal

pub returns : goal.returns
returns c M id g f =
    let found = c.args.found.now in
    let w : Witness = record {
      id = found.letter.id;
      dest = found.letter.dest;
      chan = found.letter.chan;
      received = c.own_number.result;
      earlier_receive = c.receive_number.result;
      earlier_event = found.receive.number;
      set = c.set_of.result;
      turns = c.in_ok-turns.turns;
    } in
    found_certificate g f w refl refl refl c.own_number.ensures c.receive_number.ensures refl c.set_of.ensures c.in_ok-turns.ensures
