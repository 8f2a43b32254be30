use Rattle.lh_wave.proofs.Nibbles.{last-places}
use Rattle.lh_wave.proofs.WireLemmas.{vector_text}
use Rattle.lh_wave.proofs.wire.put_vector.Goals as goal

pub returns : goal.returns
returns c =
    vector_text c.args.width c.args.number _ _ _ _ _ c.requires.many (last-places c.args.width c.args.number c.digits_of-digits.result c.requires.narrow c.digits_of-digits.ensures) c.put.ensures
    c.put-2.ensures c.put-3.ensures
