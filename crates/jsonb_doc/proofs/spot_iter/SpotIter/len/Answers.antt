use Rattle.jsonb_doc.proofs.Lemmas.{arith, any, number_reader, trees_of, length-words, count-trees_of}
use Rattle.jsonb_doc.proofs.spot_iter.SpotIter.len.Goals as goal

pub returns : goal.returns
returns c = λ bytes ts h.
    omega (arith, length-words (number_reader any) (trees_of ts) _ _ (h.entries any h.whole h.decodes), count-trees_of ts)
