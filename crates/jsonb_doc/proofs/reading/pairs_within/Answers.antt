use Rattle.jsonb_doc.proofs.Lemmas.{HoldsPairs-skipped, HoldsPairs-left}
use Rattle.jsonb_doc.proofs.reading.pairs_within.Goals as goal

pub returns-in_err-value_contents-clause-pairs : goal.returns-in_err-value_contents-clause-pairs
returns-in_err-value_contents-clause-pairs c = λ form ps held.
    absurd (HoldsPairs-skipped form c.args.parts c.in_err-value_contents.ensures.contents ps held)

pub returns-clause-pairs : goal.returns-clause-pairs
returns-clause-pairs c = λ form ps held.
    let new = c.new.ensures in
    HoldsPairs-left form ps _ _ new.key_words new.key_bytes new.value_words (rw new.value_contents c.in_ok-value_contents.ensures.contents) held
