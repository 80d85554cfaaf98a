use Rattle.jsonb_doc.proofs.Lemmas.{[], number_reader, keys_held, found_at}
use Rattle.jsonb_doc.proofs.cursor.Entries.find_key.Goals as goal

pub returns-in-Some-clause-position : goal.returns-in-Some-clause-position
returns-in-Some-clause-position c = λ form ks h are.
    let held = keys_held (number_reader form) ks _ _ h.entries are in
    found_at _ ks _ _ [] _ _ held (rw c.in-Some.is at (c.in_ok-others.ensures.found ks [] held))

pub returns-in-None-clause-position : goal.returns-in-None-clause-position
returns-in-None-clause-position c = λ form ks h are.
    rw c.in-None.is at (c.in_ok-others.ensures.found ks [] (keys_held (number_reader form) ks _ _ h.entries are))

pub returns-in_err-others-clause-position : goal.returns-in_err-others-clause-position
returns-in_err-others-clause-position c = λ form ks h are.
    absurd (c.in_err-others.ensures.found ks [] (keys_held (number_reader form) ks _ _ h.entries are))
