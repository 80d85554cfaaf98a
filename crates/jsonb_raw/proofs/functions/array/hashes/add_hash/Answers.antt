use Rattle.jsonb_raw.proofs.Lemmas.{hash_stays, hash_taken}
use Rattle.jsonb_raw.proofs.functions.array.hashes.add_hash.Goals as goal

pub returns-clause-kept : goal.returns-clause-kept
returns-clause-kept c = λ t kept.
    let word = c.hash_word-word.ensures in
    rw (word.word, c.first_bit.ensures, c.other_bits.ensures)
    (hash_stays c.args.words.now c.in-Some.hash (rw word.word at word.few) t kept)

pub returns-clause-added : goal.returns-clause-added
returns-clause-added c = λ form t u stored same _.
    let word = c.hash_word-word.ensures in
    rw (word.word, c.first_bit.ensures, c.other_bits.ensures)
    (hash_taken c.args.words.now c.in-Some.hash (rw word.word at word.few) t u (c.in-Some.ensures form u stored) same)
