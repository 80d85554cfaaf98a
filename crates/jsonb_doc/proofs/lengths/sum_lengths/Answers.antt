use Rattle.jsonb_doc.proofs.Lemmas.{◌/◌, arith, length, refl, told_lengths, lengths_of_all}
use Rattle.jsonb_doc.proofs.lengths.sum_lengths.Goals as goal

pub returns-then-words-lt-GROUP-clause-contents : goal.returns-then-words-lt-GROUP-clause-contents
returns-then-words-lt-GROUP-clause-contents c = λ parts contents rest h.
    omega (arith, c.sum_words.ensures.sum, told_lengths parts _ contents rest _ refl h)

pub returns-clause-contents : goal.returns-clause-contents
returns-clause-contents c = λ parts contents rest h.
    let all = lengths_of_all (length c.args.words.now / 128) c.args.words.now _ c.as_chunks.ensures.back (omega (arith, c.as_chunks.ensures.back_len)) in
    let groups = rw c.as_chunks.ensures.front at c.sum_groups.ensures.sum in
    omega (arith, groups, c.sum_words-2.ensures.sum, all, told_lengths parts _ contents rest _ refl h)
