use Rattle.jsonb_doc.proofs.Lemmas.{found_among}
use Rattle.jsonb_doc.proofs.key_search.find_in_blocks.Goals as goal

pub returns-clause-found : goal.returns-clause-found
returns-clause-found c = λ ks rest h.
    let block = c.in_ok-block_words.ensures.block ks rest h in
    found_among c.args.name.now ks rest _ _ block.left c.find_in_block.result (c.find_in_block.ensures.found block.left.back rest block.left.behind block.others)
