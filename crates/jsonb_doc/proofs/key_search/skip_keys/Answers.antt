use Rattle.jsonb_doc.proofs.Lemmas.{AreBelow, KeysLeft-start, none_behind, block_among}
use Rattle.jsonb_doc.proofs.key_search.skip_keys.Goals as goal

pub returns-then-words-clause-block : goal.returns-then-words-clause-block
returns-then-words-clause-block c = λ ks rest h. record {
  left = KeysLeft-start (AreBelow c.args.name.now) ks rest _ _ tt h;
  others = none_behind 32 ks _ _ rest h c.args.name.now c.if-words.true;
}

pub returns-clause-block : goal.returns-clause-block
returns-clause-block c = λ ks rest h.
    let l = (c.in_ok-left.ensures.block ks rest h).left in
    block_among _ 32 ks rest _ _ l _ (c.skip_blocks-2.ensures.block l.back rest l.behind)
