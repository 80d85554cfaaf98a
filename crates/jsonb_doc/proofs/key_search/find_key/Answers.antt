use Rattle.jsonb_doc.proofs.Lemmas.{IsNoneOf, arith, KeysLeft-start, KeysLeft-end, none_behind, zero_of}
use Rattle.jsonb_doc.proofs.key_search.find_key.Goals as goal

pub returns-then-is_empty-clause-found : goal.returns-then-is_empty-clause-found
returns-then-is_empty-clause-found c = λ ks rest h.
    KeysLeft-end c.args.name.now ks rest _ _ (omega (arith, zero_of _ c.if-is_empty.ensures)) (KeysLeft-start (IsNoneOf c.args.name.now) ks rest _ _ tt h)

pub returns-then-words-clause-found : goal.returns-then-words-clause-found
returns-then-words-clause-found c = λ ks rest h.
    c.find_in_block.ensures.found ks rest h (none_behind 32 ks _ _ rest h c.args.name.now c.if-words.true)
