use Rattle.jsonb_doc.proofs.Lemmas.{arith, KeysLeft-further}
use Rattle.jsonb_doc.proofs.key_search.skip_blocks.Goals as goal

pub loop-other_words-preserved : goal.loop-other_words-preserved
loop-other_words-preserved c =
    let size = rw c.in-Some.is at c.in_ok-other_words.ensures.size in
    record {
      words = omega (arith, size.0, c.loop-other_words.invariant.words);
      bytes = omega (arith, size.1, c.loop-other_words.invariant.bytes);
      left = λ ks rest h.
          let l = c.loop-other_words.invariant.left ks rest h in
          KeysLeft-further c.args.name.now ks rest _ _ _ _ l (rw c.in-Some.is at (c.in_ok-other_words.ensures.skips l.back rest l.behind));
    }

pub returns-in-None-clause-block : goal.returns-in-None-clause-block
returns-in-None-clause-block c = λ ks rest h.
    let l = c.loop-other_words.invariant.left ks rest h in
    record { left = l; others = rw c.in-None.is at (c.in_ok-other_words.ensures.skips l.back rest l.behind) }
