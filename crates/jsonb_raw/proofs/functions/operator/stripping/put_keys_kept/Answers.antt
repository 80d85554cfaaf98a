use Rattle.jsonb_raw.proofs.Lemmas.{[], Null, same_kind, other_kind, failed, holding_begun, no_text_left, text_first, words_of_run, word_taken, no_word_left, value_there, key_kept, key_dropped, keys_done}
use Rattle.jsonb_raw.proofs.functions.operator.stripping.put_keys_kept.Goals as goal

pub loop-others-init : goal.loop-others-init
loop-others-init c = λ form ks vs coming around whole h g few w.
    record { here = []; names = ks; trees = vs; holding = holding_begun form _ _ h; words_hold = words_of_run form _ vs g; enough = few; writing = w }

pub returns-in_err-others-clause-put : goal.returns-in_err-others-clause-put
returns-in_err-others-clause-put c = λ form ks vs coming around whole h g few w.
    let o = c.loop-others.invariant form ks vs coming around whole h g few w in
    absurd (c.in_err-others.ensures.first form _ o.holding.left_hold)

pub returns-in_default-split_entry_word-clause-put : goal.returns-in_default-split_entry_word-clause-put
returns-in_default-split_entry_word-clause-put c = λ form ks vs coming around whole h g few w.
    let o = c.loop-others.invariant form ks vs coming around whole h g few w in
    let k = text_first form _ o.names _ _ _ c.in-Some.is (c.in_ok-others.ensures.first form _ o.holding.left_hold) in
    absurd (value_there form _ _ _ _ coming around whole o _ _ k (no_word_left form _ o.trees o.words_hold c.in_default-split_entry_word.ensures.word))

pub returns-in_err-copy_run-clause-put : goal.returns-in_err-copy_run-clause-put
returns-in_err-copy_run-clause-put c = λ form ks vs coming around whole h g few w.
    let o = c.loop-others.invariant form ks vs coming around whole h g few w in
    failed _ _ _ c.from_residual-in_err-copy_run.ensures.1 (c.in_err-copy_run.ensures.copied form o.here _ _ around whole o.holding o.writing)

pub loop-others-preserved-in_ok-copy_run : goal.loop-others-preserved-in_ok-copy_run
loop-others-preserved-in_ok-copy_run c = λ form ks vs coming around whole h g few w.
    let o = c.loop-others.invariant form ks vs coming around whole h g few w in
    let k = text_first form _ o.names _ _ _ c.in-Some.is (c.in_ok-others.ensures.first form _ o.holding.left_hold) in
    let f = word_taken form _ o.trees _ _ _ o.words_hold c.in-Some-split_entry_word.ensures.word in
    let copied = c.in_ok-copy_run.ensures.copied form o.here _ _ around whole o.holding o.writing in
    key_dropped form _ _ _ _ coming around whole o _ _ k _ _ f _ copied (same_kind _ c.in-Some-split_entry_word.kind Null c.eq.ensures c.if-eq.true)

pub loop-others-preserved : goal.loop-others-preserved
loop-others-preserved c = λ form ks vs coming around whole h g few w.
    let o = c.loop-others.invariant form ks vs coming around whole h g few w in
    let k = text_first form _ o.names _ _ _ c.in-Some.is (c.in_ok-others.ensures.first form _ o.holding.left_hold) in
    let f = word_taken form _ o.trees _ _ _ o.words_hold c.in-Some-split_entry_word.ensures.word in
    key_kept form _ _ _ _ coming around whole o _ _ k _ _ f (other_kind _ c.in-Some-split_entry_word.kind Null c.eq.ensures c.if-eq.false)

pub returns-clause-put : goal.returns-clause-put
returns-clause-put c = λ form ks vs coming around whole h g few w.
    let o = c.loop-others.invariant form ks vs coming around whole h g few w in
    let none = no_text_left form _ o.names _ c.in_default.is (c.in_ok-others.ensures.first form _ o.holding.left_hold) in
    c.copy_run-2.ensures.copied form o.here _ coming around whole o.holding (keys_done form _ _ _ _ coming around whole o none)
