use Rattle.jsonb.proofs.Lemmas.{sym, ◌∙◌, two_numbers, followed, same_outcome, refused_as_path, as_memory}
use Rattle.jsonb.proofs.selector.whole_path.whole_binary.Goals as goal

pub returns-clause-meant : goal.returns-clause-meant
returns-clause-meant c = λ top o r h.
    followed _ (c.in_ok-lefts.ensures.meant top top r r) (λ ls p. followed (two_numbers o ls) (c.in_ok-rights.ensures.meant top top r r) (λ rs q.
    same_outcome (λ i. two_numbers o ((sym p ∙ sym c.as_slice.ensures) i) ((sym q ∙ sym c.as_slice-2.ensures) i))
    (as_memory (c.binary_number.ensures.meant o h))))

pub returns-clause-errors : goal.returns-clause-errors
returns-clause-errors c = refused_as_path c.args.context.now.mode c.binary_number.result (c.binary_number.ensures.errors c.args.context.now.mode)
