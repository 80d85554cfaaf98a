use Rattle.jsonb_doc.proofs.Lemmas.{◌≡◌, ◌∙◌, ◌++◌, inr, arith, ap, refl, header, header_number, runs_done, too_many, within_parts}
use Rattle.jsonb_doc.proofs.rewriting.container_of_runs.Goals as goal

pub returns-then-total-gt-MAX_ENTRIES-clause-container : goal.returns-then-total-gt-MAX_ENTRIES-clause-container
returns-then-total-gt-MAX_ENTRIES-clause-container c = λ form xs ys t h g makes.
    inr (refl, λ within. too_many form c.args.kind c.args.total (xs ++ ys) t makes (omega arith) (within_parts form c.args.kind c.args.total (xs ++ ys) t makes within))

pub returns-clause-container : goal.returns-clause-container
returns-clause-container c = λ form xs ys t h g makes.
    let head : c.extend_from_slice.new.self.items ≡ header (header_number c.args.kind) c.args.total =
    c.in_ok-extend_from_slice.ensures.items ∙ ap (λ w. w ++ c.encode_header.result) c.in_ok-out.ensures.items ∙ c.encode_header.ensures in
    runs_done form c.args.kind c.args.total _ _ xs ys t h g makes (omega arith) _ _ _ _ _ head c.in_ok-push_words.ensures c.in_ok-push_words-2.ensures
    c.in_ok-push_contents.ensures c.in_ok-push_contents-2.ensures
