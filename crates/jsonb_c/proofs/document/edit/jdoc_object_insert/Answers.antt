use Rattle.jsonb_c.proofs.document.edit.jdoc_object_insert.Goals as goal

pub returns-clause-named : goal.returns-clause-named
returns-clause-named c = λ _. (
  c.object_insert-made.result,
  record {
    inserted = λ form t v d e free. rw c.in-Ok.ensures.cases.0 at
        (c.object_insert-made.ensures.inserted form t v (rw c.new.ensures d) (rw c.new-2.ensures e) (rw c.in-Ok.ensures.cases.0 free));
    duplicate = λ form t d there keeps. c.object_insert-made.ensures.duplicate form t (rw c.new.ensures d) (rw c.in-Ok.ensures.cases.0 there) keeps;
  },
  c.object_insert-made.ensures.errors,
  c.deliver_made.ensures,
)
